-- A DCF has no bad byte where the sections of its EDS, the name of its node and the values have none.
use Rattle.std.proofs.Common.{◌≡◌, ℕ, ◌/◌, ◌%◌, ◌≤◌, false, List, [], ◌∷◌, ◌++◌, codes, decimal, All, reverse, refl}
use Rattle.std.proofs.Common.{arith, ℤ}
use Rattle.std.proofs.lemmas.Bool.{or_from}
use Rattle.std.proofs.lemmas.Bool.Decides.{nat_tests}
use Rattle.std.specs.Float.{Format}
use Rattle.std.specs.Fmt.{signed_decimal}
use Rattle.std.specs.List.{AllByRecursion, flat_map}
use Rattle.std.specs.Str.{byte}
use Rattle.ini_text.proofs.BytesLemmas.{none_append}
use Rattle.ini_text.specs.Change.{pair_text, section_text, text_of}
use Rattle.ini_text.specs.Content.{Pair, Section}
use Rattle.ini_text.specs.Text.{has_bad_byte, is_bad_byte}
use Rattle.concise_dcf.specs.declared.write.Write.{Write}
use Rattle.co_values.specs.declared.data_type.DataType.{DataType}
use Rattle.co_values.specs.declared.data_type.DataType.TheVariants.{VisibleString}
use Rattle.co_values.specs.declared.form.Form.{Form}
use Rattle.co_values.specs.declared.form.Form.TheVariants.{Flag, Signed, Unsigned, Decimal, Characters, HexPairs}
use Rattle.co_values.specs.declared.form.Form.TheVariants.{Unmodelled}
use Rattle.co_values.specs.Types.{form}
use Rattle.co_values.specs.Values.{pairs_of, text_of_value, text_of_value_in}
use Rattle.real_texts.specs.Reals.{format_of}
use Rattle.real_texts.specs.Texts.{exact_text}
use Rattle.eds_device.specs.Described.{kind_at}
use Rattle.eds_device.specs.Sheets.{Sheet}
use Rattle.eds_dcf.specs.Compact.{values_name}
use Rattle.eds_dcf.specs.Dcf.{dcf_sections}
use Rattle.eds_dcf.proofs.EachLemmas.{AddsSuch, IsSuch, dcf_such}
use Rattle.eds_dcf.proofs.LineLemmas.{IsPlain, decimal_plain, signed_plain}
use Rattle.eds_dcf.proofs.PrintedLemmas.{characters_alone, glyph_plain, pairs_plain, real_plain, unsigned_plain}

abbrev pub IsGood : List ℕ → Type 0
IsGood bs = has_bad_byte bs ≡ false

abbrev pub AreGood : List ℕ → List ℕ → Type 0
AreGood key value = IsGood key × IsGood value

abbrev pub IsGoodPair : Pair → Type 0
IsGoodPair p = AreGood p.key p.value

abbrev pub IsGoodSection : Section → Type 0
IsGoodSection s = IsSuch IsGood AreGood s

-- ---- what is printed

plain_byte : (c : ℕ) → byte "!" ≤ c → is_bad_byte c ≡ false
plain_byte c h = grind (arith, nat_tests)

pub plain_good : (bs : List ℕ) → IsPlain bs → IsGood bs
plain_good [] h = refl
plain_good (b ∷ bs) h = or_from (is_bad_byte b) (has_bad_byte bs) (plain_byte b h.0) (plain_good bs h.1)

decimal_good : (n : ℕ) → IsGood (decimal n)
decimal_good n = plain_good (decimal n) (decimal_plain n)

signed_good : (z : ℤ) → IsGood (signed_decimal z)
signed_good z = plain_good (signed_decimal z) (signed_plain z)

unsigned_good : (bytes : List ℕ) → IsGood (codes "0x" ++ pairs_of (reverse bytes))
unsigned_good bytes = plain_good (codes "0x" ++ pairs_of (reverse bytes)) (unsigned_plain bytes)

real_good : (f : Format) (bytes : List ℕ) → IsGood (exact_text f bytes)
real_good f bytes = plain_good (exact_text f bytes) (real_plain f bytes)

-- numbers and pairs of digits always, and a text where it is such
form_good : (f : Form) (bytes : List ℕ) → (f ≡ Characters → IsGood bytes) → IsGood (text_of_value_in f bytes)
form_good Flag bytes h = decimal_good _
form_good (Signed width) bytes h = signed_good _
form_good (Unsigned width) bytes h = unsigned_good bytes
form_good (Decimal real) bytes h = real_good (format_of real) bytes
form_good Characters bytes h = h refl
form_good HexPairs bytes h = plain_good (pairs_of bytes) (pairs_plain bytes)
form_good Unmodelled bytes h = refl

pub printed_good : (kind : DataType) (bytes : List ℕ) → (kind ≡ VisibleString → IsGood bytes)
    → IsGood (text_of_value kind bytes)
unfolding text_of_value
printed_good kind bytes h = form_good (form kind) bytes (λ is. h (characters_alone kind is))

values_name_good : (index : ℕ) → IsGood (values_name index)
values_name_good index = or_from _ _ (plain_byte _ (glyph_plain (index / 4096)))
    (or_from _ _ (plain_byte _ (glyph_plain (index / 256 % 16)))
    (or_from _ _ (plain_byte _ (glyph_plain (index / 16 % 16)))
    (or_from _ _ (plain_byte _ (glyph_plain (index % 16))) refl)))

adds_good : AddsSuch IsGood AreGood IsGood
adds_good = record {
  spelled = λ key other old value same k v. (k.0, v.1);
  parameter = λ text g. (refl, g);
  listed = λ sub text g. (decimal_good sub, g);
  counted = λ n. (refl, decimal_good n);
  number = λ n. (refl, decimal_good n);
  rate = λ n. (refl, decimal_good n);
  values_named = values_name_good;
  node_named = refl;
}

-- ---- the text

pair_text_good : (p : Pair) → IsGoodPair p → IsGood (pair_text p)
pair_text_good p h =
    none_append is_bad_byte (p.key ++ byte "=" ∷ p.value) (10 ∷ [])
    (none_append is_bad_byte p.key (byte "=" ∷ p.value) h.0 h.1) refl

pairs_text_good : (ps : List Pair) → AllByRecursion IsGoodPair ps → IsGood (flat_map pair_text ps)
pairs_text_good [] h = refl
pairs_text_good (p ∷ ps) h =
    none_append is_bad_byte (pair_text p) (flat_map pair_text ps) (pair_text_good p h.0) (pairs_text_good ps h.1)

section_text_good : (s : Section) → IsGoodSection s → IsGood (section_text s)
section_text_good s h =
    none_append is_bad_byte (byte "[" ∷ s.name) (byte "]" ∷ 10 ∷ flat_map pair_text s.pairs) h.name
    (pairs_text_good s.pairs h.pairs)

text_good : (ss : List Section) → AllByRecursion IsGoodSection ss → IsGood (text_of ss)
text_good [] h = refl
text_good (s ∷ ss) h =
    none_append is_bad_byte (section_text s) (text_of ss) (section_text_good s h.0) (text_good ss h.1)

pub dcf_good : (sheet : Sheet) (node : ℕ) (name : List ℕ) (bitrate : ℕ) (writes : List Write)
    → AllByRecursion IsGoodSection sheet.sections → IsGood name
    → All (λ (w : Write). IsGood (text_of_value (kind_at sheet (w.index, w.sub)) w.bytes)) writes
    → IsGood (text_of (dcf_sections sheet node name bitrate writes))
dcf_good sheet node name bitrate writes all named given =
    text_good (dcf_sections sheet node name bitrate writes)
    (dcf_such IsGood AreGood IsGood adds_good sheet node name bitrate writes all (refl, named) given)
