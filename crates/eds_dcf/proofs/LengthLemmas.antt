-- A DCF has no longer names and pairs than a line may have, where its EDS and the name of its node have none.
use Rattle.std.proofs.Common.{◌≡◌, ◌==◌, ℕ, zero, suc, ◌+◌, ◌*◌, ◌/◌, ◌%◌, ◌≤◌, Bool, true, false, cond, List, [], ◌∷◌}
use Rattle.std.proofs.Common.{◌++◌, length, codes, decimal, All, reverse, refl, sym, ap, ◌∙◌, arith, ℤ, pos, negsuc}
use Rattle.std.proofs.Common.{length-append}
use Rattle.std.proofs.lemmas.List.{length-map, length-reverse}
use Rattle.std.specs.Char.{to_ascii_lowercase}
use Rattle.std.specs.Fmt.{digit_glyph, digits, digits_onto, signed_decimal}
use Rattle.std.specs.List.{AllByRecursion}
use Rattle.ini_text.proofs.NameLemmas.{same_folded}
use Rattle.ini_text.specs.Content.{Pair, Section, same}
use Rattle.concise_dcf.specs.declared.write.Write.{Write}
use Rattle.co_values.specs.declared.data_type.DataType.{DataType}
use Rattle.co_values.specs.declared.form.Form.{Form}
use Rattle.co_values.specs.declared.form.Form.TheVariants.{Flag, Signed, Unsigned, Decimal, Characters, HexPairs}
use Rattle.co_values.specs.declared.form.Form.TheVariants.{Unmodelled}
use Rattle.co_values.specs.Types.{form}
use Rattle.co_values.specs.Values.{longest_value, pairs_of, text_of_value, text_of_value_in}
use Rattle.real_texts.proofs.Plain.{texts_are_short}
use Rattle.real_texts.specs.Reals.{format_of}
use Rattle.eds_device.specs.Described.{kind_at}
use Rattle.eds_device.specs.Sheets.{Sheet}
use Rattle.eds_dcf.specs.Commissioning.{first_spelling}
use Rattle.eds_dcf.specs.Compact.{values_name}
use Rattle.eds_dcf.specs.Dcf.{dcf_sections}
use Rattle.eds_dcf.proofs.EachLemmas.{AddsSuch, IsSuch, dcf_such}

-- `[name]` has at most 4,096 bytes
abbrev pub IsShortName : List ℕ → Type 0
IsShortName name = length name + 2 ≤ 4096

-- `key=value` has
abbrev pub AreShort : List ℕ → List ℕ → Type 0
AreShort key value = length key + 1 + length value ≤ 4096

abbrev pub IsShortPair : Pair → Type 0
IsShortPair p = AreShort p.key p.value

abbrev pub IsShortSection : Section → Type 0
IsShortSection s = IsSuch IsShortName AreShort s

-- as the text of a value of at most 512 bytes is: that of a REAL64 is the longest
abbrev pub IsShortText : List ℕ → Type 0
IsShortText text = length text ≤ 1092

-- ---- what is printed

onto_short : (k n : ℕ) (acc : List ℕ) → length (digits_onto k 10 false n acc) ≤ k + length acc
onto_short zero n acc = omega arith
onto_short (suc k) n acc = by (n / 10 == 0) (onto_short k (n / 10) (digit_glyph false (n % 10) ∷ acc))
  where
    by : (t : Bool)
        → length (digits_onto k 10 false (n / 10) (digit_glyph false (n % 10) ∷ acc)) ≤ k + suc (length acc)
        → length (cond t (digit_glyph false (n % 10) ∷ acc)
        (digits_onto k 10 false (n / 10) (digit_glyph false (n % 10) ∷ acc))) ≤ suc k + length acc
    by true rest = omega arith
    by false rest = omega (arith, rest)

decimal_short : (n : ℕ) → length (decimal n) ≤ 64
unfolding digits
decimal_short n = onto_short 64 n []

signed_short : (z : ℤ) → IsShortText (signed_decimal z)
signed_short (pos n) = let short = decimal_short n in omega (arith, short)
signed_short (negsuc n) = let short = decimal_short (suc n) in omega (arith, short)

pairs_length : (bytes : List ℕ) → length (pairs_of bytes) ≡ 2 * length bytes
pairs_length [] = refl
pairs_length (b ∷ bs) = let rest = pairs_length bs in omega (arith, rest)

pairs_short : (bytes : List ℕ) → length bytes ≤ longest_value → IsShortText (pairs_of bytes)
pairs_short bytes few = let long = pairs_length bytes in omega (arith, long, few)

unsigned_short : (bytes : List ℕ) → length bytes ≤ longest_value → IsShortText (codes "0x" ++ pairs_of (reverse bytes))
unsigned_short bytes few =
    let whole = length-append (codes "0x") (pairs_of (reverse bytes)) in
    let prefix : length (codes "0x") ≡ 2 = refl in
    let long = pairs_length (reverse bytes) in
    let turned = length-reverse bytes in
    omega (arith, whole, prefix, long, turned, few)

decimal_text : (n : ℕ) → IsShortText (decimal n)
decimal_text n = let short = decimal_short n in omega (arith, short)

form_short : (f : Form) (bytes : List ℕ) → length bytes ≤ longest_value → IsShortText (text_of_value_in f bytes)
form_short Flag bytes few = decimal_text _
form_short (Signed width) bytes few = signed_short _
form_short (Unsigned width) bytes few = unsigned_short bytes few
form_short (Decimal real) bytes few = texts_are_short (format_of real) bytes
form_short Characters bytes few = omega (arith, few)
form_short HexPairs bytes few = pairs_short bytes few
form_short Unmodelled bytes few = omega arith

pub printed_short : (kind : DataType) (bytes : List ℕ) → length bytes ≤ longest_value
    → IsShortText (text_of_value kind bytes)
unfolding text_of_value
printed_short kind bytes few = form_short (form kind) bytes few

-- ---- pairs and names

-- keys that are equal without case are of one length
same_length : (key other : List ℕ) → same key other ≡ true → length key ≡ length other
same_length key other e =
    sym (length-map key to_ascii_lowercase) ∙ ap length (same_folded key other e) ∙ length-map other to_ascii_lowercase

of_key : (key value : List ℕ) (n : ℕ) → length key ≡ n → n ≤ 64 → IsShortText value → AreShort key value
of_key key value n is few short = omega (arith, is, few, short)

adds_short : AddsSuch IsShortName AreShort IsShortText
adds_short = record {
  spelled = λ key other old value e k v. let is = same_length key other e in omega (arith, is, v);
  parameter = λ text g. of_key (codes "ParameterValue") text 14 refl (omega arith) g;
  listed = λ sub text g. of_key (decimal sub) text (length (decimal sub)) refl (decimal_short sub) g;
  counted = λ n. of_key (codes "NrOfEntries") (decimal n) 11 refl (omega arith) (decimal_text n);
  number = λ n. of_key (codes "NodeID") (decimal n) 6 refl (omega arith) (decimal_text n);
  rate = λ n. of_key (codes "Baudrate") (decimal n) 8 refl (omega arith) (decimal_text n);
  values_named = λ index. let long : length (values_name index) ≡ 9 = refl in omega (arith, long);
  node_named = let long : length first_spelling ≡ 18 = refl in omega (arith, long);
}

pub dcf_short : (sheet : Sheet) (node : ℕ) (name : List ℕ) (bitrate : ℕ) (writes : List Write)
    → AllByRecursion IsShortSection sheet.sections → length name ≤ 32
    → All (λ (w : Write). IsShortText (text_of_value (kind_at sheet (w.index, w.sub)) w.bytes)) writes
    → AllByRecursion IsShortSection (dcf_sections sheet node name bitrate writes)
dcf_short sheet node name bitrate writes all named given =
    dcf_such IsShortName AreShort IsShortText adds_short sheet node name bitrate writes all
    (of_key (codes "NodeName") name 8 refl (omega arith) (omega (arith, named))) given
