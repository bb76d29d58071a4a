-- What is printed of a value can stand in a line.
use Rattle.std.proofs.Common.{◌≡◌, ℕ, ◌+◌, ◌/◌, ◌%◌, ◌≤◌, Bool, true, false, cond, List, [], ◌∷◌, ◌++◌, reverse, codes}
use Rattle.std.proofs.Common.{All, nat_lt, inl, inr, refl, lit≤, arith}
use Rattle.std.proofs.lemmas.List.Elements.{All-weaker}
use Rattle.std.specs.Float.{Format}
use Rattle.std.specs.Fmt.{digit_glyph}
use Rattle.std.specs.List.{AllByRecursion}
use Rattle.std.specs.Str.{byte}
use Rattle.ini_text.proofs.PrintLemmas.{sections_again}
use Rattle.ini_text.specs.Change.{text_of}
use Rattle.ini_text.specs.Content.{content_of}
use Rattle.ini_text.specs.Printable.{IsPrintable, IsValue}
use Rattle.concise_dcf.specs.declared.write.Write.{Write}
use Rattle.co_values.specs.declared.data_type.DataType.{DataType}
use Rattle.co_values.specs.declared.data_type.DataType.TheVariants.{Boolean, Integer8, Integer16, Integer24, Integer32}
use Rattle.co_values.specs.declared.data_type.DataType.TheVariants.{Integer40, Integer48, Integer56, Integer64}
use Rattle.co_values.specs.declared.data_type.DataType.TheVariants.{Unsigned8, Unsigned16, Unsigned24, Unsigned32}
use Rattle.co_values.specs.declared.data_type.DataType.TheVariants.{Unsigned40, Unsigned48, Unsigned56, Unsigned64}
use Rattle.co_values.specs.declared.data_type.DataType.TheVariants.{Real32, Real64, VisibleString, OctetString, Domain}
use Rattle.co_values.specs.declared.data_type.DataType.TheVariants.{NotModelled}
use Rattle.co_values.specs.declared.form.Form.{Form}
use Rattle.co_values.specs.declared.form.Form.TheVariants.{Flag, Signed, Unsigned, Decimal, Characters, HexPairs}
use Rattle.co_values.specs.declared.form.Form.TheVariants.{Unmodelled}
use Rattle.co_values.specs.Types.{form}
use Rattle.co_values.specs.Values.{pairs_of, text_of_value, text_of_value_in}
use Rattle.real_texts.proofs.Plain.{bytes_are}
use Rattle.real_texts.specs.Reals.{format_of}
use Rattle.real_texts.specs.Texts.{exact_text, IsOfNumber}
use Rattle.eds_device.specs.Described.{kind_at}
use Rattle.eds_device.specs.Sheets.{Sheet}
use Rattle.eds_dcf.specs.Dcf.{dcf_sections}
use Rattle.eds_dcf.specs.Printable.{StandsInLine}
use Rattle.eds_dcf.specs.Writes.{last_of}
use Rattle.eds_dcf.proofs.EntryLemmas.{left_holds}
use Rattle.eds_dcf.proofs.LineLemmas.{IsPlain, decimal_value, plain_append, plain_value, signed_value}
use Rattle.eds_dcf.proofs.SectionLemmas.{sections_printable}

pub glyph_plain : (d : ℕ) → byte "!" ≤ digit_glyph true d
glyph_plain d = by (nat_lt d 10)
  where
    by : (t : Bool) → byte "!" ≤ cond t (48 + d) (55 + d)
    by true = omega arith
    by false = omega arith

pub pairs_plain : (bytes : List ℕ) → IsPlain (pairs_of bytes)
pairs_plain [] = tt
pairs_plain (b ∷ bs) = (glyph_plain (b / 16), (glyph_plain (b % 16), pairs_plain bs))

pub unsigned_plain : (bytes : List ℕ) → IsPlain (codes "0x" ++ pairs_of (reverse bytes))
unsigned_plain bytes =
    plain_append (codes "0x") (pairs_of (reverse bytes)) (lit≤ tt, (lit≤ tt, tt)) (pairs_plain (reverse bytes))

unsigned_value : (bytes : List ℕ) → IsValue (codes "0x" ++ pairs_of (reverse bytes))
unsigned_value bytes = plain_value (codes "0x" ++ pairs_of (reverse bytes)) (unsigned_plain bytes)

-- digits, a point and a minus are plain
number_plain : (c : ℕ) → IsOfNumber c → byte "!" ≤ c
number_plain c (inl digit) = omega (arith, digit.0)
number_plain c (inr (inl point)) = omega (arith, point)
number_plain c (inr (inr minus)) = omega (arith, minus)

numbers_plain : (bs : List ℕ) → AllByRecursion IsOfNumber bs → IsPlain bs
numbers_plain [] h = tt
numbers_plain (b ∷ bs) h = (number_plain b h.0, numbers_plain bs h.1)

pub real_plain : (f : Format) (bytes : List ℕ) → IsPlain (exact_text f bytes)
real_plain f bytes = numbers_plain (exact_text f bytes) (bytes_are f bytes)

-- the values of VISIBLE_STRING alone are texts
pub characters_alone : (kind : DataType) → form kind ≡ Characters → kind ≡ VisibleString
characters_alone Boolean e = absurd (cc)
characters_alone Integer8 e = absurd (cc)
characters_alone Integer16 e = absurd (cc)
characters_alone Integer24 e = absurd (cc)
characters_alone Integer32 e = absurd (cc)
characters_alone Integer40 e = absurd (cc)
characters_alone Integer48 e = absurd (cc)
characters_alone Integer56 e = absurd (cc)
characters_alone Integer64 e = absurd (cc)
characters_alone Unsigned8 e = absurd (cc)
characters_alone Unsigned16 e = absurd (cc)
characters_alone Unsigned24 e = absurd (cc)
characters_alone Unsigned32 e = absurd (cc)
characters_alone Unsigned40 e = absurd (cc)
characters_alone Unsigned48 e = absurd (cc)
characters_alone Unsigned56 e = absurd (cc)
characters_alone Unsigned64 e = absurd (cc)
characters_alone Real32 e = absurd (cc)
characters_alone Real64 e = absurd (cc)
characters_alone VisibleString e = refl
characters_alone OctetString e = absurd (cc)
characters_alone Domain e = absurd (cc)
characters_alone NotModelled e = absurd (cc)

-- numbers and pairs of digits always, and a text where it is such
form_value : (f : Form) (bytes : List ℕ) → (f ≡ Characters → IsValue bytes) → IsValue (text_of_value_in f bytes)
form_value Flag bytes h = decimal_value _
form_value (Signed width) bytes h = signed_value _
form_value (Unsigned width) bytes h = unsigned_value bytes
form_value (Decimal real) bytes h = plain_value (exact_text (format_of real) bytes) (real_plain (format_of real) bytes)
form_value Characters bytes h = h refl
form_value HexPairs bytes h = plain_value (pairs_of bytes) (pairs_plain bytes)
form_value Unmodelled bytes h = plain_value [] tt

pub printed_value : (kind : DataType) (bytes : List ℕ) → (kind ≡ VisibleString → IsValue bytes)
    → IsValue (text_of_value kind bytes)
unfolding text_of_value
printed_value kind bytes h = form_value (form kind) bytes (λ is. h (characters_alone kind is))

pub dcf_printable : (sheet : Sheet) (node : ℕ) (name : List ℕ) (bitrate : ℕ) (writes : List Write)
    → IsPrintable sheet.sections → IsValue name → All (StandsInLine sheet) writes
    → IsPrintable (dcf_sections sheet node name bitrate writes)
unfolding dcf_sections
dcf_printable sheet node name bitrate writes h v all =
    sections_printable sheet node name bitrate (last_of writes) h v
    (λ place. left_holds (λ place bytes. IsValue (text_of_value (kind_at sheet place) bytes)) writes place
    (All-weaker (StandsInLine sheet) (λ w. IsValue (text_of_value (kind_at sheet (w.index, w.sub)) w.bytes))
    (λ w stands. printed_value (kind_at sheet (w.index, w.sub)) w.bytes stands) writes all))

-- reading the text gives the sections again
pub dcf_again : (sheet : Sheet) (node : ℕ) (name : List ℕ) (bitrate : ℕ) (writes : List Write)
    → IsPrintable sheet.sections → IsValue name → All (StandsInLine sheet) writes
    → (content_of (text_of (dcf_sections sheet node name bitrate writes))).sections
    ≡ dcf_sections sheet node name bitrate writes
dcf_again sheet node name bitrate writes h v all = sections_again (dcf_sections sheet node name bitrate writes)
    (dcf_printable sheet node name bitrate writes h v all)
