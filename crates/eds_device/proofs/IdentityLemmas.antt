-- The numbers of an identity, which are those of the defaults, and the dummies of a shape.
use Rattle.std.proofs.Common.{◌≡◌, ℕ, zero, suc, ◌-◌, ◌<◌, ◌≤◌, Bool, true, false, ◌&&◌, List, [], ◌∷◌, get_or, Option}
use Rattle.std.proofs.Common.{None, Some, refl, sym, ap, ◌∙◌, arith}
use Rattle.std.specs.Prelude.{if◌then◌else◌, pos, nat_le, option_map, option_and_then}
use Rattle.std.specs.FinMap.{get}
use Rattle.std.specs.Option.{option_map_or, unwrap_or}
use Rattle.std.proofs.lemmas.Bool.{lt-ltb, leb-true}
use Rattle.byteorder.specs.Endian.{little_bytes, little_number}
use Rattle.co_values.specs.declared.data_type.DataType.{DataType}
use Rattle.co_values.specs.declared.data_type.DataType.TheVariants.{Boolean, Integer8, Integer16, Integer24, Integer32, Integer40}
use Rattle.co_values.specs.declared.data_type.DataType.TheVariants.{Integer48, Integer56, Integer64, Real32, Real64}
use Rattle.co_values.specs.declared.data_type.DataType.TheVariants.{Unsigned8, Unsigned16, Unsigned24, Unsigned32, Unsigned40}
use Rattle.co_values.specs.declared.data_type.DataType.TheVariants.{Unsigned48, Unsigned56, Unsigned64}
use Rattle.co_values.specs.declared.data_type.DataType.TheVariants.{VisibleString, OctetString, Domain, NotModelled}
use Rattle.co_values.specs.declared.form.Width.TheVariants.{Bits8, Bits16, Bits24, Bits32}
use Rattle.co_values.specs.Number.{formula}
use Rattle.co_values.specs.Types.{is_modelled}
use Rattle.co_values.specs.Values.{value, number_in, unsigned_bits, zero_value}
use Rattle.co_dict.specs.Shapes.{is_dummy_allowed}
use Rattle.eds_device.specs.Described.{Default, written, count, Described, description_of, kind_at}
use Rattle.eds_device.specs.Entries.{number_spelled, default_bytes, default_by, default_at, defaults_of, dummies_of}
use Rattle.eds_device.specs.Entries.{dummy_allowed, shape_of}
use Rattle.eds_device.specs.Identity.{is_identity_type, or_zero, four_bytes, default_number, identity_by}
use Rattle.eds_device.specs.Identity.{identity_number}
use Rattle.eds_device.proofs.LawLemmas.{defaults_at}
use Rattle.eds_device.specs.Sheets.{Sheet}

-- ---- what is read of a description

kept : (n : ℕ) → n < 4294967296 → four_bytes (pos n) ≡ n
kept n h = ap (λ (b : Bool). if b then n else 0) (lt-ltb n 4294967296 h)

-- a text's number is that of the default, which is 0 where the text spells none
spelled : (kind : DataType) (text : List ℕ) (node : ℕ) → is_identity_type kind ≡ true
    → option_map_or four_bytes (number_spelled kind text node) 0
    ≡ or_zero (number_in kind (default_bytes kind (written text) node))
unfolding value number_in
spelled Unsigned8 text node h = by (option_and_then (unsigned_bits Bits8) (formula text node))
  where
    by : (o : Option ℕ)
        → option_map_or four_bytes (option_and_then (number_in Unsigned8) (option_map (little_bytes 1) o)) 0
        ≡ or_zero (number_in Unsigned8 (unwrap_or (option_map (little_bytes 1) o) (zero_value Unsigned8)))
    by None = refl
    by (Some x) = kept (little_number 1 (little_bytes 1 x)) (omega arith)
spelled Unsigned16 text node h = by (option_and_then (unsigned_bits Bits16) (formula text node))
  where
    by : (o : Option ℕ)
        → option_map_or four_bytes (option_and_then (number_in Unsigned16) (option_map (little_bytes 2) o)) 0
        ≡ or_zero (number_in Unsigned16 (unwrap_or (option_map (little_bytes 2) o) (zero_value Unsigned16)))
    by None = refl
    by (Some x) = kept (little_number 2 (little_bytes 2 x)) (omega arith)
spelled Unsigned32 text node h = by (option_and_then (unsigned_bits Bits32) (formula text node))
  where
    by : (o : Option ℕ)
        → option_map_or four_bytes (option_and_then (number_in Unsigned32) (option_map (little_bytes 4) o)) 0
        ≡ or_zero (number_in Unsigned32 (unwrap_or (option_map (little_bytes 4) o) (zero_value Unsigned32)))
    by None = refl
    by (Some x) = kept (little_number 4 (little_bytes 4 x)) (omega arith)
spelled Unsigned24 text node h = by (option_and_then (unsigned_bits Bits24) (formula text node))
  where
    by : (o : Option ℕ)
        → option_map_or four_bytes (option_and_then (number_in Unsigned24) (option_map (little_bytes 3) o)) 0
        ≡ or_zero (number_in Unsigned24 (unwrap_or (option_map (little_bytes 3) o) (zero_value Unsigned24)))
    by None = refl
    by (Some x) = kept (little_number 3 (little_bytes 3 x)) (omega arith)
spelled Boolean text node h = cc
spelled Integer8 text node h = cc
spelled Integer16 text node h = cc
spelled Integer32 text node h = cc
spelled Integer64 text node h = cc
spelled Integer24 text node h = cc
spelled Integer40 text node h = cc
spelled Integer48 text node h = cc
spelled Integer56 text node h = cc
spelled Unsigned40 text node h = cc
spelled Unsigned48 text node h = cc
spelled Unsigned56 text node h = cc
spelled Real32 text node h = cc
spelled Real64 text node h = cc
spelled Unsigned64 text node h = cc
spelled VisibleString text node h = cc
spelled OctetString text node h = cc
spelled Domain text node h = cc
spelled NotModelled text node h = cc

counted : (kind : DataType) (n : ℕ) → is_identity_type kind ≡ true → n ≡ or_zero (number_in kind (n ∷ []))
unfolding number_in
counted Unsigned8 n h = omega arith
counted Unsigned16 n h = omega arith
counted Unsigned32 n h = omega arith
counted Unsigned24 n h = omega arith
counted Boolean n h = cc
counted Integer8 n h = cc
counted Integer16 n h = cc
counted Integer32 n h = cc
counted Integer64 n h = cc
counted Integer24 n h = cc
counted Integer40 n h = cc
counted Integer48 n h = cc
counted Integer56 n h = cc
counted Unsigned40 n h = cc
counted Unsigned48 n h = cc
counted Unsigned56 n h = cc
counted Real32 n h = cc
counted Real64 n h = cc
counted Unsigned64 n h = cc
counted VisibleString n h = cc
counted OctetString n h = cc
counted Domain n h = cc
counted NotModelled n h = cc

-- the types of an identity have values, which are numbers
identity_bytes : (node : ℕ) (d : Described) → is_identity_type d.kind ≡ true
    → default_by node d ≡ Some (default_bytes d.kind d.default node)
identity_bytes node d h = by d.kind h
  where
    by : (kind : DataType) → is_identity_type kind ≡ true
        → (if is_modelled kind then Some (default_bytes d.kind d.default node) else None)
        ≡ Some (default_bytes d.kind d.default node)
    by Unsigned8 h = refl
    by Unsigned16 h = refl
    by Unsigned32 h = refl
    by Unsigned24 h = refl
    by Boolean h = refl
    by Integer8 h = refl
    by Integer16 h = refl
    by Integer32 h = refl
    by Integer64 h = refl
    by Integer24 h = refl
    by Integer40 h = refl
    by Integer48 h = refl
    by Integer56 h = refl
    by Unsigned40 h = refl
    by Unsigned48 h = refl
    by Unsigned56 h = refl
    by Real32 h = refl
    by Real64 h = refl
    by Unsigned64 h = refl
    by VisibleString h = refl
    by OctetString h = refl
    by Domain h = refl
    by NotModelled h = cc

number_is : (kind : DataType) (bytes : List ℕ) → is_identity_type kind ≡ true
    → number_in kind bytes ≡ Some (pos (or_zero (number_in kind bytes)))
unfolding number_in
number_is Unsigned8 bytes h = refl
number_is Unsigned16 bytes h = refl
number_is Unsigned32 bytes h = refl
number_is Unsigned24 bytes h = refl
number_is Boolean bytes h = cc
number_is Integer8 bytes h = cc
number_is Integer16 bytes h = cc
number_is Integer32 bytes h = cc
number_is Integer64 bytes h = cc
number_is Integer24 bytes h = cc
number_is Integer40 bytes h = cc
number_is Integer48 bytes h = cc
number_is Integer56 bytes h = cc
number_is Unsigned40 bytes h = cc
number_is Unsigned48 bytes h = cc
number_is Unsigned56 bytes h = cc
number_is Real32 bytes h = cc
number_is Real64 bytes h = cc
number_is Unsigned64 bytes h = cc
number_is VisibleString bytes h = cc
number_is OctetString bytes h = cc
number_is Domain bytes h = cc
number_is NotModelled bytes h = cc

-- what is read of a description is the number of its default
read_by : (node : ℕ) (d : Described) → identity_by node d
    ≡ (if is_identity_type d.kind then or_zero (option_and_then (number_in d.kind) (default_by node d)) else 0)
read_by node d = by (is_identity_type d.kind) d.default refl refl
  where
    by : (t : Bool) (x : Default) → is_identity_type d.kind ≡ t → d.default ≡ x
        → (if t then default_number d.kind node x else 0)
        ≡ (if t then or_zero (option_and_then (number_in d.kind) (default_by node d)) else 0)
    by false x e f = refl
    by true (written text) e f = spelled d.kind text node e
        ∙ ap (λ y. or_zero (number_in d.kind (default_bytes d.kind y node))) (sym f)
        ∙ ap (λ o. or_zero (option_and_then (number_in d.kind) o)) (sym (identity_bytes node d e))
    by true (count n) e f = counted d.kind n e ∙ ap (λ y. or_zero (number_in d.kind (default_bytes d.kind y node)))
        (sym f) ∙ ap (λ o. or_zero (option_and_then (number_in d.kind) o)) (sym (identity_bytes node d e))

pub identity_read : (sheet : Sheet) (node index sub : ℕ)
    → option_map_or (identity_by node) (description_of sheet index sub) 0 ≡ identity_number sheet node index sub
unfolding identity_number kind_at default_at
identity_read sheet node index sub = by (description_of sheet index sub)
  where
    by : (o : Option Described) → option_map_or (identity_by node) o 0
        ≡ (let kind = option_map_or (λ (d : Described). d.kind) o NotModelled in if is_identity_type kind
        then or_zero (option_and_then (number_in kind) (option_and_then (default_by node) o)) else 0)
    by None = refl
    by (Some d) = read_by node d

-- ---- laws

pub identity_has : (sheet : Sheet) (node index sub : ℕ) → is_identity_type (kind_at sheet (index, sub)) ≡ true
    → (bytes : List ℕ) × ((get (defaults_of sheet node) (index, sub) ≡ Some bytes)
    × (number_in (kind_at sheet (index, sub)) bytes ≡ Some (pos (identity_number sheet node index sub))))
unfolding identity_number kind_at default_at
identity_has sheet node index sub h = by (description_of sheet index sub) h (defaults_at sheet node index sub)
  where
    by : (o : Option Described) → let kind = option_map_or (λ (d : Described). d.kind) o NotModelled
        in is_identity_type kind ≡ true → get (defaults_of sheet node) (index, sub) ≡ option_and_then (default_by node) o
        → (bytes : List ℕ) × ((get (defaults_of sheet node) (index, sub) ≡ Some bytes)
        × (number_in kind bytes
        ≡ Some (pos (if is_identity_type kind
        then or_zero (option_and_then (number_in kind) (option_and_then (default_by node) o)) else 0))))
    by None e g = cc
    by (Some d) e g =
        let bytes = default_bytes d.kind d.default node in
        let given : default_by node d ≡ Some bytes = identity_bytes node d e in
        (bytes, (g ∙ given, rw (e, given) (number_is d.kind bytes e)))

pub identity_zero : (sheet : Sheet) (node index sub : ℕ) → is_identity_type (kind_at sheet (index, sub)) ≡ false
    → identity_number sheet node index sub ≡ 0
unfolding identity_number
identity_zero sheet node index sub h = rw h refl

dummy_of : (sheet : Sheet) (kind : ℕ) → 1 ≤ kind → kind ≤ 7
    → get_or (dummies_of sheet.sections) (kind - 1) false ≡ dummy_allowed sheet.sections kind
dummy_of sheet zero h g = absurd (omega arith)
dummy_of sheet (suc zero) h g = refl
dummy_of sheet (suc (suc zero)) h g = refl
dummy_of sheet (suc (suc (suc zero))) h g = refl
dummy_of sheet (suc (suc (suc (suc zero)))) h g = refl
dummy_of sheet (suc (suc (suc (suc (suc zero))))) h g = refl
dummy_of sheet (suc (suc (suc (suc (suc (suc zero)))))) h g = refl
dummy_of sheet (suc (suc (suc (suc (suc (suc (suc zero))))))) h g = refl
dummy_of sheet (suc (suc (suc (suc (suc (suc (suc (suc n)))))))) h g = absurd (omega arith)

none_below : (sheet : Sheet) (kind : ℕ) → nat_le 1 kind ≡ false → dummy_allowed sheet.sections kind ≡ false
unfolding dummy_allowed
none_below sheet kind h = rw h refl

none_above : (sheet : Sheet) (kind : ℕ) → nat_le 1 kind ≡ true → nat_le kind 7 ≡ false
    → dummy_allowed sheet.sections kind ≡ false
unfolding dummy_allowed
none_above sheet kind h g = rw (h, g) refl

-- the dummies of a shape are those of the device
pub shape_dummies : (sheet : Sheet) (node kind : ℕ)
    → is_dummy_allowed (shape_of sheet node) kind ≡ dummy_allowed sheet.sections kind
unfolding shape_of
shape_dummies sheet node kind = by (nat_le 1 kind) (nat_le kind 7) refl refl
  where
    by : (t u : Bool) → nat_le 1 kind ≡ t → nat_le kind 7 ≡ u
        → (t && u && get_or (dummies_of sheet.sections) (kind - 1) false) ≡ dummy_allowed sheet.sections kind
    by false u e f = sym (none_below sheet kind e)
    by true false e f = sym (none_above sheet kind e f)
    by true true e f = dummy_of sheet kind (leb-true 1 kind e) (leb-true kind 7 f)
