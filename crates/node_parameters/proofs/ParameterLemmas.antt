-- The writes of parameters: what stands behind each, their sizes, number and order.
use Rattle.std.proofs.Common.{◌≡◌, ℕ, ◌≤◌, true, false, List, [], ◌∷◌, length, take, take_all, map, filter_map, All}
use Rattle.std.proofs.Common.{Contains, Option, Some, None, Result, Ok, Err, is_some, option_map, option_and_then, refl}
use Rattle.std.proofs.Common.{sym, ap, subst, ◌∙◌, arith}
use Rattle.std.specs.List.Sorted.{IsStrictlySortedBy}
use Rattle.std.specs.FinMap.{get}
use Rattle.std.specs.Option.{option_or, option_map_or}
use Rattle.co_values.specs.declared.data_type.DataType.TheVariants.{NotModelled}
use Rattle.std.specs.Result.{result_ok}
use Rattle.std.proofs.lemmas.List.Kept.{IsStrictlySortedBy-filter}
use Rattle.concise_dcf.specs.declared.write.Write.{Write}
use Rattle.co_dict.specs.declared.entry.Entry.{Entry}
use Rattle.eds_places.proofs.PlaceLemmas.{pairs_sorted}
use Rattle.eds_device.specs.Described.{Described, description_of, description_by, known_as, unless_empty, value_by, value_text}
use Rattle.eds_device.specs.Described.{kind_at}
use Rattle.eds_device.specs.Entries.{entry_by, entry_at}
use Rattle.co_dict.specs.Places.{place_cmp}
use Rattle.eds_device.specs.Places.{pairs_of}
use Rattle.eds_device.specs.Origins.{Origin, origin_of}
use Rattle.eds_device.specs.Sheets.{Sheet}
use Rattle.cia301.specs.PdoObjects.{is_of_pdos}
use Rattle.node_parameters.specs.Params.{Texts}
use Rattle.node_parameters.specs.declared.parameter_fault.ParameterFault.{ParameterFault}
use Rattle.node_parameters.specs.Judgement.{parameter_bytes}
use Rattle.node_parameters.specs.Parameters.{given_text, parameter_text, write_to, parameter_write}
use Rattle.concise_dcf.specs.Writes.{place_of}
use Rattle.node_parameters.specs.Parameters.{parameter_writes}
use Rattle.node_parameters.proofs.JudgedLemmas.{judged_entry}
use Rattle.eds_places.proofs.GivenLemmas.{rules_give}
use Rattle.node_parameters.proofs.SizeLemmas.{value_sized}
use Rattle.node_parameters.proofs.WrittenLemmas.{Contains-filter_map, from_filter_map, length-filter_map, places_given}
use Rattle.node_parameters.proofs.WrittenLemmas.{All-filter_map}

-- ---- one write

-- the text and the judgement behind a write
pub record Behind (sheet : Sheet) (params : Texts) (node : ℕ) (place : ℕ × ℕ) (w : Write) : Type 0 where
  pub text : List ℕ
  pub there : parameter_text sheet.sections params place ≡ Some text
  pub judged_ok : parameter_bytes (entry_at sheet node place.0 place.1) text node ≡ Ok w.bytes
  pub at_place : place_of w ≡ place

behind_by : (place : ℕ × ℕ) (o : Option (List ℕ)) (r : List ℕ → Result (List ℕ) ParameterFault) (w : Write)
    → option_map (write_to place) (option_and_then (λ text. result_ok (r text)) o) ≡ Some w
    → (text : List ℕ) × (o ≡ Some text) × (r text ≡ Ok w.bytes) × (place_of w ≡ place)
behind_by place None r w e = cc
behind_by place (Some text) r w e = by (r text) refl e
  where
    by : (given : Result (List ℕ) ParameterFault) → r text ≡ given
        → option_map (write_to place) (result_ok given) ≡ Some w
        → (t : List ℕ) × (Some text ≡ Some t) × (r t ≡ Ok w.bytes) × (place_of w ≡ place)
    by (Ok bytes) is e =
        let same : write_to place bytes ≡ w = cc in
        (text, refl, is ∙ ap (λ (v : Write). Ok v.bytes) same, sym (ap place_of same))
    by (Err fault) is e = cc

pub behind : (sheet : Sheet) (params : Texts) (node : ℕ) (place : ℕ × ℕ) (w : Write)
    → parameter_write sheet params node place ≡ Some w → Behind sheet params node place w
behind sheet params node place w e =
    let b = behind_by place (parameter_text sheet.sections params place)
    (λ text. parameter_bytes (entry_at sheet node place.0 place.1) text node) w e in
    record { text = b.0; there = b.1; judged_ok = b.2; at_place = b.3 }

written_by : (sheet : Sheet) (params : Texts) (node : ℕ) (place : ℕ × ℕ) (text bytes : List ℕ)
    → parameter_text sheet.sections params place ≡ Some text
    → parameter_bytes (entry_at sheet node place.0 place.1) text node ≡ Ok bytes
    → parameter_write sheet params node place ≡ Some (write_to place bytes)
written_by sheet params node place text bytes there ok = rw (there, ok) refl

-- ---- sizes

some_left : (o : Option (List ℕ)) (text : List ℕ) → option_and_then unless_empty o ≡ Some text → 1 ≤ length text
some_left None text e = cc
some_left (Some []) text e = cc
some_left (Some (b ∷ bs)) text e = let same : b ∷ bs ≡ text = cc
    in subst (λ (t : List ℕ). 1 ≤ length t) same (omega arith)

text_some : (sheet : Sheet) (params : Texts) (place : ℕ × ℕ) (text : List ℕ)
    → parameter_text sheet.sections params place ≡ Some text → 1 ≤ length text
unfolding parameter_text
text_some sheet params place text e = some_left (option_or (get params place) (given_text sheet.sections place)) text e

write_sized : (sheet : Sheet) (params : Texts) (node : ℕ) (place : ℕ × ℕ) (w : Write)
    → parameter_write sheet params node place ≡ Some w → (1 ≤ length w.bytes) × (length w.bytes ≤ 512)
write_sized sheet params node place w e =
    let b = behind sheet params node place w e in
    let j = judged_entry (entry_at sheet node place.0 place.1) b.text w.bytes node b.judged_ok in
    value_sized j.0.kind b.text w.bytes node (text_some sheet params place b.text b.there) j.2.spelled

pub writes_sized : (sheet : Sheet) (params : Texts) (node : ℕ)
    → All (λ w. (1 ≤ length w.bytes) × (length w.bytes ≤ 512)) (parameter_writes sheet params node)
unfolding parameter_writes
writes_sized sheet params node = All-filter_map (parameter_write sheet params node)
    (λ w. (1 ≤ length w.bytes) × (length w.bytes ≤ 512)) (write_sized sheet params node) (pairs_of sheet.sections)

pub writes_few : (sheet : Sheet) (params : Texts) (node : ℕ)
    → length (parameter_writes sheet params node) ≤ length (pairs_of sheet.sections)
unfolding parameter_writes
writes_few sheet params node = length-filter_map (parameter_write sheet params node) (pairs_of sheet.sections)

-- ---- order

pub writes_in_order : (sheet : Sheet) (params : Texts) (node : ℕ)
    → IsStrictlySortedBy place_cmp (map place_of (parameter_writes sheet params node))
unfolding parameter_writes
writes_in_order sheet params node =
    rw (places_given (parameter_write sheet params node) place_of (λ place w e. (behind sheet params node place w e).at_place)
    (pairs_of sheet.sections)) (IsStrictlySortedBy-filter place_cmp (λ p. is_some (parameter_write sheet params node p)) (pairs_of sheet.sections)
    (pairs_sorted sheet.sections))

-- ---- which there are

-- an entry is among those of the device
among : (sheet : Sheet) (node : ℕ) (place : ℕ × ℕ) (entry : Entry) → entry_at sheet node place.0 place.1 ≡ Some entry
    → Contains (pairs_of sheet.sections) place
unfolding entry_at description_of
among sheet node place entry e = by (origin_of sheet.sections place.0 place.1) refl e
  where
    by : (o : Option Origin) → origin_of sheet.sections place.0 place.1 ≡ o
        → option_map (entry_by node) (option_map (λ src. known_as sheet.is_three (description_by place.1 src)) o) ≡ Some entry
        → Contains (pairs_of sheet.sections) place
    by None is e = cc
    by (Some origin) is e = rules_give sheet.sections place.0 place.1 origin is

pub written : (sheet : Sheet) (params : Texts) (node : ℕ) (place : ℕ × ℕ) (text bytes : List ℕ)
    → parameter_text sheet.sections params place ≡ Some text
    → parameter_bytes (entry_at sheet node place.0 place.1) text node ≡ Ok bytes
    → Contains (parameter_writes sheet params node) (write_to place bytes)
unfolding parameter_writes
written sheet params node place text bytes there ok =
    let j = judged_entry (entry_at sheet node place.0 place.1) text bytes node ok in
    Contains-filter_map (parameter_write sheet params node) (pairs_of sheet.sections) place (write_to place bytes)
    (among sheet node place j.0 j.1)
    (written_by sheet params node place text bytes there ok)

pub nothing_else : (sheet : Sheet) (params : Texts) (node : ℕ) (w : Write)
    → Contains (parameter_writes sheet params node) w
    → (text : List ℕ) × (parameter_text sheet.sections params (place_of w) ≡ Some text)
    × (parameter_bytes (entry_at sheet node w.index w.sub) text node ≡ Ok w.bytes)
unfolding parameter_writes
nothing_else sheet params node w there =
    let f = from_filter_map (parameter_write sheet params node) (pairs_of sheet.sections) w there in
    let b = behind sheet params node f.0 w f.2 in (
      b.text,
      subst (λ (p : ℕ × ℕ). parameter_text sheet.sections params p ≡ Some b.text) (sym b.at_place) b.there,
      subst (λ (p : ℕ × ℕ). parameter_bytes (entry_at sheet node p.0 p.1) b.text node ≡ Ok w.bytes)
          (sym b.at_place) b.judged_ok,
    )

-- ---- types

pub kind_of_entry : (sheet : Sheet) (node index sub : ℕ) (entry : Entry) → entry_at sheet node index sub ≡ Some entry
    → kind_at sheet (index, sub) ≡ entry.kind
unfolding entry_at kind_at
kind_of_entry sheet node index sub entry e = by (description_of sheet index sub) e
  where
    by : (o : Option Described) → option_map (entry_by node) o ≡ Some entry
        → option_map_or (λ (d : Described). d.kind) o NotModelled ≡ entry.kind
    by None e = cc
    by (Some d) e = let same : entry_by node d ≡ entry = cc in ap (λ (x : Entry). x.kind) same

-- ---- texts

pub own_text : (sheet : Sheet) (params : Texts) (place : ℕ × ℕ) (text : List ℕ) → get params place ≡ Some text
    → parameter_text sheet.sections params place ≡ unless_empty text
unfolding parameter_text
own_text sheet params place text own = rw own refl

pub pdo_text : (sheet : Sheet) (params : Texts) (place : ℕ × ℕ) → get params place ≡ None
    → is_of_pdos place.0 ≡ true → parameter_text sheet.sections params place ≡ None
unfolding parameter_text
pdo_text sheet params place none pdos = rw (none, pdos) refl

still_some : (o : Option (List ℕ)) → option_and_then unless_empty (option_and_then unless_empty o)
    ≡ option_and_then unless_empty o
still_some None = refl
still_some (Some []) = refl
still_some (Some (b ∷ bs)) = refl

pub device_text : (sheet : Sheet) (params : Texts) (place : ℕ × ℕ) → get params place ≡ None
    → is_of_pdos place.0 ≡ false → parameter_text sheet.sections params place ≡ value_text sheet.sections place.0 place.1
unfolding parameter_text value_text
device_text sheet params place none other = rw (none, other)
    (still_some (option_and_then (value_by sheet.sections place.0 place.1) (origin_of sheet.sections place.0 place.1)))

-- ---- the loop at its end

pub all_taken : (sheet : Sheet) (params : Texts) (node : ℕ) (writes : List Write) (pairs : List (ℕ × ℕ)) (n : ℕ)
    → writes ≡ filter_map (parameter_write sheet params node) (take n pairs) → pairs ≡ pairs_of sheet.sections → length pairs ≤ n
    → writes ≡ parameter_writes sheet params node
unfolding parameter_writes
all_taken sheet params node writes pairs n so_far are all = so_far ∙ ap (filter_map (parameter_write sheet params node))
    (take_all n pairs all ∙ are)
