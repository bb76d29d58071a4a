-- What the definitions come to.
use Rattle.std.proofs.Common.{◌≡◌, ℕ, Bool, true, false, List, [], ◌∷◌, Option}
use Rattle.std.proofs.Common.{None, Some, refl, sym, ap, ◌∙◌}
use Rattle.std.specs.Prelude.{if◌then◌else◌, ◌==◌, option_map, option_and_then}
use Rattle.std.specs.FinMap.{from_entries, get}
use Rattle.co_values.specs.declared.data_type.DataType.TheVariants.{Unsigned8}
use Rattle.co_values.specs.Number.{formula, number}
use Rattle.co_values.specs.Types.{is_modelled}
use Rattle.co_values.specs.Values.{value}
use Rattle.co_dict.specs.declared.access.Access.TheVariants.{ReadOnly}
use Rattle.co_dict.specs.declared.entry.Entry.{Entry}
use Rattle.co_dict.specs.Places.{place_cmp}
use Rattle.ini_text.specs.Content.{Section}
use Rattle.eds_device.specs.Described.{Described, description_of, description_by, description_in, highest_sub, known_as}
use Rattle.eds_device.specs.Entries.{limit_at, entry_by, entry_at, default_bytes, default_by, default_at, given_at}
use Rattle.eds_device.specs.Entries.{shape_of, defaults_of}
use Rattle.co_dict.specs.Values.{HasLength, HoldEach}
use Rattle.eds_places.specs.Places.{pairs_of}
use Rattle.eds_places.specs.Origins.{Origin, own, compact, origin_of}
use Rattle.eds_device.proofs.LengthLemmas.{written_length}
use Rattle.eds_places.proofs.PlaceLemmas.{has_place, origin_has}
use Rattle.eds_device.proofs.MapLemmas.{among, get_given}
use Rattle.eds_device.specs.Sheets.{Sheet}

-- ---- place by place

at_places : {X : Type 0} (f : ℕ × ℕ → Option X) (ss : List Section) (index sub : ℕ)
    → (origin_of ss index sub ≡ None → f (index, sub) ≡ None)
    → get (from_entries {R = place_cmp} (given_at f (pairs_of ss))) (index, sub) ≡ f (index, sub)
at_places {X} f ss index sub none = get_given f (pairs_of ss) (index, sub) ∙ by (origin_of ss index sub) refl
  where
    same : (b : Bool) (o : Option X) → o ≡ None → (if b then o else None) ≡ o
    same true o e = refl
    same false o e = sym e

    by : (o : Option Origin) → origin_of ss index sub ≡ o → among f (index, sub) (pairs_of ss) ≡ f (index, sub)
    by None e = same (has_place (index, sub) (pairs_of ss)) (f (index, sub)) (none e)
    by (Some src) e = ap (λ (b : Bool). let other : Option X = None in if b then f (index, sub) else other)
        (origin_has ss index sub src e)

pub shape_at : (sheet : Sheet) (node index sub : ℕ)
    → get (shape_of sheet node).entries (index, sub) ≡ entry_at sheet node index sub
unfolding shape_of entry_at description_of
shape_at sheet node index sub =
    at_places (λ p. entry_at sheet node p.0 p.1) sheet.sections index sub
    (λ e. ap (λ o. option_map (entry_by node) (option_map (λ src. known_as sheet.is_three (description_by sub src)) o)) e)

pub defaults_at : (sheet : Sheet) (node index sub : ℕ)
    → get (defaults_of sheet node) (index, sub) ≡ default_at sheet node index sub
unfolding defaults_of default_at description_of
defaults_at sheet node index sub =
    at_places (λ p. default_at sheet node p.0 p.1) sheet.sections index sub
    (λ e. ap (λ o. option_and_then (default_by node)
    (option_map (λ src. known_as sheet.is_three (description_by sub src)) o)) e)

-- ---- lengths

described_length : (is_three : Bool) (sub : ℕ) (src : Origin) (node : ℕ)
    → let d = known_as is_three (description_by sub src) in HasLength d.kind (default_bytes d.kind d.default node)
described_length is_three sub (own s) node = let d = known_as is_three (description_in s) in written_length d.kind _ node
described_length is_three sub (compact s n) node = by (sub == 0)
  where
    by : (t : Bool) → let d : Described = known_as is_three (if t then highest_sub n else description_in s)
        in HasLength d.kind (default_bytes d.kind d.default node)
    by true = refl
    by false = let d = known_as is_three (description_in s) in written_length d.kind _ node

default_given : (node : ℕ) (d : Described) → HasLength d.kind (default_bytes d.kind d.default node)
    → is_modelled d.kind ≡ true → (bytes : List ℕ) × ((default_by node d ≡ Some bytes) × HasLength d.kind bytes)
default_given node d h m = (default_bytes d.kind d.default node, (rw m refl, h))

pub default_has_length : (sheet : Sheet) (node index sub : ℕ) (e : Entry) → entry_at sheet node index sub ≡ Some e
    → is_modelled e.kind ≡ true
    → (bytes : List ℕ) × ((default_at sheet node index sub ≡ Some bytes) × HasLength e.kind bytes)
unfolding entry_at default_at description_of
default_has_length sheet node index sub e h m = by (origin_of sheet.sections index sub) h
  where
    known : Origin → Described
    known src = known_as sheet.is_three (description_by sub src)

    by : (o : Option Origin) → option_map (entry_by node) (option_map known o) ≡ Some e
        → (bytes : List ℕ) × ((option_and_then (default_by node) (option_map known o) ≡ Some bytes)
        × HasLength e.kind bytes)
    by None g = cc
    by (Some src) g =
        let same : entry_by node (known src) ≡ e = cc in
        rw (← same) (default_given node (known src) (described_length sheet.is_three sub src node)
        (ap (λ (x : Entry). is_modelled x.kind) same ∙ m))

pub values_have_lengths : (sheet : Sheet) (node : ℕ) → HoldEach (shape_of sheet node).entries (defaults_of sheet node)
values_have_lengths sheet node place e h m =
    let found = default_has_length sheet node place.0 place.1 e (sym (shape_at sheet node place.0 place.1) ∙ h) m in
    (found.0, (defaults_at sheet node place.0 place.1 ∙ found.1.0, found.1.1))

-- ---- compact objects

no_limit : (node : ℕ) → limit_at Unsigned8 [] node ≡ None
unfolding limit_at value formula number
no_limit node = refl

pub compact_entry : (sheet : Sheet) (node index : ℕ) (s : Section) (n : ℕ)
    → origin_of sheet.sections index 0 ≡ Some (compact s n)
    → entry_at sheet node index 0
    ≡ Some (record { kind = Unsigned8; access = ReadOnly; low = None; high = None; mappable = false })
unfolding entry_at description_of
compact_entry sheet node index s n h =
    rw h (λ i. Some (record {
      kind = Unsigned8;
      access = ReadOnly;
      low = no_limit node i;
      high = no_limit node i;
      mappable = false;
    }))

pub compact_default : (sheet : Sheet) (node index : ℕ) (s : Section) (n : ℕ)
    → origin_of sheet.sections index 0 ≡ Some (compact s n) → default_at sheet node index 0 ≡ Some (n ∷ [])
unfolding default_at description_of
compact_default sheet node index s n h = rw h refl
