-- Whether an entry that is there may be written.
use Rattle.std.proofs.Common.{◌≡◌, ℕ, Bool, not, true, false, [], ◌∷◌, Option, Some, sym, ap, ◌∙◌}
use Rattle.std.specs.Prelude.{Result, is_none}
use Rattle.std.specs.Option.{option_map_or}
use Rattle.std.specs.FinMap.{get}
use Rattle.co_values.specs.Types.{is_modelled}
use Rattle.co_dict.specs.declared.abort.Abort.{Abort}
use Rattle.co_dict.specs.declared.entry.Entry.{Entry}
use Rattle.co_dict.specs.Aborts.{no_object, no_sub_index, unsupported_access, read_only}
use Rattle.co_dict.specs.Accesses.{is_writable}
use Rattle.co_dict.specs.Checks.{access_check, first_refusal}
use Rattle.co_dict.specs.Shapes.{Shaped}
use Rattle.co_dict.proofs.IndexLemmas.{index_there}

-- whether its index is there, and the entry
abbrev by_entry : Bool → Option Entry → Result (Unit {0}) Abort
by_entry found entry = first_refusal (
    (not found, no_object)
    ∷ (is_none entry, no_sub_index)
    ∷ (option_map_or (λ (e : Entry). not (is_modelled e.kind)) entry false, unsupported_access)
    ∷ (option_map_or (λ (e : Entry). not (is_writable e.access)) entry false, read_only)
    ∷ [])

-- the two tests that are left where it is there
abbrev pub by_tests : Bool → Bool → Result (Unit {0}) Abort
by_tests modelled writable = first_refusal ((not modelled, unsupported_access) ∷ (not writable, read_only) ∷ [])

pub access_there : (shape : Shaped) (place : ℕ × ℕ) (entry : Entry) → get shape.entries place ≡ Some entry
    → access_check shape place ≡ by_tests (is_modelled entry.kind) (is_writable entry.access)
unfolding access_check
access_there shape place entry there =
    ap (λ (found : Bool). by_entry found (get shape.entries place))
    (index_there shape place.0 place.1 entry (sym there))
    ∙ ap (by_entry true) there

-- and what they say
pub access_by : (shape : Shaped) (place : ℕ × ℕ) (entry : Entry) (modelled writable : Bool)
    → is_modelled entry.kind ≡ modelled → is_writable entry.access ≡ writable → get shape.entries place ≡ Some entry
    → by_tests modelled writable ≡ access_check shape place
access_by shape place entry modelled writable m w there = sym (access_there shape place entry there
    ∙ ap (λ (t : Bool). by_tests t (is_writable entry.access)) m
    ∙ ap (by_tests modelled) w)
