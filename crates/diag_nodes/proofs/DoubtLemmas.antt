-- A default that spells a value at one node, and may spell no other, spells it at each.
use Rattle.std.proofs.Common.{◌≡◌, ◌&&◌, ◌||◌, ℕ, Bool, true, false, cond, List, [], ◌∷◌, Option, Some, None, refl}
use Rattle.std.proofs.Common.{sym, ap, ◌∙◌, filter, filter_map}
use Rattle.std.specs.Prelude.{if◌then◌else◌, is_none, option_and_then}
use Rattle.std.specs.List.{cons_option}
use Rattle.std.specs.Option.{option_map_or}
use Rattle.co_values.specs.declared.data_type.DataType.{DataType}
use Rattle.co_values.specs.Types.{is_modelled}
use Rattle.co_values.specs.Values.{may_vary, value}
use Rattle.co_values.proofs.KeptFormulas.{same_without_node}
use Rattle.eds_device.specs.Described.{default_text, kind_at}
use Rattle.project_plan.specs.Network.{Member}
use Rattle.diag_lines.specs.declared.code.Code.TheVariants.{Unreadable}
use Rattle.diag_lines.specs.declared.diag.Diag.{Diag}
use Rattle.diag_lines.specs.declared.subject.Subject.TheVariants as of
use Rattle.project_plan.specs.Doubtful.{doubtful_places, is_doubtful, spells_none}
use Rattle.diag_nodes.specs.Found.{diagnostic, unreadable_default, unreadable_defaults}
use Rattle.eds_device.specs.Places.{pairs_of}

-- ---- nothing is said of a default that isn't doubtful

module _ (e : ℕ × Member) where
  certain : (place : ℕ × ℕ) → is_doubtful e.1.sheet place ≡ false → unreadable_default e place ≡ None
  unfolding unreadable_default is_doubtful
  certain place h = by (default_text e.1.sheet place.0 place.1) refl
    where
      kind : DataType
      kind = kind_at e.1.sheet place

      said : Bool → Option Diag
      said none = if none then Some (diagnostic Unreadable (of.Default e.0 place.0 place.1)) else None

      of_text : Option (List ℕ) → Option Diag
      of_text o = option_and_then (λ text. said (spells_none e.0 text kind)) o

      never : (b : Bool) → said (b && false) ≡ None
      never true = refl
      never false = refl

      none : (text : List ℕ) (t : Bool) → may_vary kind text ≡ t → (v : Option (List ℕ)) → value kind text 1 ≡ v
          → (t || is_none v) ≡ false → said (spells_none e.0 text kind) ≡ None
      none text true at v is sure = cc
      none text false at None is sure = cc
      none text false at (Some v) is sure =
          ap (λ o. said (is_modelled kind && is_none o)) (same_without_node kind text at e.0 1 ∙ is)
          ∙ never (is_modelled kind)

      by : (o : Option (List ℕ)) → default_text e.1.sheet place.0 place.1 ≡ o → unreadable_default e place ≡ None
      by None is = ap of_text is
      by (Some text) is = ap of_text is
          ∙ none text (may_vary kind text) refl (value kind text 1) refl
          (sym (ap (λ o. option_map_or (λ t. may_vary kind t || is_none (value kind t 1)) o false) is) ∙ h)

  found_among : (places : List (ℕ × ℕ)) → filter_map (unreadable_default e) (filter (is_doubtful e.1.sheet) places)
      ≡ filter_map (unreadable_default e) places
  found_among [] = refl
  found_among (p ∷ ps) = by (is_doubtful e.1.sheet p) refl (found_among ps)
    where
      by : (b : Bool) → is_doubtful e.1.sheet p ≡ b
          → filter_map (unreadable_default e) (filter (is_doubtful e.1.sheet) ps) ≡ filter_map (unreadable_default e) ps
          → filter_map (unreadable_default e) (cond b (p ∷ filter (is_doubtful e.1.sheet) ps)
          (filter (is_doubtful e.1.sheet) ps))
          ≡ cons_option (unreadable_default e p) (filter_map (unreadable_default e) ps)
      by true is rest = ap (cons_option (unreadable_default e p)) rest
      by false is rest = rest ∙ sym (ap (λ o. cons_option o (filter_map (unreadable_default e) ps)) (certain p is))

  pub doubts_suffice : filter_map (unreadable_default e) (doubtful_places e.1.sheet) ≡ unreadable_defaults e
  unfolding unreadable_defaults
  doubts_suffice = found_among (pairs_of e.1.sheet.sections)
