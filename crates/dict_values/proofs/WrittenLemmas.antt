-- What values have where those of others were written over them.
use Rattle.std.proofs.Common.{◌≡◌, ℕ, Bool, List, ◌∷◌, Option, None, Some, true, false, cond, not, IsSome, refl, sym}
use Rattle.std.proofs.Common.{ap, ◌∙◌}
use Rattle.std.proofs.lemmas.Bool.{false≢true}
use Rattle.std.specs.Prelude.{if◌then◌else◌}
use Rattle.std.specs.Option.{option_or}
use Rattle.std.specs.FinMap.{empty, entries, entries_sorted, get, get-empty, get-entries, insert, same_map}
use Rattle.base.specs.Ranges.{is_between}
use Rattle.dict_values.specs.Layers.{HasEach, HasWritten, both_layers}
use Rattle.dict_values.specs.Places.{place_cmp}
use Rattle.dict_values.specs.Restored.{is_kept, with_restored, with_all}
use Rattle.dict_values.specs.Values.{Values}
use Rattle.dict_values.proofs.LayerLemmas.{layered_at}
use Rattle.dict_values.proofs.PlaceLemmas.{places_exact, places_total}
use Rattle.dict_values.proofs.RestoredLemmas.{restored_at, written_at}

-- one more entry is written, if it is kept
pub one_more_written : (first last : ℕ) (inside : Bool) (before rest : List ((ℕ × ℕ) × List ℕ)) (e : (ℕ × ℕ) × List ℕ)
    (old new : Values) (kept : Bool)
    → before ≡ e ∷ rest → kept ≡ is_kept first last inside e.0.0 → new ≡ (if kept then insert old e.0 e.1 else old)
    → with_all first last inside rest new ≡ with_all first last inside before old
one_more_written first last inside before rest e old new kept is test changed = rw (is, changed, test) refl

-- all entries of a map that are kept are written
pub has_written : (first last : ℕ) (inside : Bool) (from old new : Values)
    → new ≡ with_all first last inside (entries from) old
    → HasWritten (λ place. is_kept first last inside place.0) from old new
has_written first last inside from old new is q =
    ap (λ m. get m q) is
    ∙ written_at first last inside (entries from) old q (entries_sorted from)
    ∙ ap (λ o. if is_kept first last inside q.0 then option_or o (get old q) else get old q) (sym (get-entries from q))

module _ (kept : ℕ × ℕ → Bool) where
  unwritten : (b : Bool) (o : Option (List ℕ)) → o ≡ (if b then option_or None o else o)
  unwritten true o = refl
  unwritten false o = refl

  -- where nothing is to be written, all stays
  pub none_written : (from values : Values) → from ≡ empty → HasWritten kept from values values
  none_written from values nothing q =
      unwritten (kept q) (get values q)
      ∙ ap (λ o. if kept q then option_or o (get values q) else get values q)
      (sym (ap (λ (m : Values). get m q) nothing ∙ get-empty place_cmp q))

  in_turn : (b : Bool) (upper lower old : Option (List ℕ))
      → (if b then option_or upper (if b then option_or lower old else old) else
      (if b then option_or lower old else old)) ≡ (if b then option_or (option_or upper lower) old else old)
  in_turn true None lower old = refl
  in_turn true (Some v) lower old = refl
  in_turn false upper lower old = refl

  -- the lower layer and then the upper one are written as what they make together
  pub written_in_turn : (lower upper old between new : Values) → HasWritten kept lower old between
      → HasWritten kept upper between new → HasWritten kept (both_layers lower upper) old new
  written_in_turn lower upper old between new first second q =
      second q
      ∙ ap (λ o. if kept q then option_or (get upper q) o else o) (first q)
      ∙ in_turn (kept q) (get upper q) (get lower q) (get old q)
      ∙ ap (λ o. if kept q then option_or o (get old q) else get old q) (sym (layered_at lower upper q))

module _ (first last : ℕ) where
  abbrev Outside : ℕ × ℕ → Bool
  Outside place = is_kept first last false place.0

  abbrev Inside : ℕ × ℕ → Bool
  Inside place = is_kept first last true place.0

  has_own : (within : Bool) (mine other : Option (List ℕ)) → (IsSome other → not within ≡ true → IsSome mine)
      → (if not within then option_or mine other else other) ≡ cond within other mine
  has_own true mine other h = refl
  has_own false (Some v) other h = refl
  has_own false None None h = refl
  has_own false None (Some v) h = absurd (false≢true (h refl refl))

  -- the other's values, with one's own written outside the range
  pub restored_over : (own other made : Values) → HasEach Outside other own → HasWritten Outside own other made
      → made ≡ with_restored first last other own
  restored_over own other made each written = same_map places_total places_exact _ _ (λ q.
      written q ∙ has_own (is_between first last q.0) (get own q) (get other q) (each q)
      ∙ sym (restored_at first last other own q))

  both_parts : (within : Bool) (mine other : Option (List ℕ))
      → (if within then option_or other (if not within then option_or mine None else None) else
      (if not within then option_or mine None else None)) ≡ cond within other mine
  both_parts true mine None = refl
  both_parts true mine (Some v) = refl
  both_parts false None other = refl
  both_parts false (Some v) other = refl

  -- one's own outside the range and the other's inside it, written over nothing
  pub restored_anew : (own other between made : Values) → HasWritten Outside own empty between
      → HasWritten Inside other between made → made ≡ with_restored first last other own
  restored_anew own other between made mine others = same_map places_total places_exact _ _ (λ q.
      others q
      ∙ ap (λ o. if Inside q then option_or (get other q) o else o)
      (mine q ∙ ap (λ o. if Outside q then option_or (get own q) o else o) (get-empty place_cmp q))
      ∙ both_parts (is_between first last q.0) (get own q) (get other q)
      ∙ sym (restored_at first last other own q))
