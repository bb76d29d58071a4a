-- The windows that are put into a table one after the other.
use Rattle.std.proofs.Common.{◌≡◌, ◌≢◌, ℕ, ◌+◌, ◌≤◌, ◌==◌, Bool, true, false, cond, List, [], ◌∷◌, Option, Some, None}
use Rattle.std.proofs.Common.{Result, IfOk, IfSome, refl, sym, ap, ◌∙◌, arith}
use Rattle.std.specs.Prelude.{nat_lt}
use Rattle.std.specs.FinMap.{empty, get, get-empty, get-insert}
use Rattle.std.specs.Ordering.{nat_cmp}
use Rattle.std.proofs.lemmas.Bool.{eq-eqb, eqb-true, false≢true}
use Rattle.std.proofs.lemmas.Bool.Decides.{nat_tests}
use Rattle.std.proofs.lemmas.Cmp.{nat_cmp_total}
use Rattle.std.proofs.lemmas.Map.Lookups.{exact_unsigned}
use Rattle.std.specs.declared.rc.Rc.{Rc}
use Rattle.base.specs.Tables.{Each}
use Rattle.base.proofs.EachLemmas.{each_found}
use Rattle.image_parts.specs.Shared.{value_behind}
use Rattle.network_image.proofs.PointerLemmas.{copied_fits}
use Rattle.base.proofs.TableLemmas.{apart, put_there}
use Rattle.co_scenario.specs.declared.timed_step.TimedStep.{TimedStep}
use Rattle.network_image.specs.Held.{with_steps, Windows}
use Rattle.network_image.specs.Steps.{unless_none}

module _ (steps : ℕ → List TimedStep) where
  -- the windows below a number are there, where they have steps
  pub AreBelow : ℕ → Windows → Type 0
  AreBelow i windows = (j : ℕ) → get windows j ≡ cond (nat_lt j i) (unless_none (steps j)) None

  -- none at first
  pub none_below : (windows : Windows) → windows ≡ empty → AreBelow 0 windows
  unfolding AreBelow
  none_below windows none j = ap (λ (w : Windows). get w j) none ∙ get-empty nat_cmp j
      ∙ ap (λ t. cond t (unless_none (steps j)) None) (sym (none_under j))
    where
      none_under : (j : ℕ) → nat_lt j 0 ≡ false
      none_under j = grind (arith, nat_tests)

  here : (i : ℕ) (windows : Windows) (own : List TimedStep) → get windows i ≡ None
      → get (with_steps i own windows) i ≡ unless_none own
  here i windows [] none = none
  here i windows (s ∷ own) none = put_there nat_cmp_total exact_unsigned windows i (s ∷ own)

  elsewhere : (i j : ℕ) (windows : Windows) (own : List TimedStep) → j ≢ i
      → get (with_steps i own windows) j ≡ get windows j
  elsewhere i j windows [] other = refl
  elsewhere i j windows (s ∷ own) other =
      get-insert nat_cmp_total windows i (s ∷ own) j ∙ ap (λ t. cond t (Some (s ∷ own)) (get windows j))
      (apart nat_cmp_total exact_unsigned j i other)

  not_below : (i : ℕ) → nat_lt i i ≡ false
  not_below i = grind (arith, nat_tests)

  now_below : (i : ℕ) → nat_lt i (i + 1) ≡ true
  now_below i = grind (arith, nat_tests)

  same_below : (i j : ℕ) → (j == i) ≡ false → nat_lt j i ≡ nat_lt j (i + 1)
  same_below i j other = grind (arith, nat_tests)

  -- one more
  pub next_window : (i : ℕ) (windows after : Windows) → after ≡ with_steps i (steps i) windows → AreBelow i windows
      → AreBelow (i + 1) after
  unfolding AreBelow
  next_window i windows after is are j = ap (λ (w : Windows). get w j) is ∙ by (j == i) refl
    where
      by : (t : Bool) → (j == i) ≡ t → get (with_steps i (steps i) windows) j ≡ cond (nat_lt j (i + 1))
          (unless_none (steps j)) None
      by true same =
          let one : j ≡ i = eqb-true j i same in
          ap (get (with_steps i (steps i) windows)) one
          ∙ here i windows (steps i) (are i ∙ ap (λ t. cond t (unless_none (steps i)) None) (not_below i))
          ∙ sym (ap (λ k. cond (nat_lt k (i + 1)) (unless_none (steps k)) None) one
          ∙ ap (λ t. cond t (unless_none (steps i)) None) (now_below i))
      by false other =
          elsewhere i j windows (steps i) (λ one. false≢true (sym other ∙ eq-eqb j i one)) ∙ are j
          ∙ ap (λ t. cond t (unless_none (steps j)) None) (same_below i j other)

  -- all are there, where none has steps behind the last
  pub all_below : (last : ℕ) (windows : Windows) → AreBelow last windows → ((j : ℕ) → last ≤ j → steps j ≡ []) → (j : ℕ)
      → get windows j ≡ unless_none (steps j)
  unfolding AreBelow
  all_below last windows are none j = are j ∙ by (nat_lt j last) refl
    where
      by : (t : Bool) → nat_lt j last ≡ t → cond t (unless_none (steps j)) None ≡ unless_none (steps j)
      by true below = refl
      by false above = let late : last ≤ j = grind (arith, nat_tests) in ap unless_none (sym (none j late))

-- what holds of each window holds of the one that is handed out
pub handed_fits : {Z E : Type 0} (P : ℕ → List TimedStep → Type 0) (Q : List TimedStep → Type 0) (windows : Windows)
    (i : ℕ) (steps : List TimedStep)
    → Each P windows → Some steps ≡ get windows i → (P i steps → Q steps)
    → (result : Result (Option (Rc (List TimedStep) Z)) E) → IfOk result (λ copy. value_behind copy ≡ Some steps)
    → IfOk result (λ copy. IfSome (value_behind copy) Q)
handed_fits P Q windows i steps each there follows result is =
    copied_fits Q result steps is (follows (each_found P windows i steps each (sym there)))
