-- What two layers have at a place.
use Rattle.std.proofs.Common.{◌≡◌, ◌↔◌, ℕ, Bool, IsTrue, is_some, List, ◌++◌, Option, Some, None, true, false, cond}
use Rattle.std.proofs.Common.{IsSome, refl, sym, ap, subst, ◌∙◌}
use Rattle.std.proofs.lemmas.Bool.{false≢true}
use Rattle.std.specs.Option.{option_or}
use Rattle.std.specs.Ordering.{eq_by_cmp}
use Rattle.std.specs.FinMap.{empty, entries, find, get, get-empty, get-entries, get-from_entries, get-insert, insert}
use Rattle.std.specs.FinMap.{same_map}
use Rattle.dict_values.specs.Layers.{AgreeOn, HasEach, both_layers}
use Rattle.dict_values.specs.Places.{place_cmp}
use Rattle.dict_values.specs.Values.{Values}
use Rattle.dict_values.proofs.PlaceLemmas.{places_exact, places_total}
use Rattle.dict_values.proofs.RestoredLemmas.{find-append}

pub layered_at : (lower upper : Values) (q : ℕ × ℕ)
    → get (both_layers lower upper) q ≡ option_or (get upper q) (get lower q)
unfolding both_layers
layered_at lower upper q =
    get-from_entries places_total (entries upper ++ entries lower) q
    ∙ find-append q (entries upper) (entries lower)
    ∙ ap (λ o. option_or o (find place_cmp q (entries lower))) (sym (get-entries upper q))
    ∙ ap (option_or (get upper q)) (sym (get-entries lower q))

pub found_above : (lower upper : Values) (q : ℕ × ℕ) (bytes : List ℕ) → Some bytes ≡ get upper q
    → Some bytes ≡ get (both_layers lower upper) q
found_above lower upper q bytes is = sym (layered_at lower upper q ∙ ap (λ o. option_or o (get lower q)) (sym is))

pub found_below : (lower upper : Values) (q : ℕ × ℕ) → None ≡ get upper q → get lower q ≡ get (both_layers lower upper) q
found_below lower upper q is = sym (layered_at lower upper q ∙ ap (λ o. option_or o (get lower q)) (sym is))

pub none_layered : (lower upper : Values) → lower ≡ empty → upper ≡ empty → both_layers lower upper ≡ empty
none_layered lower upper nothing none_above = same_map places_total places_exact _ _ (λ q.
    layered_at lower upper q
    ∙ ap (λ (m : Values). option_or (get m q) (get lower q)) none_above
    ∙ ap (λ (m : Values). option_or (get (empty {R = place_cmp}) q) (get m q)) nothing
    ∙ ap (λ o. option_or o (get (empty {R = place_cmp}) q)) (get-empty place_cmp q))

either : (test : Bool) (bytes : List ℕ) (above below : Option (List ℕ))
    → option_or (cond test (Some bytes) above) below ≡ cond test (Some bytes) (option_or above below)
either true bytes above below = refl
either false bytes above below = refl

pub written_above : (lower upper : Values) (k : ℕ × ℕ) (bytes : List ℕ)
    → both_layers lower (insert upper k bytes) ≡ insert (both_layers lower upper) k bytes
written_above lower upper k bytes = same_map places_total places_exact _ _ (λ q.
    layered_at lower (insert upper k bytes) q
    ∙ ap (λ o. option_or o (get lower q)) (get-insert places_total upper k bytes q)
    ∙ either (eq_by_cmp place_cmp q k) bytes (get upper q) (get lower q)
    ∙ sym (get-insert places_total (both_layers lower upper) k bytes q
    ∙ ap (cond (eq_by_cmp place_cmp q k) (Some bytes)) (layered_at lower upper q)))

pub bare : (lower upper : Values) (q : ℕ × ℕ) → upper ≡ empty → get (both_layers lower upper) q ≡ get lower q
bare lower upper q nothing =
    layered_at lower upper q ∙ ap (λ (m : Values). option_or (get m q) (get lower q)) nothing
    ∙ ap (λ o. option_or o (get lower q)) (get-empty place_cmp q)

pub written_below : (lower upper : Values) (k : ℕ × ℕ) (bytes : List ℕ) → upper ≡ empty
    → both_layers (insert lower k bytes) upper ≡ insert (both_layers lower upper) k bytes
written_below lower upper k bytes nothing = same_map places_total places_exact _ _ (λ q.
    bare (insert lower k bytes) upper q nothing
    ∙ get-insert places_total lower k bytes q
    ∙ sym (get-insert places_total (both_layers lower upper) k bytes q
    ∙ ap (cond (eq_by_cmp place_cmp q k) (Some bytes)) (bare lower upper q nothing)))

-- ---- where two are the same

pub agree_where_same : (places a b : Values) → a ≡ b → AgreeOn places a b
agree_where_same places a b is q some = ap (λ m. get m q) is

none_there : (places : Values) (q : ℕ × ℕ) → places ≡ empty → IsSome (get places q) → ⊥
none_there places q nothing some = false≢true
    (sym (ap is_some (ap (λ (m : Values). get m q) nothing ∙ get-empty place_cmp q)) ∙ some)

pub agree_nowhere : (places a b : Values) → places ≡ empty → IsTrue true ↔ AgreeOn places a b
agree_nowhere places a b nothing = ((λ t q some. absurd (none_there places q nothing some)), (λ h. refl))

pub has_nowhere : (kept : ℕ × ℕ → Bool) (places values : Values) → places ≡ empty → HasEach kept places values
has_nowhere kept places values nothing q some k = absurd (none_there places q nothing some)

module _ (kept : ℕ × ℕ
    → Bool) (lower upper both values : Values) (is : both_layers lower upper ≡ both) (below : HasEach kept lower values)
    (above : HasEach kept upper values) where
  pub has_both : HasEach kept both values
  has_both q some k = by (get upper q) refl
      (subst (λ o. IsSome o) (ap (λ m. get m q) (sym is) ∙ layered_at lower upper q) some)
    where
      by : (o : Option (List ℕ)) → get upper q ≡ o → IsSome (option_or o (get lower q)) → IsSome (get values q)
      by None at s = below q s k
      by (Some v) at s = above q (ap is_some at) k

module _ (lower upper a other_lower other_upper b : Values) (is_a : both_layers lower upper ≡ a)
    (is_b : both_layers other_lower other_upper ≡ b)
    (above : AgreeOn upper a b) (others_above : AgreeOn other_upper a b) where
  below_at : (q : ℕ × ℕ) → get upper q ≡ None → get a q ≡ get lower q
  below_at q at = ap (λ m. get m q) (sym is_a) ∙ sym (found_below lower upper q (sym at))

  other_below_at : (q : ℕ × ℕ) → get other_upper q ≡ None → get b q ≡ get other_lower q
  other_below_at q at = ap (λ m. get m q) (sym is_b) ∙ sym (found_below other_lower other_upper q (sym at))

  same_by : ((q : ℕ × ℕ) → get a q ≡ get lower q → get b q ≡ get other_lower q → get a q ≡ get b q) → a ≡ b
  same_by rest = same_map places_total places_exact a b (λ q. by q (get upper q) (get other_upper q) refl refl)
    where
      by : (q : ℕ × ℕ) (o p : Option (List ℕ)) → get upper q ≡ o → get other_upper q ≡ p → get a q ≡ get b q
      by q (Some v) p at other_at = above q (ap is_some at)
      by q None (Some w) at other_at = others_above q (ap is_some other_at)
      by q None None at other_at = rest q (below_at q at) (other_below_at q other_at)

  -- the layers below are the same
  pub same_where_like : lower ≡ other_lower → a ≡ b
  same_where_like like = same_by (λ q mine others. mine ∙ ap (λ m. get m q) like ∙ sym others)

  -- or agree everywhere
  pub same_where_all : AgreeOn lower a b → AgreeOn other_lower a b → a ≡ b
  same_where_all below others_below = same_by
      (λ q mine others. by q (get lower q) (get other_lower q) refl refl mine others)
    where
      by : (q : ℕ × ℕ) (o p : Option (List ℕ)) → get lower q ≡ o → get other_lower q ≡ p → get a q ≡ get lower q
          → get b q ≡ get other_lower q → get a q ≡ get b q
      by q (Some v) p at other_at mine others = below q (ap is_some at)
      by q None (Some w) at other_at mine others = others_below q (ap is_some other_at)
      by q None None at other_at mine others = mine ∙ at ∙ sym (others ∙ other_at)
