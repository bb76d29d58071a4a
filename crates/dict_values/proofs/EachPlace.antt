-- What holds at each entry of a table holds at each place that has a value.
use Rattle.std.proofs.Common.{◌≡◌, ◌↔◌, ℕ, Bool, List, [], ◌∷◌, Option, Some, true, false, cond, IsSome, refl, sym, ap}
use Rattle.std.proofs.Common.{subst, ◌∙◌}
use Rattle.std.proofs.lemmas.Bool.{false≢true}
use Rattle.std.specs.List.{AllByRecursion}
use Rattle.std.specs.Ordering.{is_eq, eq_by_cmp}
use Rattle.std.specs.Cmp.{tied_itself}
use Rattle.std.specs.FinMap.{find, from_entries, get, get-from_entries}
use Rattle.dict_values.specs.Places.{place_cmp}
use Rattle.dict_values.specs.Values.{Values}
use Rattle.dict_values.proofs.PlaceLemmas.{places_exact, places_total, tied}

module _ (P : ℕ × ℕ → Type 0) where
  abbrev pub Each : List ((ℕ × ℕ) × List ℕ) → Type 0
  Each = AllByRecursion (λ e. P e.0)

  at_each : (es : List ((ℕ × ℕ) × List ℕ)) (q : ℕ × ℕ) → Each es → IsSome (find place_cmp q es) → P q
  at_each [] q h some = absurd (false≢true some)
  at_each (e ∷ es) q h some = by (eq_by_cmp place_cmp q e.0) refl (at_each es q h.1) some
    where
      by : (b : Bool) → eq_by_cmp place_cmp q e.0 ≡ b → (IsSome (find place_cmp q es) → P q)
          → IsSome (cond b (Some e.1) (find place_cmp q es)) → P q
      by true same rest s = subst P (sym (places_exact q e.0 (tied _ same))) h.0
      by false other rest s = rest s

  found_first : (e : (ℕ × ℕ) × List ℕ) (o : Option (List ℕ)) → IsSome (cond (eq_by_cmp place_cmp e.0 e.0) (Some e.1) o)
  found_first e o = subst (λ r. IsSome (cond (is_eq r) (Some e.1) o)) (sym (tied_itself places_total e.0)) refl

  found_later : (b : Bool) (v : List ℕ) (o : Option (List ℕ)) → IsSome o → IsSome (cond b (Some v) o)
  found_later true v o h = refl
  found_later false v o h = h

  to_each : (es : List ((ℕ × ℕ) × List ℕ)) → ((q : ℕ × ℕ) → IsSome (find place_cmp q es) → P q) → Each es
  to_each [] h = tt
  to_each (e ∷ es) h = (
    h e.0 (found_first e (find place_cmp e.0 es)),
    to_each es
        (λ q s. h q (found_later (eq_by_cmp place_cmp q e.0) e.1 (find place_cmp q es) s)),
  )

  pub each_place : (es : List ((ℕ × ℕ) × List ℕ)) (table : Values) → from_entries es ≡ table
      → Each es ↔ ((q : ℕ × ℕ) → IsSome (get table q) → P q)
  each_place es table is =
      let at : (q : ℕ × ℕ) → get table q ≡ find place_cmp q es = λ q. ap (λ m. get m q) (sym is)
      ∙ get-from_entries places_total es q in (
        (λ h q s. at_each es q h (subst (λ o. IsSome o) (at q) s)),
        (λ h. to_each es (λ q s. h q (subst (λ o. IsSome o) (sym (at q)) s))),
      )
