-- Parameters of which one is taken away.
use Rattle.std.proofs.Common.{◌≡◌, ℕ, List, None, cond, sym, ap, ◌∙◌}
use Rattle.std.specs.Ordering.{eq_by_cmp}
use Rattle.std.specs.Cmp.{eq_by_cmp_equiv}
use Rattle.std.specs.BTreeMap.{is_at}
use Rattle.std.specs.FinMap.{from_entries, get-remove, remove, same_map}
use Rattle.co_dict.specs.Places.{place_cmp}
use Rattle.co_dict.proofs.PlaceLemmas.{get_place, places_exact, places_total, value_at}

-- entries that differ by one that is taken away make maps that differ by it
pub one_removed : {X : Type 0} (es fs : List ((ℕ × ℕ) × X)) (k : ℕ × ℕ)
    → ((q : ℕ × ℕ) → value_at fs q ≡ cond (is_at (place_cmp k) q) None (value_at es q))
    → from_entries {R = place_cmp} fs ≡ remove (from_entries es) k
one_removed es fs k h = same_map places_total places_exact _ _ (λ q.
    get_place fs q ∙ h q ∙ ap (λ b. cond b None (value_at es q)) ((eq_by_cmp_equiv places_total).symm k q)
    ∙ sym (get-remove places_total (from_entries es) k q ∙ ap (cond (eq_by_cmp place_cmp q k) None) (get_place es q)))
