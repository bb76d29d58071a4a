-- Values with writes over them.
use Rattle.std.proofs.Common.{◌≡◌, ℕ, cond, List, [], ◌∷◌, ◌++◌, Option, Some, refl, sym, ap, ◌∙◌}
use Rattle.std.specs.Ordering.{eq_by_cmp}
use Rattle.std.specs.FinMap.{get, get-insert, insert}
use Rattle.concise_dcf.specs.declared.write.Write.{Write}
use Rattle.co_dict.specs.Places.{place_cmp}
use Rattle.co_dict.specs.Values.{Values}
use Rattle.co_dict.proofs.PlaceLemmas.{places_total}
use Rattle.concise_dcf.specs.Writes.{place_of}
use Rattle.project_plan.specs.Values.{after_writes}

-- writes after writes
pub written-append : (values : Values) (xs ys : List Write)
    → after_writes values (xs ++ ys) ≡ after_writes (after_writes values xs) ys
written-append values [] ys = refl
written-append values (x ∷ xs) ys = written-append (insert values (place_of x) x.bytes) xs ys

-- the same writes leave the same value where it was the same
pub same_after : (m n : Values) (ws : List Write) (q : ℕ × ℕ) → get m q ≡ get n q
    → get (after_writes m ws) q ≡ get (after_writes n ws) q
same_after m n [] q h = h
same_after m n (w ∷ ws) q h =
    same_after (insert m (place_of w) w.bytes) (insert n (place_of w) w.bytes) ws q
    (get-insert places_total m (place_of w) w.bytes q
    ∙ ap (λ (o : Option (List ℕ)). cond (eq_by_cmp place_cmp q (place_of w)) (Some w.bytes) o) h
    ∙ sym (get-insert places_total n (place_of w) w.bytes q))
