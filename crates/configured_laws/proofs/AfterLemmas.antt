-- What stands at a place after writes.
use Rattle.std.proofs.Common.{◌≡◌, ◌∙◌, ◌⊎◌, inl, inr, ℕ, Bool, true, false, cond, List, [], ◌∷◌, All, Contains, Some, refl}
use Rattle.std.proofs.Common.{sym, ap, subst}
use Rattle.std.specs.FinMap.{get, get-insert, insert}
use Rattle.std.specs.Ordering.{eq_by_cmp}
use Rattle.std.specs.Cmp.{eq_by_cmp_equiv}
use Rattle.std.proofs.lemmas.List.Elements.{All-head, All-tail}
use Rattle.concise_dcf.specs.declared.write.Write.{Write}
use Rattle.concise_dcf.specs.Writes.{place_of}
use Rattle.co_dict.specs.Places.{place_cmp}
use Rattle.co_dict.specs.Values.{Values}
use Rattle.co_dict.proofs.PlaceLemmas.{places_total}
use Rattle.diag_lines.proofs.ListLemmas.{Contains-nil, Contains-cases}
use Rattle.eds_places.proofs.PlaceLemmas.{alike}
use Rattle.project_plan.specs.Values.{after_writes}

-- each write to a place has these bytes
module _ (q : ℕ × ℕ) (bytes : List ℕ) where
  abbrev pub Same : Write → Type 0
  Same w = place_of w ≡ q → w.bytes ≡ bytes

  at_once : (values : Values) (w : Write) → place_of w ≡ q → w.bytes ≡ bytes
      → get (insert values (place_of w) w.bytes) q ≡ Some bytes
  at_once values w is same =
      get-insert places_total values (place_of w) w.bytes q
      ∙ ap (λ (b : Bool). cond b (Some w.bytes) (get values q)) (tie is) ∙ ap Some same
    where
      tie : place_of w ≡ q → eq_by_cmp place_cmp q (place_of w) ≡ true
      tie is = subst (λ (p : ℕ × ℕ). eq_by_cmp place_cmp q p ≡ true) (sym is) ((eq_by_cmp_equiv places_total).refl q)

  -- so where they stand, they go on standing
  stays : (values : Values) (ws : List Write) → All Same ws → get values q ≡ Some bytes
      → get (after_writes values ws) q ≡ Some bytes
  stays values [] all has = has
  stays values (w ∷ ws) all has =
      stays (insert values (place_of w) w.bytes) ws (All-tail Same w ws all) (next (eq_by_cmp place_cmp q (place_of w)) refl)
    where
      next : (b : Bool) → eq_by_cmp place_cmp q (place_of w) ≡ b → get (insert values (place_of w) w.bytes) q ≡ Some bytes
      next true is = let same : place_of w ≡ q = sym (alike q (place_of w) is) in
          at_once values w same (All-head Same w ws all same)
      next false is =
          get-insert places_total values (place_of w) w.bytes q
          ∙ ap (λ (b : Bool). cond b (Some w.bytes) (get values q)) is ∙ has

  -- and they stand there behind one of them
  pub stands : (values : Values) (ws : List Write) (w : Write) → All Same ws → Contains ws w → place_of w ≡ q
      → get (after_writes values ws) q ≡ Some bytes
  stands values [] w all has is = absurd (Contains-nil w has)
  stands values (x ∷ ws) w all has is = by (Contains-cases x ws w has)
      (λ later. stands (insert values (place_of x) x.bytes) ws w (All-tail Same x ws all) later is)
    where
      by : (x ≡ w) ⊎ Contains ws w
          → (Contains ws w → get (after_writes (insert values (place_of x) x.bytes) ws) q ≡ Some bytes)
          → get (after_writes (insert values (place_of x) x.bytes) ws) q ≡ Some bytes
      by (inl here) rest =
          let at : place_of x ≡ q = ap place_of here ∙ is in
          stays (insert values (place_of x) x.bytes) ws (All-tail Same x ws all)
          (at_once values x at (All-head Same x ws all at))
      by (inr later) rest = rest later
