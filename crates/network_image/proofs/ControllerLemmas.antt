-- What the device holds that the manager runs in: its defaults and its entries but for one, and its writes over them.
use Rattle.std.proofs.Common.{◌≡◌, ◌≢◌, ℕ, ◌==◌, Bool, true, false, not, ◌&&◌, cond, List, [], ◌∷◌, Option, Some, None}
use Rattle.std.proofs.Common.{is_some, option_copied, refl, sym, ap, ◌∙◌}
use Rattle.std.specs.Borrow.{Bor}
use Rattle.std.specs.Prelude.{if◌then◌else◌}
use Rattle.std.specs.FinMap.{FinMap, from_entries, get, get-insert, get-remove, insert, remove, same_map}
use Rattle.std.specs.Ordering.{eq_by_cmp}
use Rattle.std.proofs.lemmas.Bool.{eqb-true, false≢true}
use Rattle.base.proofs.TableLemmas.{alike, apart, removed_elsewhere, removed_there}
use Rattle.co_dict.specs.Places.{place_cmp}
use Rattle.co_dict.specs.Values.{Values}
use Rattle.co_dict.proofs.PlaceLemmas.{places_exact, places_total}
use Rattle.concise_dcf.specs.Writes.{place_of}
use Rattle.concise_dcf.specs.declared.write.Write.{Write}
use Rattle.eds_device.specs.Entries.{given_at}
use Rattle.eds_device.proofs.MapLemmas.{among, get_given, Has}
use Rattle.eds_places.proofs.PlaceLemmas.{has_place}
use Rattle.project_plan.specs.Controller.{defaults_held, producer_time}
use Rattle.project_plan.specs.Values.{after_writes}
use Rattle.network_image.specs.Controller.{is_producer_time, other_writes}

-- ---- the entry

both_of : (a b : Bool) → a && b ≡ true → (a ≡ true) × (b ≡ true)
both_of true b h = (refl, h)
both_of false b h = cc

pub its_time : (place : ℕ × ℕ) → is_producer_time place ≡ true → place ≡ producer_time
its_time place test =
    let parts = both_of (place.0 == 0x1017) (place.1 == 0) test in
    let index : place.0 ≡ 0x1017 = eqb-true place.0 0x1017 parts.0 in
    let sub : place.1 ≡ 0 = eqb-true place.1 0 parts.1 in
    λ i. (index i, sub i)

pub another : (place : ℕ × ℕ) → is_producer_time place ≡ false → place ≢ producer_time
another place test same = false≢true (sym test ∙ ap is_producer_time same)

-- ---- without it

seen_once : {X : Type 0} (t : Bool) (x y z : X) → cond t x (cond t y z) ≡ cond t x z
seen_once true x y z = refl
seen_once false x y z = refl

swapped : {X : Type 0} (t u : Bool) (x y z : X) → (t ≡ true → u ≡ false) → cond t x (cond u y z) ≡ cond u y (cond t x z)
swapped true u x y z other = rw (other refl) refl
swapped false u x y z other = refl

module _ {X : Type 0} where
  -- an entry that has nothing, taken away
  pub removed_none : (m : FinMap place_cmp X) (k : ℕ × ℕ) → get m k ≡ None → remove m k ≡ m
  removed_none m k none = same_map places_total places_exact (remove m k) m (λ q.
      get-remove places_total m k q ∙ by q (eq_by_cmp place_cmp q k) refl)
    where
      by : (q : ℕ × ℕ) (t : Bool) → eq_by_cmp place_cmp q k ≡ t → cond t None (get m q) ≡ get m q
      by q true same = sym (ap (get m) (alike places_total places_exact q k same) ∙ none)
      by q false other = refl

  -- one that is given something, and then taken away
  removed_put : (m : FinMap place_cmp X) (k : ℕ × ℕ) (x : X) → remove (insert m k x) k ≡ remove m k
  removed_put m k x = same_map places_total places_exact (remove (insert m k x) k) (remove m k) (λ q.
      get-remove places_total (insert m k x) k q
      ∙ ap (cond (eq_by_cmp place_cmp q k) None) (get-insert places_total m k x q)
      ∙ seen_once (eq_by_cmp place_cmp q k) None (Some x) (get m q)
      ∙ sym (get-remove places_total m k q))

  -- another that is given something
  put_beside : (m : FinMap place_cmp X) (k l : ℕ × ℕ) (x : X) → k ≢ l
      → insert (remove m l) k x ≡ remove (insert m k x) l
  put_beside m k l x other = same_map places_total places_exact (insert (remove m l) k x) (remove (insert m k x) l) (λ q.
      get-insert places_total (remove m l) k x q
      ∙ ap (cond (eq_by_cmp place_cmp q k) (Some x)) (get-remove places_total m l q)
      ∙ swapped (eq_by_cmp place_cmp q k) (eq_by_cmp place_cmp q l) (Some x) None (get m q)
      (λ tie. apart places_total places_exact q l
      (λ same. other (sym (alike places_total places_exact q k tie) ∙ same)))
      ∙ ap (cond (eq_by_cmp place_cmp q l) None) (sym (get-insert places_total m k x q))
      ∙ sym (get-remove places_total (insert m k x) l q))

  -- a map that has at each of these places what another has there, but for one
  pub rebuilt : (f : ℕ × ℕ → Option X) (places : List (ℕ × ℕ)) (m new : FinMap place_cmp X) (k : ℕ × ℕ)
      → m ≡ from_entries {R = place_cmp} (given_at f places) → Has (get (remove m k)) new places → new ≡ remove m k
  rebuilt f places m new k made has = same_map places_total places_exact new (remove m k) (λ q.
      has q ∙ by q (has_place q places) refl)
    where
      nothing : (q : ℕ × ℕ) → has_place q places ≡ false → get m q ≡ None
      nothing q none =
          ap (λ (m : FinMap place_cmp X). get m q) made ∙ get_given f places q
          ∙ ap (λ (t : Bool). let other : Option X = None in if t then f q else other) none

      gone : (t : Bool) (o : Option X) → o ≡ None → None ≡ cond t None o
      gone true o none = refl
      gone false o none = sym none

      by : (q : ℕ × ℕ) (t : Bool) → has_place q places ≡ t
          → (let other : Option X = None in if t then get (remove m k) q else other) ≡ get (remove m k) q
      by q true there = refl
      by q false none = gone (eq_by_cmp place_cmp q k) (get m q) (nothing q none) ∙ sym (get-remove places_total m k q)

-- where a look-up found nothing, there is nothing
pub found_none : {X : Type 0} (o : Option (Bor X)) (there : Option X) → is_some o ≡ false → option_copied o ≡ there
    → there ≡ None
found_none None there none is = sym is
found_none (Some x) there none is = cc

-- what is left of a map without it
module _ {X : Type 0} (m : FinMap place_cmp X) (place : ℕ × ℕ) where
  pub none_left : is_producer_time place ≡ true → get (remove m producer_time) place ≡ None
  none_left test =
      ap (get (remove m producer_time)) (its_time place test)
      ∙ removed_there places_total places_exact m producer_time

  pub left_beside : is_producer_time place ≡ false → get (remove m producer_time) place ≡ get m place
  left_beside test = removed_elsewhere places_total places_exact m producer_time place (another place test)

-- ---- its writes

-- writes to other entries, over values without it
others_after : (values : Values) (ws : List Write)
    → after_writes (remove values producer_time) (other_writes ws) ≡ remove (after_writes values ws) producer_time
others_after values [] = refl
others_after values (w ∷ ws) = by (is_producer_time (place_of w)) refl (others_after (insert values (place_of w) w.bytes) ws)
  where
    rest : Values → Values
    rest v = after_writes v (other_writes ws)

    by : (t : Bool) → is_producer_time (place_of w) ≡ t
        → rest (remove (insert values (place_of w) w.bytes) producer_time)
        ≡ remove (after_writes (insert values (place_of w) w.bytes) ws) producer_time
        → after_writes (remove values producer_time) (cond (not t) (w ∷ other_writes ws) (other_writes ws))
        ≡ remove (after_writes (insert values (place_of w) w.bytes) ws) producer_time
    by true is later =
        ap rest (sym (removed_put values producer_time w.bytes))
        ∙ ap (λ (place : ℕ × ℕ). rest (remove (insert values place w.bytes) producer_time)) (sym (its_time (place_of w) is))
        ∙ later
    by false is later =
        ap rest (put_beside values (place_of w) producer_time w.bytes (another (place_of w) is)) ∙ later

-- the defaults without it, and its writes over them
pub configured : (defaults others values : Values) (ws : List Write) → others ≡ remove defaults producer_time
    → values ≡ after_writes others (other_writes ws) → values ≡ defaults_held (Some ws) defaults
configured defaults others values ws without written =
    written ∙ ap (λ (v : Values). after_writes v (other_writes ws)) without ∙ others_after defaults ws
