-- Which frames contend, and what the winner is to them.
use Rattle.std.proofs.Common.{◌≡◌, ℕ, zero, suc, ◌<◌, ◌≤◌, false, List, [], ◌∷◌, length, get_or, Some, None, ◌⊎◌, inl}
use Rattle.std.proofs.Common.{inr, sym, ap, ◌∙◌, arith}
use Rattle.std.specs.Prelude.{nat_lt, ◌==◌, ◌&&◌, ◌||◌, Contains, slice_get}
use Rattle.std.proofs.lemmas.Bool.Decides.{nat_tests}
use Rattle.std.proofs.lemmas.List.Elements.{All-contains, Contains-append_cases, Contains-append_left}
use Rattle.std.proofs.lemmas.List.Elements.{Contains-append_right}
use Rattle.std.proofs.lemmas.Option.{get_or_from_slice_get, slice_get-get_or, slice_get_within}
use Rattle.can_frame.specs.declared.contender.Contender.{Contender}
use Rattle.can_frame.specs.declared.waiting.Waiting.{Waiting}
use Rattle.can_frame.specs.Winner.{contenders, contenders_of, is_below, IsWinner, WaitsAt}
use Rattle.can_frame.proofs.LeastLemmas.{identifier_at}
use Rattle.can_frame.proofs.WinnerLemmas.{blank, contender_at, length-contenders_of}

-- ---- of one list

contends_here : (node place : ℕ) (frames : List Waiting) (w : Waiting) → slice_get frames place ≡ Some w
    → Contains (contenders_of (node, frames)) (record { id = w.frame.id; sender = node; place = place })
contends_here node place frames w h =
    let made : ℕ → Contender = λ id. record { id = id; sender = node; place = place } in
    let within : place < length frames = slice_get_within frames place w h in
    let many = length-contenders_of node frames in (
      place,
      omega arith,
      contender_at node frames place (made w.frame.id) within
          ∙ ap made (identifier_at frames place w within
          ∙ ap (λ (v : Waiting). v.frame.id) (get_or_from_slice_get frames place w w h)),
    )

waits_here : (node : ℕ) (frames : List Waiting) (c : Contender) → Contains (contenders_of (node, frames)) c
    → (c.sender ≡ node) × ((w : Waiting) × ((slice_get frames c.place ≡ Some w) × (c.id ≡ w.frame.id)))
waits_here node frames c h =
    let k = h.0 in
    let many = length-contenders_of node frames in
    let within : k < length frames = omega (arith, h.1) in
    let is = sym (contender_at node frames k c within) ∙ h.2 in (
      sym (ap (λ (d : Contender). d.sender) is),
      (
        get_or frames k blank,
        (
          sym (ap (λ (d : Contender). slice_get frames d.place) is) ∙ slice_get-get_or frames k blank within,
          sym (ap (λ (d : Contender). d.id) is) ∙ identifier_at frames k blank within,
        ),
      ),
    )

-- ---- of several

contains_more : {X : Type 0} (xs : List X) (y x : X) → Contains xs x → Contains (y ∷ xs) x
contains_more xs y x h = (suc h.0, omega (arith, h.1), h.2)

contends_at : (lists : List (ℕ × List Waiting)) (node place : ℕ) (w : Waiting) (frames : List Waiting) (k : ℕ)
    → k < length lists → get_or lists k (node, frames) ≡ (node, frames) → slice_get frames place ≡ Some w
    → Contains (contenders lists) (record { id = w.frame.id; sender = node; place = place })
contends_at [] node place w frames k within is h = absurd (omega (arith, within))
contends_at (list ∷ lists) node place w frames zero within is h =
    rw is (Contains-append_left (contenders_of (node, frames)) (contenders lists)
    (record { id = w.frame.id; sender = node; place = place }) (contends_here node place frames w h))
contends_at (list ∷ lists) node place w frames (suc k) within is h =
    Contains-append_right (contenders_of list) (contenders lists)
    (record { id = w.frame.id; sender = node; place = place })
    (contends_at lists node place w frames k (omega (arith, within)) is h)

pub all_contend : (lists : List (ℕ × List Waiting)) (node place : ℕ) (w : Waiting) → WaitsAt lists node place w
    → Contains (contenders lists) (record { id = w.frame.id; sender = node; place = place })
all_contend lists node place w h = contends_at lists node place w h.0 h.1.0.0 h.1.0.1 h.1.0.2 h.1.1

first_list : (list : ℕ × List Waiting) (lists : List (ℕ × List Waiting)) (node : ℕ) → node ≡ list.0
    → Contains (list ∷ lists) (node, list.1)
first_list list lists node e = let named : ℕ → ℕ × List Waiting = λ n. (n, list.1) in (0, omega arith, ap named (sym e))

pub none_else_contends : (lists : List (ℕ × List Waiting)) (c : Contender) → Contains (contenders lists) c
    → (w : Waiting) × (WaitsAt lists c.sender c.place w × (c.id ≡ w.frame.id))
none_else_contends [] c h = absurd (omega (arith, h.1))
none_else_contends (list ∷ lists) c h = elim (Contains-append_cases (contenders_of list) (contenders lists) c h) [
  | inl here ↦ let w = waits_here list.0 list.1 c here
      in (w.1.0, ((list.1, (first_list list lists c.sender w.0, w.1.1.0)), w.1.1.1))
  | inr there ↦ let w = none_else_contends lists c there
      in (w.0, ((w.1.0.0, (contains_more lists list (c.sender, w.1.0.0) w.1.0.1.0, w.1.0.1.1)), w.1.1))
]

pub ruleset contenders_both = (all_contend, none_else_contends)

-- ---- and the winner

pub none_waits : (lists : List (ℕ × List Waiting)) (node place : ℕ) (w : Waiting) → IsWinner (contenders lists) None
    → WaitsAt lists node place w → ⊥
none_waits lists node place w none h =
    let empty : length (contenders lists) ≡ 0 = ap length none in
    let there = all_contend lists node place w h in
    omega (arith, there.1)

in_order : (i n p j m q : ℕ) → (nat_lt j i || (j == i) && (nat_lt m n || (m == n) && nat_lt q p)) ≡ false
    → (i < j) ⊎ ((i ≡ j) × ((n < m) ⊎ ((n ≡ m) × (p ≤ q))))
in_order i n p j m q h = grind (arith, nat_tests)

pub winner_first : (lists : List (ℕ × List Waiting)) (c : Contender) (node place : ℕ) (w : Waiting)
    → IsWinner (contenders lists) (Some c) → WaitsAt lists node place w
    → (c.id < w.frame.id) ⊎ ((c.id ≡ w.frame.id) × ((c.sender < node) ⊎ ((c.sender ≡ node) × (c.place ≤ place))))
winner_first lists c node place w wins h =
    in_order c.id c.sender c.place w.frame.id node place
    (All-contains (λ d. is_below d c ≡ false) (contenders lists)
    (record { id = w.frame.id; sender = node; place = place }) wins.1 (all_contend lists node place w h))
