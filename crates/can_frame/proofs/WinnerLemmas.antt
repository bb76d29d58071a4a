-- The winner of several lists, and of one.
use Rattle.std.proofs.Common.{◌≡◌, ℕ, ◌+◌, ◌<◌, Bool, true, false, List, [], ◌∷◌, ◌++◌, length, take, map, get_or}
use Rattle.std.proofs.Common.{Option, Some, None, refl, sym, ap, ◌∙◌, arith, zero-add}
use Rattle.std.specs.Prelude.{All, Contains, if◌then◌else◌, slice_index}
use Rattle.std.specs.List.{enumerate_from}
use Rattle.std.proofs.lemmas.List.{append-nil, get_or-map, length-map, map_more}
use Rattle.std.proofs.lemmas.List.Concat.{flat_map-append}
use Rattle.std.proofs.lemmas.List.Elements.{All-append, All-cons, All-contains, All-nil, All-weaker}
use Rattle.std.proofs.lemmas.List.Elements.{Contains-append_left, Contains-append_right}
use Rattle.std.proofs.lemmas.List.FromFn.{get_or-enumerate_from, length-enumerate_from}
use Rattle.can_frame.specs.declared.contender.Contender.{Contender}
use Rattle.can_frame.specs.declared.purpose.Purpose.TheVariants.{Nmt}
use Rattle.can_frame.specs.declared.waiting.Waiting.{Waiting}
use Rattle.can_frame.specs.Least.{IsFirstLeast}
use Rattle.can_frame.specs.WaitingFrames.{identifiers}
use Rattle.can_frame.specs.Winner.{contenders, contenders_of, is_below, lower, winner_of, IsWinner}
use Rattle.can_frame.proofs.LeastLemmas.{identifier_at}
use Rattle.can_frame.proofs.OrderLemmas.{below-chain, below-itself, below-later, below-neither, below-one_way}

-- none of them is below one
abbrev NoneBelow : Contender → List Contender → Type 0
NoneBelow c cs = All (λ d. is_below d c ≡ false) cs

none_below : (a b : Contender) (cs : List Contender) → is_below a b ≡ false → NoneBelow a cs → NoneBelow b cs
none_below a b cs h none = All-weaker (λ d. is_below d a ≡ false) (λ d. is_below d b ≡ false)
    (λ d below. below-chain d a b below h) cs none

both_above : (c : Contender) (xs ys : List Contender) → NoneBelow c xs → NoneBelow c ys → NoneBelow c (xs ++ ys)
both_above c xs ys g h = All-append (λ d. is_below d c ≡ false) xs ys g h

-- ---- of two lists

of_both : (xs ys : List Contender) (a b : Contender) (t : Bool) → is_below b a ≡ t → IsWinner xs (Some a)
    → IsWinner ys (Some b) → IsWinner (xs ++ ys) (if t then Some b else Some a)
of_both xs ys a b true is g h = (
  Contains-append_right xs ys b h.0,
  both_above b xs ys (none_below a b xs (below-one_way b a is) g.1) h.1,
)
of_both xs ys a b false is g h = (Contains-append_left xs ys a g.0, both_above a xs ys g.1 (none_below b a ys is h.1))

-- of two lists the lower of the winners wins
pub winner-append : (xs ys : List Contender) (a b : Option Contender) → IsWinner xs a → IsWinner ys b
    → IsWinner (xs ++ ys) (lower a b)
winner-append xs ys None b g h = rw g h
winner-append xs ys (Some a) None g h = rw (h, append-nil {A = Contender} xs) g
winner-append xs ys (Some a) (Some b) g h = of_both xs ys a b (is_below b a) refl g h

-- ---- there is exactly one

winner-single : (c : Contender) → IsWinner (c ∷ []) (Some c)
winner-single c = (
  (0, omega arith, refl),
  All-cons (λ d. is_below d c ≡ false) c [] (below-itself c)
      (All-nil (λ d. is_below d c ≡ false)),
)

pub winner_of-wins : (cs : List Contender) → IsWinner cs (winner_of cs)
winner_of-wins [] = refl
winner_of-wins (c ∷ cs) = winner-append (c ∷ []) cs (Some c) (winner_of cs) (winner-single c) (winner_of-wins cs)

none_here : (cs : List Contender) (c : Contender) → cs ≡ [] → Contains cs c → None ≡ Some c
none_here cs c e h = let empty : length cs ≡ 0 = ap length e in absurd (omega (arith, h.1))

not_below_winner : (cs : List Contender) (c d : Contender) → NoneBelow c cs → Contains cs d → is_below d c ≡ false
not_below_winner cs c d none h = All-contains (λ e. is_below e c ≡ false) cs d none h

pub winner-unique : (cs : List Contender) (a b : Option Contender) → IsWinner cs a → IsWinner cs b → a ≡ b
winner-unique cs None None g h = refl
winner-unique cs None (Some b) g h = none_here cs b g h.0
winner-unique cs (Some a) None g h = sym (none_here cs a h g.0)
winner-unique cs (Some a) (Some b) g h =
    ap Some (below-neither a b (not_below_winner cs b a h.1 g.0) (not_below_winner cs a b g.1 h.0))

-- ---- of the frames of one node

pub blank : Waiting
blank = record { purpose = Nmt; frame = record { id = 0; bytes = [] } }

pub length-contenders_of : (node : ℕ) (frames : List Waiting) → length (contenders_of (node, frames)) ≡ length frames
length-contenders_of node frames = grind (
  arith,
  length-map {A = ℕ × Waiting} {B = Contender},
  length-enumerate_from {X = Waiting},
)

pub contender_at : (node : ℕ) (frames : List Waiting) (k : ℕ) (d : Contender) → k < length frames
    → get_or (contenders_of (node, frames)) k d
    ≡ record { id = slice_index (identifiers frames) k; sender = node; place = k }
contender_at node frames k d h =
    let made : ℕ → ℕ → Contender = λ id place. record { id = id; sender = node; place = place } in
    let of : ℕ × Waiting → Contender = λ e. made e.1.frame.id e.0 in
    get_or-map of (enumerate_from 0 frames) k (0, blank) d (rw length-enumerate_from h)
    ∙ ap of (get_or-enumerate_from 0 frames k (0, blank) h)
    ∙ ap (made (get_or frames k blank).frame.id) (zero-add k)
    ∙ ap (λ id. made id k) (sym (identifier_at frames k blank h))

-- the first of those with the least identifier wins
pub first_wins : (node : ℕ) (frames : List Waiting) (place id : ℕ)
    → IsFirstLeast (identifiers frames) (length frames) place → place < length frames
    → id ≡ slice_index (identifiers frames) place
    → IsWinner (contenders_of (node, frames)) (Some (record { id = id; sender = node; place = place }))
first_wins node frames place id h within e =
    let made : ℕ → ℕ → Contender = λ id place. record { id = id; sender = node; place = place } in
    let many = length-contenders_of node frames in (
      (place, omega arith, contender_at node frames place (made id place) within ∙ ap (λ n. made n place) (sym e)),
      λ k d less.
          let less' : k < length frames = omega arith in
          rw (contender_at node frames k d less', e)
          (below-later (slice_index (identifiers frames) place)
          (slice_index (identifiers frames) k) node place k (h.least k less') (h.before k)),
    )

-- ---- of one more list

pub winner_more : {X : Type 0} (list_of : X → ℕ × List Waiting) (xs : List X) (i : ℕ) (d : X) (a b r : Option Contender)
    → i < length xs → IsWinner (contenders (map list_of (take i xs))) a
    → IsWinner (contenders_of (list_of (get_or xs i d))) b → r ≡ lower a b
    → IsWinner (contenders (map list_of (take (i + 1) xs))) r
winner_more {X} list_of xs i d a b r within g h e =
    let front = map list_of (take i xs) in
    let one = list_of (get_or xs i d) in
    rw (
      map_more list_of xs i d within,
      flat_map-append contenders_of front (one ∷ []),
      e,
      append-nil {A = Contender} (contenders_of one),
    )
    (winner-append (contenders front) (contenders_of one) a b g h)

pub ruleset winner_laws = (winner_of-wins, winner-unique, winner-append)
