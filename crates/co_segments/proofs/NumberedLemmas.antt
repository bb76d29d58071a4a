-- Segments of a number.
use Rattle.std.proofs.Common.{◌≡◌, ℕ, zero, suc, ◌+◌, ◌<◌, ◌≤◌, Bool, true, false, List, [], ◌∷◌, drop, length, None}
use Rattle.std.proofs.Common.{Some, nat_eq, refl, sym, ap, ◌∙◌, arith}
use Rattle.std.specs.Prelude.{if◌then◌else◌, slice_get}
use Rattle.std.proofs.lemmas.Bool.{false≢true}
use Rattle.std.proofs.lemmas.Bool.Decides.{nat_tests}
use Rattle.std.proofs.lemmas.List.{drop_more}
use Rattle.std.proofs.lemmas.Option.{get_or_from_slice_get, none-some, same_Some, slice_get_within}
use Rattle.can_bus.specs.Bus.{Bus}
use Rattle.image_parts.specs.Contents.{Image}
use Rattle.kept_values.proofs.EntryLemmas.{head_in, tail_in}
use Rattle.co_segments.specs.Placed.{Placed, kept_of, entries_of_number}
use Rattle.co_segments.specs.Segments.{IsStale, Serves, recorded_of}
use Rattle.co_segments.proofs.PlacedLemmas.{one_stale}

has_number : (a b : ℕ) → a ≡ b → nat_eq a b ≡ true
has_number a b h = grind (arith, nat_tests)

-- where none of the number serves, none does
pub all_stale : (image : Image) (number : ℕ) (start : Bus) (es : List (ℕ × Placed))
    → IsStale image (kept_of (entries_of_number number es)) number start → IsStale image (kept_of es) number start
all_stale image number start [] h = h
all_stale image number start (e ∷ es) h = (elim (nat_eq e.1.kept.number number) as
    (λ t. nat_eq e.1.kept.number number ≡ t → IsStale image (kept_of (e ∷ es)) number start) [
      | true ↦ λ t.
          let of = rw t at h in
          one_stale image number start e es (λ s. of e.1.kept (head_in e.1.kept (kept_of (entries_of_number number es))) s)
          (all_stale image number start es (λ k c s. of k (tail_in e.1.kept (kept_of (entries_of_number number es)) k c) s))
      | false ↦ λ t.
          one_stale image number start e es (λ s. false≢true (sym t ∙ has_number e.1.kept.number number s.0))
          (all_stale image number start es (rw t at h))
    ]) refl

-- those of the number have all its reads
pub numbered_recorded : (number : ℕ) (es : List (ℕ × Placed))
    → recorded_of number (kept_of (entries_of_number number es)) ≤ recorded_of number (kept_of es)
numbered_recorded number [] = omega arith
numbered_recorded number (e ∷ es) = (elim (nat_eq e.1.kept.number number) as (λ t. nat_eq e.1.kept.number number ≡ t
    → recorded_of number (kept_of (entries_of_number number (e ∷ es))) ≤ recorded_of number (kept_of (e ∷ es))) [
      | true ↦ λ t. rw (t, t) (omega (arith, numbered_recorded number es))
      | false ↦ λ t. rw t (omega (arith, numbered_recorded number es))
    ]) refl

-- the rest from a place on
pub rest_at : {X : Type 0} (xs : List X) (i : ℕ) (x : X) → slice_get xs i ≡ Some x → drop i xs ≡ x ∷ drop (i + 1) xs
rest_at xs i x h = drop_more xs i x (slice_get_within xs i x h)
    ∙ ap (λ y. y ∷ drop (i + 1) xs) (get_or_from_slice_get xs i x x h)

-- within the list something stands at a place
pub none_there : {X : Type 0} (xs : List X) (i : ℕ) → i < length xs → slice_get xs i ≡ None → ⊥
none_there [] i h e = omega (arith, h)
none_there (x ∷ xs) zero h e = none-some x (sym e)
none_there (x ∷ xs) (suc i) h e = none_there xs i (omega (arith, h)) e

-- one more of the number is passed over, which serves nowhere from the bus
pub one_passed : (image : Image) (number : ℕ) (start : Bus) (es : List (ℕ × Placed)) (i key : ℕ) (s : Placed)
    → slice_get (entries_of_number number es) i ≡ Some (key, s) → (Serves image number start s.kept → ⊥)
    → (IsStale image (kept_of (drop i (entries_of_number number es))) number start → IsStale image (kept_of es) number start)
    → IsStale image (kept_of (drop (i + 1) (entries_of_number number es))) number start → IsStale image (kept_of es) number start
one_passed image number start es i key s is other before h =
    let xs = entries_of_number number es in
    let earlier = rw (rest_at xs i (key, s) is) at before in
    earlier (one_stale image number start (key, s) (drop (i + 1) xs) other h)

-- none has passed
pub none_passed : (image : Image) (number : ℕ) (start : Bus) (es : List (ℕ × Placed)) (key : ℕ) (s : Placed)
    → slice_get (entries_of_number number es) 0 ≡ Some (key, s) → (Serves image number start s.kept → ⊥)
    → IsStale image (kept_of (drop 1 (entries_of_number number es))) number start → IsStale image (kept_of es) number start
none_passed image number start es key s is other =
    one_passed image number start es 0 key s is other (all_stale image number start es)

is_number : (a b : ℕ) → nat_eq a b ≡ true → a ≡ b
is_number a b h = grind (arith, nat_tests)

-- the first of a number has it
first_number : (number : ℕ) (es : List (ℕ × Placed)) (e : ℕ × Placed) → slice_get (entries_of_number number es) 0 ≡ Some e
    → e.1.kept.number ≡ number
first_number number [] e h = absurd (none-some e h)
first_number number (f ∷ es) e h = (elim (nat_eq f.1.kept.number number) as
    (λ t. nat_eq f.1.kept.number number ≡ t → e.1.kept.number ≡ number) [
      | true ↦ λ t.
          let same = same_Some f e (rw t at h) in
          sym (ap (λ (x : ℕ × Placed). x.1.kept.number) same) ∙ is_number f.1.kept.number number t
      | false ↦ λ t. first_number number es e (rw t at h)
    ]) refl

if_of : (b : Bool) (n : ℕ) → b ≡ true → (if b then n else 0) ≡ n
if_of true n h = refl
if_of false n h = absurd (false≢true h)

-- at most all of it
pub if_most : (b : Bool) (n : ℕ) → (if b then n else 0) ≤ n
if_most true n = omega arith
if_most false n = omega arith

-- the reads of the first of a number, and those of the others
pub first_recorded : (number : ℕ) (es : List (ℕ × Placed)) (e : ℕ × Placed) → slice_get (entries_of_number number es) 0 ≡ Some e
    → length e.1.kept.reads + recorded_of number (kept_of (drop 1 (entries_of_number number es)))
    ≤ recorded_of number (kept_of es)
first_recorded number es e h =
    let own = if_of (nat_eq e.1.kept.number number) (length e.1.kept.reads)
    (has_number e.1.kept.number number (first_number number es e h)) in
    let all = rw (rest_at (entries_of_number number es) 0 e h) at (numbered_recorded number es) in
    omega (arith, own, all)
