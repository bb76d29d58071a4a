-- A computation that asks for values by name. What it asks next depends on the values that it already got.
use Rattle.std.specs.Prelude.{◌≡◌, ℕ, zero, suc, ◌+◌, List, [], ◌∷◌, ◌++◌}

pub data Asking (N V A : Type 0) : Type 0 where
  Answer : A → Asking N V A
  Ask : N → (V → Asking N V A) → Asking N V A

-- what it answers under an image
abbrev pub outcome : {N V A : Type 0} → Asking N V A → (N → V) → A
outcome (Answer a) image = a
outcome (Ask n k) image = outcome (k (image n)) image

-- what it reads under an image, in order, with repeats
abbrev pub reads : {N V A : Type 0} → Asking N V A → (N → V) → List (N × V)
reads (Answer a) image = []
reads (Ask n k) image = (n, image n) ∷ reads (k (image n)) image

-- first the one, and then what its answer asks for
abbrev pub bind : {N V A B : Type 0} → Asking N V A → (A → Asking N V B) → Asking N V B
bind (Answer a) f = f a
bind (Ask n k) f = Ask n (λ v. bind (k v) f)

-- each of a list of states in turn: the new states, and what all of them told
abbrev pub visit : {N V S L : Type 0} → (S → Asking N V (S × List L)) → List S → Asking N V (List S × List L)
visit step [] = Answer ([], [])
visit step (s ∷ ss) = bind (step s) (λ r. bind (visit step ss) (λ q. Answer (r.0 ∷ q.0, r.1 ++ q.1)))

-- the image has these values at these names
abbrev pub Agrees : {N V : Type 0} → (N → V) → List (N × V) → Type 0
Agrees image [] = Unit {0}
Agrees image (r ∷ rs) = (image r.0 ≡ r.1) × Agrees image rs

-- count turns from the moment t on: the last state, and what all of them told
unfoldable pub turns : {N V S L : Type 0} → (ℕ → S → Asking N V (S × List L)) → ℕ → ℕ → S → Asking N V (S × List L)
turns step zero t s = Answer (s, [])
turns step (suc count) t s = bind (step t s) (λ r. bind (turns step count (t + 1) r.0) (λ q. Answer (q.0, r.1 ++ q.1)))

-- what two runs come to and tell, the second from where the first ends
abbrev pub then_run : {S L : Type 0} → S × List L → (S → S × List L) → S × List L
then_run r f = ((f r.0).0, r.1 ++ (f r.0).1)

-- what stands behind a device that hands out values: the image, and what it handed out
pub record Seen (N V : Type 0) : Type 0 where
  pub image : N → V
  pub asked : List (N × V)

-- one value is handed out
abbrev pub after_ask : {N V : Type 0} → N → Seen N V → Seen N V
after_ask n s = record { image = s.image; asked = s.asked ++ (n, s.image n) ∷ [] }

-- all that is read is handed out
abbrev pub after_reads : {N V A : Type 0} → Asking N V A → Seen N V → Seen N V
after_reads m s = record { image = s.image; asked = s.asked ++ reads m s.image }
