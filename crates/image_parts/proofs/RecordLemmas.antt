-- A record that grows.
use Rattle.std.proofs.Common.{◌≡◌, ℕ, List, [], ◌++◌, append_assoc, arith, length-append, refl, sym, ap, ◌∙◌}
use Rattle.std.proofs.lemmas.List.{append-nil}
use Rattle.image_parts.proofs.QuestionLemmas.{reads_bind}
use Rattle.image_parts.specs.Asking.{Asking, Answer, Seen, after_reads, bind, outcome, reads}
use Rattle.image_parts.specs.Record.{BeginsWith, GoesBy, IsAsked, Lasts}

-- a list begins with itself
pub itself : {X : Type 0} (list : List X) → BeginsWith list list
itself list = record { more = []; is = sym (append-nil list) }

-- and with what the list at its front begins with
pub in_turn : {X : Type 0} {a b c : List X} → BeginsWith b a → BeginsWith c b → BeginsWith c a
in_turn {X = X} {a = a} h k = record {
  more = h.more ++ k.more;
  is = k.is ∙ ap (λ (xs : List X). xs ++ k.more) h.is
      ∙ append_assoc a h.more k.more;
}

pub grown : {X : Type 0} (a more b : List X) → b ≡ a ++ more → BeginsWith b a
grown a more b e = record { more = more; is = e }

pub lasts_itself : {N V : Type 0} (s : Seen N V) → Lasts s s
lasts_itself s = record { kept = refl; begins = itself s.asked }

pub lasts_in_turn : {N V : Type 0} {a b c : Seen N V} → Lasts a b → Lasts b c → Lasts a c
lasts_in_turn h k = record { kept = k.kept ∙ h.kept; begins = in_turn h.begins k.begins }

-- where nothing is asked for
pub asked_none : {N V A : Type 0} (m : Asking N V A) (a : A) (s : Seen N V) (asks : ℕ) → m ≡ Answer a
    → IsAsked m s s asks asks
asked_none m a s asks e = rw e (record { noted = rw append-nil refl; counted = omega arith })

-- and what stood before is left
pub goes_none : {N V A X : Type 0} (m : Asking N V A) (a : A) (seen : X → Seen N V) (asks : X → ℕ) (x : X)
    → m ≡ Answer a → GoesBy m a seen asks x x
goes_none m a seen asks x e = record { state = rw e refl; asked = asked_none m a (seen x) (asks x) e }

-- the last stage asks for nothing
pub asked_last : {N V A B : Type 0} (m : Asking N V A) (f : A → B) (a b : Seen N V) (x y : ℕ) → IsAsked m a b x y
    → IsAsked (bind m (λ r. Answer (f r))) a b x y
asked_last m f a b x y h =
    let all : reads (bind m (λ r. Answer (f r))) a.image ≡ reads m a.image = reads_bind m _ a.image ∙ append-nil _ in
    record { noted = rw all h.noted; counted = rw all h.counted }

-- what all reads is what the one reads and then the other
pub asked_in_turn : {N V A B C : Type 0} (all : Asking N V A) (m : Asking N V B) (n : Asking N V C) (a b c : Seen N V)
    (x y z : ℕ) → reads all a.image ≡ reads m a.image ++ reads n a.image → IsAsked m a b x y → IsAsked n b c y z
    → IsAsked all a c x z
asked_in_turn {N} {V} all m n a b c x y z e g h =
    let counted = rw (ap (λ (s : Seen N V). s.image) g.noted) at h.counted in
    record {
      noted = h.noted ∙ ap (after_reads n) g.noted ∙ rw (e, ← append_assoc) refl;
      counted = rw (e, length-append) (omega (arith, g.counted, counted));
    }

pub asked_bind : {N V A B : Type 0} (m : Asking N V A) (f : A → Asking N V B) (a b c : Seen N V) (x y z : ℕ)
    → IsAsked m a b x y → IsAsked (f (outcome m a.image)) b c y z → IsAsked (bind m f) a c x z
asked_bind m f a b c x y z = asked_in_turn (bind m f) m (f (outcome m a.image)) a b c x y z (reads_bind m f a.image)

pub ruleset record_laws = (itself, in_turn, grown, lasts_itself, lasts_in_turn)
