-- Texts that are posted one after the other, and sent.
use Rattle.std.proofs.Common.{◌≡◌, ℕ, List, [], ◌++◌, Option, sym, ap, ◌∙◌, append_assoc, append-nil, subst}
use Rattle.std.proofs.KnownBytes.{Appends-trans, Appends-nil}
use Rattle.std.specs.Io.KnownBytes.{Appends}
use Rattle.streams.specs.Written.{Took, Posts}

pub posts_none : (u : Option (List ℕ)) (a : List ℕ) → Posts u a u a []
posts_none u a = ([], append-nil a, Appends-nil u)

pub posts_then : (u v w : Option (List ℕ)) (a b c s t : List ℕ) → Posts u a v b s → Posts v b w c t
    → Posts u a w c (s ++ t)
posts_then u v w a b c s t p q = (
  p.0 ++ q.0,
  sym (append_assoc a s t) ∙ ap (λ (x : List ℕ). x ++ t) p.1 ∙ append_assoc p.0 b t ∙ ap (λ (x : List ℕ). p.0 ++ x) q.1
      ∙ sym (append_assoc p.0 q.0 c),
  Appends-trans u v w p.0 q.0 p.2 q.2,
)

pub posts_still : (u v w : Option (List ℕ)) (a b c s : List ℕ) → Posts u a v b s → Posts v b w c [] → Posts u a w c s
posts_still u v w a b c s p q = subst (Posts u a w c) (append-nil s) (posts_then u v w a b c s [] p q)

-- a front of the next text, behind the texts so far
pub posts_front : (u v w : Option (List ℕ)) (a b s t : List ℕ) → Posts u a v b s → Took v w (b ++ t)
    → Took u w (a ++ (s ++ t))
posts_front u v w a b s t p q = (
  p.0 ++ q.0,
  q.1,
  sym (append_assoc a s t) ∙ ap (λ (x : List ℕ). x ++ t) p.1 ∙ append_assoc p.0 b t ∙ ap (λ (x : List ℕ). p.0 ++ x) q.2
      ∙ sym (append_assoc p.0 q.0 q.1),
  Appends-trans u v w p.0 q.0 p.2 q.3,
)

-- where the text was too long to wait
pub posts_directly : (u v w : Option (List ℕ)) (a b t : List ℕ) → Appends u v a → b ≡ [] → Appends v w t
    → Posts u a w b t
posts_directly u v w a b t p none q = (
  a ++ t,
  sym (ap (λ (x : List ℕ). (a ++ t) ++ x) none ∙ append-nil (a ++ t)),
  Appends-trans u v w a t p q,
)

pub took_more : (u v : Option (List ℕ)) (a t : List ℕ) → Took u v a → Took u v (a ++ t)
took_more u v a t q = (q.0, q.1 ++ t, ap (λ (x : List ℕ). x ++ t) q.2 ∙ append_assoc q.0 q.1 t, q.3)

-- a front of what waits went out, where nothing waited before
pub sent_front : (u v w : Option (List ℕ)) (a b t : List ℕ) → a ≡ [] → Posts u a v b t → Took v w b → Took u w t
sent_front u v w a b t none p out =
    let e : t ≡ p.0 ++ b = ap (λ (x : List ℕ). x ++ t) (sym none) ∙ p.1 in (
      p.0 ++ out.0,
      out.1,
      e ∙ ap (λ (x : List ℕ). p.0 ++ x) out.2 ∙ sym (append_assoc p.0 out.0 out.1),
      Appends-trans u v w p.0 out.0 p.2 out.3,
    )
