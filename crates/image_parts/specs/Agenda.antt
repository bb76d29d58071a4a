-- A run from due moment to due moment.
use Rattle.std.specs.Prelude.{◌≡◌, ℕ, zero, suc, List, [], ◌++◌, nat_lt, if◌then◌else◌}
use Rattle.image_parts.specs.Asking.{Asking, Answer, outcome, reads, bind}

-- at most `most` turns, each at the moment that `due` names, as long as that lies before the end
unfoldable pub dues : {N V S L : Type 0} → (ℕ → S → Asking N V (S × List L)) → (S → ℕ) → ℕ → ℕ → S
    → Asking N V (S × List L)
dues step due end zero s = Answer (s, [])
dues step due end (suc most) s = if nat_lt (due s) end
    then bind (step (due s) s) (λ r. bind (dues step due end most r.0) (λ q. Answer (q.0, r.1 ++ q.1)))
    else Answer (s, [])

-- under the image the answers are the same, and so are the reads
pub record IsSameUnder {N V A : Type 0} (image : N → V) (m m' : Asking N V A) : Type 0 where
  pub outcomes : outcome m image ≡ outcome m' image
  pub reads_same : reads m image ≡ reads m' image
