-- A loop over numbers that threads one device.
use Rattle.std.proofs.Common.{◌≡◌, ℕ, suc, ◌+◌, ◌-◌, ◌<◌, ◌≤◌, List, [], ◌∷◌, ◌++◌, sym, ap, ◌∙◌, length, arith}
use Rattle.std.proofs.Common.{length-append}
use Rattle.std.specs.List.{range_with_len}
use Rattle.image_parts.specs.Asking.{Asking, Seen, outcome, reads, after_reads, bind}
use Rattle.image_parts.proofs.QuestionLemmas.{outcome_bind, reads_bind, followed_bind}
use Rattle.image_parts.specs.Contents.{Content, Image}
use Rattle.image_parts.specs.declared.part.Part.{Part}
use Rattle.co_device.specs.Device.{Device}
use Rattle.co_device.specs.Receiving.{walk}

-- the numbers from i to n - 1
abbrev pub from : ℕ → ℕ → List ℕ
from i n = range_with_len i (n - i)

pub from_is : (i n : ℕ) → i < n → from i n ≡ i ∷ from (i + 1) n
from_is i n within =
    let left : n - i ≡ suc (n - (i + 1)) = omega arith in
    ap (range_with_len i) left

pub none_left : (i n : ℕ) → n ≤ i → from i n ≡ []
none_left i n past =
    let none : n - i ≡ 0 = omega arith in
    ap (range_with_len i) none

-- s' is left at i
module _ (step : ℕ → Device → Asking Part Content Device) (i n : ℕ) (s s' : Device) (within : i < n) where
  rest_is : walk step (from i n) s ≡ bind (step i s) (walk step (from (i + 1) n))
  rest_is = ap (λ ys. walk step ys s) (from_is i n within)

  pub walked_state : (image : Image) → s' ≡ outcome (step i s) image
      → outcome (walk step (from (i + 1) n) s') image ≡ outcome (walk step (from i n) s) image
  walked_state image e =
      ap (λ y. outcome (walk step (from (i + 1) n) y) image) e
      ∙ sym (outcome_bind (step i s) (walk step (from (i + 1) n)) image)
      ∙ ap (λ (m : Asking Part Content Device). outcome m image) (sym rest_is)

  pub walked_noted : (seen seen' : Seen Part Content) → s' ≡ outcome (step i s) seen.image
      → seen' ≡ after_reads (step i s) seen → after_reads (walk step (from (i + 1) n) s') seen'
      ≡ after_reads (walk step (from i n) s) seen
  walked_noted seen seen' e h =
      ap (after_reads (walk step (from (i + 1) n) s')) h
      ∙ ap (λ y. after_reads (walk step (from (i + 1) n) y) (after_reads (step i s) seen)) e
      ∙ sym (followed_bind (step i s) (walk step (from (i + 1) n)) seen)
      ∙ ap (λ (m : Asking Part Content Device). after_reads m seen) (sym rest_is)

  pub walked_counted : (image : Image) → s' ≡ outcome (step i s) image → (asks asks' : ℕ)
      → asks' ≤ asks + length (reads (step i s) image)
      → asks' + length (reads (walk step (from (i + 1) n) s') image)
      ≤ asks + length (reads (walk step (from i n) s) image)
  walked_counted image e asks asks' h =
      let all : reads (walk step (from i n) s) image
      ≡ reads (step i s) image ++ reads (walk step (from (i + 1) n) s') image =
      ap (λ (m : Asking Part Content Device). reads m image) rest_is
      ∙ reads_bind (step i s) (walk step (from (i + 1) n)) image
      ∙ ap (λ y. reads (step i s) image ++ reads (walk step (from (i + 1) n) y) image) (sym e) in
      rw (all, length-append) (omega arith)
