-- The winner of a list waits at its place.
use Rattle.std.proofs.Common.{◌≡◌, ℕ, ◌<◌, List, length, Some, sym, ap, ◌∙◌, arith}
use Rattle.can_frame.specs.Winner.{contenders_of, IsWinner}
use Rattle.can_frame.specs.declared.contender.Contender.{Contender}
use Rattle.can_frame.specs.declared.waiting.Waiting.{Waiting}
use Rattle.can_frame.proofs.WinnerLemmas.{contender_at, length-contenders_of}

pub place_within : (sender : ℕ) (frames : List Waiting) (c : Contender) → IsWinner (contenders_of (sender, frames)) (Some c)
    → c.place < length frames
place_within sender frames c wins =
    let k = wins.0.0 in
    let many = length-contenders_of sender frames in
    let within : k < length frames = omega (arith, wins.0.1) in
    let place : k ≡ c.place = ap (λ (d : Contender). d.place) (sym (contender_at sender frames k c within) ∙ wins.0.2) in
    omega (arith, within, place)
