use Rattle.std.proofs.Common.{arith, length, ◌<◌, ◌≡◌, Some}
use Rattle.can_frame.specs.Senders.{device_sender}
use Rattle.can_frame.specs.Winner.{contenders_of, IsWinner}
use Rattle.checks_bus.proofs.TakenLemmas.{place_within}
use Rattle.checks_bus.proofs.taken.take_of_device.Goals as goal
use Rattle.checks_bus.proofs.taken.take_of_device.Goals.{then-wins, else-wins}

pub send-requires : goal.send-requires
send-requires c =
    let contender = c.in_ok-contender.contender in
    let is : c.contender.result ≡ Some contender = c.in_ok-contender.was in
    let wins : IsWinner (contenders_of (device_sender c.args.device.now.number, c.args.device.now.waiting))
    (Some contender) = rw is at c.contender.ensures in
    let within : contender.place < length c.args.device.now.waiting =
    place_within (device_sender c.args.device.now.number) c.args.device.now.waiting contender wins in
    elim c.if-wins.branch [ then-wins w ↦ rw w.place-is within | else-wins w ↦ rw w.place-is (omega (arith, within)) ]
