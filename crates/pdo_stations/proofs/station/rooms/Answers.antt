use Rattle.std.proofs.Common.{ℕ, arith, subst}
use Rattle.std.proofs.lemmas.Grind.{common_steps}
use Rattle.cia301.specs.PdoObjects.{rpdo_object}
use Rattle.pdo_stations.specs.Rooms.{IsRoomOf}
use Rattle.pdo_stations.proofs.RoomLemmas.{rooms_more}
use Rattle.pdo_stations.proofs.station.rooms.Goals as goal

pub loop-number-preserved : goal.loop-number-preserved
loop-number-preserved c = record {
  count = grind (arith, common_steps);
  rooms = rw c.in_ok-push.ensures.items (rooms_more (λ number room. IsRoomOf c.args.shape.now (rpdo_object number) room)
      c.loop-number.rooms.items c.loop-number.number c.room.result c.loop-number.invariant.count
      c.loop-number.invariant.rooms
      (subst (λ (object : ℕ). IsRoomOf c.args.shape.now object c.room.result) c.rpdo_object.ensures c.room.ensures));
}
