-- The network is one.
use Rattle.std.proofs.Common.{◌≡◌, refl, arith, inl, inr}
use Rattle.can_frame.specs.declared.slot_rule.SlotRule.{SlotRule}
use Rattle.image_parts.specs.Images.{IsRoster}
use Rattle.image_parts.specs.declared.roster.Roster.{Roster}
use Rattle.checks_bus.specs.Alike.{network}

is_one : (slots : SlotRule) → IsRoster (network slots)
is_one slots = record {
  bit_rate = (3, omega arith, refl);
  manager = (omega arith, omega arith);
  sync = inr (omega arith, omega arith);
  counter = inr (omega arith, omega arith);
  time = inl refl;
  first_day = omega arith;
  heartbeat = omega arith;
  timeout = (omega arith, omega arith);
  nodes = ((omega arith, omega arith), ((omega arith, omega arith), tt));
  controller = λ there. cc;
  differ = ((λ same. omega (arith, same), tt), (tt, tt));
  mandatory = tt;
}

pub is_roster : (slots : SlotRule) (roster : Roster) → roster ≡ network slots → IsRoster roster
is_roster slots roster is = rw is (is_one slots)
