use Rattle.std.proofs.Common.{subst, arith}
use Rattle.co_dict.specs.Tables.{IsNextIndexIn}
use Rattle.vendor_pdos.proofs.PresentLemmas.{next_beyond, next_found, next_none}
use Rattle.vendor_pdos.proofs.present.next_pdo.Goals as goal
use Rattle.vendor_pdos.proofs.present.next_pdo.Goals.{in_default-via-in-Some+else-object-below, in_default-via-in_default}

pub returns-in-Some : goal.returns-in-Some
returns-in-Some c =
    next_found c.args.device.now c.args.below c.args.from c.in-Some.object
    (subst (IsNextIndexIn c.args.device.now.shape.entries _) c.in-Some.is c.next_index.ensures)
    (omega (arith, c.if-object-below.true))

pub returns-in_default : goal.returns-in_default
returns-in_default c = elim c.in_default.branch [
  | in_default-via-in-Some+else-object-below w ↦ next_beyond c.args.device.now c.args.below c.args.from w.in-Some.object
      (subst (IsNextIndexIn c.args.device.now.shape.entries _) w.in-Some.is c.next_index.ensures)
      (omega (arith, w.if-object-below.false)) c.requires.from
  | in_default-via-in_default w ↦ next_none c.args.device.now c.args.below c.args.from
      (subst (IsNextIndexIn c.args.device.now.shape.entries _) w.in_default.is c.next_index.ensures) c.requires.from
]
