use Rattle.std.proofs.Common.{ℕ, ◌+◌, subst}
use Rattle.vendor_pdos.specs.Present.{IsNextPdo}
use Rattle.vendor_pdos.proofs.present.next_tpdo.Goals as goal

pub returns : goal.returns
returns c =
    subst (λ (below : ℕ). IsNextPdo (λ number. below + number) c.args.device.now c.args.from c.next_pdo.result)
    c.tpdo_object.ensures c.next_pdo.ensures
