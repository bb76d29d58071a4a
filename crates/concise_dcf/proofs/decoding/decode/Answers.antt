use Rattle.std.proofs.Common.{subst, arith}
use Rattle.base.specs.Gives.{Gives}
use Rattle.concise_dcf.specs.Concise.{is_memory}
use Rattle.concise_dcf.proofs.Entries.{is_found, is_fault, text_again, fault_again}
use Rattle.concise_dcf.proofs.decoding.decode.Goals as goal

pub returns-clause-found : goal.returns-clause-found
returns-clause-found c = is_found c.args.bytes.now c.read_all.result (λ i. omega (arith, c.type_inv.bytes i))
    c.read_all.ensures

pub returns-clause-only : goal.returns-clause-only
returns-clause-only c = λ ws h. subst (λ f. Gives is_memory (λ v. v.items) c.read_all.result f)
    (text_again ws c.args.bytes.now h) c.read_all.ensures

pub returns-clause-fault : goal.returns-clause-fault
returns-clause-fault c = is_fault c.args.bytes.now c.read_all.result (λ i. omega (arith, c.type_inv.bytes i))
    c.read_all.ensures

pub returns-clause-exact : goal.returns-clause-exact
returns-clause-exact c = λ f h. subst (λ r. Gives is_memory (λ v. v.items) c.read_all.result r)
    (fault_again f c.args.bytes.now h) c.read_all.ensures
