use Rattle.kept_parts.proofs.KindLemmas.{roster_brought, roster_is_of, roster_now}
use Rattle.kept_parts.proofs.kept_parts.KeptParts.bring_roster.Goals as goal

pub bring-requires : goal.bring-requires
bring-requires c = roster_now c.args.project.now c.args.self.now c.requires

pub returns-clause-is_of : goal.returns-clause-is_of
returns-clause-is_of c =
    roster_is_of c.args.project.now c.args.self.now c.requires c.bring.new.self c.in_ok-bring.ensures.ok

pub returns-clause-brings : goal.returns-clause-brings
returns-clause-brings c =
    roster_brought c.args.project.now c.args.self.now c.requires c.bring.new.self c.in_ok-bring.ensures.ok
    c.args.meter.now c.bring.new.meter c.in_ok-bring.ensures.counted
