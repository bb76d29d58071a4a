use Rattle.std.proofs.Common.{sym, ◌∙◌, arith}
use Rattle.pdo_stations.specs.Stations.{devices_in}
use Rattle.vendor_pdos.proofs.WithheldLemmas.{fixes_none}
use Rattle.vendor_pdos.proofs.known_stations.KnownStations.may_fix.Goals as goal

pub returns : goal.returns
returns c = λ made number none there from to.
    fixes_none (devices_in c.args.self.now.stations) c.args.identifier c.args.node number made
    (sym (c.args.self.now.exact c.args.identifier) ∙ sym c.contains.ensures ∙ none) there
    (omega (arith, c.if-node-eq0.false)) (omega arith) from to
