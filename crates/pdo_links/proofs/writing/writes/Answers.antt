use Rattle.std.proofs.Common.{List, All, sym, subst}
use Rattle.std.proofs.lemmas.List.Elements.{All-append}
use Rattle.concise_dcf.specs.declared.write.Write.{Write}
use Rattle.pdo_links.specs.Tables.{AreValues}
use Rattle.pdo_links.proofs.Values.{IsValue}
use Rattle.pdo_links.proofs.writing.writes.Goals as goal

pub returns-clause-fits : goal.returns-clause-fits
unfolding AreValues
returns-clause-fits c = λ made.
    subst (λ (ws : List Write). All (IsValue c.args.device.now) ws) (sym c.in_ok-put_links.ensures.writes)
    (All-append (IsValue c.args.device.now) c.in_ok-writes.writes.items _ c.in_ok-writes.ensures.fits
    (c.in_ok-put_links.ensures.fits made))
