use Rattle.std.proofs.lemmas.List.Elements.{All-append}
use Rattle.concise_dcf.specs.Writes.{IsSized}
use Rattle.pdo_links.specs.Writes.{set_link_writes}
use Rattle.pdo_links.proofs.Values.{both_values}
use Rattle.pdo_links.proofs.links.put_set_links.Goals as goal

pub returns-clause-fits : goal.returns-clause-fits
unfolding set_link_writes
returns-clause-fits c = λ made.
    both_values c.args.device.now _ _ (c.in_ok-put_tpdos.ensures.fits made)
    (c.in_ok-put_rpdos.ensures.fits c.args.device.now made)

pub returns-clause-sizes : goal.returns-clause-sizes
unfolding set_link_writes
returns-clause-sizes c = All-append IsSized _ _ c.in_ok-put_tpdos.ensures.few.sizes c.in_ok-put_rpdos.ensures.few.sizes
