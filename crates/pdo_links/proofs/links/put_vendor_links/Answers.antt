use Rattle.std.proofs.Common.{◌≡◌, ◌*◌, ◌≤◌, List, ◌++◌, length, length-append, append_assoc, ap, ◌∙◌, arith}
use Rattle.std.proofs.lemmas.List.Elements.{All-append}
use Rattle.concise_dcf.specs.declared.write.Write.{Write}
use Rattle.concise_dcf.specs.Writes.{IsSized}
use Rattle.pdo_stations.specs.declared.as_made.AsMade.{AsMade}
use Rattle.pdo_stations.specs.Devices.{as_made}
use Rattle.pdo_links.specs.Tables.{AreFew, most_pdo_writes}
use Rattle.pdo_links.specs.VendorWrites.{vendor_link_writes}
use Rattle.pdo_links.proofs.Values.{both_values}
use Rattle.pdo_links.proofs.links.put_vendor_links.Goals as goal

joined : (first tpdos rpdos two three : List Write) → two ≡ first ++ tpdos → three ≡ two ++ rpdos
    → three ≡ first ++ (tpdos ++ rpdos)
joined first tpdos rpdos two three a b =
    b ∙ ap (λ (ws : List Write). ws ++ rpdos) a ∙ append_assoc first tpdos rpdos

few_both : (tpdos rpdos : List Write) → AreFew tpdos → AreFew rpdos → length (tpdos ++ rpdos) ≤ most_pdo_writes * 2
few_both tpdos rpdos a b =
    let i : length tpdos ≤ 36864 = a.count in let j : length rpdos ≤ 36864 = b.count in
    omega (arith, length-append tpdos rpdos)

pub returns-clause-writes : goal.returns-clause-writes
unfolding vendor_link_writes
returns-clause-writes c =
    let made : AsMade = as_made c.args.device.now c.args.node in
    joined c.args.writes.now.items _ _ c.put_vendor_tpdos.new.writes.items c.put_vendor_rpdos.new.writes.items
    (rw c.in_ok-made.ensures at c.in_ok-put_vendor_tpdos.ensures.writes)
    (rw c.in_ok-made.ensures at c.in_ok-put_vendor_rpdos.ensures.writes)

pub returns-clause-fits : goal.returns-clause-fits
unfolding vendor_link_writes
returns-clause-fits c =
    both_values c.args.device.now _ _
    (rw c.in_ok-made.ensures at (c.in_ok-put_vendor_tpdos.ensures.fits c.args.device.now c.args.node
    c.in_ok-made.ensures))
    (rw c.in_ok-made.ensures at (c.in_ok-put_vendor_rpdos.ensures.fits c.args.device.now c.args.node
    c.in_ok-made.ensures))

pub returns-clause-sizes : goal.returns-clause-sizes
unfolding vendor_link_writes
returns-clause-sizes c =
    let tpdos = rw c.in_ok-made.ensures at c.in_ok-put_vendor_tpdos.ensures.few in
    let rpdos = rw c.in_ok-made.ensures at c.in_ok-put_vendor_rpdos.ensures.few in
    All-append IsSized _ _ tpdos.sizes rpdos.sizes

pub returns-clause-count : goal.returns-clause-count
unfolding vendor_link_writes
returns-clause-count c =
    few_both _ _ (rw c.in_ok-made.ensures at c.in_ok-put_vendor_tpdos.ensures.few)
    (rw c.in_ok-made.ensures at c.in_ok-put_vendor_rpdos.ensures.few)
