use Rattle.network_image.proofs.ControllerLemmas.{configured}
use Rattle.network_image.proofs.controller.configured_values.Goals as goal

pub returns : goal.returns
returns c =
    configured c.args.defaults c.in_ok-values.values c.put_writes.new.values c.args.writes.now c.in_ok-values.ensures
    c.in_ok-put_writes.ensures
