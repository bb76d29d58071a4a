use Rattle.bus_devices.proofs.OutlookLemmas.{follows_as}
use Rattle.bus_devices.proofs.known.run_known.Goals as goal

pub all_now-requires : goal.all_now-requires
all_now-requires g c none =
    follows_as c.args.all.now c.run_blocks.new.blocks c.args.blocks.now (c.in_ok-changed.ensures.still.0 none).1
    c.requires.known.all
