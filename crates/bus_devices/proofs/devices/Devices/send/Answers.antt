use Rattle.std.proofs.Common.{◌≡◌, ◌<◌, length, List, slice_set, subst, sym, ap, ◌∙◌, arith}
use Rattle.bus_devices.specs.Blocks.{AreBlocksOf, FollowsFromBlocks, IsDueAsBefore, alarms_of}
use Rattle.bus_devices.specs.Places.{device_at}
use Rattle.bus_devices.proofs.OutlookLemmas.{alarms_as}
use Rattle.bus_devices.proofs.SentLemmas.{sent_from, written_back}
use Rattle.bus_devices.specs.declared.block.Block.{Block}
use Rattle.bus_devices.proofs.devices.Devices.send.Goals as goal

pub renew_best-requires : goal.renew_best-requires
renew_best-requires c =
    let ds = c.self.inside.devices.items in
    let within : c.args.i < length ds = rw (← c.self.view_is) at c.requires.device in
    let due : IsDueAsBefore (device_at ds c.args.i) c.send.new.self =
    sent_from ds c.args.i c.index_mut.result.now c.send.new.self c.args.place within c.index_mut.ensures.value
    c.in_ok-sent.ensures.left in
    record {
      before = ds;
      now = c.send.new.self;
      of = subst (λ (blocks : List Block). AreBlocksOf blocks ds) (sym c.as_mut_slice.ensures.value)
          (c.self.invariant c.if-known.true).each;
      within = within;
      still = due;
      changed = c.deref.ensures.value;
    }

pub invariant_of-self-then-known : goal.invariant_of-self-then-known
invariant_of-self-then-known c =
    let old = c.self.inside.devices.items in
    let within : c.args.i < length old = rw (← c.self.view_is) at c.requires.device in
    let ds = slice_set c.self.inside.devices.items c.args.i c.send.new.self in
    let back : c.deref-then-known.result.now ≡ c.renew_best.new.blocks = c.deref-then-known.ensures.value
    ∙ written_back c.renew_best.new.blocks c.self.inside.blocks.items c.self.inside.blocks.len
    (omega (arith, c.renew_best.auto.blocks, c.as_mut_slice.ensures.len)) in
    let blocks = c.deref-then-known.result.now in
    let each : AreBlocksOf blocks ds = subst (λ (bs : List Block). AreBlocksOf bs ds) (sym back)
    (rw c.deref.ensures.value at c.renew_best.ensures.blocks) in
    let alarms : alarms_of blocks ≡ alarms_of c.self.inside.blocks.items =
    ap alarms_of back ∙ c.renew_best.ensures.alarms ∙ ap alarms_of c.as_mut_slice.ensures.value in
    λ known. record {
      each = subst (λ (bs : List Block). AreBlocksOf bs ds) c.deref-then-known.ensures.value each;
      all = subst (λ (bs : List Block). FollowsFromBlocks (record c.self.inside.all { best = c.best_of-self-inside.result }) bs)
          c.deref-then-known.ensures.value (record {
            alarm = λ es h. (c.self.invariant c.if-known.true).all.alarm es
                (alarms_as blocks c.self.inside.blocks.items es alarms h);
            best = c.best_of-self-inside.ensures;
          });
    }
