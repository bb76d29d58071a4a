use Rattle.std.proofs.Common.{◌≡◌, ◌++◌, ◌*◌, ◌∷◌, List, refl, rules, subst, sym}
use Rattle.std.proofs.lemmas.Result.{IfOk-weaker, on_ok_weaker}
use Rattle.image_parts.specs.Asking.{outcome}
use Rattle.image_parts.specs.Each.{each}
use Rattle.bus_devices.specs.Blocks.{AreBlocksOf}
use Rattle.bus_devices.proofs.BlockLemmas.{back_is, both_blocks, both_asked, both_on_ok, both_state}
use Rattle.bus_devices.proofs.BlockLemmas.{front_is, one_set, outlooks_as}
use Rattle.device_agenda.specs.Agenda.{at_instant}
use Rattle.bus_devices.specs.declared.block.Block.{Block}
use Rattle.bus_devices.proofs.PassLemmas.{all_passed, behind, first_is, first_known, idle_first, none_asked}
use Rattle.bus_devices.proofs.PassLemmas.{none_left, passed_asked, passed_blocks, passed_state, rest_is}
use Rattle.bus_devices.proofs.StillLemmas.{either_changed}
use Rattle.bus_devices.proofs.blocks.+run_blocks.Goals as goal

pub run_block-requires-clause-known : goal.run_block-requires-clause-known
run_block-requires-clause-known g t c =
    let n = c.asleep-asleep.result in
    let ds = c.args.devices.now in
    let rest = c.split_at_mut-still.result.1.now in
    let back = rest_is (8 * n) c.devices_of.result ds rest c.devices_of.ensures c.split_at_mut-still.ensures.back in
    let awake = behind n c.args.blocks.now c.split_at_mut-asleep.result.1.now ds rest
    c.split_at_mut-asleep.ensures.back back c.requires.known in
    let e = c.split_at_mut-firsts.ensures in
    let front = front_is c.first_block.result rest c.split_at_mut-block.result.0.now c.first_block.ensures
    c.split_at_mut-block.ensures.front in
    first_known c.split_at_mut-asleep.result.1.now c.split_at_mut-firsts.result.0.now
    c.split_at_mut-firsts.result.1.now rest c.split_at_mut-block.result.0.now _ e.value e.front_len front awake

pub returns-clause-blocks : goal.returns-clause-blocks
returns-clause-blocks g t c =
    let n = c.asleep-asleep.result in
    let ds = c.args.devices.now in
    let rest = c.split_at_mut-still.result.1.now in
    let step = at_instant c.args.t c.args.delivery.now in
    let image = (g.P.Asked.seen c.args.shapes.now).image in
    let still = first_is (8 * n) c.devices_of.result ds c.split_at_mut-still.result.0.now c.devices_of.ensures
    c.split_at_mut-still.ensures.front in
    let woken = rest_is (8 * n) c.devices_of.result ds rest c.devices_of.ensures c.split_at_mut-still.ensures.back in
    let front = front_is c.first_block.result rest c.split_at_mut-block.result.0.now c.first_block.ensures
    c.split_at_mut-block.ensures.front in
    let back = back_is c.first_block.result rest c.split_at_mut-block.result.1.now c.first_block.ensures
    c.split_at_mut-block.ensures.back in
    let one = c.in_ok-changed.ensures in
    let others = c.run_blocks.ensures in
    both_on_ok c.run_blocks.result _ _ _ (λ e h.
    let state : c.run_block.new.devices ++ c.run_blocks.new.devices ≡ outcome (each step rest) image =
    both_state step rest image c.run_block.new.devices c.run_blocks.new.devices (rw front at one.ran.state)
    (rw (back, one.lasts.kept) at e.state) in
    let blocks : AreBlocksOf (c.run_block.new.block ∷ c.run_blocks.new.blocks)
    (c.run_block.new.devices ++ c.run_blocks.new.devices) =
    both_blocks step rest image c.run_block.new.block c.run_blocks.new.blocks c.run_block.new.devices
    c.run_blocks.new.devices (rw front at one.ran.state) (rw (back, one.lasts.kept) at e.state) one.block h in
    rw (c.split_at_mut-asleep.ensures.front, still)
    (passed_blocks step n (8 * n) c.args.blocks.now _ ds (c.run_block.new.devices ++ c.run_blocks.new.devices) image refl
    c.asleep-asleep.ensures.within c.requires.known (rw woken at state)
    (subst (λ (xs : List Block). AreBlocksOf (xs ++ c.run_blocks.new.blocks)
    (c.run_block.new.devices ++ c.run_blocks.new.devices))
    (sym (one_set c.split_at_mut-firsts.result.0.now c.run_block.new.block c.split_at_mut-firsts.ensures.front_len))
    blocks))) others.ran others.blocks

pub returns-clause-ran : goal.returns-clause-ran
returns-clause-ran g t c =
    let n = c.asleep-asleep.result in
    let ds = c.args.devices.now in
    let rest = c.split_at_mut-still.result.1.now in
    let step = at_instant c.args.t c.args.delivery.now in
    let image = (g.P.Asked.seen c.args.shapes.now).image in
    let still = first_is (8 * n) c.devices_of.result ds c.split_at_mut-still.result.0.now c.devices_of.ensures
    c.split_at_mut-still.ensures.front in
    let woken = rest_is (8 * n) c.devices_of.result ds rest c.devices_of.ensures c.split_at_mut-still.ensures.back in
    let front = front_is c.first_block.result rest c.split_at_mut-block.result.0.now c.first_block.ensures
    c.split_at_mut-block.ensures.front in
    let back = back_is c.first_block.result rest c.split_at_mut-block.result.1.now c.first_block.ensures
    c.split_at_mut-block.ensures.back in
    let one = c.in_ok-changed.ensures in
    let idle = idle_first c.args.t c.args.delivery.now n (8 * n) c.args.blocks.now ds
    c.asleep-asleep.ensures.bound refl c.requires.known c.asleep-asleep.ensures.asleep in
    on_ok_weaker c.run_blocks.result (λ e.
    let state : c.run_block.new.devices ++ c.run_blocks.new.devices ≡ outcome (each step rest) image =
    both_state step rest image c.run_block.new.devices c.run_blocks.new.devices (rw front at one.ran.state)
    (rw (back, one.lasts.kept) at e.state) in
    record {
      state = rw still (passed_state step ds (8 * n) idle image (c.run_block.new.devices ++ c.run_blocks.new.devices)
          (rw woken at state));
      asked = passed_asked step ds (8 * n) idle _ _ _ _
          (rw woken at (both_asked step rest _ _ _ _ _ _ (rw front at one.ran.asked) (rw back at e.asked)));
    }) c.run_blocks.ensures.ran

pub returns-clause-still : goal.returns-clause-still
returns-clause-still g t c =
    let e = c.split_at_mut-firsts.ensures in
    let alike = outlooks_as c.args.blocks.now c.split_at_mut-asleep.result.0.now c.split_at_mut-asleep.result.1.now
    c.split_at_mut-firsts.result.0.now c.split_at_mut-firsts.result.1.now c.run_blocks.new.blocks c.run_block.new.block
    _ c.split_at_mut-asleep.ensures.value e.value e.front_len in
    IfOk-weaker c.run_blocks.result _ _ (λ changed later.
    either_changed c.args.before c.in_ok-changed.changed _ _ _ _ c.in_ok-changed.ensures.still later alike)
    c.run_blocks.ensures.still

-- ---- where no block has to run

pub returns-then-is_empty-clause-still : goal.returns-then-is_empty-clause-still
returns-then-is_empty-clause-still g t c = ((λ none. (none, search rules)), (λ both. both.0))

pub returns-then-is_empty-clause-ran : goal.returns-then-is_empty-clause-ran
returns-then-is_empty-clause-ran g t c =
    let n = c.asleep-asleep.result in
    let ds = c.args.devices.now in
    let rest = c.split_at_mut-still.result.1.now in
    let awake = c.split_at_mut-asleep.result.1.now in
    let step = at_instant c.args.t c.args.delivery.now in
    let still = first_is (8 * n) c.devices_of.result ds c.split_at_mut-still.result.0.now c.devices_of.ensures
    c.split_at_mut-still.ensures.front in
    let woken = rest_is (8 * n) c.devices_of.result ds rest c.devices_of.ensures c.split_at_mut-still.ensures.back in
    let idle = idle_first c.args.t c.args.delivery.now n (8 * n) c.args.blocks.now ds
    c.asleep-asleep.ensures.bound refl c.requires.known c.asleep-asleep.ensures.asleep in
    let none = none_left awake rest (search rules) (behind n c.args.blocks.now awake ds rest
    c.split_at_mut-asleep.ensures.back woken c.requires.known) in
    record {
      state = rw still (all_passed step ds (8 * n) idle (g.P.Asked.seen c.args.shapes.now).image rest woken none);
      asked = none_asked step ds (8 * n) idle _ _ rest woken none;
    }

pub run_blocks-requires : goal.run_blocks-requires
run_blocks-requires g t c κs within =
    let n = c.asleep-asleep.result in
    let ds = c.args.devices.now in
    let rest = c.split_at_mut-still.result.1.now in
    let awake = c.split_at_mut-asleep.result.1.now in
    let woken = rest_is (8 * n) c.devices_of.result ds rest c.devices_of.ensures c.split_at_mut-still.ensures.back in
    let back = back_is c.first_block.result rest c.split_at_mut-block.result.1.now c.first_block.ensures
    c.split_at_mut-block.ensures.back in (
      search rules,
      (
        within,
        (
          c.requires.soon,
          behind 1 awake c.split_at_mut-firsts.result.1.now rest c.split_at_mut-block.result.1.now
              c.split_at_mut-firsts.ensures.back back
              (behind n c.args.blocks.now awake ds rest c.split_at_mut-asleep.ensures.back woken c.requires.known),
        ),
      ),
    )
