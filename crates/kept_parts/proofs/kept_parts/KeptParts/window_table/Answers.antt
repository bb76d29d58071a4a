use Rattle.std.proofs.Common.{arith}
use Rattle.network_image.specs.Image.{window_steps}
use Rattle.network_image.proofs.StepLemmas.{none_behind}
use Rattle.network_image.proofs.WindowLemmas.{all_below, next_window, none_below}
use Rattle.project_plan.specs.Events.{shape_of_node}
use Rattle.kept_parts.proofs.NetworkLemmas.{window_current}
use Rattle.kept_parts.proofs.kept_parts.KeptParts.window_table.Goals as goal

pub loop-i-init : goal.loop-i-init
loop-i-init c = none_below (window_steps c.args.project.now) c.new-table.result c.new-table.ensures

pub add_window-requires-clause-held : goal.add_window-requires-clause-held
add_window-requires-clause-held c =
    window_current c.args.project.now c.args.self.now c.requires c.loop-i.i (omega (arith, c.loop-i-test.true))

pub loop-i-preserved : goal.loop-i-preserved
loop-i-preserved c =
    next_window (window_steps c.args.project.now) c.loop-i.i c.loop-i.table c.add_window.new.table
    c.in_ok-add_window.ensures c.loop-i.invariant

pub returns : goal.returns
unfolding window_steps
returns c =
    all_below (window_steps c.args.project.now) c.loop-i.i c.loop-i.table c.loop-i.invariant
    (λ j late. none_behind (shape_of_node c.args.project.now) c.args.project.now c.keeps_to_rules.ensures j
    (omega (arith, late, c.loop-i-test.false)))
