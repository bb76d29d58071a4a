use Rattle.std.proofs.Common.{◌≡◌, ℕ, List, ◌∙◌, Ok, Err, arith}
use Rattle.std.specs.Bool.{OnFalse}
use Rattle.std.proofs.lemmas.Result.{err_from_is_err_and}
use Rattle.std.proofs.lemmas.Grind.{common_steps}
use Rattle.eds_device.specs.Faults.{device_of}
use Rattle.project_edits.specs.Faults.{is_memory, device_verdict}
use Rattle.project_edits.specs.Eds.{block_lines, text_of}
use Rattle.project_edits.specs.Edits.{IsEdit}
use Rattle.project_edits.proofs.EdsLemmas.{Passes, refused_so, taken_so, is_eds}
use Rattle.project_edits.proofs.command.Command.eds.Goals as goal

pub returns-in_err-check : goal.returns-in_err-check
returns-in_err-check c =
    let lines : List (List ℕ) = block_lines c.args.lines.now in
    let text : c.deref.result.now ≡ text_of lines = c.deref.ensures.value ∙ c.in_ok-text.ensures in
    let passes : Passes c.args.name.now lines = record {
      named = grind (arith, common_steps);
      few = grind (arith, common_steps);
      short = grind (arith, common_steps);
      within = grind (arith, common_steps);
      good = grind (arith, common_steps);
    } in
    let refused : OnFalse (is_memory c.in_err-check.field-0.0)
    (device_verdict (device_of (text_of lines)) ≡ Err c.in_err-check.field-0.0) = rw (← text) c.in_err-check.ensures
    in
    let p = err_from_is_err_and c.from_residual-in_err-check.result c.from_residual-in_err-check.ensures.1 in
    rw (p.1, p.2) (refused_so c.args.name.now lines passes c.in_err-check.field-0.0 refused)

pub new-requires : goal.new-requires
unfolding IsEdit
new-requires c =
    let lines : List (List ℕ) = block_lines c.args.lines.now in
    let text : c.deref.result.now ≡ text_of lines = c.deref.ensures.value ∙ c.in_ok-text.ensures in
    let passes : Passes c.args.name.now lines = record {
      named = grind (arith, common_steps);
      few = grind (arith, common_steps);
      short = grind (arith, common_steps);
      within = grind (arith, common_steps);
      good = grind (arith, common_steps);
    } in
    let taken : device_verdict (device_of (text_of lines)) ≡ Ok tt = rw (← text) c.in_ok-check.ensures in
    rw (c.in_ok-name.ensures, c.in_ok-shared.ensures, c.in_ok-text.ensures) (is_eds c.args.name.now lines passes taken)

pub returns : goal.returns
returns c =
    let lines : List (List ℕ) = block_lines c.args.lines.now in
    let text : c.deref.result.now ≡ text_of lines = c.deref.ensures.value ∙ c.in_ok-text.ensures in
    let passes : Passes c.args.name.now lines = record {
      named = grind (arith, common_steps);
      few = grind (arith, common_steps);
      short = grind (arith, common_steps);
      within = grind (arith, common_steps);
      good = grind (arith, common_steps);
    } in
    let taken : device_verdict (device_of (text_of lines)) ≡ Ok tt = rw (← text) c.in_ok-check.ensures in
    rw (c.new.ensures, c.in_ok-name.ensures, c.in_ok-shared.ensures, c.in_ok-text.ensures)
    (taken_so c.args.name.now lines passes taken)
