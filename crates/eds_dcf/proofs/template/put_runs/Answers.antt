use Rattle.std.proofs.Common.{ℕ, List, [], None, Option, ap, get_or, arith, ◌∙◌}
use Rattle.std.specs.FinMap.{get}
use Rattle.ini_text.specs.Content.{Section}
use Rattle.eds_dcf.specs.Template.{no_values, piece}
use Rattle.eds_dcf.proofs.PieceLemmas.{room_at, room_within, same_there}
use Rattle.eds_dcf.proofs.RunLemmas.{run_begun, run_passed, run_within, run_written}
use Rattle.eds_dcf.proofs.template.put_runs.Goals as goal
use Rattle.eds_dcf.proofs.template.put_runs.Goals.{then-may_have+in_ok-extend_from_slice+in_ok-near, else-may_have}

nameless : Section
nameless = record { name = []; pairs = [] }

pub loop-position-init : goal.loop-position-init
loop-position-init c = run_begun (piece c.args.device.now no_values)
    (piece c.args.device.now (get c.args.values.now)) c.args.device.now.sections c.args.out.now.items
    c.reserve.new.self.items c.reserve.ensures.items

pub overflow_add-end : goal.overflow_add-end
overflow_add-end c =
    let sheet = c.args.device.now in
    let i = c.loop-position.position in
    let known : Option ℕ × ℕ = (None, 0) in
    let size = ap (λ (r : Option ℕ × ℕ). r.1) (room_at sheet c.args.rooms.now i nameless known c.requires.template.0
    c.loop-position-test.true) in
    let within = run_within (piece sheet no_values) (piece sheet (get c.args.values.now)) sheet.sections
    c.args.out.now.items
    c.loop-position.out.items c.args.text.now i c.loop-position.from c.loop-position.end nameless
    (room_within sheet c.args.rooms.now i nameless known c.requires.template.0 c.loop-position-test.true)
    c.requires.template.1 c.loop-position.invariant in
    record { fits = first_of (omega (arith, size, within), omega (arith, size, within, c.in_ok-reserve.ensures.ok)) }

pub slice_bounds-extend_from_slice-end : goal.slice_bounds-extend_from_slice-end
slice_bounds-extend_from_slice-end c =
    let sheet = c.args.device.now in
    let i = c.loop-position.position in
    let known : Option ℕ × ℕ = (None, 0) in
    let within = run_within (piece sheet no_values) (piece sheet (get c.args.values.now)) sheet.sections
    c.args.out.now.items
    c.loop-position.out.items c.args.text.now i c.loop-position.from c.loop-position.end nameless
    (room_within sheet c.args.rooms.now i nameless known c.requires.template.0 c.loop-position-test.true)
    c.requires.template.1 c.loop-position.invariant in
    omega (arith, within)

pub loop-position-preserved : goal.loop-position-preserved
loop-position-preserved c =
    let sheet = c.args.device.now in
    let rooms = c.args.rooms.now in
    let i = c.loop-position.position in
    let known : Option ℕ × ℕ = (None, 0) in
    let within = room_within sheet rooms i nameless known c.requires.template.0 c.loop-position-test.true in
    elim c.if-may_have.branch [
      | then-may_have+in_ok-extend_from_slice+in_ok-near w ↦ run_written (piece sheet no_values)
          (piece sheet (get c.args.values.now)) sheet.sections c.args.out.now.items c.loop-position.out.items
          w.extend_from_slice.new.self.items c.if-may_have.out.items c.args.text.now i c.loop-position.from
          c.loop-position.end c.if-may_have.from w.index-sections-position.result (get_or rooms i known).1 within
          (w.index-sections-position.is ∙ ap (λ (xs : List Section). get_or xs i w.index-sections-position.result)
          c.sections-sections.ensures)
          c.requires.template.1 w.in_ok-extend_from_slice.ensures.items
          (ap (λ v. v.items) w.out-is ∙ w.in_ok-near.ensures)
          (ap (λ (r : Option ℕ × ℕ). r.1) (room_at sheet rooms i w.index-sections-position.result known
          c.requires.template.0 c.loop-position-test.true))
          w.from-is c.loop-position.invariant
      | else-may_have w ↦ run_passed (piece sheet no_values)
          (piece sheet (get c.args.values.now)) sheet.sections c.args.out.now.items c.loop-position.out.items
          c.if-may_have.out.items i c.loop-position.from c.loop-position.end c.if-may_have.from nameless
          (get_or rooms i known).1 within
          (ap (λ (r : Option ℕ × ℕ). r.1) (room_at sheet rooms i nameless known c.requires.template.0
          c.loop-position-test.true))
          (same_there sheet rooms i nameless known c.requires.template.0 c.loop-position-test.true
          (get c.args.values.now) (c.may_have.ensures w.if-may_have.false))
          (ap (λ v. v.items) w.out-is) w.from-is c.loop-position.invariant
    ]
