use Rattle.std.proofs.Common.{ℕ, ap, ◌∙◌}
use Rattle.can_frame.specs.WaitingFrames.{without_unwanted}
use Rattle.can_frame.specs.declared.unwanted.Unwanted.TheVariants.{SdoOf}
use Rattle.nmt_boot.proofs.EventLemmas.{boots_asked, boots_notes, boots_state}
use Rattle.nmt_boot.specs.contracts.manager.Manager.{the_view}
use Rattle.nmt_boot.proofs.manager.Manager.boot_at.Goals as goal

pub returns-clause-ran : goal.returns-clause-ran
returns-clause-ran g c =
    let m = the_view c.self.inside in
    let image = (g.P.Asked.seen c.args.boots.now).image in
    let done = rw (c.timeout.ensures.timeout, ← c.self.view_is) at c.in_ok-sent.ensures in
    let dropped = c.drop_of.ensures ∙ ap (λ (n : ℕ). without_unwanted (SdoOf n) m.waiting) c.number_at-number.ensures in
    let told = rw c.number_at-number.ensures at c.in_ok-tell.ensures.queued in
    let queued = rw dropped at told in
    let between = rw (c.lost_at.ensures, c.number_at-number.ensures) at c.in_ok-note.ensures.notes in
    let after = rw c.number_at-number.ensures at c.in_ok-tell.ensures.notes in
    record {
      state = rw (← c.self.view_is)
          (boots_state c.args.t c.args.i m image c.in_ok-sent.sent c.tell.new.startup c.boot_at.new.self
          c.tell.new.waiting done.nodes done.sent queued c.in_ok-tell.ensures.started);
      notes = rw (← c.self.view_is)
          (boots_notes c.args.t c.args.i m image c.in_ok-sent.sent c.tell.new.startup c.boot_at.new.self
          c.tell.new.waiting c.args.notes.now c.tell.new.notes c.note.new.notes done.sent between after);
      asked = rw (← c.self.view_is) (boots_asked c.args.t c.args.i m _ _ _ _ done.asked);
    }
