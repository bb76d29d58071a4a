use Rattle.std.proofs.Common.{subst}
use Rattle.std.specs.List.{AllByRecursion}
use Rattle.base.specs.Tables.{Each}
use Rattle.image_parts.specs.Images.{AreInOrder, IsWithin}
use Rattle.network_image.specs.Held.{IsWindow, Windows}
use Rattle.network_image.proofs.WindowLemmas.{handed_fits}
use Rattle.network_image.proofs.window_table.WindowTable.window.Goals as goal

pub returns-in-Some-clause-fits : goal.returns-in-Some-clause-fits
returns-in-Some-clause-fits c =
    handed_fits IsWindow (AllByRecursion (IsWithin c.args.i)) c.args.self.now c.args.i c.in-Some.window.now
    (subst (λ (windows : Windows). Each IsWindow windows) c.self.view_is c.self.invariant) c.in-Some.ensures
    (λ is. is.0) c.pointer.result c.pointer.ensures

pub returns-in-Some-clause-ordered : goal.returns-in-Some-clause-ordered
returns-in-Some-clause-ordered c =
    handed_fits IsWindow AreInOrder c.args.self.now c.args.i c.in-Some.window.now
    (subst (λ (windows : Windows). Each IsWindow windows) c.self.view_is c.self.invariant) c.in-Some.ensures
    (λ is. is.1) c.pointer.result c.pointer.ensures
