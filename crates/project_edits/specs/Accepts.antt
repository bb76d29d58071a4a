-- Edits that are taken or refused.
use Rattle.std.specs.Prelude.{◌≡◌, Bool, true, false, List, [], ◌∷◌, Result, Ok, Err}
use Rattle.std.specs.Bool.{OnFalse}
use Rattle.project_edits.specs.declared.fault.EditFault.{EditFault}
use Rattle.project_edits.specs.Faults.{is_memory}

-- the first fault whose test holds refuses what is asked
abbrev pub unless : {X : Type 0} → List (Bool × EditFault) → X → Result X EditFault
unless [] new = Ok new
unless ((true, fault) ∷ others) new = Err fault
unless ((false, fault) ∷ others) new = unless others new

-- an edit is answered as expected: it is taken, and what there is now is what was expected; or it is refused with the
-- expected fault, unless that is want of memory, and nothing is changed
abbrev pub Accepts : {X : Type 0} → X → X → Result (Unit {0}) EditFault → Result X EditFault → Type 0
Accepts old new (Ok _) expected = expected ≡ Ok new
Accepts old new (Err fault) expected = OnFalse (is_memory fault) (expected ≡ Err fault) × (new ≡ old)
