-- A call of the manager that goes by a rule: what it leaves, what it tells, and what it asks for.
use Rattle.std.specs.Prelude.{◌≡◌, ℕ, List, ◌++◌}
use Rattle.image_parts.specs.Asking.{Asking, Seen, outcome}
use Rattle.image_parts.specs.Record.{IsAsked}
use Rattle.image_parts.specs.Contents.{Content}
use Rattle.image_parts.specs.declared.part.Part.{Part}
use Rattle.node_boot.specs.declared.note.Note.{Note}
use Rattle.nmt_boot.specs.Manager.{Manager}

-- THE CALL GOES BY A RULE: the manager is then as the rule answers under the image, the notes are those of before and
-- then the rule's, and all that the rule reads was handed out and no more
pub record TellsBy {X : Type 0} (rule : Asking Part Content (Manager × List Note)) (manager : Manager)
    (seen : X → Seen Part Content) (asks : X → ℕ) (old new : X) (notes_old notes_new : List Note) : Type 0 where
  pub state : manager ≡ (outcome rule (seen old).image).0
  pub notes : notes_new ≡ notes_old ++ (outcome rule (seen old).image).1
  pub asked : IsAsked rule (seen old) (seen new) (asks old) (asks new)
