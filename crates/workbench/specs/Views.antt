-- Private: what the structs of a session hold, without where it lies in memory.
use Rattle.std.specs.Prelude.{◌≡◌, ℕ, List, [], ◌∷◌, Option, Some, None, Result, Ok, Err}
use Rattle.project_edits.specs.declared.fault.EditFault.{EditFault}
use Rattle.project_edits.specs.declared.fault.EditFault.TheVariants.{Memory}
use Rattle.project_edits.specs.Eds.{block_lines}
use Rattle.project_edits.specs.Faults.{refusal_text}
use Rattle.co_project.specs.Project.{Content}
use Rattle.base.specs.Replies.{lines_reply}
use Rattle.workbench.specs.Texts.{text_of}
use Rattle.workbench.specs.declared.cursor.Cursor.{Cursor as TheCursor}
use Rattle.workbench.specs.declared.open_block.OpenBlock.{OpenBlock as TheBlock}
use Rattle.workbench.specs.declared.reply.Reply.{Reply}
use Rattle.workbench.specs.declared.reply.Reply.TheVariants.{Nothing, Fixed, Lines}
use Rattle.workbench.specs.Machine.{Cursor}
use Rattle.workbench.specs.Replies.{OpenBlock, State, After}

abbrev pub block_of : Option TheBlock → Option OpenBlock
block_of None = None
block_of (Some b) = Some (record { name = b.name; left = b.left; lines = block_lines b.lines.items })

abbrev pub cursor_of : TheCursor → Cursor
cursor_of c = record { state = record { project = c.workbench.project; block = block_of c.block }; line = c.line.items }

abbrev pub replies_of : Reply → List (List ℕ)
replies_of Nothing = []
replies_of (Fixed text) = text.now ∷ []
replies_of (Lines answer) = lines_reply (text_of answer) ∷ []

-- a line has ended
abbrev pub ended_at : TheCursor → Reply → After Cursor
ended_at c reply = record { state = cursor_of c; replies = replies_of reply }

-- a line was taken
abbrev pub taken_at : Content → Option TheBlock → Reply → After State
taken_at p b reply = record { state = record { project = p; block = block_of b }; replies = replies_of reply }

-- memory has no reply, each other fault its own
abbrev pub Refuses : {E : Type 0} → EditFault → Result Reply E → Type 0
Refuses Memory (Ok reply) = ⊥
Refuses Memory (Err e) = Unit {0}
Refuses fault (Ok reply) = replies_of reply ≡ refusal_text fault ∷ []
Refuses fault (Err e) = ⊥
