-- What doesn't answer `ok` leaves the project as it is.
use Rattle.std.proofs.Common.{◌≡◌, ◌≢◌, ℕ, zero, suc, true, false, List, [], ◌∷◌, ◌++◌, Option, Some, None, Result, Ok}
use Rattle.std.proofs.Common.{Err, refl}
use Rattle.std.specs.Prelude.{if◌then◌else◌, ◌-◌}
use Rattle.base.specs.Blanks.{trim_end}
use Rattle.base.specs.Lines.{is_cr}
use Rattle.project_edits.specs.declared.fault.EditFault.{EditFault}
use Rattle.project_edits.specs.declared.edit.Edit.{Edit}
use Rattle.script_commands.specs.declared.request.Request.{Request}
use Rattle.script_commands.specs.declared.request.Request.TheVariants.{Edit as EditAsked, Query as QueryAsked, Block}
use Rattle.script_commands.specs.Requests.{request}
use Rattle.co_project.specs.Project.{Content, accept}
use Rattle.workbench.specs.Queries.{answer}
use Rattle.workbench.specs.Replies.{OpenBlock, State, After, ok_reply, without_reply, after_verdict, after_edit}
use Rattle.workbench.specs.Replies.{after_query, block_edit, in_block, after_request, is_skipped, after_command_line}
use Rattle.workbench.specs.Replies.{after_line}

abbrev Keeps : Content → After State → Type 0
Keeps p progress = progress.replies ≢ ok_reply ∷ [] → progress.state.project ≡ p

keeps-edited : (p : Content) (r : Result Content EditFault) → Keeps p (after_verdict p r)
keeps-edited p (Ok q) h = absurd (h refl)
keeps-edited p (Err fault) h = refl

keeps-after_edit : (p : Content) (r : Result Edit EditFault) → Keeps p (after_edit p r)
keeps-after_edit p (Ok edit) = keeps-edited p (accept p edit)
keeps-after_edit p (Err fault) = λ _. refl

keeps-queried : (p : Content) (r : Result (List ℕ) EditFault) → Keeps p (after_query p r)
keeps-queried p (Ok text) h = refl
keeps-queried p (Err fault) h = refl

keeps-in_block : (p : Content) (name : Option (List ℕ)) (n : ℕ) (lines : List (List ℕ))
    → Keeps p (in_block p name n lines)
keeps-in_block p name zero lines = keeps-after_edit p (block_edit name lines)
keeps-in_block p name (suc n) lines = λ _. refl

keeps-asked : (p : Content) (r : Result Request EditFault) → Keeps p (after_request p r)
keeps-asked p (Ok (EditAsked edit)) = keeps-edited p (accept p edit)
keeps-asked p (Ok (QueryAsked query)) = keeps-queried p (answer p query)
keeps-asked p (Ok (Block name n)) = keeps-in_block p name n []
keeps-asked p (Err fault) = λ _. refl

keeps-taken : (p : Content) (block : Option OpenBlock) (line : List ℕ) → Keeps p (after_command_line p block line)
keeps-taken p None line =
    elim (is_skipped line) as (λ t. Keeps p (if t then without_reply (record { project = p; block = None })
    else after_request p (request line))) [
      | true ↦ λ _. refl
      | false ↦ keeps-asked p (request line)
    ]
keeps-taken p (Some block) line = keeps-in_block p block.name (block.left - 1) (block.lines ++ line ∷ [])

pub refused_changes_nothing : (state : State) (line : List ℕ) → (after_line state line).replies ≢ ok_reply ∷ []
    → (after_line state line).state.project ≡ state.project
unfolding after_line
refused_changes_nothing state line = keeps-taken state.project state.block (trim_end is_cr line)
