-- The replies to an input: a fold over its lines, from the first project (this profile's own).
use Rattle.std.specs.Prelude.{ℕ, zero, suc, ◌-◌, Bool, ◌&&◌, length, nat_le, List, [], ◌∷◌, ◌++◌, codes, if◌then◌else◌}
use Rattle.std.specs.Prelude.{◌==◌, Option, Some, None, Result, Ok, Err}
use Rattle.base.specs.Blanks.{is_blank_line, trim_end}
use Rattle.base.specs.Lines.{line_feed, is_cr}
use Rattle.base.specs.Lines.{lines_of}
use Rattle.project_edits.specs.declared.fault.EditFault.{EditFault}
use Rattle.project_edits.specs.declared.fault.EditFault.TheVariants.{Syntax, Truncated}
use Rattle.project_edits.specs.Faults.{refusal_text}
use Rattle.project_edits.specs.declared.edit.Edit.{Edit}
use Rattle.script_commands.specs.declared.request.Request.{Request}
use Rattle.script_commands.specs.declared.request.Request.TheVariants.{Edit as EditAsked, Query as QueryAsked, Block}
use Rattle.script_commands.specs.Requests.{request}
use Rattle.project_edits.specs.Eds.{eds_edit}
use Rattle.co_project.specs.Project.{Content, first, accept}
use Rattle.base.specs.Replies.{lines_reply}
use Rattle.workbench.specs.Queries.{answer}

-- an `eds` command whose block isn't complete: its name (none where its line wasn't of its form; then the command is
-- refused once its lines have come), how many lines are to come, those that came
pub record OpenBlock : Type 0 where
  pub name : Option (List ℕ)
  pub left : ℕ
  pub lines : List (List ℕ)

-- what stands between two lines: the project, and the open block
pub record State : Type 0 where
  pub project : Content
  pub block : Option OpenBlock

-- the first project, and no block
abbrev pub start : State
start = record { project = first; block = None }

-- where some input leads, and the replies to the commands that it completes
pub record After (S : Type 0) : Type 0 where
  pub state : S
  pub replies : List (List ℕ)

abbrev pub without_reply : State → After State
without_reply state = record { state = state; replies = [] }

-- the reply to an edit that was taken
abbrev pub ok_reply : List ℕ
ok_reply = codes "ok" ++ line_feed ∷ []

abbrev pub with_reply : Content → List ℕ → After State
with_reply p text = record { state = record { project = p; block = None }; replies = text ∷ [] }

-- an edit: `ok` and the new project, or a refusal and the same project
abbrev pub after_verdict : Content → Result Content EditFault → After State
after_verdict p (Ok q) = with_reply q ok_reply
after_verdict p (Err fault) = with_reply p (refusal_text fault)

abbrev pub after_edit : Content → Result Edit EditFault → After State
after_edit p (Ok edit) = after_verdict p (accept p edit)
after_edit p (Err fault) = with_reply p (refusal_text fault)

-- a query: its answer, or a refusal
abbrev pub after_query : Content → Result (List ℕ) EditFault → After State
after_query p (Ok text) = with_reply p (lines_reply text)
after_query p (Err fault) = with_reply p (refusal_text fault)

-- the edit of an `eds` line and its block
abbrev pub block_edit : Option (List ℕ) → List (List ℕ) → Result Edit EditFault
block_edit None lines = Err Syntax
block_edit (Some name) lines = eds_edit name lines

-- an `eds` command with some lines of its block, and the number of those to come
abbrev pub in_block : Content → Option (List ℕ) → ℕ → List (List ℕ) → After State
in_block p name zero lines = after_edit p (block_edit name lines)
in_block p name (suc n) lines =
    without_reply (record { project = p; block = Some (record { name = name; left = suc n; lines = lines }) })

abbrev pub after_request : Content → Result Request EditFault → After State
after_request p (Ok (EditAsked edit)) = after_verdict p (accept p edit)
after_request p (Ok (QueryAsked query)) = after_query p (answer p query)
after_request p (Ok (Block name n)) = in_block p name n []
after_request p (Err fault) = with_reply p (refusal_text fault)

-- at most 4,096 spaces and tabs, or nothing
abbrev pub is_skipped : List ℕ → Bool
is_skipped line = nat_le (length line) 4096 && is_blank_line line

abbrev pub after_command_line : Content → Option OpenBlock → List ℕ → After State
after_command_line p None line = if is_skipped line then without_reply (record { project = p; block = None })
    else after_request p (request line)
after_command_line p (Some block) line = in_block p block.name (block.left - 1) (block.lines ++ line ∷ [])

-- one more line: the CRs at its end are removed, and it belongs to the open block or is a command
unfoldable pub after_line : State → List ℕ → After State
after_line state line = after_command_line state.project state.block (trim_end is_cr line)

abbrev pub after_lines : State → List (List ℕ) → After State
after_lines state [] = without_reply state
after_lines state (line ∷ lines) =
    let one = after_line state line in
    let others = after_lines one.state lines in
    record { state = others.state; replies = one.replies ++ others.replies }

-- the end of the input cuts an open block off
abbrev pub cut_off : Option OpenBlock → List (List ℕ)
cut_off None = []
cut_off (Some block) = refusal_text Truncated ∷ []

-- the replies to these lines, after which the input ends
abbrev pub replies_to_lines : List (List ℕ) → List (List ℕ)
replies_to_lines lines = let all = after_lines start lines in all.replies ++ cut_off all.state.block

-- THE REPLIES to all of an input, whose lines end by LF or, where the last isn't empty, by its end
unfoldable pub replies : List ℕ → List (List ℕ)
replies input = replies_to_lines (lines_of input)

-- b put before the first of the lines, if there is one
abbrev pub before_first : ℕ → List (List ℕ) → List (List ℕ)
before_first b [] = []
before_first b (line ∷ lines) = (b ∷ line) ∷ lines

-- the lines of these bytes that an LF ends, each without it
unfoldable pub ended_lines : List ℕ → List (List ℕ)
ended_lines [] = []
ended_lines (b ∷ bs) = if b == line_feed then [] ∷ ended_lines bs else before_first b (ended_lines bs)

-- THE REPLIES to the commands that are complete in these bytes, whatever follows
unfoldable pub complete_replies : List ℕ → List (List ℕ)
complete_replies bytes = (after_lines start (ended_lines bytes)).replies
