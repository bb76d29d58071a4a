-- Private: the same replies byte by byte, as the proofs of this crate walk. `Bytewise` of proofs/ joins them to
-- Replies.
use Rattle.std.specs.Prelude.{ℕ, List, [], ◌∷◌, ◌++◌, length, if◌then◌else◌, ◌==◌, Option, Some, None}
use Rattle.base.specs.Lines.{line_feed}
use Rattle.workbench.specs.Replies.{State, After, start, after_line, cut_off}

-- where a session is in its input: a state, and the line so far
pub record Cursor : Type 0 where
  pub state : State
  pub line : List ℕ

abbrev pub first_cursor : Cursor
first_cursor = record { state = start; line = [] }

abbrev pub at_break : After State → After Cursor
at_break p = record { state = record { state = p.state; line = [] }; replies = p.replies }

abbrev pub after_byte : Cursor → ℕ → After Cursor
after_byte c b =
    if b == line_feed then at_break (after_line c.state c.line)
    else record { state = record c { line = c.line ++ b ∷ [] }; replies = [] }

abbrev pub with_earlier : List (List ℕ) → After Cursor → After Cursor
with_earlier replies r = record { state = r.state; replies = replies ++ r.replies }

unfoldable pub after : Cursor → List ℕ → After Cursor
after c [] = record { state = c; replies = [] }
after c (b ∷ bs) = let first = after_byte c b in with_earlier first.replies (after first.state bs)

-- the end of the input ends a line that isn't empty
abbrev pub last_line : Cursor → After Cursor
last_line c = if length c.line == 0 then record { state = c; replies = [] } else at_break (after_line c.state c.line)

unfoldable pub at_end : Cursor → List (List ℕ)
at_end c = let last = last_line c in last.replies ++ cut_off last.state.state.block

-- the replies to a piece of the input, or to its end
abbrev pub replies_to_piece : Cursor → Option (List ℕ) → List (List ℕ)
replies_to_piece c (Some piece) = (after c piece).replies
replies_to_piece c None = at_end c
