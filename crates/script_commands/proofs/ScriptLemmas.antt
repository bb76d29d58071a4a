-- The lines of printed edits.
use Rattle.std.proofs.Common.{◌≡◌, ℕ, false, List, [], ◌∷◌, ◌++◌, refl, sym, ap, ◌∙◌, subst, append_assoc, arith}
use Rattle.std.specs.Prelude.{◌==◌}
use Rattle.std.specs.List.{list_any, onto_first, AllByRecursion}
use Rattle.std.proofs.lemmas.Bool.{or_parts}
use Rattle.std.proofs.lemmas.Bool.Decides.{nat_tests}
use Rattle.base.specs.Blanks.{trim_end}
use Rattle.base.specs.Lines.{lines_of, line_count, is_cr}
use Rattle.project_edits.specs.declared.edit.Edit.{Edit}
use Rattle.project_edits.specs.declared.edit.Edit.TheVariants as edit
use Rattle.project_edits.specs.Forms.{is_control}
use Rattle.project_edits.specs.Eds.{text_of as eds_text}
use Rattle.project_edits.specs.Edits.{IsEdit}
use Rattle.project_edits.specs.Lines.{line_of, block_of, text_of}
use Rattle.script_commands.proofs.LineFeeds.{other_first, first_other, no_lf, no_lf_kept}
use Rattle.script_commands.proofs.PrintedLemmas.{read_again}

-- a line without control bytes has no LF
pub clean_no_lf : (line : List ℕ) → list_any is_control line ≡ false → line_count line ≡ 0
clean_no_lf [] clean = refl
clean_no_lf (b ∷ line) clean =
    let both = or_parts (is_control b) (list_any is_control line) clean in
    other_first b line (one b both.0) (clean_no_lf line both.1)
  where
    one : (b : ℕ) → is_control b ≡ false → (b == 10) ≡ false
    one b h = grind (arith, nat_tests)

-- a line that is ended is the first
pub ended_line : (line rest : List ℕ) → line_count line ≡ 0 → lines_of (line ++ 10 ∷ rest) ≡ line ∷ lines_of rest
unfolding lines_of
ended_line [] rest none = refl
ended_line (b ∷ line) rest none =
    let both = first_other b line none in
    rw both.0 (ap (onto_first b) (ended_line line rest both.1))

-- lines that are ended come before those that follow
ended_lines : (lines : List (List ℕ)) (rest : List ℕ) → AllByRecursion (λ line. line_count line ≡ 0) lines
    → lines_of (eds_text lines ++ rest) ≡ lines_of (eds_text lines) ++ lines_of rest
unfolding lines_of
ended_lines [] rest none = refl
ended_lines (line ∷ lines) rest none =
    let kept = trim_end is_cr line in
    let others = eds_text lines in
    let first : (after : List ℕ) → lines_of ((kept ++ 10 ∷ []) ++ after)
    ≡ kept ∷ lines_of after = λ after. ap lines_of (append_assoc kept (10 ∷ []) after)
    ∙ ended_line kept after (no_lf_kept line none.0) in
    ap lines_of (append_assoc (kept ++ 10 ∷ []) others rest) ∙ first (others ++ rest)
    ∙ ap (λ (ls : List (List ℕ)). kept ∷ ls) (ended_lines lines rest none.1)
    ∙ ap (λ (ls : List (List ℕ)). ls ++ lines_of rest) (sym (first others))

-- the lines that follow that of an edit
block_lines : (o : Edit) (rest : List ℕ) → IsEdit o
    → lines_of (block_of o ++ rest) ≡ lines_of (block_of o) ++ lines_of rest
unfolding IsEdit lines_of
block_lines (edit.Eds name text) rest is =
    subst (λ (t : List ℕ). lines_of (t ++ rest)
    ≡ lines_of t ++ lines_of rest) is.ended (ended_lines (lines_of text) rest (no_lf text))
block_lines other rest is = refl

-- the lines of an edit as text, before those of what follows
pub order_lines : (o : Edit) (rest : List ℕ) → IsEdit o
    → lines_of (text_of o ++ rest) ≡ (line_of o ∷ lines_of (block_of o)) ++ lines_of rest
unfolding text_of
order_lines o rest is =
    ap lines_of (append_assoc (line_of o) (10 ∷ block_of o) rest)
    ∙ ended_line (line_of o) (block_of o ++ rest) (clean_no_lf (line_of o) (read_again o is).clean)
    ∙ ap (λ (ls : List (List ℕ)). line_of o ∷ ls) (block_lines o rest is)
