-- The lines of an EDS, counted and read again.
use Rattle.std.proofs.Common.{◌≡◌, ℕ, false, List, length, refl, sym, ap, ◌∙◌, Ok, nat_lt}
use Rattle.std.proofs.lemmas.Bool.{or_parts, le-ltb}
use Rattle.ini_text.specs.Content.{content_of}
use Rattle.base.specs.Lines.{lines_of, line_count}
use Rattle.project_edits.specs.declared.edit.Edit.TheVariants.{Eds}
use Rattle.project_edits.specs.Eds.{most_lines, most_bytes, has_long_line, eds_edit, IsEds}
use Rattle.script_commands.proofs.LineFeeds.{no_lf, counted}
use Rattle.project_edits.proofs.EdsLemmas.{same_lines, good_lines, device_parts}

module _ (name text : List ℕ) (is : IsEds name text) where
  -- it has as many lines as LFs
  pub lines_counted : length (lines_of text) ≡ line_count text
  lines_counted = sym (counted (lines_of text) (no_lf text)) ∙ ap line_count is.ended

  -- its lines are the edit again
  pub edit_again : eds_edit name (lines_of text) ≡ Ok (Eds name text)
  unfolding eds_edit
  edit_again =
      let parts = device_parts text (content_of text) is.device in
      let sizes = or_parts (nat_lt most_bytes (length text)) _ parts.0 in
      let short : has_long_line (lines_of text) ≡ false = rw (sym (same_lines text)) sizes.1 in
      rw (
        is.name,
        le-ltb most_lines (length (lines_of text)) is.lines,
        short,
        is.ended,
        sizes.0,
        good_lines text parts.1,
        parts.2,
      ) refl
