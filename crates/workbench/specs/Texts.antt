-- The texts of answers.
use Rattle.std.specs.Prelude.{ℕ, List}
use Rattle.diag_lines.specs.Lines.{diag_text}
use Rattle.base.specs.Hex.{hex_text}
use Rattle.workbench.specs.declared.answers.Answer.{Answer}
use Rattle.workbench.specs.declared.answers.Answer.TheVariants.{File, Concise, Diagnostics, Made}

-- the lines that an answer has
abbrev pub text_of : Answer → List ℕ
text_of (File text) = text
text_of (Concise bytes) = hex_text bytes
text_of (Diagnostics list) = diag_text list
text_of (Made text) = text
