use Rattle.std.proofs.Common.{ℕ, pos, Option, option_map, option_and_then, ap, ◌∙◌}
use Rattle.co_values.specs.Number.{digits_of, formula_in}
use Rattle.co_values.specs.Values.{unsigned_bits}
use Rattle.co_values.proofs.KeptFormulas.{bits_of_digits}
use Rattle.co_values.proofs.spelling.Spelling.digits.Goals as goal

pub returns : goal.returns
returns c = λ width.
    let is = c.digits.ensures ∙ ap digits_of (c.self.invariant ∙ ap formula_in c.self.view_is) in
    ap (λ (o : Option ℕ). option_and_then (unsigned_bits width) (option_map pos o)) is
    ∙ bits_of_digits c.args.self.now width
