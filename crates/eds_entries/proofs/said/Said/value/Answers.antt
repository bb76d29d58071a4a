use Rattle.std.proofs.Common.{ℕ, Option, ◌∙◌, ap}
use Rattle.eds_entries.specs.declared.said.Said.{Said}
use Rattle.eds_entries.specs.Said.{said_in, value_from}
use Rattle.eds_entries.proofs.TextLemmas.{value_is_from}
use Rattle.eds_entries.proofs.said.Said.value.Goals as goal

pub returns : goal.returns
unfolding said_in
returns c =
    c.value_from.ensures
    ∙ ap (λ (s : Said). value_from c.args.section.now s.value) c.requires
    ∙ value_is_from c.args.section.now _
