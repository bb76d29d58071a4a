use Rattle.std.proofs.Common.{◌∙◌, sym, ap, Some}
use Rattle.std.specs.Option.{option_map}
use Rattle.ini_text.specs.Content.{Pair}
use Rattle.ini_text.proofs.PairLemmas.{value_found}
use Rattle.ini_text.proofs.section.Section.get.Goals as goal

pub returns : goal.returns
returns c =
    rw (← c.self.view_is) (ap Some c.value.ensures ∙ ap (option_map (λ (p : Pair). p.value)) c.in_ok-pair.ensures.key
    ∙ sym (value_found c.self.inside.pairs.keys c.args.key.now))
