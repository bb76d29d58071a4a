use Rattle.std.proofs.Common.{List, ◌∙◌, sym, ap, Some}
use Rattle.std.specs.List.{find}
use Rattle.std.specs.Option.{option_map}
use Rattle.ini_text.specs.Content.{Pair, same}
use Rattle.ini_text.proofs.PairLemmas.{value_found}
use Rattle.eds_entries.proofs.text.value_at.Goals as goal

pub returns : goal.returns
returns c =
    ap Some c.value.ensures
    ∙ ap (option_map (λ (p : Pair). p.value)) c.in_ok-pair.ensures
    ∙ ap (λ (ps : List Pair). option_map (λ (p : Pair). p.value)
    (find (λ (p : Pair). same c.args.key.now p.key) ps)) c.pairs.ensures
    ∙ sym (value_found c.args.section.now.pairs c.args.key.now)
