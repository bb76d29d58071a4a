use Rattle.std.proofs.Common.{List, ◌∙◌, ap}
use Rattle.std.specs.List.{slice_get}
use Rattle.std.specs.Option.{option_and_then, option_copied}
use Rattle.std.specs.Ordering.{nat_cmp}
use Rattle.ini_text.specs.Content.{Pair}
use Rattle.eds_entries.specs.Names.{sub_listed}
use Rattle.eds_places.specs.Origins.{is_index}
use Rattle.eds_places.proofs.IndexLemmas.{finds}
use Rattle.eds_places.proofs.reading.listed_pair.Goals as goal

pub returns : goal.returns
returns c =
    c.pair_at.ensures
    ∙ ap (λ (xs : List Pair). option_and_then (slice_get xs) (option_copied c.get.result)) c.pairs.ensures
    ∙ ap (option_and_then (slice_get c.args.section.now.pairs)) c.get.ensures.value
    ∙ finds nat_cmp (λ key (p : Pair). is_index key (sub_listed p.key)) _ _ c.requires c.args.sub
