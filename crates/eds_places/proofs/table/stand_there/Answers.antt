use Rattle.std.proofs.Common.{ℕ, List, ap, ◌∙◌}
use Rattle.std.specs.List.{slice_get}
use Rattle.eds_places.specs.Table.{standing}
use Rattle.eds_places.proofs.TableLemmas.{stand_there}
use Rattle.eds_places.proofs.table.stand_there.Goals as goal

pub returns : goal.returns
returns c =
    ap (standing c.args.sections.now) c.stand_at.ensures
    ∙ stand_there c.args.sections.now c.args.places.now c.args.stands.now c.args.position c.args.index c.args.sub
    c.requires.stands
    (ap (λ (ps : List (ℕ × ℕ)). slice_get ps c.args.position) c.requires.places ∙ c.requires.there)
