use Rattle.std.proofs.Common.{ℕ, List, ◌∙◌, ap}
use Rattle.std.specs.Prelude.{option_map}
use Rattle.std.specs.List.{slice_get}
use Rattle.ini_text.specs.Content.{Section}
use Rattle.eds_places.specs.Index.{FindsFirsts}
use Rattle.eds_places.specs.Origins.{sub_section}
use Rattle.eds_places.proofs.table.sub_position.Goals as goal

pub returns : goal.returns
unfolding FindsFirsts sub_section
returns c =
    let key : ℕ × ℕ = (c.args.index, c.args.sub) in
    let ss : List Section = c.args.sections.now in
    ap (option_map (slice_get ss)) (c.copied.ensures ∙ c.get.ensures.value) ∙ c.requires key
