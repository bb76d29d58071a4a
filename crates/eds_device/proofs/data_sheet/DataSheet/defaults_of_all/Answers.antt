use Rattle.std.proofs.Common.{◌≡◌, ℕ, List, ap, ◌∙◌}
use Rattle.std.specs.FinMap.{empty}
use Rattle.co_dict.specs.Values.{Values}
use Rattle.eds_device.specs.Common.{with_defaults}
use Rattle.eds_places.specs.Places.{pairs_of}
use Rattle.eds_device.proofs.DefaultLemmas.{all_set}
use Rattle.eds_device.proofs.data_sheet.DataSheet.defaults_of_all.Goals as goal

pub returns : goal.returns
returns c =
    let sheet = c.args.self.now in
    c.in_ok-add_defaults.ensures
    ∙ ap (λ (ps : List (ℕ × ℕ)). with_defaults sheet c.args.node ps c.new-dict.result) c.pairs.ensures.pairs
    ∙ ap (with_defaults sheet c.args.node (pairs_of sheet.sections)) c.new-dict.ensures
    ∙ all_set sheet c.args.node
