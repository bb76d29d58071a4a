use Rattle.std.proofs.Common.{◌≡◌, ℕ, List, Option, ap, ◌∙◌}
use Rattle.std.specs.FinMap.{insert}
use Rattle.std.specs.Option.{option_map_or}
use Rattle.eds_device.specs.Common.{with_default, with_defaults}
use Rattle.eds_device.proofs.DefaultLemmas.{set_first, set_last}
use Rattle.eds_device.proofs.data_sheet.DataSheet.add_alike.Goals as goal

pub returns-in_ok-push : goal.returns-in_ok-push
returns-in_ok-push c = λ node.
    let place : ℕ × ℕ = (c.args.index, c.args.sub) in
    ap (λ (ps : List (ℕ × ℕ)). with_defaults c.args.self.now node ps c.args.values.now) c.in_ok-push.ensures.items
    ∙ set_last c.args.self.now node c.args.others.now.items c.args.values.now place

pub returns-in_ok-add_default : goal.returns-in_ok-add_default
returns-in_ok-add_default c = λ node.
    let sheet = c.args.self.now in
    let place : ℕ × ℕ = (c.args.index, c.args.sub) in
    let same = c.may_differ.ensures c.if-may_differ.false 0 node in
    ap (with_defaults sheet node c.args.others.now.items) (c.in_ok-add_default.ensures
    ∙ ap (λ (o : Option (List ℕ)). option_map_or (insert c.args.values.now place) o c.args.values.now) same)
    ∙ set_first sheet node c.args.others.now.items c.args.values.now place
