use Rattle.std.proofs.Common.{rules}
use Rattle.std.specs.FinMap.{contains_key}
use Rattle.std.proofs.lemmas.Map.Made.{filter_same_pairs}
use Rattle.part_shelves.proofs.SlotLemmas.{names_kept}
use Rattle.part_shelves.proofs.device_shelf.keep_named.Goals as goal

pub returns : goal.returns
returns c =
    names_kept (contains_key c.args.project.now.texts) c.args.slots.now.entries c.retain.new.self.entries
    (filter_same_pairs _ (λ e. contains_key c.args.project.now.texts e.0.items) _ (λ k v b w after t. search rules)
    _ _ c.retain.ensures.filtered)
