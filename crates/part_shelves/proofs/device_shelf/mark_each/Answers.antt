use Rattle.std.proofs.Common.{rules}
use Rattle.std.proofs.lemmas.Map.Made.{map_same_pairs}
use Rattle.part_shelves.specs.Slots.{marked}
use Rattle.part_shelves.proofs.SlotLemmas.{all_marked}
use Rattle.part_shelves.proofs.device_shelf.mark_each.Goals as goal

pub returns : goal.returns
returns c =
    all_marked c.args.slots.now.entries c.retain.new.self.entries
    (map_same_pairs _ marked _ (λ k v b w after t. search rules) _ _ c.retain.ensures.filtered)
