-- Devices by the names of their EDS, each with what it was read from and a mark.
use Rattle.std.specs.Prelude.{ℕ, Bool, true, false, List, Option, option_map}
use Rattle.std.specs.FinMap.{FinMap, get, insert}
use Rattle.std.specs.Option.{option_map_or}
use Rattle.project_messages.specs.Messages.{name_cmp}
use Rattle.part_shelves.specs.SheetText.{SheetText}
use Rattle.part_shelves.specs.declared.device_slot.DeviceSlot.{DeviceSlot}

abbrev pub Slots : Type 0
Slots = FinMap name_cmp DeviceSlot

-- what the device that is kept under a name was read from
abbrev pub sheet_kept : Slots → List ℕ → Option SheetText
sheet_kept slots name = option_map (λ (s : DeviceSlot). s.kept) (get slots name)

-- it has no mark
abbrev pub fresh_at : Slots → List ℕ → Bool
fresh_at slots name = option_map_or (λ (s : DeviceSlot). s.fresh) (get slots name) false

-- a device of now
abbrev pub fresh_slot : SheetText → DeviceSlot
fresh_slot given = record { kept = given; fresh = true }

-- with a mark
abbrev pub marked : DeviceSlot → DeviceSlot
marked slot = record slot { fresh = false }

-- with the mark of a name set or taken, if a device is kept under it
abbrev pub with_fresh : Slots → List ℕ → Bool → Slots
with_fresh slots name fresh =
    option_map_or (λ (s : DeviceSlot). insert slots name (record s { fresh = fresh })) (get slots name) slots
