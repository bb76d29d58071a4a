-- Frames that wait for the bus, in the list of their node (this profile's own).
use Rattle.std.specs.Prelude.{ℕ, Bool, true, false, not, ◌==◌, if◌then◌else◌, List, [], ◌∷◌, map, filter}
use Rattle.std.specs.List.{list_any}
use Rattle.can_frame.specs.Frames.{BaseFrame}
use Rattle.can_frame.specs.declared.purpose.Purpose.{Purpose}
use Rattle.can_frame.specs.declared.purpose.Purpose.TheVariants.{BootUp, Heartbeat, Tpdo, Sdo, Emergency, Sync, Time, Nmt}
use Rattle.can_frame.specs.declared.unwanted.Unwanted.{Unwanted}
use Rattle.can_frame.specs.declared.unwanted.Unwanted.TheVariants.{All, Tpdos, Sdos, SdoOf, Emergencies}
use Rattle.can_frame.specs.declared.waiting.Waiting.{Waiting}

-- one purpose is the other
abbrev pub is_same : Purpose → Purpose → Bool
is_same BootUp BootUp = true
is_same Heartbeat Heartbeat = true
is_same (Tpdo number) (Tpdo other) = number == other
is_same (Sdo node) (Sdo other) = node == other
is_same Emergency Emergency = true
is_same Sync Sync = true
is_same Time Time = true
is_same Nmt Nmt = true
is_same _ _ = false

-- which frames are to be dropped
abbrev pub is_unwanted : Unwanted → Purpose → Bool
is_unwanted All purpose = true
is_unwanted Tpdos (Tpdo number) = true
is_unwanted Sdos (Sdo node) = true
is_unwanted (SdoOf node) (Sdo other) = node == other
is_unwanted Emergencies Emergency = true
is_unwanted _ _ = false

-- a frame that waits for a purpose
abbrev pub waiting : Purpose → BaseFrame → Waiting
waiting purpose frame = record { purpose = purpose; frame = frame }

-- a frame of a purpose is among those that wait
abbrev pub waits_for : Purpose → List Waiting → Bool
waits_for purpose frames = list_any (λ w. is_same w.purpose purpose) frames

-- the list where a frame takes the place of the first of its purpose, and is last where there is none
abbrev pub with_latest : Purpose → BaseFrame → List Waiting → List Waiting
with_latest purpose frame [] = waiting purpose frame ∷ []
with_latest purpose frame (w ∷ frames) = if is_same w.purpose purpose then waiting purpose frame ∷ frames
    else w ∷ with_latest purpose frame frames

-- the list without what is unwanted
abbrev pub without_unwanted : Unwanted → List Waiting → List Waiting
without_unwanted unwanted frames = filter (λ w. not (is_unwanted unwanted w.purpose)) frames

-- the identifiers of those that wait
abbrev pub identifiers : List Waiting → List ℕ
identifiers frames = map (λ w. w.frame.id) frames
