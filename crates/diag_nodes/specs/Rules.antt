-- What the entries of a node say once it is configured (CiA 301), each over the numbers that they have: all that a node
-- has then, or those of them that are asked for.
use Rattle.std.specs.Prelude.{ℕ, ◌==◌, ◌&&◌, nat_le, if◌then◌else◌, List, [], ◌∷◌, Option, Some, None, option_map}
use Rattle.std.specs.Prelude.{option_and_then, filter_map}
use Rattle.std.specs.List.{cons_option}
use Rattle.co_values.specs.declared.form.Width.TheVariants.{Bits8, Bits16, Bits32}
use Rattle.cia301.specs.CobIds.{identifier_in, is_of_base_frames, is_valid}
use Rattle.eds_device.specs.Places.{pairs_of}
use Rattle.co_project.specs.Project.{Content}
use Rattle.project_plan.specs.Network.{Member}
use Rattle.project_plan.specs.Values.{Numbers, number_after}
use Rattle.project_plan.specs.Wanted.{is_tpdo_cob_id}
use Rattle.diag_nodes.specs.declared.consumer.HeartbeatConsumer.{HeartbeatConsumer}

-- ---- what a node says

-- the identifier of a PDO that is on: bits 31 and 29 of its COB-ID are clear
abbrev pub identifier_if_on : ℕ → Option ℕ
identifier_if_on cob_id = if is_valid cob_id && is_of_base_frames cob_id then Some (identifier_in cob_id) else None

-- THE IDENTIFIER with which a TPDO is on, by the place of its COB-ID
abbrev pub identifier_at : Numbers → ℕ × ℕ → Option ℕ
identifier_at numbers place =
    if is_tpdo_cob_id place then option_and_then identifier_if_on (numbers Bits32 place) else None

-- THE VALUE OF A HEARTBEAT CONSUMER: 1016h from sub-index 1 on
abbrev pub consumer_at : Numbers → ℕ × ℕ → Option ℕ
consumer_at numbers place = if place.0 == 0x1016 && nat_le 1 place.1 then numbers Bits32 place else None

-- THE PRODUCER HEARTBEAT TIME in milliseconds: 1017h, where it is there
abbrev pub heartbeat_time : Numbers → Option ℕ
heartbeat_time numbers = numbers Bits16 (0x1017, 0)

-- THE SYNCHRONOUS COUNTER OVERFLOW VALUE: 1019h
abbrev pub counter_at : Numbers → Option ℕ
counter_at numbers = numbers Bits8 (0x1019, 0)

-- ---- what there is of each kind at a node, by the numbers of nodes

abbrev pub identifiers_in : (ℕ × Member → Numbers) → ℕ × Member → List ℕ
identifiers_in numbers e = filter_map (identifier_at (numbers e)) (pairs_of e.1.sheet.sections)

-- a heartbeat consumer of a node, with the value of its entry
abbrev pub with_value : ℕ → ℕ → ℕ → HeartbeatConsumer
with_value node sub n = record { node = node; sub = sub; number = n }

abbrev pub consumer_of : Numbers → ℕ → ℕ × ℕ → Option HeartbeatConsumer
consumer_of numbers node place = option_map (with_value node place.1) (consumer_at numbers place)

abbrev pub consumers_in : (ℕ × Member → Numbers) → ℕ × Member → List HeartbeatConsumer
consumers_in numbers e = filter_map (consumer_of (numbers e) e.0) (pairs_of e.1.sheet.sections)

abbrev pub times_in : (ℕ × Member → Numbers) → ℕ × Member → List (ℕ × Option ℕ)
times_in numbers e = (e.0, heartbeat_time (numbers e)) ∷ []

abbrev pub counters_in : (ℕ × Member → Numbers) → ℕ × Member → List (ℕ × ℕ)
counters_in numbers e = cons_option (option_map (λ n. (e.0, n)) (counter_at (numbers e))) []

-- all numbers that a node has once it is configured
abbrev pub numbers_of : Content → ℕ × Member → Numbers
numbers_of p e = number_after p e.1 e.0
