-- The dummy entries of a device (CiA 301): what an RPDO maps in the place of bits that the device doesn't take.
use Rattle.std.specs.Prelude.{ℕ, ◌==◌, if◌then◌else◌, Option, Some, None, option_and_then}
use Rattle.pdo_stations.specs.declared.mapped.Mapped.{Mapped}
use Rattle.pdo_stations.specs.Devices.{Devices}

abbrev pub mapped_to : ℕ × ℕ → ℕ → Mapped
mapped_to place bits = record { index = place.0; sub = place.1; bits = bits }

-- the data type of the dummy of so many bits (CiA 301, dummy entries): BOOLEAN and UNSIGNED8, 16 and 32 have one
abbrev pub dummy_type : ℕ → Option ℕ
dummy_type bits =
    if bits == 1 then Some 0x0001
    else if bits == 8 then Some 0x0005
    else if bits == 16 then Some 0x0006
    else if bits == 32 then Some 0x0007
    else None

-- the dummy of so many bits, where a node allows it
abbrev pub dummy_for : Devices → ℕ → ℕ → Option Mapped
dummy_for devices node bits =
    option_and_then (λ kind. if devices.dummy node kind then Some (mapped_to (kind, 0) bits) else None)
    (dummy_type bits)
