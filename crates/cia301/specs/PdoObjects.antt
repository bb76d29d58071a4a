-- The objects of PDOs (CiA 301).
use Rattle.std.specs.Prelude.{ℕ, ◌+◌, ◌%◌, ◌||◌, Bool}
use Rattle.base.specs.Ranges.{is_between}

-- ---- by the number of a PDO

-- the communication object of a TPDO: 1800h for TPDO 1
abbrev pub tpdo_object : ℕ → ℕ
tpdo_object number = 0x17FF + number

-- that of an RPDO: 1400h for RPDO 1
abbrev pub rpdo_object : ℕ → ℕ
rpdo_object number = 0x13FF + number

-- the mapping object of a PDO, 200h above its communication object
abbrev pub mapping_object : ℕ → ℕ
mapping_object object = object + 0x200

-- ---- by their indices

-- 1400h to 1BFFh: the communication and mapping objects of PDOs, which messages alone configure
abbrev pub is_of_pdos : ℕ → Bool
is_of_pdos index = is_between 0x1400 0x1BFF index

-- 1400h to 17FFh: the objects of RPDOs
abbrev pub is_of_rpdos : ℕ → Bool
is_of_rpdos index = is_between 0x1400 0x17FF index

-- 1800h to 1BFFh: the objects of TPDOs
abbrev pub is_of_tpdos : ℕ → Bool
is_of_tpdos index = is_between 0x1800 0x1BFF index

-- 1400h to 15FFh and 1800h to 19FFh: the communication objects of RPDOs and TPDOs
abbrev pub is_communication_object : ℕ → Bool
is_communication_object index = is_between 0x1400 0x15FF index || is_between 0x1800 0x19FF index

-- 1600h to 17FFh and 1A00h to 1BFFh: the mapping objects of RPDOs and TPDOs
abbrev pub is_mapping_object : ℕ → Bool
is_mapping_object index = is_between 0x1600 0x17FF index || is_between 0x1A00 0x1BFF index

-- the number of the PDO that such an object is of: 1400h, 1600h, 1800h and 1A00h are those of the first
abbrev pub number_of_object : ℕ → ℕ
number_of_object index = index % 0x200 + 1
