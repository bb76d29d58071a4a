-- The values that the entries of a node have once it is configured (CiA 301, CiA 302): its defaults, and over them
-- each write in turn.
use Rattle.std.specs.Prelude.{ℕ, List, [], ◌∷◌, if◌then◌else◌, Option, None, option_map}
use Rattle.std.specs.FinMap.{get, insert}
use Rattle.byteorder.specs.Endian.{little_number}
use Rattle.co_values.specs.declared.form.Width.{Width}
use Rattle.co_values.specs.Types.{octets}
use Rattle.co_dict.specs.Values.{Values}
use Rattle.concise_dcf.specs.declared.write.Write.{Write}
use Rattle.concise_dcf.specs.Writes.{place_of}
use Rattle.eds_device.specs.Described.{kind_at}
use Rattle.eds_device.specs.Entries.{defaults_of}
use Rattle.eds_device.specs.Sheets.{Sheet}
use Rattle.pdo_stations.specs.Devices.{is_unsigned}
use Rattle.co_project.specs.Project.{Content}
use Rattle.project_plan.specs.Network.{Member, writes_of}

-- values, and over them each write in turn
abbrev pub after_writes : Values → List Write → Values
after_writes values [] = values
after_writes values (w ∷ ws) = after_writes (insert values (place_of w) w.bytes) ws

-- the values of a node once it is configured
unfoldable pub values_after : Content → Member → ℕ → Values
values_after p m node = after_writes (defaults_of m.sheet node) (writes_of p m node)

-- the numbers of a node: that of each entry that is there and UNSIGNEDn of a width
abbrev pub Numbers : Type 0
Numbers = Width → ℕ × ℕ → Option ℕ

-- those that entries have among values
abbrev pub number_among : Sheet → Values → Width → ℕ × ℕ → Option ℕ
number_among sheet values width place =
    if is_unsigned (kind_at sheet place) width then option_map (little_number (octets width)) (get values place) else None

-- those that they have once the node is configured
unfoldable pub number_after : Content → Member → ℕ → Width → ℕ × ℕ → Option ℕ
number_after p m node width place = number_among m.sheet (values_after p m node) width place
