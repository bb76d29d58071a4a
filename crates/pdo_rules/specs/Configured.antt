-- What a PDO that works goes by, from the write of its entries on.
use Rattle.std.specs.Prelude.{ℕ, List, Option, Some, None, if◌then◌else◌}
use Rattle.co_dict.specs.Mappings.{mapping_of}
use Rattle.co_dict.specs.Shapes.{Shaped}
use Rattle.co_dict.specs.Values.{Values}
use Rattle.pdo_rules.specs.declared.communication.Communication.{Communication}
use Rattle.pdo_rules.specs.declared.configuration.Configuration.{Configuration}
use Rattle.pdo_rules.specs.Working.{count_of, event_time, identifier_of, inhibit_time, sync_start}
use Rattle.cia301.specs.PdoObjects.{mapping_object}
use Rattle.pdo_rules.specs.Working.{transmission_type, works}

-- its communication parameters
abbrev pub communication_of : Shaped → Values → ℕ → Communication
communication_of shape values object = record {
  transmission_type = transmission_type shape values object;
  inhibit_time = inhibit_time shape values object;
  event_time = event_time shape values object;
  sync_start = sync_start shape values object;
}

-- its mapping entries, from sub-index 1 to the count
abbrev pub mapping_now : Values → ℕ → List ℕ
mapping_now values object = mapping_of values (mapping_object object) (count_of values object)

-- THE PDO OF A COMMUNICATION OBJECT, if it works: the identifier of its frames, its communication parameters and its
-- mapping
unfoldable pub configuration_of : Shaped → Values → ℕ → Option Configuration
configuration_of shape values object =
    if works shape values object
    then Some (record {
      identifier = identifier_of values object;
      communication = communication_of shape values object;
      mapping = mapping_now values object;
    })
    else None
