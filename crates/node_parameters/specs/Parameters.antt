-- The parameters of a node, and the writes that they are. CiA 306 gives an entry its ParameterValue; which text counts
-- and what isn't written is this profile's own.
use Rattle.std.specs.Prelude.{ℕ, if◌then◌else◌, List, Option, None, option_map, option_and_then, filter_map}
use Rattle.std.specs.FinMap.{get}
use Rattle.std.specs.Option.{option_or}
use Rattle.std.specs.Result.{result_ok}
use Rattle.ini_text.specs.Content.{Section}
use Rattle.concise_dcf.specs.declared.write.Write.{Write}
use Rattle.eds_device.specs.Described.{value_text, unless_empty}
use Rattle.eds_device.specs.Entries.{entry_at}
use Rattle.eds_device.specs.Places.{pairs_of}
use Rattle.eds_device.specs.Sheets.{Sheet}
use Rattle.cia301.specs.PdoObjects.{is_of_pdos}
use Rattle.node_parameters.specs.Params.{Texts}
use Rattle.node_parameters.specs.Judgement.{parameter_bytes}

-- the ParameterValue of the device's text
abbrev pub given_text : List Section → ℕ × ℕ → Option (List ℕ)
given_text ss place = if is_of_pdos place.0 then None else value_text ss place.0 place.1

-- the text of a parameter: the node's own hides that of the device, whatever it says; an empty text is none
unfoldable pub parameter_text : List Section → Texts → ℕ × ℕ → Option (List ℕ)
parameter_text ss params place = option_and_then unless_empty (option_or (get params place) (given_text ss place))

abbrev pub write_to : ℕ × ℕ → List ℕ → Write
write_to place bytes = record { index = place.0; sub = place.1; bytes = bytes }

-- the write of the parameter of an entry, where it has a text and no fault
abbrev pub parameter_write : Sheet → Texts → ℕ → ℕ × ℕ → Option Write
parameter_write sheet params node place =
    option_map (write_to place)
    (option_and_then (λ text. result_ok (parameter_bytes (entry_at sheet node place.0 place.1) text node))
    (parameter_text sheet.sections params place))

-- THE WRITES of a node's parameters, by index and sub-index
unfoldable pub parameter_writes : Sheet → Texts → ℕ → List Write
parameter_writes sheet params node = filter_map (parameter_write sheet params node) (pairs_of sheet.sections)
