-- The entries that the data sheet of a device gives a parameter (CiA 306).
use Rattle.std.specs.Prelude.{ℕ, Bool, List, filter, is_some}
use Rattle.ini_text.specs.Content.{Section}
use Rattle.eds_device.specs.Places.{pairs_of}
use Rattle.node_parameters.specs.Parameters.{given_text}

-- it gives an entry a ParameterValue that counts
abbrev pub is_given : List Section → ℕ × ℕ → Bool
is_given ss place = is_some (given_text ss place)

abbrev pub given_places : List Section → List (ℕ × ℕ)
given_places ss = filter (is_given ss) (pairs_of ss)
