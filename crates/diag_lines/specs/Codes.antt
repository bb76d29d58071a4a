-- The codes of diagnostics and their numbers (this profile's own).
use Rattle.std.specs.Prelude.{ℕ, ◌==◌, ◌||◌, nat_le, Bool}
use Rattle.diag_lines.specs.declared.code.Code.{Code}
use Rattle.diag_lines.specs.declared.code.Code.TheVariants.{NoEntry, Unreadable, OutsideLimits, NotWritable, NoObjects}
use Rattle.diag_lines.specs.declared.code.Code.TheVariants.{TpdoTaken, TooManyBits, NotMappable, Mismatched, NoRpdo}
use Rattle.diag_lines.specs.declared.code.Code.TheVariants.{NoDummy, BadIdentifier, NoIdentifier, ReservedType}
use Rattle.diag_lines.specs.declared.code.Code.TheVariants.{SharedIdentifier, NotModelled, RemoteType, NoSync}
use Rattle.diag_lines.specs.declared.code.Code.TheVariants.{UnfitConsumer, SkippedLine, OtherCounter, UnreachedStart}
use Rattle.diag_lines.specs.declared.code.Code.TheVariants.{UnplannedTpdo, UnplannedRpdo, BesideLimits, UselessReceive}
use Rattle.diag_lines.specs.declared.code.Code.TheVariants.{IdleEvent, OtherHeartbeat}

unfoldable pub number_of : Code → ℕ
number_of NoEntry = 1
number_of Unreadable = 2
number_of OutsideLimits = 3
number_of NotWritable = 4
number_of NoObjects = 5
number_of TpdoTaken = 6
number_of TooManyBits = 7
number_of NotMappable = 8
number_of Mismatched = 9
number_of NoRpdo = 10
number_of NoDummy = 11
number_of BadIdentifier = 12
number_of NoIdentifier = 13
number_of ReservedType = 14
number_of SharedIdentifier = 15
number_of NotModelled = 16
number_of RemoteType = 17
number_of NoSync = 18
number_of UnfitConsumer = 19
number_of SkippedLine = 20
number_of OtherCounter = 21
number_of UnreachedStart = 22
number_of UnplannedTpdo = 23
number_of UnplannedRpdo = 24
number_of IdleEvent = 25
number_of BesideLimits = 26
number_of OtherHeartbeat = 27
number_of UselessReceive = 28

-- which are errors: those of up to 16, and 26
abbrev pub is_error : Code → Bool
is_error code = nat_le (number_of code) 16 || number_of code == 26
