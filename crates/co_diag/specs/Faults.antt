-- The codes of faults of messages (this profile's own).
use Rattle.pdo_plan.specs.declared.message_fault.MessageFault.{MessageFault}
use Rattle.diag_lines.specs.declared.code.Code.{Code}
use Rattle.diag_lines.specs.declared.code.Code.TheVariants.{NoObjects, TpdoTaken, TooManyBits, NotMappable, Mismatched}
use Rattle.diag_lines.specs.declared.code.Code.TheVariants.{NoRpdo, NoDummy, BadIdentifier, NoIdentifier, ReservedType}
use Rattle.pdo_plan.specs.declared.message_fault.MessageFault.TheVariants as message

-- the code of a fault of a message
abbrev pub message_code : MessageFault → Code
message_code message.NoObjects = NoObjects
message_code message.TpdoTaken = TpdoTaken
message_code message.TooManyBits = TooManyBits
message_code message.NotMappable = NotMappable
message_code message.Mismatched = Mismatched
message_code message.NoRpdo = NoRpdo
message_code message.NoDummy = NoDummy
message_code message.BadIdentifier = BadIdentifier
message_code message.NoIdentifier = NoIdentifier
message_code message.ReservedType = ReservedType
