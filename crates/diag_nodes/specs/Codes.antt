-- The codes of faults of parameters (this profile's own).
use Rattle.node_parameters.specs.declared.parameter_fault.ParameterFault.{ParameterFault}
use Rattle.diag_lines.specs.declared.code.Code.{Code}
use Rattle.diag_lines.specs.declared.code.Code.TheVariants.{NoEntry, Unreadable, OutsideLimits, NotWritable}
use Rattle.diag_lines.specs.declared.code.Code.TheVariants.{NotModelled}
use Rattle.node_parameters.specs.declared.parameter_fault.ParameterFault.TheVariants as parameter

-- the code of a fault of a parameter, or of what an event sets
abbrev pub parameter_code : ParameterFault → Code
parameter_code parameter.NoEntry = NoEntry
parameter_code parameter.NotModelled = NotModelled
parameter_code parameter.NotWritable = NotWritable
parameter_code parameter.Unreadable = Unreadable
parameter_code parameter.OutsideLimits = OutsideLimits
