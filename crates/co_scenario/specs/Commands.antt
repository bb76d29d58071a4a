-- The commands of the network management (CiA 301) and their numbers.
use Rattle.std.specs.Prelude.{ℕ, ◌==◌, if◌then◌else◌, Option, Some, None}
use Rattle.co_scenario.specs.declared.nmt_command.NmtCommand.{NmtCommand}
use Rattle.co_scenario.specs.declared.nmt_command.NmtCommand.TheVariants.{Start, Stop, EnterPreOperational, ResetNode}
use Rattle.co_scenario.specs.declared.nmt_command.NmtCommand.TheVariants.{ResetCommunication}

-- the number of a command in its message
abbrev pub number_of : NmtCommand → ℕ
number_of Start = 1
number_of Stop = 2
number_of EnterPreOperational = 128
number_of ResetNode = 129
number_of ResetCommunication = 130

-- the command of a number
abbrev pub command_of : ℕ → Option NmtCommand
command_of n =
    if n == 1 then Some Start
    else if n == 2 then Some Stop
    else if n == 128 then Some EnterPreOperational
    else if n == 129 then Some ResetNode
    else if n == 130 then Some ResetCommunication
    else None
