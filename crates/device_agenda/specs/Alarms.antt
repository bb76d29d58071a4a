-- Agendas in two words (this profile's own).
use Rattle.std.specs.Prelude.{ℕ, ◌==◌, ◌-◌, ◌^◌, Bool, true, if◌then◌else◌, Option, Some, None}
use Rattle.device_agenda.specs.declared.agenda.Agenda.{Agenda}
use Rattle.device_agenda.specs.declared.alarm.Alarm.{Alarm}

-- at this moment devices have to run whatever comes
abbrev pub is_now : ℕ → Bool
is_now at = at == 0

-- at this moment nothing is due
abbrev pub never : ℕ
never = 2 ^ 64 - 1

-- when devices are due, by the moment of an alarm
abbrev pub due_at : ℕ → Option ℕ
due_at at = if at == never then None else Some at

-- the moment of an alarm, by when devices are due: where it would say never, at once
abbrev pub moment_by : Option ℕ → ℕ
moment_by None = never
moment_by (Some due) = if due == never then 0 else due

-- THE AGENDA THAT AN ALARM STANDS FOR: it says nothing of the frames that wait
abbrev pub agenda_by : Alarm → Agenda
agenda_by a = record { awake = is_now a.at; due = due_at a.at; groups = a.groups; waits = true }

-- THE ALARM OF AN AGENDA
abbrev pub alarm_by : Agenda → Alarm
alarm_by a = record { at = if a.awake then 0 else moment_by a.due; groups = a.groups }
