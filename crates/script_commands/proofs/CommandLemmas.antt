-- What is read behind the first word of each command.
use Rattle.std.proofs.Common.{◌≡◌, ℕ, ◌^◌, ◌<◌, ◌≤◌, Bool, true, false, List, [], ◌∷◌, refl, ap, lit<, arith}
use Rattle.std.specs.Prelude.{nat_le, if◌then◌else◌, Result, Ok, Option, Some, None, IfSome, decimal, codes, ◌==◌}
use Rattle.std.proofs.lemmas.Bool.{and_parts, leb-true, le-ltb}
use Rattle.std.proofs.lemmas.Bool.Decides.{nat_tests}
use Rattle.co_scenario.specs.declared.event.Event.TheVariants as event
use Rattle.co_scenario.specs.declared.nmt_command.NmtCommand.{NmtCommand}
use Rattle.co_scenario.specs.declared.nmt_command.NmtCommand.TheVariants.{Start, Stop, EnterPreOperational, ResetNode}
use Rattle.co_scenario.specs.declared.nmt_command.NmtCommand.TheVariants.{ResetCommunication}
use Rattle.co_scenario.specs.Commands.{number_of}
use Rattle.project_edits.specs.declared.manager_settings.ManagerSettings.{ManagerSettings}
use Rattle.project_edits.specs.declared.time_stamps.TimeStamps.{TimeStamps}
use Rattle.project_edits.specs.Stamps.{first_day_of, period_of, stamps_of}
use Rattle.project_edits.specs.declared.edit.Edit.{Edit}
use Rattle.project_edits.specs.declared.fault.EditFault.{EditFault}
use Rattle.project_edits.specs.declared.edit.Edit.TheVariants as edit
use Rattle.script_commands.specs.declared.request.Request.TheVariants.{Block}
use Rattle.base.specs.Words.{after}
use Rattle.base.specs.Digits.{byte_digits, index_digits}
use Rattle.base.specs.Ranges.{is_between, AreIndices}
use Rattle.project_edits.specs.Forms.{is_name, is_node_or_all, is_bit_rate, is_time, is_period}
use Rattle.cia301.specs.Limits.{is_node_number}
use Rattle.project_edits.specs.Forms.{is_event_number, is_sync_counter}
use Rattle.project_edits.specs.declared.script_version.ScriptVersion.{ScriptVersion}
use Rattle.project_edits.specs.declared.script_version.ScriptVersion.TheVariants.{One, Two, Three}
use Rattle.project_edits.specs.Versions.{number_of as version_number, version_of as version_by_number}
use Rattle.script_commands.specs.Requests.{block_of, bitrate_of, horizon_of, manager_of, drop_eds_of, node_of, drop_node_of}
use Rattle.script_commands.specs.Requests.{id_of, param_of, unparam_of, event_at_time, set_of, switch, power_of, nmt}
use Rattle.script_commands.specs.Requests.{nmt_of, happening_of, event_of, drop_event_of}
use Rattle.script_commands.specs.Requests.{version_of, time_period_of, sync_counter_of, is_mandatory, need_of}
use Rattle.project_edits.specs.Edits.{AreTimeStamps, IsManager, IsSetting}
use Rattle.project_edits.specs.Lines.{need_word}
use Rattle.script_commands.proofs.NumberLemmas.{decimal_again, index_again, sub_again}
use Rattle.script_commands.proofs.LineLemmas.{Has, Ends, Keeps}

-- ---- limits

-- a number within limits
pub most : (low high n : ℕ) → is_between low high n ≡ true → n ≤ high
most low high n fits = leb-true n high (and_parts (nat_le low n) (nat_le n high) fits).1

pub node_below : (n : ℕ) → is_node_or_all n ≡ true → n < 10 ^ 10
node_below n fits = omega (arith, most 0 127 n fits)

pub id_below : (n : ℕ) → is_node_number n ≡ true → n < 10 ^ 10
id_below n fits = omega (arith, most 1 127 n fits)

pub rate_below : (n : ℕ) → is_bit_rate n ≡ true → n < 10 ^ 10
rate_below n fits = let few : n ≤ 1000 = grind (arith, nat_tests) in omega arith

pub time_below : (n : ℕ) → is_time n ≡ true → n < 10 ^ 10
time_below n fits = omega (arith, most 0 10000000 n fits)

pub period_below : (n : ℕ) → is_period n ≡ true → n < 10 ^ 10
period_below n fits = let few : n ≤ 10000000 = grind (arith, nat_tests) in omega arith

pub key_below : (n : ℕ) → is_event_number n ≡ true → n < 10 ^ 10
key_below n fits = omega (arith, most 1 10000 n fits)

pub short_below : (low n : ℕ) → is_between low 65535 n ≡ true → n < 10 ^ 10
short_below low n fits = omega (arith, most low 65535 n fits)

pub command_below : (c : NmtCommand) → number_of c < 10 ^ 10
command_below Start = lit< tt
command_below Stop = lit< tt
command_below EnterPreOperational = lit< tt
command_below ResetNode = lit< tt
command_below ResetCommunication = lit< tt

pub stamps_below : (stamps : Option TimeStamps) → IfSome stamps AreTimeStamps → period_of stamps < 10 ^ 10
unfolding AreTimeStamps
stamps_below None is = lit< tt
stamps_below (Some t) is = omega (arith, most 1000 10000000 t.period_us is.0)

pub day_below : (stamps : Option TimeStamps) → IfSome stamps AreTimeStamps → first_day_of stamps < 10 ^ 10
unfolding AreTimeStamps
day_below None is = lit< tt
day_below (Some t) is = short_below 0 t.first_day is.1

pub counter_below : (n : ℕ) → is_sync_counter n ≡ true → n < 10 ^ 10
counter_below n fits = let few : n ≤ 240 = grind (arith, nat_tests) in omega arith

pub version_below : (v : ScriptVersion) → version_number v < 10 ^ 10
version_below One = lit< tt
version_below Two = lit< tt
version_below Three = lit< tt

-- ---- commands

pub block_is : (line : List ℕ) (name : List ℕ) (count : ℕ) → Has Ends line (name ∷ decimal count ∷ [])
    → is_name name ≡ true → count ≤ 65536 → block_of false line ≡ Ok (Block (Some name) count)
unfolding block_of
block_is line name count h named few = rw (
  h.1.1,
  h.1.0,
  decimal_again count (omega arith),
  le-ltb 65536 count few,
  h.0,
  named,
) refl

version_again : (v : ScriptVersion) → version_by_number (version_number v) ≡ Ok v
version_again One = refl
version_again Two = refl
version_again Three = refl

pub version_is : (line : List ℕ) (v : ScriptVersion) → Has Ends line (decimal (version_number v) ∷ [])
    → version_of line ≡ Ok (edit.Version v)
unfolding version_of
version_is line v h = rw (h.1, h.0, decimal_again (version_number v) (version_below v), version_again v) refl

pub bitrate_is : (line : List ℕ) (rate : ℕ) → Has Ends line (decimal rate ∷ []) → is_bit_rate rate ≡ true
    → bitrate_of line ≡ Ok (edit.Bitrate rate)
unfolding bitrate_of
bitrate_is line rate h fits = rw (h.1, h.0, decimal_again rate (rate_below rate fits), fits) refl

pub horizon_is : (line : List ℕ) (time : ℕ) → Has Ends line (decimal time ∷ []) → is_time time ≡ true
    → horizon_of line ≡ Ok (edit.Horizon time)
unfolding horizon_of
horizon_is line time h fits = rw (h.1, h.0, decimal_again time (time_below time fits), fits) refl

pub manager_is : (line : List ℕ) (m : ManagerSettings)
    → Has Ends line (decimal m.id ∷ decimal m.sync_us ∷ decimal m.heartbeat_ms ∷ decimal m.timeout_ms ∷ [])
    → IsManager m → manager_of line ≡ Ok (edit.Manager m)
unfolding manager_of IsManager
manager_is line m h is =
    rw (h.1.1.1.1, h.0, h.1.0, h.1.1.0, h.1.1.1.0) (
    rw (
      decimal_again m.id (id_below m.id is.0),
      decimal_again m.sync_us (period_below m.sync_us is.1),
      decimal_again m.heartbeat_ms (short_below 0 m.heartbeat_ms is.2),
      decimal_again m.timeout_ms (short_below 1 m.timeout_ms is.3),
    ) (
    rw (is.0, is.1, is.2, is.3) refl))

-- a period that is none of 0
some_period : (n : ℕ) → is_between 1000 10000000 n ≡ true → (n == 0) ≡ false
some_period n fits =
    let least = leb-true 1000 n (and_parts (nat_le 1000 n) (nat_le n 10000000) fits).0 in
    grind (arith, nat_tests)

-- time stamps are those of their period and their first day
stamps_again : (t : TimeStamps) → is_between 1000 10000000 t.period_us ≡ true
    → stamps_of t.period_us t.first_day ≡ Some t
stamps_again t fits =
    ap (λ (none : Bool). (let no : Option TimeStamps = None in if none then no else Some t))
    (some_period t.period_us fits)

pub time_period_is : (line : List ℕ) (stamps : Option TimeStamps)
    → Has Ends line (decimal (period_of stamps) ∷ decimal (first_day_of stamps) ∷ []) → IfSome stamps AreTimeStamps
    → time_period_of line ≡ Ok (edit.TimeStamps stamps)
unfolding time_period_of AreTimeStamps
time_period_is line None h is = rw (h.1.1, h.0, h.1.0, decimal_again 0 (lit< tt)) refl
time_period_is line (Some t) h is =
    rw (
      h.1.1,
      h.0,
      h.1.0,
      decimal_again t.period_us (stamps_below (Some t) is),
      decimal_again t.first_day (day_below (Some t) is),
    ) (rw (some_period t.period_us is.0, is.0, is.1)
    (let gives : Option TimeStamps → Result Edit EditFault = λ s. Ok (edit.TimeStamps s) in ap gives (stamps_again t is.0)))

pub sync_counter_is : (line : List ℕ) (n : ℕ) → Has Ends line (decimal n ∷ []) → is_sync_counter n ≡ true
    → sync_counter_of line ≡ Ok (edit.SyncCounter n)
unfolding sync_counter_of
sync_counter_is line n h fits = rw (h.1, h.0, decimal_again n (counter_below n fits), fits) refl

pub drop_eds_is : (line name : List ℕ) → Has Ends line (name ∷ []) → is_name name ≡ true
    → drop_eds_of line ≡ Ok (edit.DropEds name)
unfolding drop_eds_of
drop_eds_is line name h named = rw (h.1, h.0, named) refl

pub node_is : (line : List ℕ) (id : ℕ) (called eds : List ℕ) → Has Ends line (decimal id ∷ called ∷ eds ∷ [])
    → is_node_number id ≡ true → is_name called ≡ true → is_name eds ≡ true
    → node_of line ≡ Ok (edit.Node id called eds)
unfolding node_of
node_is line id called eds h fits named made =
    rw (h.1.1.1, h.0, h.1.0, h.1.1.0, decimal_again id (id_below id fits), named, made, fits) refl

need_again : (mandatory : Bool) → is_mandatory (need_word mandatory) ≡ Ok mandatory
need_again true = refl
need_again false = refl

pub need_is : (line : List ℕ) (id : ℕ) (mandatory : Bool) → Has Ends line (decimal id ∷ need_word mandatory ∷ [])
    → is_node_number id ≡ true → need_of line ≡ Ok (edit.Need id mandatory)
unfolding need_of
need_is line id mandatory h fits =
    rw (h.1.1, h.0, h.1.0, decimal_again id (id_below id fits), need_again mandatory, fits) refl

pub drop_node_is : (line : List ℕ) (id : ℕ) → Has Ends line (decimal id ∷ []) → is_node_number id ≡ true
    → drop_node_of line ≡ Ok (edit.DropNode id)
unfolding drop_node_of id_of
drop_node_is line id h fits = rw (h.1, h.0, decimal_again id (id_below id fits), fits) refl

pub param_is : (line : List ℕ) (id index sub : ℕ) (kept : List ℕ)
    → Has (Keeps kept) line (decimal id ∷ index_digits index ∷ byte_digits sub ∷ []) → is_node_number id ≡ true
    → IsSetting index sub kept
    → param_of line ≡ Ok (edit.Param id index sub kept)
unfolding param_of IsSetting
param_is line id index sub kept h fits is =
    rw (
      h.0,
      h.1.0,
      h.1.1.0,
      h.1.1.1,
      decimal_again id (id_below id fits),
      index_again index (most 0 65535 index is.0.0),
      sub_again sub (most 0 255 sub is.0.1),
      fits,
      is.1,
    ) refl

pub unparam_is : (line : List ℕ) (id index sub : ℕ)
    → Has Ends line (decimal id ∷ index_digits index ∷ byte_digits sub ∷ []) → is_node_number id ≡ true
    → AreIndices index sub
    → unparam_of line ≡ Ok (edit.Unparam id index sub)
unfolding unparam_of
unparam_is line id index sub h fits are =
    rw (
      h.1.1.1,
      h.0,
      h.1.0,
      h.1.1.0,
      decimal_again id (id_below id fits),
      index_again index (most 0 65535 index are.0),
      sub_again sub (most 0 255 sub are.1),
      fits,
    ) refl

pub drop_event_is : (line : List ℕ) (key : ℕ) → Has Ends line (decimal key ∷ []) → is_event_number key ≡ true
    → drop_event_of line ≡ Ok (edit.DropEvent key)
unfolding drop_event_of
drop_event_is line key h fits = rw (h.1, h.0, decimal_again key (key_below key fits), fits) refl

-- ---- events

switch_again : (on : Bool) → switch (if on then codes "on" else codes "off") ≡ Ok on
switch_again true = refl
switch_again false = refl

nmt_again : (c : NmtCommand) → nmt (number_of c) ≡ Ok c
nmt_again Start = refl
nmt_again Stop = refl
nmt_again EnterPreOperational = refl
nmt_again ResetNode = refl
nmt_again ResetCommunication = refl

module _ (key moment : ℕ) (numbered : is_event_number key ≡ true) (timed : is_time moment ≡ true) where
  -- the number, the time and the kind of an event
  pub event_is : (P : List ℕ → Type 0) (line kind : List ℕ) (words : List (List ℕ))
      → Has P line (decimal key ∷ decimal moment ∷ kind ∷ words)
      → event_of line ≡ happening_of key moment kind (after (after (after line)))
  unfolding event_of
  event_is P line kind words h = rw (
    h.0,
    h.1.0,
    h.1.1.0,
    decimal_again key (key_below key numbered),
    decimal_again moment (time_below moment timed),
  ) refl

  pub set_is : (line : List ℕ) (node index sub : ℕ) (kept : List ℕ)
      → Has (Keeps kept) line (decimal node ∷ index_digits index ∷ byte_digits sub ∷ []) → is_node_number node ≡ true
      → IsSetting index sub kept
      → set_of key moment line ≡ Ok (event_at_time key moment (event.Set node index sub kept))
  unfolding set_of IsSetting
  set_is line node index sub kept h fits is =
      rw (
        h.0,
        h.1.0,
        h.1.1.0,
        h.1.1.1,
        decimal_again node (id_below node fits),
        index_again index (most 0 65535 index is.0.0),
        sub_again sub (most 0 255 sub is.0.1),
        numbered,
        timed,
        fits,
        is.1,
      ) refl

  pub power_is : (line : List ℕ) (node : ℕ) (on : Bool)
      → Has Ends line (decimal node ∷ (if on then codes "on" else codes "off") ∷ []) → is_node_number node ≡ true
      → power_of key moment line ≡ Ok (event_at_time key moment (event.Power node on))
  unfolding power_of
  power_is line node on h fits = rw (
    h.1.1,
    h.0,
    h.1.0,
    decimal_again node (id_below node fits),
    switch_again on,
    numbered,
    timed,
    fits,
  ) refl

  pub nmt_is : (line : List ℕ) (node : ℕ) (c : NmtCommand) → Has Ends line (decimal (number_of c) ∷ decimal node ∷ [])
      → is_node_or_all node ≡ true
      → nmt_of key moment line ≡ Ok (event_at_time key moment (event.Nmt node c))
  unfolding nmt_of
  nmt_is line node c h fits = rw (
    h.1.1,
    h.0,
    h.1.0,
    decimal_again (number_of c) (command_below c),
    decimal_again node (node_below node fits),
    numbered,
    timed,
    nmt_again c,
    fits,
  ) refl
