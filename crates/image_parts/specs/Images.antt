-- What holds of every image, and which images are coherent.
use Rattle.std.specs.Prelude.{◌≡◌, ◌≢◌, ℕ, ◌+◌, ◌*◌, ◌<◌, ◌≤◌, ◌⊎◌, ◌^◌, true, false, Contains, List, [], ◌∷◌, length}
use Rattle.std.specs.Prelude.{Some, IfSome}
use Rattle.std.specs.FinMap.{get}
use Rattle.std.specs.List.{AllByRecursion}
use Rattle.co_values.specs.Types.{is_modelled}
use Rattle.co_values.specs.Values.{longest_value}
use Rattle.co_dict.specs.Values.{HasLength, HoldEach}
use Rattle.co_dict.specs.declared.entry.Entry.{Entry}
use Rattle.co_scenario.specs.declared.step.Step.{Step}
use Rattle.co_scenario.specs.declared.step.Step.TheVariants.{Set, Power, Nmt}
use Rattle.co_scenario.specs.declared.timed_step.TimedStep.{TimedStep}
use Rattle.image_parts.specs.Contents.{Image, roster_of, shape_of, steps_of, values_of, write_of}
use Rattle.image_parts.specs.declared.part.Part.TheVariants as part
use Rattle.image_parts.specs.Rosters.{has_controller}
use Rattle.image_parts.specs.declared.roster.Roster.{Roster}
use Rattle.image_parts.specs.declared.start_mode.StartMode.TheVariants.{ConfiguredNodes}
use Rattle.cia301.specs.Limits.{bit_rates, IsNodeNumber}
use Rattle.cia301.specs.PdoObjects.{is_of_pdos}
use Rattle.concise_dcf.specs.Writes.{IsSized}

-- ---- every image

-- numbers differ from one another
abbrev pub AllDiffer : List ℕ → Type 0
AllDiffer [] = Unit {0}
AllDiffer (a ∷ rest) = AllByRecursion (λ b. a ≢ b) rest × AllDiffer rest

-- a roster has a bit rate and numbers of the manager within their limits, node numbers that differ from one another, of
-- which one may be the manager's where configured nodes are started one by one alone, and mandatory nodes that are among
-- them
pub record IsRoster (roster : Roster) : Type 0 where
  pub bit_rate : Contains bit_rates roster.bit_rate
  pub manager : IsNodeNumber roster.manager
  pub sync : (roster.sync_us ≡ 0) ⊎ ((1000 ≤ roster.sync_us) × (roster.sync_us ≤ 10000000))
  pub counter : (roster.sync_counter ≡ 0) ⊎ ((2 ≤ roster.sync_counter) × (roster.sync_counter ≤ 240))
  pub time : (roster.time_us ≡ 0) ⊎ ((1000 ≤ roster.time_us) × (roster.time_us ≤ 10000000))
  pub first_day : roster.first_day < 2 ^ 16
  pub heartbeat : roster.heartbeat_ms < 2 ^ 16
  pub timeout : (1 ≤ roster.timeout_ms) × (roster.timeout_ms < 2 ^ 16)
  pub nodes : AllByRecursion IsNodeNumber roster.nodes
  pub controller : has_controller roster ≡ true → roster.start_mode ≡ ConfiguredNodes
  pub differ : AllDiffer roster.nodes
  pub mandatory : AllByRecursion (Contains roster.nodes) roster.mandatory

-- the greatest number that a part can have, which no write has: so each write has a next number
abbrev pub greatest_place : ℕ
greatest_place = 4294967295

-- PDO objects belong to the plan of messages: no event sets one; and a value has at most 512 bytes
abbrev pub IsFree : Step → Type 0
IsFree (Set node index sub bytes) = (is_of_pdos index ≡ false) × (length bytes ≤ longest_value)
IsFree (Power node on) = Unit {0}
IsFree (Nmt node command) = Unit {0}

-- a step of window i has its time there
abbrev pub IsWithin : ℕ → TimedStep → Type 0
IsWithin i step = (10000 * i ≤ step.time) × (step.time < 10000 * i + 10000) × IsFree step.step

-- a step comes before another: by time, and at one time by number
abbrev pub ComesBefore : TimedStep → TimedStep → Type 0
ComesBefore a b = (a.time < b.time) ⊎ ((a.time ≡ b.time) × (a.number < b.number))

-- each step comes before the next
abbrev pub AreInOrder : List TimedStep → Type 0
AreInOrder [] = Unit {0}
AreInOrder (a ∷ []) = Unit {0}
AreInOrder (a ∷ b ∷ rest) = ComesBefore a b × AreInOrder (b ∷ rest)

-- WHAT HOLDS OF EVERY IMAGE: its roster is one, its writes have 1 to 512 bytes and none has the greatest number, and
-- the events of each window lie in it and are in order
pub record IsImage (image : Image) : Type 0 where
  pub roster : IsRoster (roster_of (image part.Roster))
  pub writes : (node place : ℕ) → IfSome (write_of (image (part.Boot node place))) IsSized
  pub last : (node place : ℕ) → IfSome (write_of (image (part.Boot node place))) (λ write. place < greatest_place)
  pub within : (i : ℕ) → AllByRecursion (IsWithin i) (steps_of (image (part.Events i)))
  pub ordered : (i : ℕ) → AreInOrder (steps_of (image (part.Events i)))

-- ---- coherent images

-- what a step sets has the length of its entry's type
abbrev pub FitsShape : Image → TimedStep → Type 0
FitsShape image step = Sets image step.step
  where
    Sets : Image → Step → Type 0
    Sets image (Set node index sub bytes) = (entry : Entry)
        → get (shape_of (image (part.Shape node))).entries (index, sub) ≡ Some entry → is_modelled entry.kind ≡ true
        → HasLength entry.kind bytes
    Sets image (Power node on) = Unit {0}
    Sets image (Nmt node command) = Unit {0}

-- AN IMAGE IS COHERENT: each modelled entry of a node's shape has by its defaults, and gets by each event, a value of
-- its type's length
pub record IsCoherent (image : Image) : Type 0 where
  pub defaults : (node : ℕ)
      → HoldEach (shape_of (image (part.Shape node))).entries (values_of (image (part.Defaults node)))
  pub steps : (i : ℕ) → AllByRecursion (FitsShape image) (steps_of (image (part.Events i)))
