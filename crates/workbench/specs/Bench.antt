-- What contracts see of a workbench, and what bringing parts up to date does to it.
use Rattle.std.specs.Prelude.{◌≡◌, ℕ, ◌+◌, ◌/◌, List, [], refl}
use Rattle.std.specs.Coded.{Coded, code_by, coded×}
use Rattle.co_project.specs.Project.{Content}
use Rattle.co_segments.specs.Segments.{HeldSegments, TraceState, Traced, at_power_on}
use Rattle.network_image.specs.Image.{image_of}
use Rattle.kept_values.specs.Stale.{AreBrought}
use Rattle.kept_values.specs.Work.{Work}
use Rattle.script_commands.specs.declared.query.Query.{Query}
use Rattle.script_commands.specs.declared.query.Query.TheVariants.{Dcf, Cdcf, Diag, Trace, Project}
use Rattle.project_parts.specs.declared.part.Part.TheVariants as part
use Rattle.kept_parts.specs.Kept.{kept_inputs, IsOf}
use Rattle.kept_parts.specs.Left.{left_of, IsSwept}
use Rattle.project_parts.specs.Given.{inputs_of, same_part}
use Rattle.project_parts.specs.Reached.{parts_for, reached_by_trace}
use Rattle.kept_parts.specs.declared.kept_parts.KeptParts.{KeptParts}
use Rattle.project_parts.specs.declared.part.Part.{Part}

-- a workbench: its project, the parts that are kept of it, the segments of traces, and what was counted
pub record Bench : Type 0 where
  pub project : Content
  pub parts : KeptParts
  pub store : HeldSegments
  pub work : Work

-- they are stored one by one
abbrev pub bench_code : Coded Content → Coded KeptParts → Coded HeldSegments → Coded Work → Coded Bench
bench_code content_code parts_code store_code work_code =
    code_by (Content × (KeptParts × (HeldSegments × Work)))
    (coded× content_code (coded× parts_code (coded× store_code work_code)))
    (λ b. (b.project, (b.parts, (b.store, b.work))))
    (λ t. record { project = t.0; parts = t.1.0; store = t.1.1.0; work = t.1.1.1 })
    (λ _. refl)

-- the segments that a workbench's store holds at most
abbrev pub store_capacity : ℕ
store_capacity = 2048

-- no segment is held yet
abbrev pub no_segments : HeldSegments
no_segments = record { capacity = store_capacity; segments = [] }

-- what is kept is of the project, nothing is held of what is gone where that is known, and the store holds as many
-- segments as a workbench's
abbrev pub IsKeptOf : Content → KeptParts → HeldSegments → Type 0
IsKeptOf p parts store = IsOf p parts × IsSwept p parts × (store.capacity ≡ store_capacity)

-- what the project doesn't have is let go, these parts are held as they are to be made from it, the others as they
-- were, and exactly those are counted that were to be made
pub record Brings (named : List Part) (old new : Bench) : Type 0 where
  pub parts : AreBrought same_part (inputs_of old.project) named (left_of old.project old.parts) (kept_inputs new.parts) old.work
      new.work
  pub store : new.store ≡ old.store

-- what the project doesn't have is let go, what a simulation reads is held as it is to be made from the project, and
-- then the segments up to the horizon are used or run, one after another: each is used that serves, and each other one
-- is run, counted and kept; the store holds as many as before at most
pub record BenchTraces (old new : Bench) : Type 0 where
  pub between : Work
  pub end : TraceState
  pub parts : AreBrought same_part (inputs_of old.project) (reached_by_trace old.project) (left_of old.project old.parts)
      (kept_inputs new.parts) old.work between
  pub traced : Traced (image_of old.project) old.store.capacity (at_power_on old.store.segments between)
      (old.project.horizon / 10000 + 1) end
  pub store : new.store.segments ≡ end.held
  pub work : new.work ≡ end.work
  pub capacity : new.store.capacity ≡ old.store.capacity

-- WHAT AN ANSWER TAKES: of a file or of diagnostics, what it is made from is held as it is to be made from the project,
-- and then itself; of a trace what a simulation reads, and its segments; the commands of the project take nothing
abbrev pub AnswerTakes : Query → Bench → Bench → Type 0
AnswerTakes (Dcf id) old new = Brings (parts_for old.project (part.Dcf id)) old new
AnswerTakes (Cdcf id) old new = Brings (parts_for old.project (part.Concise id)) old new
AnswerTakes Diag old new = Brings (parts_for old.project part.Diagnostics) old new
AnswerTakes Trace old new = BenchTraces old new
AnswerTakes Project old new = new ≡ old
