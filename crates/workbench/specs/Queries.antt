-- What queries are answered. The lines of a DCF are CiA 306's, the bytes of a concise DCF are CiA 302's; how replies
-- show them is this profile's own.
use Rattle.std.specs.Prelude.{ℕ, List, Option, Some, None, option_map, Result, Ok, Err}
use Rattle.ini_text.specs.Change.{text_of}
use Rattle.concise_dcf.specs.Concise.{text_of as concise_text}
use Rattle.eds_dcf.specs.Dcf.{dcf_sections}
use Rattle.project_edits.specs.declared.fault.EditFault.{EditFault}
use Rattle.project_edits.specs.declared.fault.EditFault.TheVariants.{Unknown}
use Rattle.script_commands.specs.declared.query.Query.{Query}
use Rattle.script_commands.specs.declared.query.Query.TheVariants.{Dcf, Cdcf, Diag, Trace, Project}
use Rattle.co_project.specs.Project.{Content}
use Rattle.project_script.specs.Script.{script}
use Rattle.can_bus.specs.Lines.{lines_text}
use Rattle.can_bus.specs.Runs.{trace}
use Rattle.can_bus.specs.declared.line.Line.{Line}
use Rattle.network_image.specs.Image.{image_of}
use Rattle.co_diag.specs.Found.{diagnostics_of}
use Rattle.diag_lines.specs.Lines.{diag_text}
use Rattle.project_plan.specs.Network.{Member, member_at, writes_of}
use Rattle.base.specs.Hex.{hex_text}

-- what is named isn't there
abbrev pub or_unknown : {X : Type 0} → Option X → Result X EditFault
or_unknown None = Err Unknown
or_unknown (Some x) = Ok x

-- THE DCF (CiA 306) of the node of a number: its device, its name, the bit rate, and the writes that configure it
unfoldable pub dcf_of : Content → ℕ → Option (List ℕ)
dcf_of project id =
    option_map (λ (m : Member). text_of
    (dcf_sections m.sheet id m.node.name project.bitrate (writes_of project m id))) (member_at project id)

-- THE CONCISE DCF (CiA 302) of the node of a number: the writes that configure it
unfoldable pub concise_of : Content → ℕ → Option (List ℕ)
concise_of project id = option_map (λ (m : Member). concise_text (writes_of project m id)) (member_at project id)

-- THE TRACE of the network of a project: the lines of the run of its image, from power-on an instant at each
-- microsecond, up to the horizon
unfoldable pub trace_of : Content → List Line
trace_of project = trace (image_of project) project.horizon

-- THE ANSWER to a query: the lines of the DCF, the concise DCF in hexadecimal digits, the lines of all diagnostics,
-- those of the trace, or the commands that make the project
abbrev pub answer : Content → Query → Result (List ℕ) EditFault
answer project (Dcf id) = or_unknown (dcf_of project id)
answer project (Cdcf id) = or_unknown (option_map hex_text (concise_of project id))
answer project Diag = Ok (diag_text (diagnostics_of project))
answer project Trace = Ok (lines_text (trace_of project))
answer project Project = Ok (script project)
