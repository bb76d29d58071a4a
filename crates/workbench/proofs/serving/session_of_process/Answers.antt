use Rattle.std.proofs.Common.{◌≡◌, Err}
use Rattle.std.proofs.lemmas.Result.{err_from_is_err_and}
use Rattle.streams.specs.declared.fault.SessionFault.TheVariants.{Memory}
use Rattle.workbench.proofs.Sessions.{serves_nothing}
use Rattle.workbench.proofs.serving.session_of_process.Goals as goal

pub returns-in_err-cursor : goal.returns-in_err-cursor
returns-in_err-cursor g c =
    let p = err_from_is_err_and c.from_residual.result c.from_residual.ensures.1 in
    let is : c.from_residual.result ≡ Err Memory = cc in
    record { serves = serves_nothing g.R.Intake g.W.Outlet _ _ _ is }
