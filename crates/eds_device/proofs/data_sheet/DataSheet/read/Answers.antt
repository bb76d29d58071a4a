use Rattle.std.proofs.Common.{◌∙◌, ap, sym, Err, Ok}
use Rattle.std.proofs.lemmas.Result.{err_from_is_err_and}
use Rattle.eds_device.proofs.ReadLemmas.{ini_refused, read_as}
use Rattle.eds_device.proofs.data_sheet.DataSheet.read.Goals as goal

pub returns-in_err-ini-clause-content : goal.returns-in_err-ini-clause-content
returns-in_err-ini-clause-content c =
    let p = err_from_is_err_and c.from_residual.result c.from_residual.ensures.1 in
    rw (p.1, p.2) (ini_refused _ c.args.text.now (λ e. c.in_err-ini.ensures.range.0 (ap Err e))
    (λ e. c.in_err-ini.ensures.bad_byte.0 (ap Err e)))

pub returns-in_err-reading-clause-content : goal.returns-in_err-reading-clause-content
returns-in_err-reading-clause-content c =
    let p = err_from_is_err_and c.from_residual-in_err-reading.result c.from_residual-in_err-reading.ensures.1 in
    let given = read_as c.args.text.now c.in_ok-ini.ini (λ h. absurd (let e = c.in_ok-ini.ensures.range.1 h in cc))
    (λ h. absurd (let e = c.in_ok-ini.ensures.bad_byte.1 h in cc)) c.in_ok-ini.ensures.content in
    rw (p.1, p.2, given) c.in_err-reading.ensures

pub returns-clause-content : goal.returns-clause-content
returns-clause-content c =
    let given = read_as c.args.text.now c.in_ok-ini.ini (λ h. absurd (let e = c.in_ok-ini.ensures.range.1 h in cc))
    (λ h. absurd (let e = c.in_ok-ini.ensures.bad_byte.1 h in cc)) c.in_ok-ini.ensures.content in
    given ∙ c.in_ok-reading.ensures ∙ ap Ok (sym c.in_ok-shared.ensures.ok)
