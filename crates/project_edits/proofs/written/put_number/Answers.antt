use Rattle.std.proofs.Common.{◌≡◌, ◌+◌, ◌-◌, ◌/◌, ◌<◌, ◌≤◌, ◌^◌, ℕ, List, ◌∷◌, decimal, length, ap, ◌∙◌, arith, set, append_assoc, append-nil, length-append, length-set}
use Rattle.std.proofs.lemmas.Fmt.{decimal_digit, decimal_nonempty, decimal_step, length-decimal-le}
use Rattle.std.proofs.lemmas.List.{drop-set, drop_all}
use Rattle.project_edits.proofs.written.put_number.Goals as goal

-- a number's last digit lengthens it
longer : (n : ℕ) → 10 ≤ n → n < 2 ^ 64 → length (decimal n) ≡ length (decimal (n / 10)) + 1
longer n lo hi = ap length (decimal_step n lo hi) ∙ length-append _ _

pub digits-init : goal.digits-init
digits-init c = (
  omega (arith, length-decimal-le 20 c.args.number (omega arith) (omega (arith, c.ranges.number.fits)) c.ranges.number.fits),
  omega arith,
  c.requires,
  rw (drop_all 21 c.args.row.now (omega (arith, c.requires))) (append-nil _),
)

pub digits-preserved : goal.digits-preserved
digits-preserved c =
    let l = c.digits in
    let long = longer l.left c.digits-test.true l.auto.left-fits.fits in
    let e : l.at - 1 + 1 ≡ l.at = omega arith in (
      omega (arith, long),
      omega arith,
      length-set l.row (l.at - 1) _ ∙ l.invariant.2,
      rw (drop-set l.row (l.at - 1) _ (omega arith), e) (rw (decimal_step l.left c.digits-test.true l.auto.left-fits.fits, append_assoc) at l.invariant.3),
    )

pub overflow_sub-row-2 : goal.overflow_sub-row-2
overflow_sub-row-2 c = omega (arith, decimal_nonempty c.digits.left c.digits.auto.left-fits.fits)

pub overflow_sub-result : goal.overflow_sub-result
overflow_sub-result c = omega (arith, decimal_nonempty c.digits.left c.digits.auto.left-fits.fits)

pub returns-clause-written : goal.returns-clause-written
returns-clause-written c =
    let l = c.digits in
    let some = decimal_nonempty l.left l.auto.left-fits.fits in
    let e : l.at - 1 + 1 ≡ l.at = omega arith in
    let f : l.at - 2 + 1 ≡ l.at - 1 = omega arith in
    rw (drop-set (set l.row (l.at - 1) (48 + l.left)) (l.at - 2) 32 (omega (arith, length-set l.row (l.at - 1) (48 + l.left))), f, drop-set l.row (l.at - 1) _ (omega arith), e)
    (ap (λ (ds : List ℕ). 32 ∷ ds) (rw (decimal_digit l.left c.digits-test.false) at l.invariant.3))
