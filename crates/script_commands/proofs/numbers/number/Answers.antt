use Rattle.std.proofs.Common.{◌≤◌, ◌^◌, length, arith}
use Rattle.std.proofs.Math.Nat.{pow-le-pow_right}
use Rattle.script_commands.proofs.numbers.number.Goals as goal

pub returns-clause-small : goal.returns-clause-small
returns-clause-small c =
    let more : c.args.base ^ length c.args.word.now ≤ c.args.base ^ c.args.most = pow-le-pow_right {n = c.args.base}
    (omega arith) c.if-word-most.false in
    omega (arith, c.in-Some.ensures.bound)
