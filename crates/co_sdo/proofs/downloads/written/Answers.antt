use Rattle.std.proofs.Common.{◌≡◌, Ok, rules}
use Rattle.std.specs.FinMap.{insert}
use Rattle.base.specs.Bytes.{AreBytes}
use Rattle.co_dict.specs.WriteCheck.{write_check}
use Rattle.co_sdo.proofs.WriteLemmas.{each_held}
use Rattle.co_sdo.proofs.downloads.written.Goals as goal

pub returns-clause-held : goal.returns-clause-held
returns-clause-held c held =
    let bytes : AreBytes c.args.bytes.now = search rules in
    let passed : write_check c.args.shape.now c.args.dict.now c.args.place c.args.bytes.now ≡ Ok tt = search rules in
    let stored : c.write.new.self ≡ insert c.args.dict.now c.args.place c.args.bytes.now = search rules in
    each_held c.args.shape.now c.args.dict.now c.write.new.self c.args.place c.args.bytes.now bytes passed stored held
