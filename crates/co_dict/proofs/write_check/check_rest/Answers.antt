use Rattle.std.proofs.Common.{◌≡◌, ℕ, Some, length, sym, rules}
use Rattle.std.specs.Prelude.{IsOk}
use Rattle.std.specs.FinMap.{get}
use Rattle.base.specs.Bytes.{AreBytes}
use Rattle.co_dict.specs.Checks.{length_check}
use Rattle.co_dict.proofs.CheckLemmas.{any_ok, fits_passed, ok_is, write_check_in_turn}
use Rattle.co_dict.proofs.write_check.check_rest.Goals as goal

pub check_value-requires : goal.check_value-requires
check_value-requires c flag =
    let place : ℕ × ℕ = (c.args.index, c.args.sub) in
    let there : Some c.args.entry.now ≡ get c.args.shape.now.entries place = sym c.requires.there in
    let bytes : AreBytes c.args.bytes.now = search rules in
    let size : IsOk (length_check c.args.shape.now place (length c.args.bytes.now)) = search rules in
    fits_passed c.args.shape.now place c.args.entry.now c.args.bytes.now there c.requires.granted size
    flag bytes

pub returns-in_err-check_length_of-clause-answer : goal.returns-in_err-check_length_of-clause-answer
returns-in_err-check_length_of-clause-answer c =
    rw (
      write_check_in_turn,
      ok_is _ c.requires.granted,
      ← c.check_length_of.ensures.answer c.args.shape.now (c.args.index, c.args.sub) c.requires.there,
      c.in_err-check_length_of.was,
    ) (search rules)

pub returns-in_err-check_value-clause-answer : goal.returns-in_err-check_value-clause-answer
returns-in_err-check_value-clause-answer c =
    let size : IsOk (length_check c.args.shape.now (c.args.index, c.args.sub) (length c.args.bytes.now)) =
    search rules in
    rw (
      write_check_in_turn,
      ok_is _ c.requires.granted,
      ok_is _ size,
      ← c.check_value.ensures c.args.shape.now (c.args.index, c.args.sub) c.requires.there,
      c.in_err-check_value.was,
    ) (search rules)

pub returns-in_err-check_cob_id-clause-answer : goal.returns-in_err-check_cob_id-clause-answer
returns-in_err-check_cob_id-clause-answer c =
    rw (
      write_check_in_turn,
      ok_is _ c.requires.granted,
      ← c.check_length_of.ensures.answer c.args.shape.now (c.args.index, c.args.sub) c.requires.there,
      c.in_ok-check_length_of.was,
      ← c.check_value.ensures c.args.shape.now (
        c.args.index,
        c.args.sub,
      ) c.requires.there,
      c.in_ok-check_value.was,
      ← c.check_cob_id.ensures,
      c.in_err-check_cob_id.was,
    ) (search rules)

pub returns-in_err-check_mapping_object-clause-answer : goal.returns-in_err-check_mapping_object-clause-answer
returns-in_err-check_mapping_object-clause-answer c =
    rw (
      write_check_in_turn,
      ok_is _ c.requires.granted,
      ← c.check_length_of.ensures.answer c.args.shape.now (c.args.index, c.args.sub) c.requires.there,
      c.in_ok-check_length_of.was,
      ← c.check_value.ensures c.args.shape.now (
        c.args.index,
        c.args.sub,
      ) c.requires.there,
      c.in_ok-check_value.was,
      ← c.check_cob_id.ensures,
      c.in_ok-check_cob_id.was,
      ← c.check_mapping_object.ensures,
      c.in_err-check_mapping_object.was,
    ) (search rules)

pub returns-clause-answer : goal.returns-clause-answer
returns-clause-answer c = rw (
  write_check_in_turn,
  ok_is _ c.requires.granted,
  ← c.check_length_of.ensures.answer c.args.shape.now (c.args.index, c.args.sub) c.requires.there,
  c.in_ok-check_length_of.was,
  ← c.check_value.ensures c.args.shape.now (
    c.args.index,
    c.args.sub,
  ) c.requires.there,
  c.in_ok-check_value.was,
  ← c.check_cob_id.ensures,
  c.in_ok-check_cob_id.was,
  ← c.check_mapping_object.ensures,
  c.in_ok-check_mapping_object.was,
) c.check_new_count.ensures

pub returns-clause-short : goal.returns-clause-short
returns-clause-short c = any_ok c.check_new_count.result (c.in_ok-check_length_of.ensures.short)
