-- What a PDO that works has.
use Rattle.std.proofs.Common.{◌≡◌, ℕ, ◌≤◌, ◌&&◌, Bool, true, false, not, Result, Ok, Err, refl}
use Rattle.std.specs.Prelude.{is_ok, nat_lt}
use Rattle.co_dict.specs.declared.abort.Abort.{Abort}
use Rattle.co_dict.specs.Mappings.{mapping_bits, mapping_of}
use Rattle.co_dict.specs.PdoChecks.{count_lines, mapping_check}
use Rattle.cia301.specs.CobIds.{identifier_in, is_of_base_frames, is_valid}
use Rattle.cia301.specs.CobIds.{is_restricted}
use Rattle.co_dict.specs.Shapes.{Shaped}
use Rattle.co_dict.specs.Values.{Values}
use Rattle.co_dict.proofs.CheckLaws.{mapping_fits}
use Rattle.co_dict.proofs.CheckLemmas.{no_more, none_holds}
use Rattle.pdo_rules.specs.Working.{cob_id_of, count_of, has_frames, has_mapping, identifier_of, is_pdo}
use Rattle.pdo_rules.specs.Working.{works}
use Rattle.cia301.specs.PdoObjects.{mapping_object}

left_of : (a b : Bool) → (a && b) ≡ true → a ≡ true
left_of true b e = refl
left_of false b e = e

right_of : (a b : Bool) → (a && b) ≡ true → b ≡ true
right_of true b e = e
right_of false b e = absurd cc

is_clear : (b : Bool) → not b ≡ true → b ≡ false
is_clear true e = absurd cc
is_clear false e = refl

passes : (r : Result (Unit {0}) Abort) → is_ok r ≡ true → r ≡ Ok tt
passes (Ok x) e = refl
passes (Err abort) e = absurd cc

module _ (shape : Shaped) (values : Values) (object : ℕ) (e : works shape values object ≡ true) where
  pub is_one : is_pdo shape object ≡ true
  unfolding works
  is_one = left_of (is_pdo shape object) _ (left_of _ (has_mapping shape values object) e)

  framed : has_frames (cob_id_of values object) ≡ true
  unfolding works
  framed = right_of (is_pdo shape object) _ (left_of _ (has_mapping shape values object) e)

  mapped : has_mapping shape values object ≡ true
  unfolding works
  mapped = right_of (is_pdo shape object && has_frames (cob_id_of values object)) _ e

  pub allowed : is_restricted (identifier_of values object) ≡ false
  unfolding has_frames
  allowed =
      let cob_id = cob_id_of values object in
      is_clear (is_restricted (identifier_in cob_id)) (right_of (is_valid cob_id && is_of_base_frames cob_id) _ framed)

  pub fits : mapping_bits (mapping_of values (mapping_object object) (count_of values object)) ≤ 64
  unfolding has_mapping
  fits =
      let count = count_of values object in
      mapping_fits shape values (mapping_object object) count
      (passes (mapping_check shape values (mapping_object object) count) (right_of (nat_lt 0 count) _ mapped))

  pub few : count_of values object ≤ 64
  unfolding has_mapping mapping_check
  few =
      let count = count_of values object in
      no_more 64 count (none_holds (count_lines shape values (mapping_object object) count)
      (right_of (nat_lt 0 count) _ mapped)).0
