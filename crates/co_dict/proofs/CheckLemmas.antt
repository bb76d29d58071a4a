-- The write check as its parts, one after the other; and what the first of them leave.
use Rattle.std.proofs.Common.{◌≡◌, ℕ, ◌≤◌, ◌==◌, ◌&&◌, Bool, true, false, not, List, [], ◌∷◌, ◌++◌, length, Some}
use Rattle.std.proofs.Common.{Result, Ok, Err, refl, ap, ◌∙◌, arith}
use Rattle.std.specs.Prelude.{⊤, IsOk, OnOk, nat_lt}
use Rattle.std.specs.FinMap.{get}
use Rattle.std.specs.Option.{option_map_or}
use Rattle.std.proofs.lemmas.Bool.Decides.{nat_tests}
use Rattle.byteorder.specs.Endian.{little_number}
use Rattle.base.specs.Bytes.{AreBytes}
use Rattle.co_values.specs.declared.form.Form.{Form}
use Rattle.co_values.specs.declared.form.Form.TheVariants.{Flag, Signed, Unsigned, Decimal, Characters, HexPairs, Unmodelled}
use Rattle.co_values.specs.Types.{form, is_modelled, len_of_form, is_modelled_form}
use Rattle.co_values.specs.Values.{IsValueOf, IsLaidOut, longest_value}
use Rattle.co_dict.specs.declared.abort.Abort.{Abort}
use Rattle.co_dict.specs.declared.entry.Entry.{Entry}
use Rattle.co_dict.specs.Checks.{first_refusal, access_lines, access_check, length_lines, length_check, value_lines}
use Rattle.co_dict.specs.Checks.{is_entry_that, is_flag, is_no_flag, has_other_length}
use Rattle.co_dict.specs.PdoChecks.{cob_id_lines, mapping_lines, new_count_lines}
use Rattle.co_dict.specs.WriteCheck.{write_check}
use Rattle.co_dict.specs.Shapes.{Shaped}
use Rattle.co_dict.specs.Values.{Values}

abbrev pub Lines : Type 0
Lines = List (Bool × Abort)

-- ---- what has passed

abbrev pub NoneHolds : Lines → Type 0
NoneHolds [] = ⊤
NoneHolds (line ∷ lines) = (line.0 ≡ false) × NoneHolds lines

-- no test of a table holds that doesn't refuse
pub none_holds : (lines : Lines) → IsOk (first_refusal lines) → NoneHolds lines
none_holds [] ok = tt
none_holds ((true, abort) ∷ lines) ok = cc
none_holds ((false, abort) ∷ lines) ok = (refl, none_holds lines ok)

pub no_more : (m n : ℕ) → nat_lt m n ≡ false → n ≤ m
no_more m n e = grind (arith, nat_tests)

same_length : (m n : ℕ) → not (m == n) ≡ false → m ≡ n
same_length m n e = grind (arith, nat_tests)

of_form : (f : Form) (bytes : List ℕ) → not (is_modelled_form f) ≡ false
    → option_map_or (λ n. not (length bytes == n)) (len_of_form f) false ≡ false
    → nat_lt longest_value (length bytes) ≡ false → is_flag f && nat_lt 1 (little_number 1 bytes) ≡ false
    → IsLaidOut f bytes
of_form Flag bytes modelled same short flag = (
  same_length _ 1 same,
  let low = no_more 1 (little_number 1 bytes) flag
      in omega arith,
)
of_form (Signed width) bytes modelled same short flag = same_length _ _ same
of_form (Unsigned width) bytes modelled same short flag = same_length _ _ same
of_form (Decimal real) bytes modelled same short flag = same_length _ _ same
of_form Characters bytes modelled same short flag = no_more _ _ short
of_form HexPairs bytes modelled same short flag = no_more _ _ short
of_form Unmodelled bytes modelled same short flag = cc

-- bytes that an entry may be written, of its length, are a value of it, if not a BOOLEAN over 1
pub fits_passed : (shape : Shaped) (place : ℕ × ℕ) (entry : Entry) (bytes : List ℕ)
    → Some entry ≡ get shape.entries place
    → IsOk (access_check shape place) → IsOk (length_check shape place (length bytes)) → is_no_flag bytes entry ≡ false
    → AreBytes bytes → IsValueOf entry.kind bytes
unfolding access_check length_check
fits_passed shape place entry bytes there access size flag are_bytes =
    let at : (test : Entry → Bool) → is_entry_that test shape place ≡ false
    → test entry ≡ false = λ test e. ap (λ o. option_map_or test o false) there ∙ e in
    let lines = none_holds (access_lines shape place) access in
    let lengths = none_holds (length_lines shape place (length bytes)) size in (
      are_bytes,
      of_form (form entry.kind) bytes (at (λ e. not (is_modelled e.kind)) lines.1.1.0)
          (at (has_other_length (length bytes)) lengths.0) lengths.1.0 flag,
    )

-- ---- the whole check

-- a check, and the next where it passes
abbrev pub then_check : Result (Unit {0}) Abort → Result (Unit {0}) Abort → Result (Unit {0}) Abort
then_check (Ok nothing) next = next
then_check (Err abort) next = Err abort

behind : (lines others : Lines) → first_refusal (lines ++ others) ≡ then_check (first_refusal lines)
    (first_refusal others)
behind [] others = refl
behind ((true, abort) ∷ lines) others = refl
behind ((false, abort) ∷ lines) others = behind lines others

module _ (shape : Shaped) (values : Values) (place : ℕ × ℕ) (bytes : List ℕ) where
  abbrev pub checks_in_turn : Result (Unit {0}) Abort
  checks_in_turn =
      then_check (access_check shape place)
      (then_check (length_check shape place (length bytes))
      (then_check (first_refusal (value_lines shape place bytes))
      (then_check (first_refusal (cob_id_lines shape values place bytes))
      (then_check (first_refusal (mapping_lines shape values place))
      (first_refusal (new_count_lines shape values place bytes))))))

  -- the write check is its parts, one after the other
  pub write_check_in_turn : write_check shape values place bytes ≡ checks_in_turn
  unfolding write_check access_check length_check
  write_check_in_turn =
      behind (access_lines shape place) _
      ∙ ap (then_check (access_check shape place)) (behind (length_lines shape place (length bytes)) _
      ∙ ap (then_check (length_check shape place (length bytes))) (behind (value_lines shape place bytes) _
      ∙ ap (then_check (first_refusal (value_lines shape place bytes)))
      (behind (cob_id_lines shape values place bytes) _
      ∙ ap (then_check (first_refusal (cob_id_lines shape values place bytes)))
      (behind (mapping_lines shape values place) _))))

-- what holds anyway holds where a check passes
pub any_ok : {P : Type 0} (r : Result (Unit {0}) Abort) → P → OnOk r P
any_ok (Ok nothing) h = h
any_ok (Err abort) h = tt

-- a check that passed
pub ok_is : (r : Result (Unit {0}) Abort) → IsOk r → r ≡ Ok tt
ok_is (Ok nothing) h = refl
ok_is (Err abort) h = cc
