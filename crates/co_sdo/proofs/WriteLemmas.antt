-- What a value that is taken has, and leaves.
use Rattle.std.proofs.Common.{◌≡◌, ℕ, ◌≤◌, List, length, Result, Ok, Err, refl, sym, subst, ◌∙◌}
use Rattle.std.specs.Prelude.{IsOk}
use Rattle.std.specs.FinMap.{insert}
use Rattle.base.specs.Bytes.{AreBytes}
use Rattle.co_values.specs.Values.{longest_value}
use Rattle.co_dict.specs.declared.abort.Abort.{Abort}
use Rattle.co_dict.specs.Checks.{access_check, length_check, length_lines}
use Rattle.co_dict.specs.Shapes.{Shaped}
use Rattle.co_dict.specs.Values.{HoldEach, Values}
use Rattle.co_dict.specs.WriteCheck.{write_check}
use Rattle.co_dict.proofs.CheckLaws as laws
use Rattle.co_dict.proofs.CheckLemmas.{no_more, none_holds, then_check, write_check_in_turn}

second_ok : (a b c : Result (Unit {0}) Abort) → then_check a (then_check b c) ≡ Ok tt → IsOk b
second_ok (Ok nothing) (Ok other) c e = refl
second_ok (Ok nothing) (Err abort) c e = cc
second_ok (Err abort) b c e = cc

-- a value that is taken isn't too long
pub taken_is_short : (shape : Shaped) (values : Values) (place : ℕ × ℕ) (bytes : List ℕ)
    → write_check shape values place bytes ≡ Ok tt → length bytes ≤ longest_value
unfolding length_check
taken_is_short shape values place bytes e =
    no_more longest_value (length bytes) (none_holds (length_lines shape place (length bytes))
    (second_ok (access_check shape place)
    (length_check shape place (length bytes)) _ (sym (write_check_in_turn shape values place bytes) ∙ e))).1.0

-- and leaves each entry a value of its type's length
pub each_held : (shape : Shaped) (values left : Values) (place : ℕ × ℕ) (bytes : List ℕ) → AreBytes bytes
    → write_check shape values place bytes ≡ Ok tt
    → left ≡ insert values place bytes → HoldEach shape.entries values → HoldEach shape.entries left
each_held shape values left place bytes are_bytes e is held = subst (HoldEach shape.entries) (sym is)
    (laws.each_held shape values place bytes are_bytes e held)

both_ok : (a b c : Result (Unit {0}) Abort) → then_check a (then_check b c) ≡ Ok tt → (a ≡ Ok tt) × (b ≡ Ok tt)
both_ok (Ok nothing) (Ok other) c e = (refl, refl)
both_ok (Ok nothing) (Err abort) c e = cc
both_ok (Err abort) b c e = cc

-- may be written at all, and has a length that the entry can have
pub checked_first : (shape : Shaped) (values : Values) (place : ℕ × ℕ) (bytes : List ℕ)
    → write_check shape values place bytes ≡ Ok tt
    → (access_check shape place ≡ Ok tt) × (length_check shape place (length bytes) ≡ Ok tt)
checked_first shape values place bytes e = both_ok (access_check shape place)
    (length_check shape place (length bytes)) _ (sym (write_check_in_turn shape values place bytes) ∙ e)
