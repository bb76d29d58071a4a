-- What the write of an object of PDOs changes.
use Rattle.std.proofs.Common.{◌≡◌, ◌≢◌, ℕ, ◌==◌, Bool, true, false, List, [], ◌∷◌, refl, ap, arith}
use Rattle.std.specs.List.{AllByRecursion}
use Rattle.std.proofs.lemmas.Bool.Decides.{nat_tests}
use Rattle.co_dict.specs.Shapes.{Shaped}
use Rattle.co_dict.specs.Values.{Values}
use Rattle.cia301.specs.PdoObjects.{number_of_object}
use Rattle.device_pdos.specs.Rpdos.{rpdo, rpdo_after_write, rpdos_after_write}
use Rattle.device_pdos.specs.Tpdos.{tpdo, tpdo_after_write, tpdos_after_write}
use Rattle.device_pdos.specs.declared.rpdo_state.RpdoState.{RpdoState}
use Rattle.device_pdos.specs.declared.tpdo_state.TpdoState.{TpdoState}

same_test : (m n : ℕ) → m ≡ n → (m == n) ≡ true
same_test m n e = grind (arith, nat_tests)

other_test : (m n : ℕ) → m ≢ n → (m == n) ≡ false
other_test m n other = by (m == n) refl
  where
    passed : (m == n) ≡ true → m ≡ n
    passed e = grind (arith, nat_tests)

    by : (test : Bool) → (m == n) ≡ test → test ≡ false
    by false e = refl
    by true e = absurd (other (passed e))

module _ (shape : Shaped) (values : Values) (index : ℕ) where
  pub own_tpdo : (p : TpdoState) → p.number ≡ number_of_object index
      → tpdo_after_write shape values index p ≡ tpdo shape values p.number
  own_tpdo p e = rw (same_test p.number (number_of_object index) e) refl

  pub other_tpdo : (p : TpdoState) → p.number ≢ number_of_object index → tpdo_after_write shape values index p ≡ p
  other_tpdo p other = rw (other_test p.number (number_of_object index) other) refl

  pub own_rpdo : (p : RpdoState) → p.number ≡ number_of_object index
      → rpdo_after_write shape values index p ≡ rpdo shape values p.number
  own_rpdo p e = rw (same_test p.number (number_of_object index) e) refl

  pub other_rpdo : (p : RpdoState) → p.number ≢ number_of_object index → rpdo_after_write shape values index p ≡ p
  other_rpdo p other = rw (other_test p.number (number_of_object index) other) refl

  pub other_tpdos : (tpdos : List TpdoState) → AllByRecursion (λ p. p.number ≢ number_of_object index) tpdos
      → tpdos_after_write shape values index tpdos ≡ tpdos
  unfolding tpdos_after_write
  other_tpdos [] others = refl
  other_tpdos (p ∷ tpdos) others = rw (other_test p.number (number_of_object index) others.0)
      (ap (λ ps. p ∷ ps) (other_tpdos tpdos others.1))

  pub other_rpdos : (rpdos : List RpdoState) → AllByRecursion (λ p. p.number ≢ number_of_object index) rpdos
      → rpdos_after_write shape values index rpdos ≡ rpdos
  unfolding rpdos_after_write
  other_rpdos [] others = refl
  other_rpdos (p ∷ rpdos) others = rw (other_test p.number (number_of_object index) others.0)
      (ap (λ ps. p ∷ ps) (other_rpdos rpdos others.1))
