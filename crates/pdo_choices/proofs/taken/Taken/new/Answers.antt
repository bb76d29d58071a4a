use Rattle.std.proofs.Common.{◌≡◌, ◌∙◌, ℕ, false, ap, rules}
use Rattle.std.specs.BTreeSet.{contains}
use Rattle.std.specs.Ordering.{nat_cmp}
use Rattle.pdo_stations.specs.Stations.{devices_in}
use Rattle.vendor_pdos.specs.Fixed.{is_withheld}
use Rattle.pdo_choices.specs.Had.{withheld_by}
use Rattle.pdo_choices.specs.Taken.{pair_cmp}
use Rattle.pdo_choices.proofs.taken.Taken.new.Goals as goal

pub returns-clause-had : goal.returns-clause-had
unfolding withheld_by
returns-clause-had c =
    let identifiers : (id : ℕ) → contains nat_cmp c.new-3.result id ≡ false = λ id. search rules in
    let tpdos : (q : ℕ × ℕ) → contains pair_cmp c.new-4.result q ≡ false = λ q. search rules in
    let stations = c.in_ok-known.ensures in
    let withheld : (id : ℕ) → contains nat_cmp c.in_ok-known.known.withheld id ≡ is_withheld (devices_in c.args.stations) id =
    λ id. c.in_ok-known.known.exact id ∙ ap (λ s. is_withheld (devices_in s) id) stations in
    λ i. record {
      identifier = λ id. identifiers id i;
      tpdo = λ node number. tpdos (node, number) i;
      rpdo = λ node number. c.in_ok-rpdos.ensures node number i;
      withheld = record {
        identifier = λ id. withheld id i;
        rpdo = λ node number. c.in_ok-withheld_rpdos.ensures (node, number) i;
      };
    }
