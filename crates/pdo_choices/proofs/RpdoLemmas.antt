-- The RPDO by which a node takes a message.
use Rattle.std.proofs.Common.{◌≡◌, ℕ, ◌≤◌, ◌==◌, ◌&&◌, ◌||◌, not, Bool, true, false, cond, List, [], ◌∷◌, length, Option, Some}
use Rattle.std.proofs.Common.{None, option_and_then, refl, sym, ap, ◌∙◌, arith}
use Rattle.std.specs.Prelude.{if◌then◌else◌}
use Rattle.std.specs.BTreeMap.{is_at}
use Rattle.std.specs.List.{AllByRecursion}
use Rattle.std.specs.Map.{lookup}
use Rattle.std.specs.Option.{option_map_or, option_or}
use Rattle.std.specs.Ordering.{nat_cmp}
use Rattle.std.proofs.lemmas.Bool.{false≢true}
use Rattle.std.proofs.lemmas.Bool.Decides.{nat_tests}
use Rattle.std.proofs.lemmas.List.Elements.{recursion_from_All}
use Rattle.cia301.specs.PdoObjects.{rpdo_object}
use Rattle.project_messages.specs.declared.linked.Linked.{Linked}
use Rattle.project_messages.specs.declared.receive.Receive.{Receive}
use Rattle.project_messages.specs.Messages.{receive_at, AreReceives, IsLinked, IsReceive}
use Rattle.pdo_stations.specs.Carried.{carried_of}
use Rattle.pdo_stations.specs.Devices.{Devices}
use Rattle.pdo_stations.specs.declared.as_made.AsMade.{AsMade}
use Rattle.pdo_stations.specs.declared.carried.Carried.{Carried}
use Rattle.vendor_pdos.specs.Choices.{taken_choices}
use Rattle.vendor_pdos.specs.Fixed.{has_fixed}
use Rattle.vendor_pdos.specs.Mappings.{mapping_serves}
use Rattle.vendor_pdos.specs.Parameters.{is_open, takes_alike, type_serves}
use Rattle.vendor_pdos.specs.Serving.{has_objects_of, takes}
use Rattle.pdo_choices.specs.Least.{least_free, IsLeastFree}
use Rattle.pdo_choices.specs.Had.{Had}
use Rattle.pdo_choices.specs.Rpdos.{can_take, is_free_rpdo, may_take, rpdo_by, rpdo_for, vendor_rpdo}
use Rattle.pdo_choices.specs.Receives.{rpdo_named}
use Rattle.pdo_choices.specs.Identifiers.{sought_identifier}
use Rattle.pdo_choices.proofs.LeastLemmas.{least_free_is}
use Rattle.pdo_choices.proofs.RangeLemmas.{between}

not_false : (b : Bool) → not b ≡ true → b ≡ false
not_false true e = absurd (false≢true e)
not_false false e = refl

left_true : (a b : Bool) → (a && b) ≡ true → a ≡ true
left_true true b e = refl
left_true false b e = e

pub right_true : (a b : Bool) → (a && b) ≡ true → b ≡ true
right_true true b e = e
right_true false b e = cc

-- ---- what receives name

named_of : (receives : List (ℕ × Receive)) (node number : ℕ) → AllByRecursion IsReceive receives
    → option_and_then (λ (r : Receive). if r.rpdo == 0 then None else Some r.rpdo) (receive_at receives node) ≡ Some number
    → (1 ≤ number) × (number ≤ 512)
named_of [] node number kept e = cc
named_of (r ∷ rs) node number kept e = by (is_at (nat_cmp node) r.0) e (named_of rs node number kept.1)
  where
    first : (b : Bool) → (r.1.rpdo == 0) ≡ b → (if b then None else Some r.1.rpdo) ≡ Some number
        → (1 ≤ number) × (number ≤ 512)
    first true z e = cc
    first false z e =
        let same : r.1.rpdo ≡ number = cc in
        let limits = between 0 512 r.1.rpdo kept.0.1 in
        let some : 1 ≤ r.1.rpdo = grind (arith, nat_tests) in
        (omega (arith, some, same), omega (arith, limits.1, same))

    by : (b : Bool) → option_and_then (λ (r : Receive). if r.rpdo == 0 then None else Some r.rpdo)
        (cond b (Some r.1) (lookup (is_at (nat_cmp node)) rs)) ≡ Some number
        → (option_and_then (λ (r : Receive). if r.rpdo == 0 then None else Some r.rpdo) (receive_at rs node) ≡ Some number
        → (1 ≤ number) × (number ≤ 512)) → (1 ≤ number) × (number ≤ 512)
    by true e rest = first (r.1.rpdo == 0) refl e
    by false e rest = rest e

-- an RPDO that a receive names is one
pub named_within : (m : Linked) (node number : ℕ) → IsLinked m → rpdo_named m node ≡ Some number
    → (1 ≤ number) × (number ≤ 512)
unfolding IsLinked AreReceives
named_within m node number kept e =
    named_of m.receives node number (recursion_from_All IsReceive m.receives kept.4.1) e

-- ---- devices as they were made

-- what is closed and has another identifier takes nothing
shut : (opened fixed there maps kind spare free : Bool) → fixed ≡ false
    → (not opened && (spare && (free && (there && (opened || fixed) && maps && kind)))) ≡ false
shut true fixed there maps kind spare free e = refl
shut false true there maps kind spare free e = cc
shut false false there maps kind false free e = refl
shut false false there maps kind true false e = refl
shut false false true maps kind true true e = refl
shut false false false maps kind true true e = refl

module _ (had : Had) (device : AsMade) (m : Linked) (cs : List Carried) (identifier : Option ℕ) (node : ℕ) where
  abbrev can : ℕ → Bool
  can number = can_take had device m cs identifier node number

  abbrev may : ℕ → Bool
  may number = may_take had device m cs identifier node number

  abbrev closed : ℕ → Bool
  closed number = not (is_open device (rpdo_object number)) && may number

  pub closed_none : (number : ℕ) → option_map_or (has_fixed device (rpdo_object number)) identifier false ≡ false
      → closed number ≡ false
  unfolding takes
  closed_none number e =
      let object = rpdo_object number in
      let wanted = taken_choices device m.sinks node cs in
      shut (is_open device object) (option_map_or (has_fixed device object) identifier false)
      (has_objects_of device object) (mapping_serves device object wanted)
      (type_serves takes_alike device object m.message.transmission)
      (not (had.withheld.rpdo node number)) (not (had.rpdo node number)) e

  -- one that is found can take the message, and was named, or is one of 512
  abbrev IsFound : ℕ → Type 0
  IsFound number = (can number ≡ true) × ((rpdo_named m node ≡ Some number → (1 ≤ number) × (number ≤ 512))
      → (1 ≤ number) × (number ≤ 512))

  of_least : (test : ℕ → Bool) (number : ℕ) → ((n : ℕ) → test n ≡ true → can n ≡ true)
      → least_free test 1 512 ≡ Some number → IsFound number
  of_least test number passes e =
      let is : IsLeastFree test 1 512 (Some number) = least_free_is test 1 512 (Some number) (sym e) in
      (passes number is.2, λ named. (is.0, omega (arith, is.1)))

  of_both : (o : Option ℕ) (number : ℕ) → least_free closed 1 512 ≡ o → option_or o (least_free may 1 512) ≡ Some number
      → IsFound number
  of_both None number is e = of_least may number (λ n t. right_true _ (can n) t) e
  of_both (Some n) number is e = of_least closed number (λ n t. right_true _ (can n) (right_true _ (may n) t)) (is ∙ e)

  pub vendor_found : (number : ℕ) → vendor_rpdo had device m cs identifier node ≡ Some number → IsFound number
  unfolding vendor_rpdo
  vendor_found number e = by (rpdo_named m node) refl e
    where
      named_can : (n : ℕ) (b : Bool) → can n ≡ b → (if b then Some n else None) ≡ Some number
          → (n ≡ number) × (can number ≡ true)
      named_can n true t e = let same : n ≡ number = cc in (same, ap can (sym same) ∙ t)
      named_can n false t e = cc

      by : (o : Option ℕ) → rpdo_named m node ≡ o
          → option_map_or (λ named. if can named then Some named else None) o
          (option_or (least_free closed 1 512) (least_free may 1 512)) ≡ Some number → IsFound number
      by None is e = of_both (least_free closed 1 512) number refl e
      by (Some n) is e =
          let it = named_can n (can n) refl e in
          (it.1, λ within. within (is ∙ ap Some it.0))

-- ---- all nodes

-- one that is found was free
by_free : (had : Had) (devices : Devices) (m : Linked) (cs : List Carried) (identifier : Option ℕ) (node number : ℕ)
    → rpdo_by had devices m cs identifier node ≡ Some number → had.rpdo node number ≡ false
by_free had devices m cs identifier node number e = by devices.vendor e
  where
    at : (o : Option AsMade) → option_and_then (λ device. vendor_rpdo had device m cs identifier node) o ≡ Some number
        → had.rpdo node number ≡ false
    at None e = cc
    at (Some device) e = not_false (had.rpdo node number)
        (left_true _ _ (vendor_found had device m cs identifier node number e).0)

    by : (o : Option (ℕ → Option AsMade))
        → option_map_or (λ made. option_and_then (λ device. vendor_rpdo had device m cs identifier node) (made node)) o
        (least_free (is_free_rpdo had devices node (length cs)) 1 512) ≡ Some number → had.rpdo node number ≡ false
    by None e =
        let is : IsLeastFree (is_free_rpdo had devices node (length cs)) 1 512 (Some number) =
        least_free_is (is_free_rpdo had devices node (length cs)) 1 512 (Some number) (sym e) in
        not_false (had.rpdo node number) (left_true _ _ is.2)
    by (Some made) e = at (made node) e

pub rpdo_free : (had : Had) (devices : Devices) (m : Linked) (node number : ℕ) → rpdo_for had devices m node ≡ Some number
    → had.rpdo node number ≡ false
unfolding rpdo_for
rpdo_free had devices m node number e = by_free had devices m (carried_of devices m.message.node m.sources)
    (sought_identifier had devices m.message) node number e

by_within : (had : Had) (devices : Devices) (m : Linked) (cs : List Carried) (identifier : Option ℕ) (node number : ℕ)
    → IsLinked m → rpdo_by had devices m cs identifier node ≡ Some number → (1 ≤ number) × (number ≤ 512)
by_within had devices m cs identifier node number kept e = by devices.vendor e
  where
    at : (o : Option AsMade) → option_and_then (λ device. vendor_rpdo had device m cs identifier node) o ≡ Some number
        → (1 ≤ number) × (number ≤ 512)
    at None e = cc
    at (Some device) e = (vendor_found had device m cs identifier node number e).1 (named_within m node number kept)

    by : (o : Option (ℕ → Option AsMade))
        → option_map_or (λ made. option_and_then (λ device. vendor_rpdo had device m cs identifier node) (made node)) o
        (least_free (is_free_rpdo had devices node (length cs)) 1 512) ≡ Some number → (1 ≤ number) × (number ≤ 512)
    by None e =
        let is : IsLeastFree (is_free_rpdo had devices node (length cs)) 1 512 (Some number) =
        least_free_is (is_free_rpdo had devices node (length cs)) 1 512 (Some number) (sym e) in
        (is.0, omega (arith, is.1))
    by (Some made) e = at (made node) e

-- and is one of 512
pub rpdo_within : (had : Had) (devices : Devices) (m : Linked) → IsLinked m → (node number : ℕ)
    → rpdo_for had devices m node ≡ Some number → (1 ≤ number) × (number ≤ 512)
unfolding rpdo_for
rpdo_within had devices m kept node number e = by_within had devices m (carried_of devices m.message.node m.sources)
    (sought_identifier had devices m.message) node number kept e
