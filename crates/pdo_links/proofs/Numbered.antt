-- The writes of PDOs by number.
use Rattle.std.proofs.Common.{◌≡◌, ℕ, zero, suc, Bool, true, false, cond, List, [], ◌∷◌, ◌++◌, Contains}
use Rattle.std.proofs.Common.{Option, Some, None, option_map, refl, sym, ap, subst, ◌∙◌, arith}
use Rattle.std.specs.Prelude.{◌==◌, filter_map, if◌then◌else◌}
use Rattle.std.specs.BTreeMap.{is_at}
use Rattle.std.specs.List.{find}
use Rattle.std.specs.Map.{lookup}
use Rattle.std.specs.Ordering.{nat_cmp, eq_by_cmp}
use Rattle.std.proofs.lemmas.Map.Lookups.{exact_unsigned}
use Rattle.std.proofs.lemmas.Map.Views.{Contains-from_lookup, tells_apart, exact_unsigned_eq}
use Rattle.node_parameters.proofs.WrittenLemmas.{from_filter_map}
use Rattle.pdo_choices.specs.declared.clean.Clean.{Clean}
use Rattle.pdo_choices.specs.declared.consumer.Consumer.{Consumer}
use Rattle.pdo_links.specs.Tables.{IsTableOf}
use Rattle.pdo_links.specs.PdoWrites.{tpdo_of, rpdo_of}
use Rattle.pdo_links.proofs.Tabled.{tabled}

pub append_none : {X : Type 0} (xs : List X) → xs ++ [] ≡ xs
append_none [] = refl
append_none (x ∷ xs) = ap (λ ys. x ∷ ys) (append_none xs)

-- ---- the PDO of a number

module _ {X Y : Type 0} (shows : X → Y) (entries : List (ℕ × X)) (pdos : List (ℕ × Y)) (number : ℕ)
    (table : IsTableOf shows entries pdos) where
  pub there : (x : X) → Some x ≡ lookup (is_at (nat_cmp number)) entries
      → lookup (is_at (nat_cmp number)) pdos ≡ Some (shows x)
  there x is = sym (tabled shows entries pdos number table) ∙ ap (option_map shows) (sym is)

-- ---- the messages behind PDOs

pub behind : {Y : Type 0} (h : Clean → Option (ℕ × Y)) (cs : List Clean) (number : ℕ) (y : Y)
    → lookup (is_at (nat_cmp number)) (filter_map h cs) ≡ Some y
    → (c : Clean) × Contains cs c × (h c ≡ Some (number, y))
behind h cs number y e = from_filter_map h cs (number, y)
    (Contains-from_lookup {eq = eq_by_cmp nat_cmp} (tells_apart exact_unsigned) number y (filter_map h cs) e)

-- a node's TPDO is that of a message that it sends
pub record Sends (cs : List Clean) (node number : ℕ) (c : Clean) : Type 0 where
  pub message : Contains cs c
  pub sender : c.message.node ≡ node
  pub numbered : c.message.tpdo ≡ number

pub sends : (cs : List Clean) (node number : ℕ) (c : Clean)
    → lookup (is_at (nat_cmp number)) (filter_map (tpdo_of node) cs) ≡ Some c → Sends cs node number c
sends cs node number c e = let b : (a : Clean) × Contains cs a
    × (tpdo_of node a ≡ Some (number, c)) = behind (tpdo_of node) cs number c e
    in by b.0 b.1 (b.0.message.node == node) refl b.2
  where
    by : (a : Clean) → Contains cs a → (t : Bool) → (a.message.node == node) ≡ t
        → (let none : Option (ℕ × Clean) = None in if t then Some (a.message.tpdo, a) else none) ≡ Some (number, c)
        → Sends cs node number c
    by a has true is same =
        let p : (let l : ℕ × Clean = (a.message.tpdo, a) in let r : ℕ × Clean = (number, c) in l ≡ r) = cc in
        let here : a ≡ c = ap (λ (q : ℕ × Clean). q.1) p in
        subst (Sends cs node number) here (record {
          message = has;
          sender = exact_unsigned_eq a.message.node node is;
          numbered = ap (λ (q : ℕ × Clean). q.0) p;
        })
    by a has false is same = cc

pub found : (test : Consumer → Bool) (ks : List Consumer) (k : Consumer) → find test ks ≡ Some k
    → Contains ks k × (test k ≡ true)
found test [] k e = cc
found test (x ∷ ks) k e = by (test x) refl e (found test ks k)
  where
    by : (t : Bool) → test x ≡ t → cond t (Some x) (find test ks) ≡ Some k
        → (find test ks ≡ Some k → Contains ks k × (test k ≡ true)) → Contains (x ∷ ks) k × (test k ≡ true)
    by true is same rest = let here : x ≡ k = cc in ((zero, omega arith, here), ap test (sym here) ∙ is)
    by false is same rest = let r : Contains ks k × (test k ≡ true) = rest same
        in ((suc r.0.0, omega arith, r.0.2), r.1)

-- a node's RPDO is that by which it takes a message
pub record Takes (cs : List Clean) (node number : ℕ) (t : Clean × Consumer) : Type 0 where
  pub message : Contains cs t.0
  pub consumer : Contains t.0.consumers t.1
  pub taker : t.1.node ≡ node
  pub numbered : t.1.rpdo ≡ number

pub takes : (cs : List Clean) (node number : ℕ) (t : Clean × Consumer)
    → lookup (is_at (nat_cmp number)) (filter_map (rpdo_of node) cs) ≡ Some t → Takes cs node number t
takes cs node number t e =
    let b : (a : Clean) × Contains cs a × (rpdo_of node a ≡ Some (number, t)) = behind (rpdo_of node) cs number t e in
    by b.0 b.1 (find (λ (k : Consumer). k.node == node) b.0.consumers) refl b.2
  where
    by : (a : Clean) → Contains cs a → (o : Option Consumer) → find (λ (k : Consumer). k.node == node) a.consumers ≡ o
        → option_map {U = ℕ × (Clean × Consumer)} (λ (k : Consumer). (k.rpdo, (a, k))) o ≡ Some (number, t)
        → Takes cs node number t
    by a has None is same = cc
    by a has (Some k) is same =
        let p : (let l : ℕ × (Clean × Consumer) = (k.rpdo, (a, k)) in let r : ℕ × (Clean × Consumer) = (number, t)
        in l ≡ r) = cc in
        let here : (let l : Clean × Consumer = (a, k) in l ≡ t) = ap (λ (q : ℕ × (Clean × Consumer)). q.1) p in
        let f : Contains a.consumers k × ((k.node == node) ≡ true) =
        found (λ (k : Consumer). k.node == node) a.consumers k is in
        subst (Takes cs node number) here (record {
          message = has;
          consumer = f.0;
          taker = exact_unsigned_eq k.node node f.1;
          numbered = ap (λ (q : ℕ × (Clean × Consumer)). q.0) p;
        })
