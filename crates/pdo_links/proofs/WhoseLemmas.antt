-- Whose writes a node gets.
use Rattle.std.proofs.Common.{◌≡◌, ◌⊎◌, inl, inr, ⊎_elim, ℕ, zero, suc, ◌+◌, ◌<◌, ◌≤◌, Bool, true, false, cond, List}
use Rattle.std.proofs.Common.{[], ◌∷◌, ◌++◌, length, Contains, Option, Some, None, option_map, refl, sym, ap, subst}
use Rattle.std.proofs.Common.{◌∙◌, arith}
use Rattle.std.specs.Prelude.{◌==◌, filter_map, if◌then◌else◌}
use Rattle.std.specs.BTreeMap.{is_at}
use Rattle.std.specs.List.{cons_option, find, flat_map, range_with_len}
use Rattle.std.specs.Map.{lookup}
use Rattle.std.specs.Option.{option_map_or}
use Rattle.std.specs.Ordering.{nat_cmp}
use Rattle.std.proofs.lemmas.Bool.{cases_eq}
use Rattle.std.proofs.lemmas.Map.Views.{exact_unsigned_eq}
use Rattle.concise_dcf.specs.declared.write.Write.{Write}
use Rattle.base.specs.Ranges.{is_between}
use Rattle.cia301.specs.PdoObjects.{is_of_pdos}
use Rattle.std.specs.FinMap.{get}
use Rattle.eds_device.specs.Sheets.{Sheet}
use Rattle.node_parameters.specs.Params.{Texts}
use Rattle.node_parameters.specs.Parameters.{parameter_text, parameter_writes}
use Rattle.concise_dcf.specs.Writes.{place_of}
use Rattle.node_parameters.proofs.ParameterLemmas.{nothing_else, pdo_text}
use Rattle.pdo_choices.specs.declared.clean.Clean.{Clean}
use Rattle.pdo_choices.specs.declared.consumer.Consumer.{Consumer}
use Rattle.pdo_plan.specs.declared.planned_message.PlannedMessage.{PlannedMessage}
use Rattle.pdo_plan.specs.Plan.{clean}
use Rattle.pdo_links.specs.Order.{IsOfSent, IsOfTaken, IsNamedByNone, IsSentAlone, IsTakenAlone}
use Rattle.pdo_links.specs.PdoWrites.{tpdo_of, rpdo_of}
use Rattle.pdo_links.specs.Writes.{at_number, by_number, set_link_writes, node_writes, tpdo_writes}
use Rattle.pdo_links.specs.Writes.{rpdo_writes}
use Rattle.pdo_links.proofs.Numbered.{Sends, Takes, sends, takes, found, append_none}

-- ---- elements

-- an element of two lists behind one another is one of either
pub of_either : {X : Type 0} (xs ys : List X) (x : X) → Contains (xs ++ ys) x → Contains xs x ⊎ Contains ys x
of_either [] ys x has = inr has
of_either (z ∷ xs) ys x (zero, lt, is) = inl (zero, omega arith, is)
of_either {X} (z ∷ xs) ys x (suc k, lt, is) = by (of_either xs ys x (k, omega arith, is))
  where
    by : Contains xs x ⊎ Contains ys x → Contains (z ∷ xs) x ⊎ Contains ys x
    by (inl (j, below, here)) = inl (suc j, omega arith, here)
    by (inr has) = inr has

-- ---- by number

module _ {Y : Type 0} (f : Y → List Write) (pdos : List (ℕ × Y)) (w : Write) where
  abbrev Behind : Type 0
  Behind = (number : ℕ) × ((y : Y) × (lookup (is_at (nat_cmp number)) pdos ≡ Some y) × Contains (f y) w)

  of_range : (first n : ℕ) → Contains (flat_map (at_number f pdos) (range_with_len first n)) w → Behind
  of_range first zero (k, lt, is) = absurd (omega arith)
  of_range first (suc n) has = ⊎_elim (here (lookup (is_at (nat_cmp first)) pdos) refl) (of_range (first + 1) n)
      (of_either (at_number f pdos first) (flat_map (at_number f pdos) (range_with_len (first + 1) n)) w has)
    where
      here : (o : Option Y) → lookup (is_at (nat_cmp first)) pdos ≡ o → Contains (option_map_or f o []) w → Behind
      here None is (k, lt, at) = absurd (omega arith)
      here (Some y) is has = (first, (y, is, has))

  behind_number : Contains (by_number f pdos) w → Behind
  unfolding by_number
  behind_number has = of_range 1 512 has

module _ {Y : Type 0} (f : Y → List Write) where
  none_of_range : (first n : ℕ) → flat_map (at_number f []) (range_with_len first n) ≡ []
  none_of_range first zero = refl
  none_of_range first (suc n) = none_of_range (first + 1) n

  none_by_number : (pdos : List (ℕ × Y)) → pdos ≡ [] → by_number f pdos ≡ []
  unfolding by_number
  none_by_number pdos is = rw is (none_of_range 1 512)

-- ---- whose

pub of_tpdos : (cs : List Clean) (sheet : Sheet) (node : ℕ) (w : Write)
    → Contains (by_number (tpdo_writes sheet node) (filter_map (tpdo_of node) cs)) w → IsOfSent cs sheet node w
of_tpdos cs sheet node w has =
    let b : Behind (tpdo_writes sheet node) (filter_map (tpdo_of node) cs) w = behind_number (tpdo_writes sheet node)
    (filter_map (tpdo_of node) cs) w has in
    let s : Sends cs node b.0 b.1.0 = sends cs node b.0 b.1.0 b.1.1 in
    (b.1.0, s.message, s.sender, b.1.2)

pub of_rpdos : (cs : List Clean) (node : ℕ) (w : Write)
    → Contains (by_number (λ (t : Clean × Consumer). rpdo_writes t.0 t.1) (filter_map (rpdo_of node) cs)) w
    → IsOfTaken cs node w
of_rpdos cs node w has =
    let f : Clean × Consumer → List Write = λ (t : Clean × Consumer). rpdo_writes t.0 t.1 in
    let b : Behind f (filter_map (rpdo_of node) cs) w = behind_number f (filter_map (rpdo_of node) cs) w has in
    let t : Takes cs node b.0 b.1.0 = takes cs node b.0 b.1.0 b.1.1 in
    (b.1.0.0, t.message, (b.1.0.1, t.consumer, t.taker, b.1.2))

pub of_messages : (plan : List PlannedMessage) (params : Texts) (sheet : Sheet) (node : ℕ) (w : Write)
    → ((place : ℕ × ℕ) → is_of_pdos place.0 ≡ true → get params place ≡ None)
    → Contains (node_writes false plan params sheet node) w → is_of_pdos w.index ≡ true
    → IsOfSent (clean plan) sheet node w ⊎ IsOfTaken (clean plan) node w
unfolding node_writes set_link_writes
of_messages plan params sheet node w apart has pdo =
    ⊎_elim parameter links (of_either (parameter_writes sheet params node) (set_link_writes plan sheet node) w has)
  where
    parameter : Contains (parameter_writes sheet params node) w
        → IsOfSent (clean plan) sheet node w ⊎ IsOfTaken (clean plan) node w
    parameter there =
        let text : (text : List ℕ) × (parameter_text sheet.sections params (place_of w) ≡ Some text)
        × _ = nothing_else sheet params node w there in
        let none : parameter_text sheet.sections params (place_of w) ≡ None = pdo_text sheet params (place_of w)
        (apart (place_of w) pdo) pdo in
        let contrary : (let n : Option (List ℕ) = None in n ≡ Some text.0) = sym none ∙ text.1 in
        cc

    links : Contains (set_link_writes plan sheet node) w → IsOfSent (clean plan) sheet node w ⊎ IsOfTaken (clean plan) node w
    links there = ⊎_elim (λ h. inl (of_tpdos (clean plan) sheet node w h)) (λ h. inr (of_rpdos (clean plan) node w h))
        (of_either (by_number (tpdo_writes sheet node) (filter_map (tpdo_of node) (clean plan)))
        (by_number (λ (t : Clean × Consumer). rpdo_writes t.0 t.1)
        (filter_map (rpdo_of node) (clean plan))) w there)

-- ---- a node that no message names

none_given : {Y : Type 0} (h : Clean → Option Y) (cs : List Clean) → ((c : Clean) → Contains cs c → h c ≡ None)
    → filter_map h cs ≡ []
none_given h [] none = refl
none_given {Y} h (c ∷ cs) none = rw (none c (zero, omega arith, refl))
    (none_given h cs (λ d has. none d (suc has.0, (let k : has.0 < length cs = has.1 in omega arith), has.2)))

no_tpdo : (node : ℕ) (c : Clean) → (c.message.node ≡ node → ⊥) → tpdo_of node c ≡ None
no_tpdo node c other = by (c.message.node == node) refl
  where
    by : (b : Bool) → (c.message.node == node) ≡ b
        → (let none : Option (ℕ × Clean) = None in let o : Option (ℕ × Clean) = if b then Some (c.message.tpdo, c)
        else none in o ≡ none)
    by true is = absurd (other (exact_unsigned_eq c.message.node node is))
    by false is = refl

no_rpdo : (node : ℕ) (c : Clean) → ((k : Consumer) → Contains c.consumers k → k.node ≡ node → ⊥) → rpdo_of node c ≡ None
no_rpdo node c other = by (find (λ (k : Consumer). k.node == node) c.consumers) refl
  where
    by : (o : Option Consumer) → find (λ (k : Consumer). k.node == node) c.consumers ≡ o
        → (let none : Option (ℕ × (Clean × Consumer)) = None
        in option_map (λ (k : Consumer). (k.rpdo, (c, k))) o ≡ none)
    by None is = refl
    by (Some k) is = let f : Contains c.consumers k
        × ((k.node == node) ≡ true) = found (λ (k : Consumer). k.node == node) c.consumers k is
        in absurd (other k f.0 (exact_unsigned_eq k.node node f.1))

pub parameters_alone : (plan : List PlannedMessage) (params : Texts) (sheet : Sheet) (node : ℕ)
    → IsNamedByNone (clean plan) node
    → node_writes false plan params sheet node ≡ parameter_writes sheet params node
unfolding node_writes set_link_writes
parameters_alone plan params sheet node none =
    let tpdos : by_number (tpdo_writes sheet node) (filter_map (tpdo_of node) (clean plan)) ≡ [] =
    none_by_number (tpdo_writes sheet node) (filter_map (tpdo_of node) (clean plan))
    (none_given (tpdo_of node) (clean plan) (λ c has. no_tpdo node c (none c has).0)) in
    let rpdos : by_number (λ (t : Clean × Consumer). rpdo_writes t.0 t.1) (filter_map (rpdo_of node) (clean plan))
    ≡ [] =
    none_by_number (λ (t : Clean × Consumer). rpdo_writes t.0 t.1) (filter_map (rpdo_of node) (clean plan))
    (none_given (rpdo_of node) (clean plan) (λ c has. no_rpdo node c (none c has).1)) in
    rw (tpdos, rpdos) (append_none (parameter_writes sheet params node))

-- ---- nothing is missing

pub in_first : {X : Type 0} (xs ys : List X) (x : X) → Contains xs x → Contains (xs ++ ys) x
in_first [] ys x (k, lt, is) = absurd (omega arith)
in_first (z ∷ xs) ys x (zero, lt, is) = (zero, omega arith, is)
in_first (z ∷ xs) ys x (suc k, lt, is) = let r : Contains (xs ++ ys) x = in_first xs ys x (k, omega arith, is)
    in (suc r.0, (let j : r.0 < length (xs ++ ys) = r.1 in omega arith), r.2)

pub in_second : {X : Type 0} (xs ys : List X) (x : X) → Contains ys x → Contains (xs ++ ys) x
in_second [] ys x has = has
in_second (z ∷ xs) ys x has = let r : Contains (xs ++ ys) x = in_second xs ys x has
    in (suc r.0, (let j : r.0 < length (xs ++ ys) = r.1 in omega arith), r.2)

at_itself : (n : ℕ) → is_at (nat_cmp n) n ≡ true
at_itself n = grind arith

-- a number that is given is found
pub given_found : {Y : Type 0} (h : Clean → Option (ℕ × Y)) (cs : List Clean) (c : Clean) (number : ℕ) (y : Y)
    → Contains cs c → h c ≡ Some (number, y)
    → (z : Y) × (lookup (is_at (nat_cmp number)) (filter_map h cs) ≡ Some z)
given_found h [] c number y (k, lt, is) e = absurd (omega arith)
given_found {Y} h (x ∷ cs) c number y (zero, lt, is) e = (y, rw (ap h is ∙ e, at_itself number) refl)
given_found {Y} h (x ∷ cs) c number y (suc k, lt, is) e = by (h x) (given_found h cs c number y (k, omega arith, is) e)
  where
    by : (o : Option (ℕ × Y)) → (z : Y) × (lookup (is_at (nat_cmp number)) (filter_map h cs) ≡ Some z)
        → (z : Y) × (lookup (is_at (nat_cmp number)) (cons_option o (filter_map h cs)) ≡ Some z)
    by None r = r
    by (Some p) r = test (is_at (nat_cmp number) p.0)
      where
        test : (b : Bool) → (z : Y) × (cond b (Some p.1) (lookup (is_at (nat_cmp number)) (filter_map h cs)) ≡ Some z)
        test true = (p.1, refl)
        test false = r

module _ {Y : Type 0} (f : Y → List Write) (pdos : List (ℕ × Y)) (number : ℕ) (w : Write)
    (has : Contains (at_number f pdos number) w) where
  in_range : (first n : ℕ) → first ≤ number → number < first + n
      → Contains (flat_map (at_number f pdos) (range_with_len first n)) w
  in_range first zero low high = absurd (omega arith)
  in_range first (suc n) low high = ⊎_elim
      (λ (same : first ≡ number). in_first (at_number f pdos first)
      (flat_map (at_number f pdos) (range_with_len (first + 1) n)) w
      (subst (λ (k : ℕ). Contains (at_number f pdos k) w) (sym same) has))
      (λ (other : first ≡ number → ⊥). in_second (at_number f pdos first)
      (flat_map (at_number f pdos) (range_with_len (first + 1) n)) w
      (in_range (first + 1) n (above first number low other) (omega arith)))
      (cases_eq first number)
    where
      above : (a b : ℕ) → a ≤ b → (a ≡ b → ⊥) → a + 1 ≤ b
      above a b le other = omega (arith, other)

  in_numbers : is_between 1 512 number ≡ true → Contains (by_number f pdos) w
  unfolding by_number
  in_numbers test = in_range 1 512 (bounds number test).0 (bounds number test).1
    where
      bounds : (n : ℕ) → is_between 1 512 n ≡ true → (1 ≤ n) × (n < 1 + 512)
      bounds n test = grind arith

-- at the number of its TPDO a node has the message that it sends alone
pub sent_found : (cs : List Clean) (node : ℕ) (c : Clean) → IsSentAlone cs node c
    → lookup (is_at (nat_cmp c.message.tpdo)) (filter_map (tpdo_of node) cs) ≡ Some c
sent_found cs node c sent =
    let number : ℕ = c.message.tpdo in
    let given : tpdo_of node c ≡ Some (number, c) = own (c.message.node == node)
    (same_number c.message.node node sent.sender) in
    let at : (z : Clean) × (lookup (is_at (nat_cmp number)) (filter_map (tpdo_of node) cs) ≡ Some z) =
    given_found (tpdo_of node) cs c number c sent.there given in
    let s : Sends cs node number at.0 = sends cs node number at.0 at.1 in
    let same : at.0 ≡ c = sent.alone at.0 s.message s.sender s.numbered in
    at.1 ∙ ap (λ (d : Clean). Some d) same
  where
    own : (b : Bool) → b ≡ true → (let none : Option (ℕ × Clean) = None in let o : Option (ℕ × Clean) = if b
        then Some (c.message.tpdo, c) else none in o ≡ Some (c.message.tpdo, c))
    own true is = refl
    own false is = cc

    same_number : (m n : ℕ) → m ≡ n → (m == n) ≡ true
    same_number m n e = grind arith

pub sent_at : (cs : List Clean) (sheet : Sheet) (node : ℕ) (c : Clean) → IsSentAlone cs node c
    → at_number (tpdo_writes sheet node) (filter_map (tpdo_of node) cs) c.message.tpdo ≡ tpdo_writes sheet node c
sent_at cs sheet node c sent = ap (λ (o : Option Clean). option_map_or (tpdo_writes sheet node) o []) (sent_found cs node c sent)

pub sent_written : (plan : List PlannedMessage) (params : Texts) (sheet : Sheet) (node : ℕ) (c : Clean) (w : Write)
    → IsSentAlone (clean plan) node c → Contains (tpdo_writes sheet node c) w
    → Contains (node_writes false plan params sheet node) w
unfolding node_writes set_link_writes
sent_written plan params sheet node c w sent has =
    let pdos : List (ℕ × Clean) = filter_map (tpdo_of node) (clean plan) in
    let f : Clean → List Write = tpdo_writes sheet node in
    in_second (parameter_writes sheet params node) (set_link_writes plan sheet node) w
    (in_first (by_number f pdos) (by_number (λ (t : Clean × Consumer). rpdo_writes t.0 t.1)
    (filter_map (rpdo_of node) (clean plan))) w
    (in_numbers f pdos c.message.tpdo w (subst (λ (ws : List Write). Contains ws w)
    (sym (sent_at (clean plan) sheet node c sent)) has) sent.numbered))

-- the consumer that is a node is found
node_found : (node : ℕ) (ks : List Consumer) (k : Consumer) → Contains ks k → k.node ≡ node
    → (j : Consumer) × (find (λ (k : Consumer). k.node == node) ks ≡ Some j)
node_found node [] k (i, lt, is) e = absurd (omega arith)
node_found node (x ∷ ks) k (zero, lt, is) e =
    (x, rw (same_number x.node node (ap (λ (y : Consumer). y.node) is ∙ e)) refl)
  where
    same_number : (m n : ℕ) → m ≡ n → (m == n) ≡ true
    same_number m n e = grind arith
node_found node (x ∷ ks) k (suc i, lt, is) e = by (x.node == node) (node_found node ks k (i, omega arith, is) e)
  where
    by : (b : Bool) → (j : Consumer) × (find (λ (k : Consumer). k.node == node) ks ≡ Some j)
        → (j : Consumer) × (cond b (Some x) (find (λ (k : Consumer). k.node == node) ks) ≡ Some j)
    by true r = (x, refl)
    by false r = r

-- at the number of its RPDO a node has the message that it takes alone
pub taken_found : (cs : List Clean) (node : ℕ) (c : Clean) (k : Consumer) → IsTakenAlone cs node c k
    → lookup (is_at (nat_cmp k.rpdo)) (filter_map (rpdo_of node) cs) ≡ Some (c, k)
taken_found cs node c k taken =
    let number : ℕ = k.rpdo in
    let there : (j : Consumer) × (find (λ (k : Consumer). k.node == node) c.consumers ≡ Some j) =
    node_found node c.consumers k taken.consumer taken.taker in
    let j : Contains c.consumers there.0 × ((there.0.node == node) ≡ true) =
    found (λ (k : Consumer). k.node == node) c.consumers there.0 there.1 in
    let it : there.0 ≡ k = taken.once there.0 j.0 (exact_unsigned_eq there.0.node node j.1) in
    let given : rpdo_of node c ≡ Some (number, (c, k)) =
    ap (option_map {U = ℕ × (Clean × Consumer)} (λ (k : Consumer). (k.rpdo, (c, k))))
    (there.1 ∙ ap (λ (i : Consumer). Some i) it) in
    let at : (z : Clean × Consumer) × (lookup (is_at (nat_cmp number)) (filter_map (rpdo_of node) cs) ≡ Some z) =
    given_found (rpdo_of node) cs c number (c, k) taken.there given in
    let t : Takes cs node number at.0 = takes cs node number at.0 at.1 in
    let message : at.0.0 ≡ c = taken.alone at.0.0 at.0.1 t.message t.consumer t.taker t.numbered in
    let consumer : at.0.1
    ≡ k = taken.once at.0.1 (subst (λ (d : Clean). Contains d.consumers at.0.1) message t.consumer) t.taker in
    at.1 ∙ ap (λ (d : Clean). let t : Clean × Consumer = (d, at.0.1) in Some t) message
    ∙ ap (λ (i : Consumer). let t : Clean × Consumer = (c, i) in Some t) consumer

pub taken_at : (cs : List Clean) (node : ℕ) (c : Clean) (k : Consumer) → IsTakenAlone cs node c k
    → at_number (λ (t : Clean × Consumer). rpdo_writes t.0 t.1) (filter_map (rpdo_of node) cs) k.rpdo ≡ rpdo_writes c k
taken_at cs node c k taken =
    ap (λ (o : Option (Clean × Consumer)). option_map_or (λ (t : Clean × Consumer). rpdo_writes t.0 t.1) o [])
    (taken_found cs node c k taken)

pub taken_written : (plan : List PlannedMessage) (params : Texts) (sheet : Sheet) (node : ℕ) (c : Clean)
    (k : Consumer) (w : Write)
    → IsTakenAlone (clean plan) node c k → Contains (rpdo_writes c k) w → Contains (node_writes false plan params sheet node) w
unfolding node_writes set_link_writes
taken_written plan params sheet node c k w taken has =
    let pdos : List (ℕ × (Clean × Consumer)) = filter_map (rpdo_of node) (clean plan) in
    let f : Clean × Consumer → List Write = λ (t : Clean × Consumer). rpdo_writes t.0 t.1 in
    in_second (parameter_writes sheet params node) (set_link_writes plan sheet node) w
    (in_second (by_number (tpdo_writes sheet node) (filter_map (tpdo_of node) (clean plan))) (by_number f pdos) w
    (in_numbers f pdos k.rpdo w (subst (λ (ws : List Write). Contains ws w)
    (sym (taken_at (clean plan) node c k taken)) has) taken.numbered))
