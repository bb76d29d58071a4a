-- Tables of PDOs: what a list has first at each number.
use Rattle.std.proofs.Common.{◌≡◌, ℕ, ◌+◌, ◌<◌, ◌≤◌, Bool, true, false, cond, List, [], ◌∷◌, ◌++◌, length, take}
use Rattle.std.proofs.Common.{get_or, Option, Some, None, option_map, IsSome, refl, sym, subst, ap, ◌∙◌, arith}
use Rattle.std.specs.Prelude.{◌==◌, filter_map, if◌then◌else◌, option_and_then}
use Rattle.std.specs.BTreeMap.{is_at, BTreeMap}
use Rattle.std.specs.BTreeMap.Range.{IsRangeOf}
use Rattle.std.specs.declared.cmp.Ordering.{Ordering}
use Rattle.std.specs.declared.cmp.Ordering.TheVariants.{Less, Equal, Greater}
use Rattle.std.specs.declared.ops.Bound.TheVariants.{Included, Unbounded}
use Rattle.std.specs.List.{cons_option, find}
use Rattle.std.specs.Map.{lookup}
use Rattle.std.specs.Option.{option_or}
use Rattle.std.specs.Ordering.{is_gt, nat_cmp}
use Rattle.std.proofs.lemmas.Cmp.{ranked}
use Rattle.std.proofs.lemmas.List.{take_more}
use Rattle.std.proofs.lemmas.List.Elements.{filter_map-append}
use Rattle.pdo_choices.specs.declared.clean.Clean.{Clean}
use Rattle.pdo_choices.specs.declared.consumer.Consumer.{Consumer}
use Rattle.pdo_plan.specs.declared.outcome.Outcome.{Outcome}
use Rattle.pdo_plan.specs.declared.outcome.Outcome.TheVariants.{Planned}
use Rattle.pdo_plan.specs.declared.planned_message.PlannedMessage.{PlannedMessage}
use Rattle.pdo_plan.specs.Plan.{clean, clean_of}
use Rattle.pdo_links.specs.Tables.{IsTableOf}
use Rattle.pdo_links.specs.PdoWrites.{rpdo_of}

-- what a list has first in its front counts
lookup-append : {K Y : Type 0} (test : K → Bool) (xs ys : List (K × Y))
    → lookup test (xs ++ ys) ≡ option_or (lookup test xs) (lookup test ys)
lookup-append test [] ys = refl
lookup-append {K} {Y} test (x ∷ xs) ys = by (test x.0) (lookup-append test xs ys)
  where
    by : (b : Bool) → lookup test (xs ++ ys) ≡ option_or (lookup test xs) (lookup test ys)
        → cond b (Some x.1) (lookup test (xs ++ ys)) ≡ option_or (cond b (Some x.1) (lookup test xs)) (lookup test ys)
    by true e = refl
    by false e = e

map_or : {X Y : Type 0} (f : X → Y) (a b : Option X)
    → option_map f (option_or a b) ≡ option_or (option_map f a) (option_map f b)
map_or f None b = refl
map_or f (Some x) b = refl

nothing_more : {Y : Type 0} (o : Option Y) → option_or o None ≡ o
nothing_more None = refl
nothing_more (Some y) = refl

-- of a message that isn't clean nothing is had
clean_more : {Y : Type 0} (pdo_of : Clean → Option (ℕ × Y)) (ps : List PlannedMessage) (p : PlannedMessage)
    → filter_map pdo_of (clean (ps ++ p ∷ []))
    ≡ filter_map pdo_of (clean ps) ++ cons_option (option_and_then pdo_of (clean_of p.outcome)) []
clean_more pdo_of ps p =
    ap (filter_map pdo_of) (filter_map-append (λ (q : PlannedMessage). clean_of q.outcome) ps (p ∷ []))
    ∙ filter_map-append pdo_of (clean ps) (clean (p ∷ []))
    ∙ ap (λ xs. filter_map pdo_of (clean ps) ++ xs) (by (clean_of p.outcome))
  where
    by : (o : Option Clean) → filter_map pdo_of (cons_option o []) ≡ cons_option (option_and_then pdo_of o) []
    by None = refl
    by (Some c) = refl

module _ {X Y : Type 0} (shows : X → Y) (pdo_of : Clean → Option (ℕ × Y)) where
  pub none_tabled : (entries : List (ℕ × X)) → entries ≡ [] → IsTableOf shows entries (filter_map pdo_of (clean []))
  unfolding IsTableOf
  none_tabled entries is = λ number. rw is refl

  taken_more : (ps : List PlannedMessage) (i : ℕ) (d p : PlannedMessage) → i < length ps → p ≡ get_or ps i d
      → take (i + 1) ps ≡ take i ps ++ p ∷ []
  taken_more ps i d p lt is = take_more ps i d lt ∙ ap (λ x. take i ps ++ x ∷ []) (sym is)

  -- a message of which nothing is had
  pub skipped : (entries : List (ℕ × X)) (ps : List PlannedMessage) (i : ℕ) (d p : PlannedMessage) → i < length ps
      → p ≡ get_or ps i d
      → None ≡ option_and_then pdo_of (clean_of p.outcome)
      → IsTableOf shows entries (filter_map pdo_of (clean (take i ps)))
      → IsTableOf shows entries (filter_map pdo_of (clean (take (i + 1) ps)))
  unfolding IsTableOf
  skipped entries ps i d p lt is nothing so_far = λ number.
      let more : filter_map pdo_of (clean (take (i + 1) ps)) ≡ filter_map pdo_of (clean (take i ps)) ++ [] =
      ap (λ (qs : List PlannedMessage). filter_map pdo_of (clean qs)) (taken_more ps i d p lt is)
      ∙ clean_more pdo_of (take i ps) p
      ∙ ap (λ o. filter_map pdo_of (clean (take i ps)) ++ cons_option o []) (sym nothing) in
      so_far number
      ∙ sym (nothing_more (lookup (is_at (nat_cmp number)) (filter_map pdo_of (clean (take i ps)))))
      ∙ sym (lookup-append (is_at (nat_cmp number)) (filter_map pdo_of (clean (take i ps))) [])
      ∙ ap (lookup (is_at (nat_cmp number))) (sym more)

  -- a message of which a PDO is had
  pub noted : (old new : List (ℕ × X)) (ps : List PlannedMessage) (i : ℕ) (d p : PlannedMessage) (number : ℕ) (x : X)
      → i < length ps → p ≡ get_or ps i d
      → Some (number, shows x) ≡ option_and_then pdo_of (clean_of p.outcome)
      → ((key : ℕ) → lookup (is_at (nat_cmp key)) new ≡ option_or (lookup (is_at (nat_cmp key)) old)
      (if is_at (nat_cmp key) number then Some x else None))
      → IsTableOf shows old (filter_map pdo_of (clean (take i ps)))
      → IsTableOf shows new (filter_map pdo_of (clean (take (i + 1) ps)))
  unfolding IsTableOf
  noted old new ps i d p number x lt is had put so_far = λ key.
      let before : List (ℕ × Y) = filter_map pdo_of (clean (take i ps)) in
      let more : filter_map pdo_of (clean (take (i + 1) ps)) ≡ before ++ (number, shows x) ∷ [] =
      ap (λ (qs : List PlannedMessage). filter_map pdo_of (clean qs)) (taken_more ps i d p lt is)
      ∙ clean_more pdo_of (take i ps) p
      ∙ ap (λ o. before ++ cons_option o []) (sym had) in
      ap (option_map shows) (put key)
      ∙ map_or shows (lookup (is_at (nat_cmp key)) old) (if is_at (nat_cmp key) number then Some x else None)
      ∙ ap (λ o. option_or o (option_map shows (if is_at (nat_cmp key) number then Some x else None))) (so_far key)
      ∙ ap (option_or (lookup (is_at (nat_cmp key)) before)) (one (is_at (nat_cmp key) number))
      ∙ sym (lookup-append (is_at (nat_cmp key)) before ((number, shows x) ∷ []))
      ∙ ap (lookup (is_at (nat_cmp key))) (sym more)
    where
      one : (b : Bool) → let none : Option X = None in let o : Option X = if b then Some x else none
          in option_map shows o ≡ cond b (Some (shows x)) None
      one true = refl
      one false = refl

-- what a table has
pub tabled : {X Y : Type 0} (shows : X → Y) (entries : List (ℕ × X)) (pdos : List (ℕ × Y)) (number : ℕ)
    → IsTableOf shows entries pdos
    → option_map shows (lookup (is_at (nat_cmp number)) entries) ≡ lookup (is_at (nat_cmp number)) pdos
unfolding IsTableOf
tabled shows entries pdos number h = h number

-- the RPDO of a message that is clean and has the node among its consumers
pub rpdo_had : (node : ℕ) (o : Outcome) (c : Clean) (k : Consumer) → o ≡ Planned c
    → Some k ≡ find (λ (k : Consumer). k.node == node) c.consumers
    → Some (k.rpdo, (c, k)) ≡ option_and_then (rpdo_of node) (clean_of o)
rpdo_had node o c k is found =
    ap (option_map (λ (k : Consumer). (k.rpdo, (c, k)))) found
    ∙ ap (λ (p : Outcome). option_and_then (rpdo_of node) (clean_of p)) (sym is)

-- ---- the next one that a table has

at_or_before : (a b : ℕ) → a ≤ b → is_gt (nat_cmp a b) ≡ false
at_or_before a b le = by (nat_cmp a b) refl
  where
    by : (r : Ordering) → r ≡ nat_cmp a b → is_gt r ≡ false
    by Less is = refl
    by Equal is = refl
    by Greater is = let lt : b < a = ranked a b Greater is in absurd (omega arith)

not_after : (a b : ℕ) (r : Ordering) → r ≡ nat_cmp a b → is_gt r ≡ false → a ≤ b
not_after a b Less is h = let lt : a < b = ranked a b Less is in omega arith
not_after a b Equal is h = let same : a ≡ b = ranked a b Equal is in omega arith
not_after a b Greater is h = cc

module _ {X : Type 0} (m : BTreeMap ℕ X) (from : ℕ) where
  abbrev pub IsRest : List (ℕ × X) → Type 0
  IsRest rest = IsRangeOf nat_cmp (Included from) Unbounded m rest

  -- the first entry from a number on is at that number or behind it
  pub first_from : (rest after : List (ℕ × X)) (e : ℕ × X) → IsRest rest → rest ≡ e ∷ after → from ≤ e.0
  first_from rest after e range steps =
      let whole : IsRest (e ∷ after) = subst IsRest steps range in
      not_after from e.0 (nat_cmp from e.0) refl whole.1.0.0

  -- and no number between has an entry
  pub none_before : (rest after : List (ℕ × X)) (e : ℕ × X) → IsRest rest → rest ≡ e ∷ after → (number : ℕ)
      → from ≤ number → number < e.0 → lookup (is_at (nat_cmp number)) m.entries ≡ None
  none_before rest after e range steps number low below = by (lookup (is_at (nat_cmp number)) m.entries) refl
    where
      by : (o : Option X) → lookup (is_at (nat_cmp number)) m.entries ≡ o → let none : Option X = None in o ≡ none
      by None is = refl
      by (Some x) is =
          let whole : IsRest (e ∷ after) = subst IsRest steps range in
          let behind : e.0 ≤ number = not_after e.0 number (nat_cmp e.0 number) refl
          (whole.2 number (at_or_before from number low, tt) (subst IsSome (sym is) refl)) in
          absurd (omega arith)

  pub none_from : (rest : List (ℕ × X)) → IsRest rest → rest ≡ [] → (number : ℕ) → from ≤ number
      → lookup (is_at (nat_cmp number)) m.entries ≡ None
  none_from rest range none number low = range.5 none number (at_or_before from number low, tt)
