-- The network of what is held.
use Rattle.std.proofs.Common.{◌≡◌, ◌∙◌, ℕ, Bool, true, false, cond, ◌||◌, ◌==◌, List, [], ◌∷◌, ◌++◌, Option, Some, None}
use Rattle.std.proofs.Common.{append_assoc, arith, option_map, option_and_then, refl, sym, ap, zero, suc, ◌<◌}
use Rattle.std.specs.FinMap.{empty, entries, find, get, get-empty, get-entries, get-insert}
use Rattle.std.specs.List.{list_any}
use Rattle.std.specs.Ordering.{eq_by_cmp, nat_cmp}
use Rattle.std.proofs.lemmas.Bool.{eq-eqb, eqb-true}
use Rattle.std.proofs.lemmas.Bool.Decides.{nat_tests}
use Rattle.std.proofs.lemmas.Cmp.{nat_cmp_total}
use Rattle.std.proofs.lemmas.List.{append-nil}
use Rattle.std.proofs.lemmas.List.Folds.{list_any-append}
use Rattle.std.proofs.lemmas.Map.Lookups.{exact_unsigned}
use Rattle.concise_dcf.specs.declared.write.Write.{Write}
use Rattle.base.proofs.TableLemmas.{alike}
use Rattle.kept_values.specs.Shelved.{kept_at}
use Rattle.kept_values.proofs.Brought.{option_map_back}
use Rattle.co_project.specs.declared.node.Node.{Node}
use Rattle.co_project.specs.Project.{Content as Project}
use Rattle.project_parts.specs.Made.{writes_made}
use Rattle.project_parts.specs.declared.part.Part.TheVariants as part
use Rattle.project_parts.proofs.PlanLemmas.{writes_are_of}
use Rattle.network_image.specs.Held.{held_of, AllHeld, PartsOfNode}
use Rattle.network_image.specs.Image.{window_steps}
use Rattle.project_plan.specs.Network.{member_at, with_sheet, writes_of, Member}
use Rattle.kept_parts.specs.Kept.{with_parts, AreHeld, IsCurrent}
use Rattle.project_parts.specs.Given.{writes_from, OfWrites}
use Rattle.project_parts.specs.Given.{device_from, roster_from, same_part, OfNode, OfRoster, OfWindow}
use Rattle.project_parts.specs.Reached.{for_node, for_nodes, for_plan, reached_by_trace, windows_below}
use Rattle.project_parts.specs.Made.{device_parts}
use Rattle.project_parts.specs.declared.device_parts.DeviceParts.{DeviceParts}
use Rattle.project_parts.specs.declared.part.Part.{Part}
use Rattle.kept_parts.specs.declared.kept_parts.KeptParts.{KeptParts}
use Rattle.kept_parts.proofs.AllLemmas.{for_nodes-append, or_left, or_none, or_right}
use Rattle.project_parts.proofs.MadeLemmas.{own_parts, parts_by}

pub some_none : {X : Type 0} {x : X} → Some x ≡ None → ⊥
some_none e = cc

pub same_some : {X : Type 0} {x y : X} → Some x ≡ Some y → x ≡ y
same_some e = cc

sooner : (n i : ℕ) → (n == i) ≡ false → i < suc n → i < n
sooner n i other below = grind (arith, nat_tests)

module _ (p : Project) (k : KeptParts) where
  pub roster_kept : AreHeld p (part.Roster ∷ []) k → k.roster.kept ≡ Some (roster_from p)
  unfolding AreHeld
  roster_kept are =
      option_map_back OfRoster (λ x y e. cc) k.roster.kept (Some (roster_from p)) (are part.Roster refl)

  pub window_kept : (i : ℕ) → AreHeld p (part.Window i ∷ []) k → kept_at k.windows i ≡ Some (window_steps p i)
  unfolding AreHeld
  window_kept i are =
      option_map_back OfWindow (λ x y e. cc) (kept_at k.windows i) (Some (window_steps p i))
      (are (part.Window i) (ap (λ t. t || false) (eq-eqb i i refl)))

  module _ (n : ℕ) (are : AreHeld p (for_node n) k) where
    pub node_held : option_map device_parts (kept_at k.nodes n) ≡ option_map (own_parts p n) (member_at p n)
    unfolding AreHeld
    node_held =
        ap (option_map device_parts)
        (option_map_back OfNode (λ x y e. cc) (kept_at k.nodes n) (device_from p n)
        (are (part.Node n) (or_left _ _ (eq-eqb n n refl))))
        ∙ parts_by p n

    pub writes_held : option_map writes_made (kept_at k.writes n)
        ≡ option_map (λ (m : Member). writes_of p m n) (member_at p n)
    unfolding AreHeld
    writes_held =
        ap (option_map writes_made)
        (option_map_back OfWrites (λ x y e. cc) (kept_at k.writes n) (writes_from p n)
        (are (part.Writes n) (or_left _ _ (eq-eqb n n refl))))
        ∙ writes_are_of p n

  -- a node that has a part has all of them
  module _ (n : ℕ) where
    pub no_parts : {X : Type 0} (f : Member → X) → None ≡ option_map f (member_at p n)
        → None ≡ option_map (held_of p n) (member_at p n)
    no_parts f none = by (member_at p n) none
      where
        by : (o : Option Member) → None ≡ option_map f o → None ≡ option_map (held_of p n) o
        by None none = refl
        by (Some m) none = cc

    pub all_parts : (d : DeviceParts) (w : List Write) → Some d ≡ option_map (own_parts p n) (member_at p n)
        → Some w ≡ option_map (λ (m : Member). writes_of p m n) (member_at p n)
        → Some (record { defaults = d.defaults; shape = d.shape; expect = d.expect; writes = w })
        ≡ option_map (held_of p n) (member_at p n)
    all_parts d w = by (member_at p n)
      where
        by : (o : Option Member) → Some d ≡ option_map (own_parts p n) o
            → Some w ≡ option_map (λ (m : Member). writes_of p m n) o
            → Some (record { defaults = d.defaults; shape = d.shape; expect = d.expect; writes = w })
            ≡ option_map (held_of p n) o
        by None own written = cc
        by (Some m) own written =
            ap (λ (v : DeviceParts).
            Some (record { defaults = v.defaults; shape = v.shape; expect = v.expect; writes = w })) (same_some own)
            ∙ ap (λ (v : List Write). Some (record {
              defaults = (own_parts p n m).defaults;
              shape = (own_parts p n m).shape;
              expect = (own_parts p n m).expect;
              writes = v;
            })) (same_some written)

-- ---- the table of nodes

module _ (p : Project) where
  abbrev held_at : ℕ → Option PartsOfNode
  held_at q = option_map (held_of p q) (member_at p q)

  abbrev is_done : ℕ → List (ℕ × Node) → Bool
  is_done q done = list_any (λ e. eq_by_cmp nat_cmp q e.0) done

  -- the nodes before the rest are there
  pub record TableSoFar (rest : List (ℕ × Node)) (table : AllHeld) : Type 0 where
    pub done : List (ℕ × Node)
    pub all : done ++ rest ≡ entries p.nodes
    pub are : (q : ℕ) → get table q ≡ cond (is_done q done) (held_at q) None

  pub table_start : (rest : List (ℕ × Node)) (table : AllHeld) → rest ≡ entries p.nodes → table ≡ empty
      → TableSoFar rest table
  table_start rest table all none =
      record { done = []; all = all; are = λ q. ap (λ (t : AllHeld). get t q) none ∙ get-empty nat_cmp q }

  one_more : (done : List (ℕ × Node)) (e : ℕ × Node) (table : AllHeld)
      → ((q : ℕ) → get table q ≡ cond (is_done q done) (held_at q) None) → (q : ℕ)
      → get (with_parts e.0 (held_at e.0) table) q ≡ cond (is_done q (done ++ e ∷ [])) (held_at q) None
  one_more done e table are q =
      by (held_at e.0) refl (eq_by_cmp nat_cmp q e.0) refl
      ∙ sym (ap (λ t. cond t (held_at q) None) (list_any-append (λ f. eq_by_cmp nat_cmp q f.0) done (e ∷ [])))
    where
      merge : (s t : Bool) (x y : Option PartsOfNode) → t ≡ false → cond s x y ≡ cond (s || (t || false)) x y
      merge true t x y h = refl
      merge false t x y h = ap (λ b. cond (b || false) x y) (sym h)

      none_at : (s t : Bool) (x : Option PartsOfNode) → x ≡ None → cond s x None ≡ cond (s || (t || false)) x None
      none_at true t x h = refl
      none_at false true x h = sym h
      none_at false false x h = refl

      all_at : (s : Bool) (x : Option PartsOfNode) → x ≡ cond (s || true) x None
      all_at true x = refl
      all_at false x = refl

      by : (o : Option PartsOfNode) → held_at e.0 ≡ o → (t : Bool) → eq_by_cmp nat_cmp q e.0 ≡ t
          → get (with_parts e.0 o table) q ≡ cond (is_done q done || (eq_by_cmp nat_cmp q e.0 || false))
          (held_at q) None
      by None is true same =
          are q
          ∙ none_at (is_done q done) (eq_by_cmp nat_cmp q e.0) (held_at q)
          (ap held_at (alike nat_cmp_total exact_unsigned q e.0 same) ∙ is)
      by None is false other = are q ∙ merge (is_done q done) (eq_by_cmp nat_cmp q e.0) (held_at q) None other
      by (Some h) is true same =
          get-insert nat_cmp_total table e.0 h q ∙ ap (λ t. cond t (Some h) (get table q)) same
          ∙ sym (ap held_at (alike nat_cmp_total exact_unsigned q e.0 same) ∙ is)
          ∙ all_at (is_done q done) (held_at q)
          ∙ sym (ap (λ t. cond (is_done q done || (t || false)) (held_at q) None) same)
      by (Some h) is false other =
          get-insert nat_cmp_total table e.0 h q ∙ ap (λ t. cond t (Some h) (get table q)) other ∙ are q
          ∙ merge (is_done q done) (eq_by_cmp nat_cmp q e.0) (held_at q) None other

  pub table_more : (e : ℕ × Node) (rest : List (ℕ × Node)) (table after : AllHeld) → TableSoFar (e ∷ rest) table
      → after ≡ with_parts e.0 (held_at e.0) table → TableSoFar rest after
  table_more e rest table after s is =
      record {
        done = s.done ++ e ∷ [];
        all = append_assoc s.done (e ∷ []) rest ∙ s.all;
        are = λ q. ap (λ (t : AllHeld). get t q) is ∙ one_more s.done e table s.are q;
      }

  not_found : (q : ℕ) (es : List (ℕ × Node)) → is_done q es ≡ false → find nat_cmp q es ≡ None
  not_found q [] h = refl
  not_found q (e ∷ es) h = by (eq_by_cmp nat_cmp q e.0) h (not_found q es)
    where
      by : (t : Bool) → (t || is_done q es) ≡ false → (is_done q es ≡ false → find nat_cmp q es ≡ None)
          → cond t (Some e.1) (find nat_cmp q es) ≡ None
      by true h rest = cc
      by false h rest = rest h

  pub table_is : (table : AllHeld) → TableSoFar [] table → (q : ℕ) → get table q ≡ held_at q
  unfolding member_at
  table_is table s q =
      s.are q ∙ ap (λ es. cond (is_done q es) (held_at q) None) (sym (append-nil s.done) ∙ s.all)
      ∙ by (is_done q (entries p.nodes)) refl
    where
      by : (t : Bool) → is_done q (entries p.nodes) ≡ t → cond t (held_at q) None ≡ held_at q
      by true h = refl
      by false h =
          sym (ap (λ o. option_map (held_of p q) (option_and_then (with_sheet p) o))
          (get-entries p.nodes q ∙ not_found q (entries p.nodes) h))

  -- ---- what a simulation reads

  in_trace : (f : Part → Bool) → list_any f (reached_by_trace p)
      ≡ (((list_any f (for_plan p) || (f part.Roster || false)) || list_any f (for_nodes (entries p.nodes)))
      || list_any f (windows_below 1001))
  unfolding reached_by_trace
  in_trace f =
      list_any-append f ((for_plan p ++ part.Roster ∷ []) ++ for_nodes (entries p.nodes)) (windows_below 1001)
      ∙ ap (λ t. t || list_any f (windows_below 1001))
      (list_any-append f (for_plan p ++ part.Roster ∷ []) (for_nodes (entries p.nodes))
      ∙ ap (λ t. t || list_any f (for_nodes (entries p.nodes))) (list_any-append f (for_plan p) (part.Roster ∷ [])))

  pub roster_current : (k : KeptParts) → IsCurrent p k → AreHeld p (part.Roster ∷ []) k
  unfolding AreHeld
  roster_current k are q there =
      are q (in_trace (same_part q) ∙ or_left _ _
      (or_left _ _ (or_right (list_any (same_part q) (for_plan p)) _ there)))

  pub node_current : (k : KeptParts) → IsCurrent p k → (e : ℕ × Node) (done rest : List (ℕ × Node))
      → done ++ e ∷ rest ≡ entries p.nodes → AreHeld p (for_node e.0) k
  unfolding AreHeld
  node_current k are e done rest all q there =
      are q (in_trace (same_part q) ∙ or_left _ _ (or_right _ _
      (sym (ap (λ es. list_any (same_part q) (for_nodes es)) all)
      ∙ ap (list_any (same_part q)) (for_nodes-append done (e ∷ rest))
      ∙ list_any-append (same_part q) (for_nodes done) (for_nodes (e ∷ rest))
      ∙ or_right (list_any (same_part q) (for_nodes done)) _
      (list_any-append (same_part q) (for_node e.0) (for_nodes rest) ∙ or_left _ _ there))))

  window_among : (f : Part → Bool) (i n : ℕ) → f (part.Window i) ≡ true → i < n
      → list_any f (windows_below n) ≡ true
  unfolding windows_below
  window_among f i zero h below = absurd (omega (arith, below))
  window_among f i (suc n) h below =
      list_any-append f (windows_below n) (part.Window n ∷ []) ∙ by (n == i) refl (window_among f i n h)
    where
      by : (t : Bool) → (n == i) ≡ t → (i < n → list_any f (windows_below n) ≡ true)
          → (list_any f (windows_below n) || (f (part.Window n) || false)) ≡ true
      by true same rest =
          or_right (list_any f (windows_below n)) _
          (or_left _ _ (ap (λ j. f (part.Window j)) (eqb-true n i same) ∙ h))
      by false other rest = or_left _ _ (rest (sooner n i other below))

  pub window_current : (k : KeptParts) → IsCurrent p k → (i : ℕ) → i < 1001 → AreHeld p (part.Window i ∷ []) k
  unfolding AreHeld
  window_current k are i below q there =
      are q (in_trace (same_part q) ∙ or_right _ _ (window_among (same_part q) i 1001 (or_none _ there) below))
