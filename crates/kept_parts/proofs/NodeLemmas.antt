-- The devices of the nodes, one node after another.
use Rattle.std.proofs.Common.{◌≡◌, ℕ, List, [], ◌∷◌, ◌++◌, map, Option, Some, None, refl, sym, ap, ◌∙◌, subst}
use Rattle.std.proofs.Common.{append_assoc, filter_map, true, is_some}
use Rattle.std.proofs.lemmas.List.{append-nil, map-append}
use Rattle.std.proofs.lemmas.Cmp.{nat_cmp_total}
use Rattle.std.proofs.lemmas.List.Elements.{filter_map-append, All-append, All-cons, All-head, All-nil, All-tail}
use Rattle.std.proofs.lemmas.List.Elements.{All-weaker}
use Rattle.std.proofs.lemmas.Map.Lookups.{exact_unsigned}
use Rattle.std.specs.List.{cons_option, All}
use Rattle.std.specs.Option.{option_to_list}
use Rattle.std.specs.FinMap.{entries}
use Rattle.eds_device.specs.Sheets.{Sheet}
use Rattle.base.proofs.EachLemmas.{all_entries}
use Rattle.co_project.specs.declared.node.Node.{Node}
use Rattle.co_project.specs.Project.{Content as Project}
use Rattle.co_project.specs.Sound.{IsNodeOf, IsSound}
use Rattle.co_project.specs.Tables.{text_at}
use Rattle.kept_values.specs.Work.{Work}
use Rattle.kept_values.specs.Stale.{AreBrought}
use Rattle.kept_values.proofs.Brought.{both, none}
use Rattle.kept_parts.specs.Kept.{is_unmarked, kept_inputs, HaveNoMark, IsOf}
use Rattle.project_parts.specs.Given.{inputs_of, node_with_device, same_part}
use Rattle.project_parts.specs.Reached.{of_node}
use Rattle.project_parts.specs.declared.part.Part.{Part}
use Rattle.kept_parts.specs.declared.kept_parts.KeptParts.{KeptParts}

-- the nodes before the rest are done
pub record SoFar (p : Project) (rest : List (ℕ × Node)) (a b : KeptParts) (k m : Work) (devices : List (ℕ × Sheet))
    : Type 0 where
  pub done : List (ℕ × Node)
  pub all : done ++ rest ≡ entries p.nodes
  pub brought : AreBrought same_part (inputs_of p) (map of_node done) (kept_inputs a) (kept_inputs b) k m
  pub value : devices ≡ filter_map (node_with_device p) done
  pub is : IsOf p b
  pub unmarked : HaveNoMark b (map of_node done)

pub so_far_start : (p : Project) (rest : List (ℕ × Node)) (a : KeptParts) (k : Work) (devices : List (ℕ × Sheet))
    → rest ≡ entries p.nodes → devices ≡ [] → IsOf p a → SoFar p rest a a k k devices
so_far_start p rest a k devices e f is =
    record {
      done = [];
      all = e;
      brought = none same_part (inputs_of p) (kept_inputs a) k;
      value = f;
      is = is;
      unmarked = All-nil (λ q. is_unmarked a q ≡ true);
    }

one_option : {Y : Type 0} (o : Option Y) → cons_option o [] ≡ option_to_list o
one_option None = refl
one_option (Some y) = refl

filter_map-one : {X Y : Type 0} (h : X → Option Y) (x : X) → filter_map h (x ∷ []) ≡ option_to_list (h x)
filter_map-one h x = one_option (h x)

pub so_far_more : (p : Project) (e : ℕ × Node) (rest : List (ℕ × Node)) (a b c : KeptParts) (k m n : Work)
    (devices more : List (ℕ × Sheet)) → SoFar p (e ∷ rest) a b k m devices
    → AreBrought same_part (inputs_of p) (of_node e ∷ []) (kept_inputs b) (kept_inputs c) m n → IsOf p c
    → more ≡ devices ++ option_to_list (node_with_device p e) → is_unmarked c (of_node e) ≡ true
    → ((q : Part) → is_unmarked b q ≡ true → is_unmarked c q ≡ true) → SoFar p rest a c k n more
so_far_more p e rest a b c k m n devices more s x is v here stays =
    record {
      done = s.done ++ e ∷ [];
      all = append_assoc s.done (e ∷ []) rest ∙ s.all;
      brought =
          rw (map-append of_node s.done (e ∷ []))
          (both same_part (inputs_of p) (map of_node s.done) (of_node e ∷ []) (kept_inputs a) (kept_inputs b) (kept_inputs c) k m n s.brought x);
      value =
          v ∙ ap (λ d. d ++ option_to_list (node_with_device p e)) s.value
          ∙ sym (filter_map-append (node_with_device p) s.done (e ∷ [])
          ∙ ap (λ d. filter_map (node_with_device p) s.done ++ d) (filter_map-one (node_with_device p) e));
      is = is;
      unmarked =
          rw (map-append of_node s.done (e ∷ []))
          (All-append (λ q. is_unmarked c q ≡ true) (map of_node s.done) (of_node e ∷ [])
          (All-weaker (λ q. is_unmarked b q ≡ true) (λ q. is_unmarked c q ≡ true) stays (map of_node s.done) s.unmarked)
          (All-cons (λ q. is_unmarked c q ≡ true) (of_node e) [] here (All-nil (λ q. is_unmarked c q ≡ true))));
    }

all_middle : {X : Type 0} (P : X → Type 0) (before : List X) (x : X) (after : List X) → All P (before ++ x ∷ after) → P x
all_middle P [] x after all = All-head P x after all
all_middle P (b ∷ before) x after all = all_middle P before x after (All-tail P b (before ++ x ∷ after) all)

-- the text of the EDS of the next node is there
pub eds_there : (p : Project) (e : ℕ × Node) (rest : List (ℕ × Node)) (a b : KeptParts) (k m : Work)
    (devices : List (ℕ × Sheet)) → SoFar p (e ∷ rest) a b k m devices → IsSound p
    → is_some (text_at p.texts e.1.eds) ≡ true
unfolding IsNodeOf
eds_there p e rest a b k m devices s sound =
    (all_middle (λ (e : ℕ × Node). IsNodeOf p e.0 e.1) s.done e rest
    (subst (All (λ (e : ℕ × Node). IsNodeOf p e.0 e.1)) (sym s.all)
    (all_entries nat_cmp_total exact_unsigned (IsNodeOf p) p.nodes sound.nodes))).5

module _ (p : Project) (a b : KeptParts) (k m : Work) (devices : List (ℕ × Sheet)) (s : SoFar p [] a b k m devices)
  where
    whole : s.done ≡ entries p.nodes
    whole = sym (append-nil s.done) ∙ s.all

    pub so_far_brought : AreBrought same_part (inputs_of p) (map of_node (entries p.nodes)) (kept_inputs a) (kept_inputs b) k m
    so_far_brought =
        subst (λ (ns : List (ℕ × Node)). AreBrought same_part (inputs_of p) (map of_node ns) (kept_inputs a) (kept_inputs b) k m)
        whole s.brought

    pub so_far_value : devices ≡ filter_map (node_with_device p) (entries p.nodes)
    so_far_value = subst (λ (ns : List (ℕ × Node)). devices ≡ filter_map (node_with_device p) ns) whole s.value

    pub so_far_unmarked : HaveNoMark b (map of_node (entries p.nodes))
    so_far_unmarked = subst (λ (ns : List (ℕ × Node)). HaveNoMark b (map of_node ns)) whole s.unmarked

-- ---- devices that are gathered, where none has a mark

-- those of the nodes before the rest
pub record Gathered (p : Project) (rest : List (ℕ × Node)) (devices : List (ℕ × Sheet)) : Type 0 where
  pub done : List (ℕ × Node)
  pub all : done ++ rest ≡ entries p.nodes
  pub value : devices ≡ filter_map (node_with_device p) done

pub gathered_none : (p : Project) (rest : List (ℕ × Node)) (devices : List (ℕ × Sheet)) → rest ≡ entries p.nodes
    → devices ≡ [] → Gathered p rest devices
gathered_none p rest devices e f = record { done = []; all = e; value = f }

pub gathered_more : (p : Project) (e : ℕ × Node) (rest : List (ℕ × Node)) (devices more : List (ℕ × Sheet))
    → Gathered p (e ∷ rest) devices → more ≡ devices ++ option_to_list (node_with_device p e) → Gathered p rest more
gathered_more p e rest devices more s v =
    record {
      done = s.done ++ e ∷ [];
      all = append_assoc s.done (e ∷ []) rest ∙ s.all;
      value =
          v ∙ ap (λ d. d ++ option_to_list (node_with_device p e)) s.value
          ∙ sym (filter_map-append (node_with_device p) s.done (e ∷ [])
          ∙ ap (λ d. filter_map (node_with_device p) s.done ++ d) (filter_map-one (node_with_device p) e));
    }

-- the next has no mark
pub gathered_next : (p : Project) (e : ℕ × Node) (rest : List (ℕ × Node)) (devices : List (ℕ × Sheet)) (k : KeptParts)
    → Gathered p (e ∷ rest) devices → HaveNoMark k (map of_node (entries p.nodes)) → is_unmarked k (of_node e) ≡ true
gathered_next p e rest devices k s unmarked =
    all_middle (λ q. is_unmarked k q ≡ true) (map of_node s.done) (of_node e) (map of_node rest)
    (subst (All (λ q. is_unmarked k q ≡ true)) (ap (map of_node) (sym s.all) ∙ map-append of_node s.done (e ∷ rest)) unmarked)

pub gathered_all : (p : Project) (devices : List (ℕ × Sheet)) → Gathered p [] devices
    → devices ≡ filter_map (node_with_device p) (entries p.nodes)
gathered_all p devices s = s.value ∙ ap (filter_map (node_with_device p)) (sym (append-nil s.done) ∙ s.all)
