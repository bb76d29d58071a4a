use Rattle.std.proofs.Common.{◌≡◌, ◌∙◌, ℕ, List, [], ◌∷◌, ◌++◌, ap, rules, subst, sym}
use Rattle.std.specs.FinMap.{entries}
use Rattle.std.specs.List.{All, flat_map}
use Rattle.std.proofs.lemmas.List.Elements.{All-head, All-tail}
use Rattle.project_plan.specs.Library.{IsRead}
use Rattle.co_project.specs.declared.node.Node.{Node}
use Rattle.diag_lines.specs.declared.diag.Diag.{Diag}
use Rattle.diag_nodes.specs.Devices.{AreAllRead, of_node}
use Rattle.diag_nodes.specs.Found.{unreadable_defaults}
use Rattle.project_edits.specs.Versions.{is_three}
use Rattle.diag_nodes.specs.Kept.{numbers_by}
use Rattle.diag_nodes.specs.Rules.{consumers_in, counters_in, identifiers_in, times_in}
use Rattle.diag_nodes.specs.Sheets.{faults_of_node}
use Rattle.diag_nodes.proofs.KeptLemmas.{consumers_kept, counters_kept, identifiers_kept, times_kept}
use Rattle.diag_nodes.proofs.WalkLemmas.{all_members, walk_ends, walk_on}
use Rattle.diag_nodes.proofs.gathering.gather_nodes.Goals as goal

pub loop-id-init : goal.loop-id-init
unfolding AreAllRead
loop-id-init c =
    let p = c.args.library.now.project in
    let es = c.into_iter-id-iterator.result in
    let start : es ≡ entries p.nodes = search rules in
    let f = numbers_by (is_three p.version) c.args.plan.now in
    record {
      read = subst (All (λ e. IsRead c.args.library.now e.1.eds)) (sym start) c.requires.read;
      current = c.let_go.ensures;
      faults = ap (λ (xs : List (ℕ × Node)). c.args.faults.now.items ++ flat_map (of_node faults_of_node p) xs) start;
      defaults = ap (λ ds. ds ++ flat_map (of_node unreadable_defaults p) es) c.new.ensures.items
          ∙ ap (flat_map (of_node unreadable_defaults p)) start;
      identifiers = ap (λ xs. xs ++ flat_map (of_node (identifiers_in f) p) es) c.new-2.ensures.identifiers
          ∙ ap (flat_map (of_node (identifiers_in f) p)) start;
      consumers = ap (λ xs. xs ++ flat_map (of_node (consumers_in f) p) es) c.new-2.ensures.consumers
          ∙ ap (flat_map (of_node (consumers_in f) p)) start;
      times = ap (λ xs. xs ++ flat_map (of_node (times_in f) p) es) c.new-2.ensures.times
          ∙ ap (flat_map (of_node (times_in f) p)) start;
      counters = ap (λ xs. xs ++ flat_map (of_node (counters_in f) p) es) c.new-2.ensures.counters
          ∙ ap (flat_map (of_node (counters_in f) p)) start;
    }

pub gather_node-requires-clause-read : goal.gather_node-requires-clause-read
gather_node-requires-clause-read c =
    let e : ℕ × Node = (c.in-Some.id.now, c.in-Some.node.now) in
    let left : c.loop-id.id-iterator ≡ e ∷ c.next.new.self = search rules in
    All-head (λ e. IsRead c.args.library.now e.1.eds) e c.next.new.self
    (subst (λ (es : List (ℕ × Node)). All (λ e. IsRead c.args.library.now e.1.eds) es) left c.loop-id.invariant.read)

pub loop-id-preserved : goal.loop-id-preserved
loop-id-preserved c =
    let e : ℕ × Node = (c.in-Some.id.now, c.in-Some.node.now) in
    let left : c.loop-id.id-iterator ≡ e ∷ c.next.new.self = search rules in
    record {
      read = All-tail (λ e. IsRead c.args.library.now e.1.eds) e c.next.new.self
          (subst (λ (es : List (ℕ × Node)). All (λ e. IsRead c.args.library.now e.1.eds) es) left c.loop-id.invariant.read);
      current = c.in_ok-gather_node.ensures.current;
      faults = walk_on (of_node faults_of_node c.args.library.now.project) _
          c.loop-id.faults.items c.gather_node.new.faults.items e c.next.new.self c.loop-id.id-iterator left
          c.in_ok-gather_node.ensures.faults c.loop-id.invariant.faults;
      defaults = walk_on (of_node unreadable_defaults c.args.library.now.project) _
          c.loop-id.gathered.defaults.items c.gather_node.new.gathered.defaults.items e c.next.new.self c.loop-id.id-iterator left
          c.in_ok-gather_node.ensures.defaults c.loop-id.invariant.defaults;
      identifiers = walk_on (of_node (identifiers_in (numbers_by (is_three c.args.library.now.project.version) c.args.plan.now)) c.args.library.now.project) _
          c.loop-id.gathered.kept.identifiers.items c.gather_node.new.gathered.kept.identifiers.items e c.next.new.self c.loop-id.id-iterator left
          c.in_ok-gather_node.ensures.identifiers c.loop-id.invariant.identifiers;
      consumers = walk_on (of_node (consumers_in (numbers_by (is_three c.args.library.now.project.version) c.args.plan.now)) c.args.library.now.project) _
          c.loop-id.gathered.kept.consumers.items c.gather_node.new.gathered.kept.consumers.items e c.next.new.self c.loop-id.id-iterator left
          c.in_ok-gather_node.ensures.consumers c.loop-id.invariant.consumers;
      times = walk_on (of_node (times_in (numbers_by (is_three c.args.library.now.project.version) c.args.plan.now)) c.args.library.now.project) _
          c.loop-id.gathered.kept.times.items c.gather_node.new.gathered.kept.times.items e c.next.new.self c.loop-id.id-iterator left
          c.in_ok-gather_node.ensures.times c.loop-id.invariant.times;
      counters = walk_on (of_node (counters_in (numbers_by (is_three c.args.library.now.project.version) c.args.plan.now)) c.args.library.now.project) _
          c.loop-id.gathered.kept.counters.items c.gather_node.new.gathered.kept.counters.items e c.next.new.self c.loop-id.id-iterator left
          c.in_ok-gather_node.ensures.counters c.loop-id.invariant.counters;
    }

pub returns-clause-faults : goal.returns-clause-faults
returns-clause-faults c =
    let ended : c.loop-id.id-iterator ≡ [] = search rules in
    walk_ends (of_node faults_of_node c.args.library.now.project) _ c.loop-id.faults.items
    c.loop-id.id-iterator ended c.loop-id.invariant.faults
    ∙ ap (λ (ds : List Diag). c.args.faults.now.items ++ ds) (all_members faults_of_node c.args.library.now.project)

pub returns-clause-defaults : goal.returns-clause-defaults
returns-clause-defaults c =
    let ended : c.loop-id.id-iterator ≡ [] = search rules in
    walk_ends (of_node unreadable_defaults c.args.library.now.project) _ c.loop-id.gathered.defaults.items
    c.loop-id.id-iterator ended c.loop-id.invariant.defaults
    ∙ all_members unreadable_defaults c.args.library.now.project

pub returns-clause-identifiers : goal.returns-clause-identifiers
returns-clause-identifiers c =
    let ended : c.loop-id.id-iterator ≡ [] = search rules in
    walk_ends (of_node (identifiers_in (numbers_by (is_three c.args.library.now.project.version) c.args.plan.now)) c.args.library.now.project) _ c.loop-id.gathered.kept.identifiers.items
    c.loop-id.id-iterator ended c.loop-id.invariant.identifiers
    ∙ all_members (identifiers_in (numbers_by (is_three c.args.library.now.project.version) c.args.plan.now)) c.args.library.now.project
    ∙ identifiers_kept c.args.library.now.project c.args.plan.now c.requires.plan

pub returns-clause-consumers : goal.returns-clause-consumers
returns-clause-consumers c =
    let ended : c.loop-id.id-iterator ≡ [] = search rules in
    walk_ends (of_node (consumers_in (numbers_by (is_three c.args.library.now.project.version) c.args.plan.now)) c.args.library.now.project) _ c.loop-id.gathered.kept.consumers.items
    c.loop-id.id-iterator ended c.loop-id.invariant.consumers
    ∙ all_members (consumers_in (numbers_by (is_three c.args.library.now.project.version) c.args.plan.now)) c.args.library.now.project
    ∙ consumers_kept c.args.library.now.project c.args.plan.now c.requires.plan

pub returns-clause-times : goal.returns-clause-times
returns-clause-times c =
    let ended : c.loop-id.id-iterator ≡ [] = search rules in
    walk_ends (of_node (times_in (numbers_by (is_three c.args.library.now.project.version) c.args.plan.now)) c.args.library.now.project) _ c.loop-id.gathered.kept.times.items
    c.loop-id.id-iterator ended c.loop-id.invariant.times
    ∙ all_members (times_in (numbers_by (is_three c.args.library.now.project.version) c.args.plan.now)) c.args.library.now.project
    ∙ times_kept c.args.library.now.project c.args.plan.now c.requires.plan

pub returns-clause-counters : goal.returns-clause-counters
returns-clause-counters c =
    let ended : c.loop-id.id-iterator ≡ [] = search rules in
    walk_ends (of_node (counters_in (numbers_by (is_three c.args.library.now.project.version) c.args.plan.now)) c.args.library.now.project) _ c.loop-id.gathered.kept.counters.items
    c.loop-id.id-iterator ended c.loop-id.invariant.counters
    ∙ all_members (counters_in (numbers_by (is_three c.args.library.now.project.version) c.args.plan.now)) c.args.library.now.project
    ∙ counters_kept c.args.library.now.project c.args.plan.now c.requires.plan
