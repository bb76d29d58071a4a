use Rattle.std.proofs.Common.{◌≡◌, ◌∙◌, ℕ, List, [], ◌∷◌, ◌++◌, Some, Ok, ap, rules, subst, sym}
use Rattle.std.specs.FinMap.{entries}
use Rattle.std.specs.List.{All, flat_map}
use Rattle.std.proofs.lemmas.List.Elements.{All-head, All-tail}
use Rattle.ini_text.specs.Content.{content_of}
use Rattle.eds_device.specs.Faults.{device_of}
use Rattle.co_project.specs.Sound.{IsSound}
use Rattle.co_project.specs.Tables.{text_at}
use Rattle.project_messages.specs.Messages.{by_name}
use Rattle.diag_lines.specs.declared.diag.Diag.{Diag}
use Rattle.co_diag.specs.Lines.{lines_at}
use Rattle.co_diag.proofs.WalkLemmas.{all_lines, texts_of_devices, texts_there}
use Rattle.diag_nodes.proofs.WalkLemmas.{walk_ends, walk_on}
use Rattle.co_diag.proofs.texts.find_skipped_lines.Goals as goal

pub loop-name-preserved : goal.loop-name-preserved
loop-name-preserved c =
    let p = c.args.library.now.project in
    let e : List ℕ × List ℕ = (c.in-Some.name.now.items, c.in-Some.text.now) in
    let left : by_name c.loop-name.name-iterator ≡ e ∷ by_name c.next.new.self = search rules in
    record {
      there = All-tail (λ e. text_at p.texts e.0 ≡ Some e.1) e (by_name c.next.new.self)
          (subst (All (λ e. text_at p.texts e.0 ≡ Some e.1)) left c.loop-name.invariant.there);
      device = All-tail (λ e. device_of e.1 ≡ Ok (content_of e.1)) e (by_name c.next.new.self)
          (subst (All (λ e. device_of e.1 ≡ Ok (content_of e.1))) left c.loop-name.invariant.device);
      lines = walk_on (λ (e : List ℕ × List ℕ). lines_at p e.0) _ c.loop-name.found.items c.find_of_text.new.found.items e
          (by_name c.next.new.self) (by_name c.loop-name.name-iterator) left
          (c.in_ok-find_of_text.ensures
          ∙ ap (λ (n : List ℕ). c.loop-name.found.items ++ lines_at p n) c.deref.ensures.value) c.loop-name.invariant.lines;
    }

pub returns : goal.returns
returns c =
    let p = c.args.library.now.project in
    let ended : by_name c.loop-name.name-iterator ≡ [] = search rules in
    walk_ends (λ (e : List ℕ × List ℕ). lines_at p e.0) _ c.loop-name.found.items
    (by_name c.loop-name.name-iterator) ended c.loop-name.invariant.lines
    ∙ ap (λ (ds : List Diag). c.args.found.now.items ++ ds) (all_lines p)

pub loop-name-init : goal.loop-name-init
loop-name-init c =
    let p = c.args.library.now.project in
    let start : by_name c.into_iter-name-iterator.result ≡ entries p.texts = search rules in
    record {
      there = subst (All (λ e. text_at p.texts e.0 ≡ Some e.1)) (sym start) (texts_there p);
      device = subst (All (λ e. device_of e.1 ≡ Ok (content_of e.1))) (sym start) (texts_of_devices p (subst IsSound c.project-project.ensures c.keeps_to_rules.ensures));
      lines = ap (λ (es : List (List ℕ × List ℕ)). c.args.found.now.items ++ flat_map (λ e. lines_at p e.0) es) start;
    }

pub find_of_text-requires-clause-there : goal.find_of_text-requires-clause-there
find_of_text-requires-clause-there c =
    let p = c.args.library.now.project in
    let e : List ℕ × List ℕ = (c.in-Some.name.now.items, c.in-Some.text.now) in
    let left : by_name c.loop-name.name-iterator ≡ e ∷ by_name c.next.new.self = search rules in
    ap (text_at p.texts) c.deref.ensures.value ∙ All-head (λ e. text_at p.texts e.0 ≡ Some e.1) e (by_name c.next.new.self)
    (subst (All (λ e. text_at p.texts e.0 ≡ Some e.1)) left c.loop-name.invariant.there)

pub find_of_text-requires-clause-device : goal.find_of_text-requires-clause-device
find_of_text-requires-clause-device c =
    let e : List ℕ × List ℕ = (c.in-Some.name.now.items, c.in-Some.text.now) in
    let left : by_name c.loop-name.name-iterator ≡ e ∷ by_name c.next.new.self = search rules in
    All-head (λ e. device_of e.1 ≡ Ok (content_of e.1)) e (by_name c.next.new.self)
    (subst (All (λ e. device_of e.1 ≡ Ok (content_of e.1))) left c.loop-name.invariant.device)
