use Rattle.std.proofs.Common.{ℕ, ap, subst, sym, ◌∙◌, Some}
use Rattle.std.proofs.lemmas.Cmp.{nat_list_cmp_total}
use Rattle.std.proofs.lemmas.Map.Lookups.{exact_bytes}
use Rattle.base.proofs.TableLemmas.{put_again}
use Rattle.eds_device.specs.Sheets.{Sheet}
use Rattle.project_plan.specs.Network.{Member, member_of}
use Rattle.diag_nodes.specs.Alone.{Keeps}
use Rattle.diag_nodes.specs.Held.{HoldsNoOther}
use Rattle.diag_nodes.specs.Kept.{numbers_by}
use Rattle.diag_nodes.proofs.HeldLemmas.{no_other_than_put}
use Rattle.diag_nodes.proofs.gathering.gather_of.Goals as goal

pub current-requires : goal.current-requires
current-requires c =
    subst (λ (s : Sheet). HoldsNoOther c.args.nodes.now c.args.node.now.eds s) (sym c.get.ensures) c.requires

pub returns-in-Some-clause-kept : goal.returns-in-Some-clause-kept
returns-in-Some-clause-kept c =
    subst (λ (e : ℕ × Member). Keeps (numbers_by c.args.is_three c.args.plan.now) e c.args.gathered.now.kept
    c.gather_found.new.gathered.kept)
    (c.in-Some.ensures.found ∙ ap (member_of c.args.id c.args.node.now) c.get.ensures)
    c.in_ok-gather_found.ensures.kept

pub returns-in-Some-clause-nodes : goal.returns-in-Some-clause-nodes
returns-in-Some-clause-nodes c =
    sym (put_again nat_list_cmp_total exact_bytes c.args.nodes.now c.args.node.now.eds c.args.device
    (c.in-Some.ensures.sheet ∙ ap Some c.get.ensures))

pub put-requires : goal.put-requires
put-requires c =
    no_other_than_put c.args.nodes.now c.find.new.self c.args.node.now.eds c.args.device c.in_ok-found.found.1.sheet
    c.in_ok-found.ensures.sheets (ap (λ (e : ℕ × Member). e.1.sheet) c.in_ok-found.ensures.found)

pub returns-clause-kept : goal.returns-clause-kept
returns-clause-kept c =
    subst (λ (e : ℕ × Member). Keeps (numbers_by c.args.is_three c.args.plan.now) e c.args.gathered.now.kept
    c.gather_found-2.new.gathered.kept)
    c.in_ok-found.ensures.found c.in_ok-gather_found-2.ensures.kept

pub returns-clause-nodes : goal.returns-clause-nodes
returns-clause-nodes c = c.put.ensures ∙ c.in_ok-found.ensures.sheets
