use Rattle.std.proofs.Common.{◌∙◌, Bool, ap, refl, subst, sym}
use Rattle.co_project.specs.Project.{Content}
use Rattle.project_plan.specs.Library.{AreRead, Devices}
use Rattle.diag_nodes.specs.Alone.{Keeps}
use Rattle.project_edits.specs.Versions.{is_three}
use Rattle.diag_nodes.specs.Kept.{numbers_by}
use Rattle.diag_nodes.specs.Rules.{consumers_in, counters_in, identifiers_in, times_in}
use Rattle.project_plan.specs.Network.{device_at, member_of}
use Rattle.diag_nodes.proofs.HeldLemmas.{no_other, still_now}
use Rattle.diag_nodes.proofs.WalkLemmas.{found_there}
use Rattle.diag_nodes.proofs.gathering.gather_node.Goals as goal

pub gather_of-requires : goal.gather_of-requires
gather_of-requires c =
    no_other c.args.library.now.project c.args.nodes.now c.args.node.now.eds c.in-Some.device c.requires.current
    (ap (device_at c.args.library.now.project) (sym c.as_slice.ensures) ∙ sym c.in_ok-device.ensures ∙ c.in-Some.is)

pub returns-clause-current : goal.returns-clause-current
returns-clause-current c =
    subst (λ (sheets : Devices). AreRead c.args.library.now.project sheets) (sym c.in_ok-gather_of.ensures.nodes)
    (still_now c.args.library.now.project c.args.nodes.now c.args.node.now.eds c.in-Some.device c.requires.current
    (ap (device_at c.args.library.now.project) (sym c.as_slice.ensures) ∙ sym c.in_ok-device.ensures ∙ c.in-Some.is))

pub returns-clause-identifiers : goal.returns-clause-identifiers
returns-clause-identifiers c =
    found_there (identifiers_in (numbers_by (is_three c.args.library.now.project.version) c.args.plan.now)) c.args.library.now.project (c.args.id, c.args.node.now)
    c.in-Some.device _ _ _
    (ap (device_at c.args.library.now.project) (sym c.as_slice.ensures) ∙ sym c.in_ok-device.ensures ∙ c.in-Some.is)
    refl (subst (λ (b : Bool). Keeps (numbers_by b c.args.plan.now)
    (member_of c.args.id c.args.node.now c.in-Some.device) c.args.gathered.now.kept c.gather_of.new.gathered.kept)
    (c.is_three-is_three.ensures ∙ ap is_three (c.version.ensures ∙ ap (λ (p : Content). p.version) c.project.ensures))
    c.in_ok-gather_of.ensures.kept).identifiers

pub returns-clause-consumers : goal.returns-clause-consumers
returns-clause-consumers c =
    found_there (consumers_in (numbers_by (is_three c.args.library.now.project.version) c.args.plan.now)) c.args.library.now.project (c.args.id, c.args.node.now)
    c.in-Some.device _ _ _
    (ap (device_at c.args.library.now.project) (sym c.as_slice.ensures) ∙ sym c.in_ok-device.ensures ∙ c.in-Some.is)
    refl (subst (λ (b : Bool). Keeps (numbers_by b c.args.plan.now)
    (member_of c.args.id c.args.node.now c.in-Some.device) c.args.gathered.now.kept c.gather_of.new.gathered.kept)
    (c.is_three-is_three.ensures ∙ ap is_three (c.version.ensures ∙ ap (λ (p : Content). p.version) c.project.ensures))
    c.in_ok-gather_of.ensures.kept).consumers

pub returns-clause-times : goal.returns-clause-times
returns-clause-times c =
    found_there (times_in (numbers_by (is_three c.args.library.now.project.version) c.args.plan.now)) c.args.library.now.project (c.args.id, c.args.node.now)
    c.in-Some.device _ _ _
    (ap (device_at c.args.library.now.project) (sym c.as_slice.ensures) ∙ sym c.in_ok-device.ensures ∙ c.in-Some.is)
    refl (subst (λ (b : Bool). Keeps (numbers_by b c.args.plan.now)
    (member_of c.args.id c.args.node.now c.in-Some.device) c.args.gathered.now.kept c.gather_of.new.gathered.kept)
    (c.is_three-is_three.ensures ∙ ap is_three (c.version.ensures ∙ ap (λ (p : Content). p.version) c.project.ensures))
    c.in_ok-gather_of.ensures.kept).times

pub returns-clause-counters : goal.returns-clause-counters
returns-clause-counters c =
    found_there (counters_in (numbers_by (is_three c.args.library.now.project.version) c.args.plan.now)) c.args.library.now.project (c.args.id, c.args.node.now)
    c.in-Some.device _ _ _
    (ap (device_at c.args.library.now.project) (sym c.as_slice.ensures) ∙ sym c.in_ok-device.ensures ∙ c.in-Some.is)
    refl (subst (λ (b : Bool). Keeps (numbers_by b c.args.plan.now)
    (member_of c.args.id c.args.node.now c.in-Some.device) c.args.gathered.now.kept c.gather_of.new.gathered.kept)
    (c.is_three-is_three.ensures ∙ ap is_three (c.version.ensures ∙ ap (λ (p : Content). p.version) c.project.ensures))
    c.in_ok-gather_of.ensures.kept).counters
