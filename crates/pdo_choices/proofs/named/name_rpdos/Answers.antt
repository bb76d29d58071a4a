use Rattle.std.proofs.Common.{◌≡◌, ◌||◌, ◌∙◌, ap, rules}
use Rattle.std.specs.BTreeSet.{contains}
use Rattle.std.specs.List.{list_any}
use Rattle.pdo_choices.specs.Taken.{pair_cmp}
use Rattle.pdo_choices.proofs.NamingLemmas.{named_at, named_by}
use Rattle.pdo_choices.proofs.named.name_rpdos.Goals as goal

pub sinks-init : goal.sinks-init
sinks-init c = λ q.
    let all : c.into_iter-seat-iterator.result ≡ c.args.linked.now.sinks = search rules in
    (λ i. contains pair_cmp c.args.rpdos.now q || list_any (named_at c.args.linked.now q) (all i))
    ∙ ap (λ b. contains pair_cmp c.args.rpdos.now q || b) (named_by c.args.linked.now q)
