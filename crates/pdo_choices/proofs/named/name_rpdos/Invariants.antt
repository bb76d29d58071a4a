use Rattle.std.proofs.Common.{◌≡◌, ◌||◌, ℕ}
use Rattle.std.specs.BTreeSet.{contains}
use Rattle.std.specs.List.{list_any}
use Rattle.pdo_choices.specs.Receives.{names_rpdo}
use Rattle.pdo_choices.specs.Taken.{pair_cmp}
use Rattle.pdo_choices.proofs.NamingLemmas.{named_at}
use Rattle.pdo_choices.proofs.named.name_rpdos.Given as goal

-- with those of the sinks that are left they are all
abbrev pub invariant-sinks : goal.invariant-sinks
invariant-sinks l = (q : ℕ × ℕ) → (contains pair_cmp l.rpdos q || list_any (named_at l.linked q) l.seat-iterator)
    ≡ (contains pair_cmp l.fn.rpdos q || names_rpdo q.0 q.1 l.linked)
