use Rattle.std.proofs.Common.{◌≡◌, ℕ, ◌||◌}
use Rattle.std.specs.BTreeSet.{contains}
use Rattle.std.specs.FinMap.{entries}
use Rattle.std.specs.List.{list_any}
use Rattle.project_messages.specs.Messages.{by_name}
use Rattle.pdo_choices.specs.Receives.{names_rpdo}
use Rattle.pdo_choices.specs.Taken.{pair_cmp}
use Rattle.pdo_choices.proofs.named.named_rpdos.Given as goal

-- with those of the messages that are left they are all
abbrev pub invariant-messages : goal.invariant-messages
invariant-messages l = (q : ℕ × ℕ) → (contains pair_cmp l.rpdos q
    || list_any (λ m. names_rpdo q.0 q.1 m.1) (by_name l._name-iterator))
    ≡ list_any (λ m. names_rpdo q.0 q.1 m.1) (entries l.messages)
