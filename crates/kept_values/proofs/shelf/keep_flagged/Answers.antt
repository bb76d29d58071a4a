use Rattle.std.proofs.Common.{◌∙◌, rules, ap, sym}
use Rattle.std.specs.BTreeMap.{is_at}
use Rattle.std.specs.Ordering.{nat_cmp}
use Rattle.std.proofs.lemmas.Map.Entries.{lookup-filter-keys}
use Rattle.std.proofs.lemmas.Map.Lookups.{exact_unsigned}
use Rattle.std.proofs.lemmas.Map.Made.{filter_same_pairs}
use Rattle.std.proofs.lemmas.Map.Views.{tells_apart}
use Rattle.kept_values.specs.At.{at}
use Rattle.kept_values.specs.Shelved.{is_flagged}
use Rattle.kept_values.proofs.shelf.keep_flagged.Goals as goal

pub returns : goal.returns
returns g c = λ q.
    ap (λ es. at es q)
    (filter_same_pairs _ (λ e. is_flagged c.args.flags.now e.0) _ (λ k v b w after t. search rules) _ _
    c.retain.ensures.filtered)
    ∙ lookup-filter-keys (is_at (nat_cmp q)) (is_flagged c.args.flags.now) (is_flagged c.args.flags.now q)
    (λ k t. ap (is_flagged c.args.flags.now) (sym (tells_apart exact_unsigned q k t))) c.args.kept.now.entries
