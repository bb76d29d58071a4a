use Rattle.std.proofs.Common.{ap, sym, subst, ◌∙◌}
use Rattle.std.specs.FinMap as map
use Rattle.std.proofs.lemmas.Cmp.{nat_cmp_total}
use Rattle.std.proofs.lemmas.Map.Lookups.{exact_unsigned}
use Rattle.base.proofs.EachLemmas.{each_put}
use Rattle.base.proofs.TableLemmas.{made_put}
use Rattle.base.specs.Tables.{Each}
use Rattle.network_image.specs.Held.{IsWindow, Windows}
use Rattle.network_image.proofs.window_table.WindowTable.insert.Goals as goal

pub invariant_of-self-2 : goal.invariant_of-self-2
invariant_of-self-2 c =
    subst (λ (windows : Windows). Each IsWindow windows)
    (sym (made_put nat_cmp_total exact_unsigned c.self.inside.windows.entries c.insert.new.self.entries c.args.i
    c.args.window c.in_ok-insert.ensures.updates.0))
    (each_put nat_cmp_total exact_unsigned IsWindow (map.from_entries c.self.inside.windows.entries) c.args.i
    c.args.window c.self.invariant c.requires)

pub returns : goal.returns
returns c =
    made_put nat_cmp_total exact_unsigned c.self.inside.windows.entries c.insert.new.self.entries c.args.i c.args.window
    c.in_ok-insert.ensures.updates.0
    ∙ ap (λ windows. map.insert windows c.args.i c.args.window) c.self.view_is
