use Rattle.std.proofs.lemmas.Cmp.{nat_cmp_total}
use Rattle.std.proofs.lemmas.Map.Lookups.{exact_unsigned}
use Rattle.base.proofs.TableLemmas.{removed_there, removed_elsewhere}
use Rattle.co_scenario.proofs.laws.remove_changes_its_number_alone.Goals as goal

pub returns-clause-gone : goal.returns-clause-gone
returns-clause-gone c = removed_there nat_cmp_total exact_unsigned

pub returns-clause-elsewhere : goal.returns-clause-elsewhere
returns-clause-elsewhere c = removed_elsewhere nat_cmp_total exact_unsigned
