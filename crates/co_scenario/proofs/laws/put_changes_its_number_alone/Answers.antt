use Rattle.std.proofs.lemmas.Cmp.{nat_cmp_total}
use Rattle.std.proofs.lemmas.Map.Lookups.{exact_unsigned}
use Rattle.base.proofs.TableLemmas.{put_there, put_elsewhere}
use Rattle.co_scenario.proofs.laws.put_changes_its_number_alone.Goals as goal

pub returns-clause-there : goal.returns-clause-there
returns-clause-there c = put_there nat_cmp_total exact_unsigned

pub returns-clause-elsewhere : goal.returns-clause-elsewhere
returns-clause-elsewhere c = put_elsewhere nat_cmp_total exact_unsigned
