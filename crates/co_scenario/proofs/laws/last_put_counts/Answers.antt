use Rattle.std.proofs.lemmas.Cmp.{nat_cmp_total}
use Rattle.std.proofs.lemmas.Map.Lookups.{exact_unsigned}
use Rattle.base.proofs.TableLemmas.{put_twice}
use Rattle.co_scenario.proofs.laws.last_put_counts.Goals as goal

pub returns : goal.returns
returns c = put_twice nat_cmp_total exact_unsigned
