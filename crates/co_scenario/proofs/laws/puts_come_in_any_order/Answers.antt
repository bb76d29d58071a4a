use Rattle.std.proofs.lemmas.Cmp.{nat_cmp_total}
use Rattle.std.proofs.lemmas.Map.Lookups.{exact_unsigned}
use Rattle.base.proofs.TableLemmas.{put_in_any_order}
use Rattle.co_scenario.proofs.laws.puts_come_in_any_order.Goals as goal

pub returns : goal.returns
returns c = put_in_any_order nat_cmp_total exact_unsigned
