use Rattle.co_values.proofs.Read.{Fits-value}
use Rattle.co_values.proofs.laws.what_is_read_fits.Goals as goal

pub returns : goal.returns
returns c = Fits-value
