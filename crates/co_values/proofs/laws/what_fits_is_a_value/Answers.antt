use Rattle.co_values.proofs.Read.{IsValueOf-Fits}
use Rattle.co_values.proofs.laws.what_fits_is_a_value.Goals as goal

pub returns : goal.returns
returns c = IsValueOf-Fits
