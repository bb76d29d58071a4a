-- Private: what the hashes of a text's names start from, so that nobody can choose names that have one hash.
use Rattle.std.specs.Prelude.{ℕ, List}
use Rattle.std.specs.Hash.DefaultHasher as sip

-- SipHash of the whole text
unfoldable pub seed_of : List ℕ → ℕ
seed_of text = sip.finish (sip.write sip.initial text)
