-- The lines of texts, one behind the other.
use Rattle.std.proofs.Common.{◌≡◌, ◌==◌, ℕ, ◌+◌, List, ◌++◌, cond}
use Rattle.std.proofs.lemmas.List.Sums.{sum_by-append}
use Rattle.base.specs.Lines.{line_feed, line_count}

pub line_count-append : (text more : List ℕ) → line_count (text ++ more) ≡ line_count text + line_count more
line_count-append text more = sum_by-append (λ b. cond (b == line_feed) 1 0) text more
