-- LFs counted many at a time.
use Rattle.std.proofs.Common.{◌≡◌, ℕ, ◌+◌, ◌≤◌, ◌==◌, cond, List, length, drop, ap, ◌∙◌, arith}
use Rattle.std.specs.Simd.Lanes.{chunk}
use Rattle.std.proofs.lemmas.List.Sums.{count_by-le-length, sum_by-append}
use Rattle.std.proofs.lemmas.Simd.{chunk-drop}
use Rattle.base.specs.Lines.{line_count, line_feed}

-- what is left at a place is n bytes and what is left behind them
pub count_in_parts : (text : List ℕ) (at n : ℕ)
    → line_count (drop at text) ≡ line_count (chunk at n text) + line_count (drop (at + n) text)
count_in_parts text at n = ap line_count (chunk-drop at n text)
    ∙ sum_by-append (λ b. cond (b == line_feed) 1 0) (chunk at n text) (drop (at + n) text)

-- n bytes more are counted
pub count_more : (text : List ℕ) (at n count more total : ℕ) → more ≡ line_count (chunk at n text)
    → count + line_count (drop at text) ≡ total → (count + more) + line_count (drop (at + n) text) ≡ total
count_more text at n count more total is so_far =
    let parts = count_in_parts text at n in omega (arith, parts, is, so_far)

-- no more LFs than bytes
pub count_fits : (text : List ℕ) → line_count text ≤ length text
count_fits text = count_by-le-length (λ b. b == line_feed) text
