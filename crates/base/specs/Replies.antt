-- How replies show lines (this profile's own).
use Rattle.std.specs.Prelude.{ℕ, List, ◌∷◌, [], ◌++◌, codes, decimal}
use Rattle.base.specs.Lines.{line_feed, line_count}

-- the line of a reply that says how many follow: `lines K`
unfoldable pub lines_head : ℕ → List ℕ
lines_head count = codes "lines " ++ decimal count ++ (line_feed ∷ [])

-- how a reply shows lines, each ended by LF: `lines K`, and these K lines
unfoldable pub lines_reply : List ℕ → List ℕ
lines_reply text = lines_head (line_count text) ++ text
