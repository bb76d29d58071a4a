-- What is left of a value after a segment.
use Rattle.std.proofs.Common.{◌≡◌, ℕ, ◌+◌, List, length, drop, min, sym, ◌∙◌}
use Rattle.std.proofs.lemmas.List.{drop-drop, drop_min}

pub after_one : (value : List ℕ) (sent : ℕ) → drop (min (sent + 7) (length value)) value ≡ drop 7 (drop sent value)
after_one value sent = drop_min (sent + 7) value ∙ sym (drop-drop 7 sent value)
