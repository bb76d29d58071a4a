-- The lines of an input that is made of lines.
use Rattle.std.proofs.Common.{◌≡◌, ℕ, Bool, true, false, ◌||◌, eqb, List, [], ◌∷◌, ◌++◌, refl, ap, ◌∙◌, append_assoc}
use Rattle.std.proofs.lemmas.Bool.{true≢false}
use Rattle.std.specs.List.{onto_first, list_any}
use Rattle.base.specs.Lines.{lines_of}
use Rattle.workbench.specs.Lines.{has_break, AreLines, with_breaks, if_some}
use Rattle.workbench.specs.Replies.{replies, replies_to_lines, complete_replies}
use Rattle.workbench.proofs.Ends.{others, replies-append}

neither : (x y : Bool) → (x || y) ≡ false → (x ≡ false) × (y ≡ false)
neither true y h = (h, absurd (true≢false h))
neither false y h = (refl, h)

pub lines-ended : (l rest : List ℕ) → has_break l ≡ false → lines_of ((l ++ 10 ∷ []) ++ rest) ≡ l ∷ lines_of rest
unfolding lines_of
lines-ended [] rest h = refl
lines-ended (b ∷ bs) rest h =
    let both = neither (eqb b 10) (has_break bs) h in
    rw both.0 (ap (onto_first b) (lines-ended bs rest both.1))

lines-last : (last : List ℕ) → has_break last ≡ false → lines_of last ≡ if_some last
unfolding lines_of
lines-last [] h = refl
lines-last (b ∷ []) h = let both = neither (eqb b 10) false h in rw both.0 refl
lines-last (b ∷ c ∷ cs) h =
    let both = neither (eqb b 10) (has_break (c ∷ cs)) h in
    rw both.0 (ap (onto_first b) (lines-last (c ∷ cs) both.1))

lines-joined : (lines : List (List ℕ)) (last : List ℕ) → AreLines lines → has_break last ≡ false
    → lines_of (with_breaks lines ++ last) ≡ lines ++ if_some last
lines-joined [] last h e = lines-last last e
lines-joined (l ∷ ls) last h e =
    let both = neither (has_break l) (list_any has_break ls) h in
    ap lines_of (append_assoc (l ++ 10 ∷ []) (with_breaks ls) last)
    ∙ lines-ended l (with_breaks ls ++ last) both.0
    ∙ ap (λ (t : List (List ℕ)). l ∷ t) (lines-joined ls last both.1 e)

pub replies_line_by_line : (lines : List (List ℕ)) (last : List ℕ) → AreLines lines → has_break last ≡ false
    → replies (with_breaks lines ++ last) ≡ replies_to_lines (lines ++ if_some last)
unfolding replies
replies_line_by_line lines last h e = ap replies_to_lines (lines-joined lines last h e)

pub complete_come_first : (bytes rest : List ℕ)
    → (more : List (List ℕ)) × (replies (bytes ++ rest) ≡ complete_replies bytes ++ more)
complete_come_first bytes rest = (others bytes rest, replies-append bytes rest)
