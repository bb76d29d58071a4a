-- The lines of passages, one behind the other, and what is shown of them.
use Rattle.std.proofs.Common.{◌≡◌, ℕ, ◌+◌, ◌<◌, ◌≤◌, true, max, List, [], ◌∷◌, ◌++◌, length, take, drop, get_or, set, fold, map, filter}
use Rattle.std.proofs.Common.{refl, sym, ap, ◌∙◌, append_assoc, arith, length-append}
use Rattle.std.specs.Prelude.{◌↔◌, All, IsTrue, nat_le}
use Rattle.std.proofs.lemmas.Bool.Decides.{nat_tests}
use Rattle.std.proofs.lemmas.Grind.{common_steps, flat_map-append}
use Rattle.std.proofs.lemmas.List.{append-nil, drop_all, drop_more, get_or_at, length-map, length-take-le, map_more}
use Rattle.std.proofs.lemmas.List.{set_at, take_all}
use Rattle.std.proofs.lemmas.List.Elements.{All-head, All-same, All-tail, filter-append, filter_passes}
use Rattle.can_bus.specs.Lines.{line_time, lines_text}
use Rattle.can_bus.specs.Runs.{is_shown}
use Rattle.can_bus.specs.declared.line.Line.{Line}
use Rattle.base.specs.Lines.{line_count}
use Rattle.base.proofs.Counts.{line_count-append}
use Rattle.trace_spans.specs.Passages.{lines_of_passages, latest}

-- ---- what is shown

abbrev later : ℕ → Line → ℕ
later last line = max last (line_time line)

not_before : (from : ℕ) (lines : List Line) → from ≤ fold later from lines
not_before from [] = omega arith
not_before from (l ∷ ls) = omega (arith, not_before (max from (line_time l)) ls)

up_to : (from a last horizon : ℕ) → max from a ≤ last → last ≤ horizon → nat_le a horizon ≡ true
up_to from a last horizon le h = grind (arith, nat_tests)

all_shown : (from horizon : ℕ) (lines : List Line) → fold later from lines ≤ horizon
    → filter (is_shown horizon) lines ≡ lines
all_shown from horizon [] h = refl
all_shown from horizon (l ∷ ls) h =
    let next = max from (line_time l) in
    let first = up_to from (line_time l) (fold later next ls) horizon (not_before next ls) h in
    rw (first, all_shown next horizon ls h) refl

at_most : (from a horizon : ℕ) → from ≤ horizon → nat_le a horizon ≡ true → max from a ≤ horizon
at_most from a horizon le h = grind (arith, nat_tests)

none_later : (from horizon : ℕ) (lines : List Line) → from ≤ horizon
    → All (λ line. is_shown horizon line ≡ true) lines → fold later from lines ≤ horizon
none_later from horizon [] le all = le
none_later from horizon (l ∷ ls) le all =
    let first = at_most from (line_time l) horizon le (All-head (λ line. is_shown horizon line ≡ true) l ls all) in
    none_later (max from (line_time l)) horizon ls first (All-tail (λ line. is_shown horizon line ≡ true) l ls all)

from_test : (a b : ℕ) → nat_le a b ≡ true → a ≤ b
from_test a b h = grind (arith, nat_tests)

to_test : (a b : ℕ) → a ≤ b → nat_le a b ≡ true
to_test a b h = grind (arith, nat_tests)

-- all is shown where the last time is
pub latest_is_shown : (horizon : ℕ) (lines : List Line)
    → IsTrue (nat_le (latest lines) horizon) ↔ (filter (is_shown horizon) lines ≡ lines)
latest_is_shown horizon lines = (
  λ h. all_shown 0 horizon lines (from_test (latest lines) horizon h),
  λ same. to_test (latest lines) horizon (none_later 0 horizon lines (omega arith)
      (All-same (λ line. is_shown horizon line ≡ true) lines (filter (is_shown horizon) lines) (sym same)
      (filter_passes (is_shown horizon) lines))),
)

-- of each passage what is shown is what is shown of all
pub shown_of_each : (horizon : ℕ) (passages : List (List Line))
    → lines_of_passages (map (filter (is_shown horizon)) passages) ≡ filter (is_shown horizon) (lines_of_passages passages)
shown_of_each horizon [] = refl
shown_of_each horizon (p ∷ ps) = ap (λ t. filter (is_shown horizon) p ++ t) (shown_of_each horizon ps)
    ∙ sym (filter-append (is_shown horizon) p (lines_of_passages ps))

-- one passage more is cut
pub cut_more : (f : List Line → List Line) (i : ℕ) (old now : List (List Line)) (d y : List Line) → i < length old
    → now ≡ map f (take i old) ++ drop i old → y ≡ f (get_or now i d)
    → set now i y ≡ map f (take (i + 1) old) ++ drop (i + 1) old
cut_more f i old now d y h e cut =
    let front = map f (take i old) in
    let back = drop (i + 1) old in
    let z = get_or old i d in
    let split : now ≡ front ++ z ∷ back = e ∙ ap (λ t. front ++ t) (drop_more old i d h) in
    let len : length front ≡ i = length-map (take i old) f ∙ length-take-le i old (omega arith) in
    let is : get_or now i d ≡ z = ap (λ t. get_or t i d) split ∙ get_or_at front z back d i len in
    ap (λ t. set t i y) split
    ∙ set_at front z back y i len
    ∙ ap (λ v. front ++ v ∷ back) (cut ∙ ap f is)
    ∙ sym (append_assoc front (f z ∷ []) back)
    ∙ ap (λ t. t ++ back) (sym (map_more f old i d h))

-- all are cut
pub cut_whole : (horizon n : ℕ) (old now : List (List Line)) → length old ≤ n
    → now ≡ map (filter (is_shown horizon)) (take n old) ++ drop n old
    → lines_of_passages now ≡ filter (is_shown horizon) (lines_of_passages old)
cut_whole horizon n old now le e =
    let f = filter (is_shown horizon) in
    ap lines_of_passages (e ∙ ap (λ t. map f t ++ drop n old) (take_all n old le)
    ∙ ap (λ t. map f old ++ t) (drop_all n old le) ∙ append-nil (map f old)) ∙ shown_of_each horizon old

-- ---- one passage more

text_of_both : (xs ys : List Line) → lines_text (xs ++ ys) ≡ lines_text xs ++ lines_text ys
unfolding lines_text
text_of_both xs ys = flat_map-append _ xs ys

joined_more : (passages : List (List Line)) (i : ℕ) (d : List Line) → i < length passages
    → lines_of_passages (take (i + 1) passages) ≡ lines_of_passages (take i passages) ++ get_or passages i d
joined_more passages i d h = grind (arith, common_steps)

pub text_more : (passages : List (List Line)) (i : ℕ) (d : List Line) → i < length passages
    → lines_text (lines_of_passages (take (i + 1) passages)) ≡ lines_text (lines_of_passages (take i passages)) ++ lines_text (get_or passages i d)
text_more passages i d h =
    ap lines_text (joined_more passages i d h) ∙ text_of_both (lines_of_passages (take i passages)) (get_or passages i d)

pub count_more : (passages : List (List Line)) (i : ℕ) (d : List Line) → i < length passages
    → line_count (lines_text (lines_of_passages (take (i + 1) passages)))
    ≡ line_count (lines_text (lines_of_passages (take i passages))) + line_count (lines_text (get_or passages i d))
count_more passages i d h = ap (λ t. line_count t) (text_more passages i d h)
    ∙ line_count-append (lines_text (lines_of_passages (take i passages))) (lines_text (get_or passages i d))

pub length_more : (passages : List (List Line)) (i : ℕ) (d : List Line) → i < length passages
    → length (lines_text (lines_of_passages (take (i + 1) passages)))
    ≡ length (lines_text (lines_of_passages (take i passages))) + length (lines_text (get_or passages i d))
length_more passages i d h = ap length (text_more passages i d h)
    ∙ length-append (lines_text (lines_of_passages (take i passages))) (lines_text (get_or passages i d))
