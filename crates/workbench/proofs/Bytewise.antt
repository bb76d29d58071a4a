-- The replies line by line are those byte by byte.
use Rattle.std.proofs.Common.{◌≡◌, ℕ, true, false, cond, eqb, List, [], ◌∷◌, ◌++◌, length, sym, refl, ap, ◌∙◌}
use Rattle.std.proofs.Common.{append_assoc, append-nil, arith}
use Rattle.std.proofs.lemmas.Bool.{ne_eqb}
use Rattle.std.specs.List.{onto_first}
use Rattle.base.specs.Lines.{lines_of}
use Rattle.workbench.specs.Replies.{State, After, start, after_line, after_lines, cut_off, replies, complete_replies}
use Rattle.workbench.specs.Replies.{before_first, ended_lines}
use Rattle.workbench.specs.Machine.{Cursor, first_cursor, after, at_break, with_earlier, at_end}
use Rattle.workbench.proofs.Runs.{unended}

-- ---- a front of the first line came before

onto : List ℕ → List (List ℕ) → List (List ℕ)
onto [] ls = ls
onto (b ∷ bs) ls = onto_first b (onto bs ls)

onto-none : (b : ℕ) (bs : List ℕ) → onto (b ∷ bs) [] ≡ (b ∷ bs) ∷ []
unfolding onto
onto-none b [] = refl
onto-none b (c ∷ bs) = ap (onto_first b) (onto-none c bs)

onto-line : (line l : List ℕ) (ls : List (List ℕ)) → onto line (l ∷ ls) ≡ (line ++ l) ∷ ls
unfolding onto
onto-line [] l ls = refl
onto-line (b ∷ bs) l ls = ap (onto_first b) (onto-line bs l ls)

onto-byte : (line : List ℕ) (b : ℕ) (ls : List (List ℕ)) → onto line (onto_first b ls) ≡ onto (line ++ b ∷ []) ls
unfolding onto
onto-byte [] b ls = refl
onto-byte (c ∷ cs) b ls = ap (onto_first c) (onto-byte cs b ls)

onto-nothing : (ls : List (List ℕ)) → onto [] ls ≡ ls
unfolding onto
onto-nothing ls = refl

-- ---- all of the input

abbrev all_of : After State → List (List ℕ)
all_of p = p.replies ++ cut_off p.state.block

abbrev rest_of : After Cursor → List (List ℕ)
rest_of r = r.replies ++ at_end r.state

at_end-none : (state : State) → at_end (record { state = state; line = [] }) ≡ cut_off state.block
unfolding at_end
at_end-none state = refl

at_end-some : (state : State) (b : ℕ) (bs : List ℕ)
    → at_end (record { state = state; line = b ∷ bs }) ≡ all_of (after_line state (b ∷ bs))
unfolding at_end
at_end-some state b bs = let e : eqb (length (b ∷ bs)) 0 ≡ false = ne_eqb (length (b ∷ bs)) 0 (λ h. omega arith)
    in rw e refl

all_of_line : (state : State) (line : List ℕ) → all_of (after_lines state (line ∷ [])) ≡ all_of (after_line state line)
all_of_line state line = ap (λ (rs : List (List ℕ)). rs ++ cut_off (after_line state line).state.block)
    (append-nil (after_line state line).replies)

at_end-lines : (state : State) (line : List ℕ)
    → at_end (record { state = state; line = line }) ≡ all_of (after_lines state (onto line []))
at_end-lines state [] = at_end-none state ∙ ap (λ (ls : List (List ℕ)). all_of (after_lines state ls))
    (sym (onto-nothing []))
at_end-lines state (b ∷ bs) =
    at_end-some state b bs
    ∙ sym (all_of_line state (b ∷ bs))
    ∙ ap (λ (ls : List (List ℕ)). all_of (after_lines state ls)) (sym (onto-none b bs))

bytewise : (state : State) (line bs : List ℕ)
    → rest_of (after (record { state = state; line = line }) bs) ≡ all_of (after_lines state (onto line (lines_of bs)))
unfolding after lines_of
bytewise state line [] = at_end-lines state line
bytewise state line (b ∷ bs) =
    let q = after_line state line in
    elim (eqb b 10) as (λ t.
    let first : After Cursor = cond t (at_break q) (unended state (line ++ b ∷ [])) in
    rest_of (with_earlier first.replies (after first.state bs))
    ≡ all_of (after_lines state (onto line (cond t ([] ∷ lines_of bs) (onto_first b (lines_of bs)))))) [
      | true ↦
          let r = after (record { state = q.state; line = [] }) bs in
          let others = after_lines q.state (lines_of bs) in
          append_assoc q.replies r.replies (at_end r.state)
          ∙ ap (λ (rs : List (List ℕ)). q.replies ++ rs)
          (bytewise q.state [] bs ∙ ap (λ (ls : List (List ℕ)). all_of (after_lines q.state ls))
          (onto-nothing (lines_of bs)))
          ∙ sym (append_assoc q.replies others.replies (cut_off others.state.block))
          ∙ ap (λ (l : List ℕ). all_of (after_lines state (l ∷ lines_of bs))) (sym (append-nil line))
          ∙ ap (λ (ls : List (List ℕ)). all_of (after_lines state ls)) (sym (onto-line line [] (lines_of bs)))
      | false ↦
          bytewise state (line ++ b ∷ []) bs
          ∙ ap (λ (ls : List (List ℕ)). all_of (after_lines state ls)) (sym (onto-byte line b (lines_of bs)))
    ]

pub replies_bytewise : (input : List ℕ) → replies input
    ≡ (after first_cursor input).replies ++ at_end (after first_cursor input).state
unfolding replies
replies_bytewise input = sym (bytewise start [] input ∙ ap (λ (ls : List (List ℕ)). all_of (after_lines start ls))
    (onto-nothing (lines_of input)))

-- ---- the lines that an LF ends

before : List ℕ → List (List ℕ) → List (List ℕ)
before [] ls = ls
before (b ∷ bs) ls = before_first b (before bs ls)

before-none : (line : List ℕ) → before line [] ≡ []
unfolding before
before-none [] = refl
before-none (b ∷ bs) = ap (before_first b) (before-none bs)

before-line : (line l : List ℕ) (ls : List (List ℕ)) → before line (l ∷ ls) ≡ (line ++ l) ∷ ls
unfolding before
before-line [] l ls = refl
before-line (b ∷ bs) l ls = ap (before_first b) (before-line bs l ls)

before-byte : (line : List ℕ) (b : ℕ) (ls : List (List ℕ)) → before line (before_first b ls) ≡ before (line ++ b ∷ []) ls
unfolding before
before-byte [] b ls = refl
before-byte (c ∷ cs) b ls = ap (before_first c) (before-byte cs b ls)

before-nothing : (ls : List (List ℕ)) → before [] ls ≡ ls
unfolding before
before-nothing ls = refl

abbrev given : State → List (List ℕ) → List (List ℕ)
given state ls = (after_lines state ls).replies

ended : (state : State) (line bs : List ℕ)
    → (after (record { state = state; line = line }) bs).replies ≡ given state (before line (ended_lines bs))
unfolding after ended_lines
ended state line [] = ap (given state) (sym (before-none line))
ended state line (b ∷ bs) =
    let q = after_line state line in
    elim (eqb b 10) as (λ t.
    let first : After Cursor = cond t (at_break q) (unended state (line ++ b ∷ [])) in
    (with_earlier first.replies (after first.state bs)).replies
    ≡ given state (before line (cond t ([] ∷ ended_lines bs) (before_first b (ended_lines bs))))) [
      | true ↦
          ap (λ (rs : List (List ℕ)). q.replies ++ rs)
          (ended q.state [] bs ∙ ap (given q.state) (before-nothing (ended_lines bs)))
          ∙ ap (λ (l : List ℕ). given state (l ∷ ended_lines bs)) (sym (append-nil line))
          ∙ ap (given state) (sym (before-line line [] (ended_lines bs)))
      | false ↦
          ended state (line ++ b ∷ []) bs
          ∙ ap (given state) (sym (before-byte line b (ended_lines bs)))
    ]

pub complete_bytewise : (bytes : List ℕ) → complete_replies bytes ≡ (after first_cursor bytes).replies
unfolding complete_replies
complete_bytewise bytes = sym (ended start [] bytes ∙ ap (given start) (before-nothing (ended_lines bytes)))
