-- A run over some bytes and then more, and what was written on the way.
use Rattle.std.proofs.Common.{◌≡◌, ℕ, suc, ◌+◌, ◌<◌, ◌≤◌, Bool, true, false, cond, not, eqb, ltb, List, [], ◌∷◌, ◌++◌}
use Rattle.std.proofs.Common.{take, drop, length, Option, Some, None, sym, refl, ap, ◌∙◌, append_assoc, append-nil}
use Rattle.std.proofs.Common.{subst, arith}
use Rattle.std.proofs.lemmas.Bool.{ltb-true, ltb-false, true≢false}
use Rattle.std.proofs.KnownBytes.{Appends-trans}
use Rattle.std.specs.List.{concat, position_or_len}
use Rattle.base.specs.Lines.{split_once}
use Rattle.workbench.specs.Replies.{After, State, after_line}
use Rattle.workbench.specs.Machine.{Cursor, after, after_byte, at_break, with_earlier}
use Rattle.streams.specs.Written.{Took, Posts}
use Rattle.streams.proofs.Posted.{posts_then, posts_front, took_more}
use Rattle.workbench.specs.Written.{WroteAll}

pub after-append : (s : Cursor) (xs ys : List ℕ)
    → after s (xs ++ ys) ≡ with_earlier (after s xs).replies (after (after s xs).state ys)
unfolding after
after-append s [] ys = refl
after-append s (x ∷ xs) ys =
    let first = after_byte s x in
    let others = after first.state xs in
    let assoc = append_assoc first.replies others.replies (after others.state ys).replies in
    ap (with_earlier first.replies) (after-append first.state xs ys)
    ∙ ap (λ (rs : List (List ℕ)). record { state = (after others.state ys).state; replies = rs }) (sym assoc)

pub concat-append : (xs ys : List (List ℕ)) → concat (xs ++ ys) ≡ concat xs ++ concat ys
concat-append [] ys = refl
concat-append (x ∷ xs) ys = ap (λ (t : List ℕ). x ++ t) (concat-append xs ys)
    ∙ sym (append_assoc x (concat xs) (concat ys))

pub wrote-then : (u v w : Option (List ℕ)) (rs qs : List (List ℕ)) → WroteAll u v rs → WroteAll v w qs
    → WroteAll u w (rs ++ qs)
wrote-then u v w rs qs p q = rw (concat-append rs qs) (Appends-trans u v w _ _ p q)

-- ---- the first LF

-- its state, or the length where there is none
abbrev pub break_at : List ℕ → ℕ
break_at xs = position_or_len (λ b. eqb b 10) xs

abbrev Parts : Type 0
Parts = List ℕ × List ℕ

parts_of : (t : Bool) (one two : Parts) → Some one ≡ cond t (Some two) None → (t ≡ true) × (one ≡ two)
parts_of true one two h = (refl, cc)
parts_of false one two h = absurd (true≢false (cc))

pub line_found : (xs l a : List ℕ) → Some (l, a) ≡ split_once 10 xs
    → (l ≡ take (break_at xs) xs) × (a ≡ drop (break_at xs + 1) xs) × (break_at xs < length xs)
unfolding split_once
line_found xs l a h =
    let n = break_at xs in
    let one : Parts = (l, a) in
    let two : Parts = (take n xs, drop (n + 1) xs) in
    let both = parts_of (ltb n (length xs)) one two h in
    (ap (λ (p : Parts). p.0) both.1, ap (λ (p : Parts). p.1) both.1, ltb-true n (length xs) both.0)

parts_missing : (t : Bool) (two : Parts) → None ≡ cond t (Some two) None → t ≡ false
parts_missing true two h = cc
parts_missing false two h = refl

pub line_missing : (xs : List ℕ) → None ≡ split_once 10 xs → length xs ≤ break_at xs
unfolding split_once
line_missing xs h =
    let n = break_at xs in
    let two : Parts = (take n xs, drop (n + 1) xs) in
    ltb-false n (length xs) (parts_missing (ltb n (length xs)) two h)

-- a whole line, and what follows it
abbrev pub after_break : State → List ℕ → List ℕ → After Cursor
after_break state line rest = let r = at_break (after_line state line) in with_earlier r.replies (after r.state rest)

abbrev pub unended : State → List ℕ → After Cursor
unended state line = record { state = record { state = state; line = line }; replies = [] }

shifted : (state : State) (line : List ℕ) (b : ℕ) (bs : List ℕ) (n : ℕ)
    → after_break state (line ++ b ∷ take n bs) (drop (n + 1) bs) ≡ after_break state (line ++ take (1 + n) (b ∷ bs))
    (drop (1 + n + 1) (b ∷ bs))
shifted state line b bs n =
    let e : 1 + n ≡ suc n = omega arith in
    let f : 1 + n + 1 ≡ suc (n + 1) = omega arith in
    rw f (rw e refl)

pub line_taken : (state : State) (line xs : List ℕ) → break_at xs < length xs
    → after (record { state = state; line = line }) xs ≡ after_break state (line ++ take (break_at xs) xs)
    (drop (break_at xs + 1) xs)
unfolding after
line_taken state line [] h = absurd (omega arith)
line_taken state line (b ∷ bs) h =
    let n = break_at bs in
    elim (eqb b 10) as (λ t.
    let first : After Cursor = cond t (at_break (after_line state line)) (unended state (line ++ b ∷ [])) in
    cond (not t) (1 + n) 0 < length (b ∷ bs)
    → with_earlier first.replies (after first.state bs) ≡ after_break state (line ++ take (cond (not t) (1 + n) 0) (b ∷ bs))
    (drop (cond (not t) (1 + n) 0 + 1) (b ∷ bs))) [
      | true ↦ λ _. ap (λ l. after_break state l bs) (sym (append-nil line))
      | false ↦ λ lt.
          line_taken state (line ++ b ∷ []) bs (omega arith)
          ∙ ap (λ l. after_break state l (drop (n + 1) bs)) (append_assoc line (b ∷ []) (take n bs))
          ∙ shifted state line b bs n
    ] h

pub line_unended : (state : State) (line xs : List ℕ) → length xs ≤ break_at xs
    → after (record { state = state; line = line }) xs ≡ unended state (line ++ xs)
unfolding after
line_unended state line [] h = ap (unended state) (sym (append-nil line))
line_unended state line (b ∷ bs) h =
    elim (eqb b 10) as (λ t.
    let first : After Cursor = cond t (at_break (after_line state line)) (unended state (line ++ b ∷ [])) in
    length (b ∷ bs) ≤ cond (not t) (1 + break_at bs) 0
    → with_earlier first.replies (after first.state bs) ≡ unended state (line ++ b ∷ bs)) [
      | true ↦ λ le. absurd (omega arith)
      | false ↦ λ le.
          line_unended state (line ++ b ∷ []) bs (omega arith)
          ∙ ap (unended state) (append_assoc line (b ∷ []) bs)
    ] h

-- ---- the run over a piece, of which the rest is to come

-- the run over all of the piece gives these replies, and then goes on from s over the rest
abbrev pub Goes : Cursor → List ℕ → Cursor → List ℕ → List (List ℕ) → Type 0
Goes s0 piece s rest done = after s0 piece ≡ with_earlier done (after s rest)

pub goes_on : (s0 : Cursor) (piece : List ℕ) (state : State) (line rest : List ℕ) (done : List (List ℕ))
    → Goes s0 piece (record { state = state; line = line }) rest done
    → (l a : List ℕ) → Some (l, a) ≡ split_once 10 rest
    → (new : List ℕ) → new ≡ line ++ l → (r : After Cursor) → r ≡ at_break (after_line state new)
    → Goes s0 piece r.state a (done ++ r.replies)
goes_on s0 piece state line rest done all l a found new longer r e =
    let parts = line_found rest l a found in
    let others = after r.state a in
    let taken : after (record { state = state; line = line }) rest
    ≡ after_break state (line ++ l) a = rw (parts.0, parts.1) (line_taken state line rest parts.2) in
    let whole : after (record { state = state; line = line }) rest ≡ with_earlier r.replies others = taken
    ∙ ap (λ (t : List ℕ). after_break state t a) (sym longer)
    ∙ ap (λ (q : After Cursor). with_earlier q.replies (after q.state a)) (sym e) in
    all ∙ ap (with_earlier done) whole
    ∙ ap (λ (rs : List (List ℕ)). record { state = others.state; replies = rs })
    (sym (append_assoc done r.replies others.replies))

pub goes_to_end : (s0 : Cursor) (piece : List ℕ) (state : State) (line rest : List ℕ) (done : List (List ℕ))
    → Goes s0 piece (record { state = state; line = line }) rest done
    → None ≡ split_once 10 rest → (new : List ℕ) → new ≡ line ++ rest
    → after s0 piece ≡ record { state = record { state = state; line = new }; replies = done }
goes_to_end s0 piece state line rest done all none new longer =
    all ∙ ap (with_earlier done) (line_unended state line rest (line_missing rest none))
    ∙ ap (λ (rs : List (List ℕ)). record { state = record { state = state; line = line ++ rest }; replies = rs })
    (append-nil done)
    ∙ ap (λ (t : List ℕ). record { state = record { state = state; line = t }; replies = done }) (sym longer)

pub goes_replies : (s0 : Cursor) (piece : List ℕ) (s : Cursor) (rest : List ℕ) (done : List (List ℕ))
    → Goes s0 piece s rest done → (after s0 piece).replies ≡ done ++ (after s rest).replies
goes_replies s0 piece s rest done all = ap (λ (r : After Cursor). r.replies) all

-- ---- replies that are posted

pub posts_replies : (u v w : Option (List ℕ)) (a b c : List ℕ) (rs qs : List (List ℕ)) → Posts u a v b (concat rs)
    → Posts v b w c (concat qs) → Posts u a w c (concat (rs ++ qs))
posts_replies u v w a b c rs qs p q = rw (concat-append rs qs) (posts_then u v w a b c (concat rs) (concat qs) p q)

-- a front of the replies that are posted next
pub posts_front_of : (u v w : Option (List ℕ)) (a b : List ℕ) (rs qs : List (List ℕ)) → Posts u a v b (concat rs)
    → Took v w (b ++ concat qs) → Took u w (a ++ concat (rs ++ qs))
posts_front_of u v w a b rs qs p q =
    subst (λ (x : List ℕ). Took u w (a ++ x)) (sym (concat-append rs qs))
    (posts_front u v w a b (concat rs) (concat qs) p q)

-- others were to come
pub took_first : (u w : Option (List ℕ)) (a : List ℕ) (rs qs : List (List ℕ)) → Took u w (a ++ concat rs)
    → Took u w (a ++ concat (rs ++ qs))
took_first u w a rs qs p =
    subst (Took u w) (append_assoc a (concat rs) (concat qs) ∙ ap (λ (x : List ℕ). a ++ x) (sym (concat-append rs qs)))
    (took_more u w (a ++ concat rs) (concat qs) p)

-- the first replies went out, and others come behind them
pub front_more : (u w : Option (List ℕ)) (rs first others : List (List ℕ)) → rs ≡ first ++ others
    → Took u w (concat first) → Took u w (concat rs)
front_more u w rs first others e q =
    subst (Took u w) (sym (ap concat e ∙ concat-append first others)) (took_more u w (concat first) (concat others) q)
