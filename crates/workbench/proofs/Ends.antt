-- What a session has written where it ends.
use Rattle.std.proofs.Common.{◌≡◌, ℕ, ◌<◌, ◌≤◌, List, [], ◌++◌, take, drop, length, Option, Some, None, IfSome, refl}
use Rattle.std.proofs.Common.{sym, ap, ◌∙◌, append_assoc, append-nil, subst, arith, inl, inr, ◌⊎◌, length-append}
use Rattle.std.proofs.KnownBytes.{Appends-nil, Appends-trans, Consumes-trans, Consumes-kept, Consumes-nil}
use Rattle.std.proofs.lemmas.List.{take_all, take-take, take-append-drop}
use Rattle.std.proofs.Math.Seq.{take-append_seam}
use Rattle.std.specs.List.{concat}
use Rattle.std.specs.Io.KnownBytes.{Consumes, IsAtEnd, Keeps}
use Rattle.workbench.specs.Replies.{After, replies, complete_replies, ended_lines}
use Rattle.workbench.specs.Machine.{Cursor, first_cursor, after, at_end}
use Rattle.workbench.specs.Written.{WroteAll, WroteFirst, WroteFront, WroteAtLeast}
use Rattle.workbench.proofs.Runs.{after-append, concat-append, wrote-then}
use Rattle.workbench.proofs.Bytewise.{replies_bytewise, complete_bytewise}

-- what was consumed up to the end was all
pub known-all : (u v : Option (List ℕ)) (bytes : List ℕ) (P : List ℕ → Type 0) → Consumes u v bytes → IsAtEnd v
    → P bytes → IfSome u P
known-all None v bytes P came end h = tt
known-all (Some xs) None bytes P came end h = absurd came
known-all (Some xs) (Some ys) bytes P came end h =
    subst P (sym (came ∙ ap (λ (t : List ℕ). bytes ++ t) end ∙ append-nil bytes)) h

-- what was consumed begins all
pub known-more : (u v : Option (List ℕ)) (bytes : List ℕ) (P : List ℕ → Type 0) → Consumes u v bytes
    → ((rest : List ℕ) → P (bytes ++ rest)) → IfSome u P
known-more None v bytes P came h = tt
known-more (Some xs) None bytes P came h = absurd came
known-more (Some xs) (Some ys) bytes P came h = subst P (sym came) (h ys)

pub first-then : (u v w : Option (List ℕ)) (rs qs : List (List ℕ)) → WroteAll u v rs → WroteFirst v w qs
    → WroteFirst u w (rs ++ qs)
first-then u v w rs qs p q = (
  rs ++ q.0,
  q.1,
  ap (λ (t : List (List ℕ)). rs ++ t) q.2 ∙ sym (append_assoc rs q.0 q.1),
  wrote-then u v w rs q.0 p q.3,
)

pub front-then : (u v w : Option (List ℕ)) (rs qs : List (List ℕ)) → WroteAll u v rs → WroteFront v w qs
    → WroteFront u w (rs ++ qs)
front-then u v w rs qs p q = (
  concat rs ++ q.0,
  q.1,
  concat-append rs qs ∙ ap (λ (t : List ℕ). concat rs ++ t) q.2
      ∙ sym (append_assoc (concat rs) q.0 q.1),
  Appends-trans u v w (concat rs) q.0 p q.3,
)

pub first-more : (u w : Option (List ℕ)) (rs more : List (List ℕ)) → WroteFirst u w rs → WroteFirst u w (rs ++ more)
first-more u w rs more q = (
  q.0,
  q.1 ++ more,
  ap (λ (t : List (List ℕ)). t ++ more) q.2 ∙ append_assoc q.0 q.1 more,
  q.3,
)

pub front-more : (u w : Option (List ℕ)) (rs more : List (List ℕ)) → WroteFront u w rs → WroteFront u w (rs ++ more)
front-more u w rs more q = (
  q.0,
  q.1 ++ concat more,
  concat-append rs more ∙ ap (λ (t : List ℕ). t ++ concat more) q.2
      ∙ append_assoc q.0 q.1 (concat more),
  q.3,
)

-- the replies to all begin with those to what came
abbrev pub others : List ℕ → List ℕ → List (List ℕ)
others bytes rest = (after (after first_cursor bytes).state rest).replies
    ++ at_end (after first_cursor (bytes ++ rest)).state

complete-append : (bytes rest : List ℕ) → complete_replies (bytes ++ rest)
    ≡ complete_replies bytes ++ (after (after first_cursor bytes).state rest).replies
complete-append bytes rest =
    complete_bytewise (bytes ++ rest)
    ∙ ap (λ (p : After Cursor). p.replies) (after-append first_cursor bytes rest)
    ∙ ap (λ (rs : List (List ℕ)). rs ++ (after (after first_cursor bytes).state rest).replies)
    (sym (complete_bytewise bytes))

replies-complete : (bytes : List ℕ) → replies bytes ≡ complete_replies bytes ++ at_end (after first_cursor bytes).state
replies-complete bytes =
    replies_bytewise bytes
    ∙ ap (λ (rs : List (List ℕ)). rs ++ at_end (after first_cursor bytes).state) (sym (complete_bytewise bytes))

pub replies-append : (bytes rest : List ℕ) → replies (bytes ++ rest) ≡ complete_replies bytes ++ others bytes rest
replies-append bytes rest =
    replies-complete (bytes ++ rest)
    ∙ ap (λ (rs : List (List ℕ)). rs ++ at_end (after first_cursor (bytes ++ rest)).state) (complete-append bytes rest)
    ∙ append_assoc (complete_replies bytes)
    (after (after first_cursor bytes).state rest).replies (at_end (after first_cursor (bytes ++ rest)).state)

module _ (u v cu cv : Option (List ℕ)) (bytes : List ℕ) (s : Cursor) (came : Consumes u v bytes)
    (at : s ≡ (after first_cursor bytes).state) (wrote : WroteAll cu cv (complete_replies bytes)) where
  -- the input has ended
  pub all_at_end : (w : Option (List ℕ)) → IsAtEnd v → WroteAll cv w (at_end s)
      → IfSome u (λ input. WroteAll cu w (replies input))
  all_at_end w end h =
      known-all u v bytes (λ input. WroteAll cu w (replies input)) came end (subst (WroteAll cu w)
      (sym (replies-complete bytes))
      (wrote-then cu cv w (complete_replies bytes)
      (at_end (after first_cursor bytes).state) wrote (subst (λ (t : Cursor). WroteAll cv w (at_end t)) at h)))

  pub first_at_end : (w : Option (List ℕ)) → IsAtEnd v → WroteFirst cv w (at_end s)
      → IfSome u (λ input. WroteFirst cu w (replies input))
  first_at_end w end h =
      known-all u v bytes (λ input. WroteFirst cu w (replies input)) came end (subst (WroteFirst cu w)
      (sym (replies-complete bytes))
      (first-then cu cv w (complete_replies bytes)
      (at_end (after first_cursor bytes).state) wrote (subst (λ (t : Cursor). WroteFirst cv w (at_end t)) at h)))

  pub front_at_end : (w : Option (List ℕ)) → IsAtEnd v → WroteFront cv w (at_end s)
      → IfSome u (λ input. WroteFront cu w (replies input))
  front_at_end w end h =
      known-all u v bytes (λ input. WroteFront cu w (replies input)) came end (subst (WroteFront cu w)
      (sym (replies-complete bytes))
      (front-then cu cv w (complete_replies bytes)
      (at_end (after first_cursor bytes).state) wrote (subst (λ (t : Cursor). WroteFront cv w (at_end t)) at h)))

  -- after the front of one more piece, with the rest of the input behind it
  module _ (x w : Option (List ℕ)) (whole piece tail : List ℕ) (cut : whole ≡ piece ++ tail)
      (more : Consumes v x whole) where
    pub came_both : Consumes u x ((bytes ++ piece) ++ tail)
    came_both = subst (Consumes u x) (ap (λ (t : List ℕ). bytes ++ t) cut ∙ sym (append_assoc bytes piece tail))
        (Consumes-trans u v x bytes whole came more)

    pub complete_both : complete_replies (bytes ++ piece) ≡ complete_replies bytes ++ (after s piece).replies
    complete_both = complete-append bytes piece ∙ ap (λ (t : Cursor). complete_replies bytes ++ (after t piece).replies)
        (sym at)

    pub cursor_both : (after s piece).state ≡ (after first_cursor (bytes ++ piece)).state
    cursor_both = ap (λ (t : Cursor). (after t piece).state) at
        ∙ sym (ap (λ (p : After Cursor). p.state) (after-append first_cursor bytes piece))

    pub first_in_piece : WroteFirst cv w (after s piece).replies → IfSome u (λ input. WroteFirst cu w (replies input))
    first_in_piece h =
        known-more u x ((bytes ++ piece) ++ tail) (λ input. WroteFirst cu w (replies input)) came_both (λ rest.
        subst (λ (t : List ℕ). WroteFirst cu w (replies t)) (sym (append_assoc (bytes ++ piece) tail rest)) (
        subst (WroteFirst cu w) (sym (replies-append (bytes ++ piece) (tail ++ rest))) (
        first-more cu w (complete_replies (bytes ++ piece)) (others (bytes ++ piece) (tail ++ rest))
        (subst (WroteFirst cu w) (sym complete_both)
        (first-then cu cv w (complete_replies bytes) (after s piece).replies wrote h)))))

    pub front_in_piece : WroteFront cv w (after s piece).replies → IfSome u (λ input. WroteFront cu w (replies input))
    front_in_piece h =
        known-more u x ((bytes ++ piece) ++ tail) (λ input. WroteFront cu w (replies input)) came_both (λ rest.
        subst (λ (t : List ℕ). WroteFront cu w (replies t)) (sym (append_assoc (bytes ++ piece) tail rest)) (
        subst (WroteFront cu w) (sym (replies-append (bytes ++ piece) (tail ++ rest))) (
        front-more cu w (complete_replies (bytes ++ piece)) (others (bytes ++ piece) (tail ++ rest))
        (subst (WroteFront cu w) (sym complete_both)
        (front-then cu cv w (complete_replies bytes) (after s piece).replies wrote h)))))

    pub all_in_piece : WroteAll cv w (after s piece).replies → WroteAll cu w (complete_replies (bytes ++ piece))
    all_in_piece h = subst (WroteAll cu w) (sym complete_both)
        (wrote-then cu cv w (complete_replies bytes) (after s piece).replies wrote h)

    -- more came than the limit lets in
    pub read_too_much : (limit : ℕ) (Q R : Type 0) → length (bytes ++ piece) ≡ limit → 0 < length tail → R
        → WroteAll cv w (after s piece).replies
        → (read : List ℕ) × Consumes u x read × (Q ⊎ ((limit < length read) × R))
        × WroteAll cu w (complete_replies (take limit read))
    read_too_much limit Q R full some same h =
        let both = (bytes ++ piece) ++ tail in
        let e : take limit both ≡ bytes ++ piece = ap (λ (k : ℕ). take k both) (sym full)
        ∙ take-append_seam (bytes ++ piece) tail in (
          both,
          came_both,
          inr (omega (arith, length-append (bytes ++ piece) tail), same),
          subst (λ (t : List ℕ). WroteAll cu w (complete_replies t)) (sym e) (all_in_piece h),
        )

pub came-none : (u v x : Option (List ℕ)) (bytes buffer : List ℕ) (n : ℕ) → n ≡ 0 → Consumes u v bytes
    → Consumes v x (take n buffer) → Consumes u x bytes
came-none u v x bytes buffer n e came more =
    let none : Consumes v x [] = subst (λ (k : ℕ). Consumes v x (take k buffer)) e more in
    subst (Consumes u x) (append-nil bytes) (Consumes-trans u v x bytes [] came none)

pub read-failed : (u v x cu cv : Option (List ℕ)) (bytes : List ℕ) (limit : ℕ) (Q R : Type 0) → length bytes ≤ limit
    → Consumes u v bytes → Keeps v x → Q → WroteAll cu cv (complete_replies bytes)
    → (read : List ℕ) × Consumes u x read × (Q ⊎ ((limit < length read) × R))
    × WroteAll cu cv (complete_replies (take limit read))
read-failed u v x cu cv bytes limit Q R le came kept why wrote = (
  bytes,
  Consumes-kept u v x bytes came kept,
  inl why,
  subst (λ (t : List ℕ). WroteAll cu cv (complete_replies t))
      (sym (take_all limit bytes le)) wrote,
)

-- the piece that is used, and what is behind it in the buffer
pub cut_at : (buffer : List ℕ) (n used : ℕ) → used ≤ n → take n buffer ≡ take used buffer ++ drop used (take n buffer)
cut_at buffer n used le =
    sym (take-append-drop used (take n buffer)) ∙ ap (λ (t : List ℕ). t ++ drop used (take n buffer))
    (take-take used n buffer le)

pub came-all : (u v x : Option (List ℕ)) (bytes buffer : List ℕ) (n used : ℕ) → used ≡ n → Consumes u v bytes
    → Consumes v x (take n buffer) → Consumes u x (bytes ++ take used buffer)
came-all u v x bytes buffer n used e came more =
    Consumes-trans u v x bytes (take used buffer) came (subst (λ (k : ℕ). Consumes v x (take k buffer)) (sym e) more)

pub none_complete : complete_replies [] ≡ []
unfolding complete_replies ended_lines
none_complete = refl

pub not_begun : (after first_cursor []).state ≡ first_cursor
unfolding after
not_begun = refl

-- what is due where memory runs out
abbrev pub Due : Option (List ℕ) → Option (List ℕ) → Option (List ℕ) → Option (List ℕ) → Type 0
Due u x cu w = (bytes last : List ℕ) × Consumes u x (bytes ++ last) × (length last ≤ 4096)
    × WroteAtLeast cu w (complete_replies bytes)

pub due_then : (u v x cu cv w : Option (List ℕ)) (bytes last : List ℕ) (rs : List (List ℕ)) → Consumes u v bytes
    → Consumes v x last → length last ≤ 4096
    → WroteAll cu cv (complete_replies bytes) → WroteFirst cv w rs → Due u x cu w
due_then u v x cu cv w bytes last rs came more le wrote first = (
  bytes,
  last,
  Consumes-trans u v x bytes last came more,
  le,
  (concat first.0, Appends-trans cu cv w (concat (complete_replies bytes)) (concat first.0) wrote first.3),
)

pub due_none : (u cu : Option (List ℕ)) → Due u u cu cu
due_none u cu = ([], [], Consumes-nil u, omega arith, ([], rw none_complete (Appends-nil cu)))
