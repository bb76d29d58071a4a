-- What a content has at a key is what the first line gives.
use Rattle.std.proofs.Common.{◌≡◌, ℕ, Bool, true, false, cond, ◌||◌, List, [], ◌∷◌, ◌++◌, Option, None, Some, refl, ap}
use Rattle.std.proofs.Common.{◌∙◌, sym, subst, append_assoc}
use Rattle.std.specs.List.{list_any}
use Rattle.std.specs.Option.{option_map_or}
use Rattle.std.proofs.lemmas.Bool.{false≢true}
use Rattle.ini_text.specs.Line.{Line, nothing, header, pair, other}
use Rattle.ini_text.specs.Content.{Pair, same, same_key, sections_of, pairs_under, last_header, gives_key, value_at}
use Rattle.ini_text.specs.Content.{content_at}
use Rattle.ini_text.specs.First.{GivesFirst}
use Rattle.ini_text.proofs.NameLemmas.{append_nil, list_any-push}
use Rattle.ini_text.proofs.ContentLemmas.{here_after, here_after-last, here_after-append, pairs_under-append}
use Rattle.ini_text.proofs.LawLemmas.{first_counts}

value_at-append : (ps qs : List Pair) (key : List ℕ) → list_any (λ p. same key p.key) ps ≡ false
    → value_at (ps ++ qs) key ≡ value_at qs key
value_at-append [] qs key h = refl
value_at-append (p ∷ ps) qs key h = by (same key p.key) h (value_at-append ps qs key)
  where
    by : (t : Bool) → (t || list_any (λ p. same key p.key) ps) ≡ false
        → (list_any (λ p. same key p.key) ps ≡ false → value_at (ps ++ qs) key ≡ value_at qs key)
        → cond t (Some p.value) (value_at (ps ++ qs) key) ≡ value_at qs key
    by true h ih = absurd (false≢true (sym h))
    by false h ih = ih h

pub value_from_first : (ls : List Line) (name key v : List ℕ) → GivesFirst ls name key v
    → content_at (sections_of ls) name key ≡ Some v
value_from_first ls name key v g =
    let here : here_after name false g.before ≡ true = here_after-last name g.before None
    ∙ ap (λ o. option_map_or (same name) o false) g.under ∙ g.named in
    first_counts ls name key
    ∙ ap (λ ms. value_at (pairs_under name false ms) key) g.stands
    ∙ ap (λ ps. value_at ps key) (pairs_under-append name false g.before (pair g.spelled v ∷ g.later)
    ∙ ap (λ t. pairs_under name false g.before ++ pairs_under name t (pair g.spelled v ∷ g.later)) here)
    ∙ value_at-append (pairs_under name false g.before) (pairs_under name true (pair g.spelled v ∷ g.later)) key g.first
    ∙ ap (λ t. cond t (Some v) (value_at (pairs_under name true g.later) key)) g.keyed

-- what the lines so far give, with one line more
gives-push : (done : List Line) (l : Line) (name key : List ℕ)
    → gives_key (done ++ l ∷ []) name key ≡ list_any (λ p. same key p.key)
    (pairs_under name false done ++ pairs_under name (here_after name false done) (l ∷ []))
gives-push done l name key = ap (list_any (λ p. same key p.key)) (pairs_under-append name false done (l ∷ []))

more : (done ls : List Line) (l : Line) (name key v : List ℕ) → GivesFirst ((done ++ l ∷ []) ++ ls) name key v
    → GivesFirst (done ++ l ∷ ls) name key v
more done ls l name key v g = subst (λ ms. GivesFirst ms name key v) (append_assoc done (l ∷ []) ls) g

pub heading_of : (o : Option (List ℕ)) (name : List ℕ) → option_map_or (same name) o false ≡ true
    → (n : List ℕ) × (o ≡ Some n) × (same name n ≡ true)
heading_of None name h = absurd (false≢true h)
heading_of (Some n) name h = (n, refl, h)

found : (done ls : List Line) (name key v : List ℕ) → gives_key done name key ≡ false
    → value_at (pairs_under name (here_after name false done) ls) key ≡ Some v → GivesFirst (done ++ ls) name key v
found done [] name key v none h = cc
found done (header n ∷ ls) name key v none h =
    more done ls (header n) name key v (found (done ++ header n ∷ []) ls name key v
    (gives-push done (header n) name key ∙ ap (list_any (λ p. same key p.key)) (append_nil _) ∙ none)
    (rw (here_after-append name false done (header n ∷ [])) h))
found done (nothing ∷ ls) name key v none h =
    more done ls nothing name key v (found (done ++ nothing ∷ []) ls name key v
    (gives-push done nothing name key ∙ ap (list_any (λ p. same key p.key)) (append_nil _) ∙ none)
    (rw (here_after-append name false done (nothing ∷ [])) h))
found done (other ∷ ls) name key v none h =
    more done ls other name key v (found (done ++ other ∷ []) ls name key v
    (gives-push done other name key ∙ ap (list_any (λ p. same key p.key)) (append_nil _) ∙ none)
    (rw (here_after-append name false done (other ∷ [])) h))
found done (pair k w ∷ ls) name key v none h =
    by (here_after name false done)
    (same key k) refl refl h (λ g f. more done ls (pair k w) name key v
    (found (done ++ pair k w ∷ []) ls name key v g (rw (here_after-append name false done (pair k w ∷ [])) f)))
  where
    by : (t u : Bool) → here_after name false done ≡ t → same key k ≡ u
        → value_at (cond t (record { key = k; value = w } ∷ pairs_under name t ls) (pairs_under name t ls)) key ≡ Some v
        → (gives_key (done ++ pair k w ∷ []) name key ≡ false
        → value_at (pairs_under name (here_after name false done) ls) key ≡ Some v
        → GivesFirst (done ++ pair k w ∷ ls) name key v)
        → GivesFirst (done ++ pair k w ∷ ls) name key v
    by false u e g h rest = rest (gives-push done (pair k w) name key
        ∙ ap (λ t. list_any (λ p. same key p.key) (pairs_under name false done ++ pairs_under name t (pair k w ∷ []))) e
        ∙ ap (list_any (λ p. same key p.key)) (append_nil _) ∙ none) (rw e h)
    by true false e g h rest =
        rest
        (gives-push done (pair k w) name key
        ∙ ap (λ t. list_any (λ p. same key p.key)
        (pairs_under name false done ++ pairs_under name t (pair k w ∷ []))) e
        ∙ list_any-push same_key (λ p. same key p.key) (pairs_under name false done) (record { key = k; value = w })
        ∙ ap (λ t. t || same key k) none ∙ g)
        (rw e (rw g at h))
    by true true e g h rest =
        let head = heading_of (last_header done None) name (sym (here_after-last name done None) ∙ e) in
        let same_value : w ≡ v = let s : Some w ≡ Some v = rw g at h in cc in
        record {
          before = done;
          heading = head.0;
          spelled = k;
          later = ls;
          stands = ap (λ x. done ++ pair k x ∷ ls) same_value;
          under = head.1;
          named = head.2;
          keyed = g;
          first = none;
        }

pub first_from_value : (ls : List Line) (name key v : List ℕ) → content_at (sections_of ls) name key ≡ Some v
    → GivesFirst ls name key v
first_from_value ls name key v h = found [] ls name key v refl (sym (first_counts ls name key) ∙ h)
