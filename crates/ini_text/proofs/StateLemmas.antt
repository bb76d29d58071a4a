-- A run over the lines amounts to the content.
use Rattle.std.proofs.Common.{◌≡◌, ℕ, suc, ◌+◌, Bool, true, false, cond, not, ◌||◌, List, [], ◌∷◌, ◌++◌, length, Option}
use Rattle.std.proofs.Common.{None, Some, refl, ap, ◌∙◌, sym, append_assoc, length-append, arith}
use Rattle.std.specs.List.{position_or_len}
use Rattle.std.specs.Option.{option_map, option_map_or}
use Rattle.ini_text.specs.Line.{Line, nothing, header, pair, other}
use Rattle.ini_text.specs.Content.{Section, same, sections_of, warnings_of, warned_after, is_warned, is_misused}
use Rattle.ini_text.specs.Content.{last_header, gives_key}
use Rattle.ini_text.specs.Reading.{State, has_key, has_name, position_of, with_pair, with_name, with_pair_at}
use Rattle.ini_text.specs.Reading.{has_key_at, sections_after, current_after, warns, step, start, run}
use Rattle.ini_text.proofs.NameLemmas.{append_nil, same_refl}
use Rattle.ini_text.proofs.TableLemmas.{with_pair-name}
use Rattle.ini_text.proofs.ContentLemmas.{with_pair_in, has_key_in, last_header-append, sections_of-plain}
use Rattle.ini_text.proofs.ContentLemmas.{sections_of-header, sections_of-pair, sections_of-early, has_key_in-sections}

-- the state after some lines
abbrev pub after : List Line → State
after ls = record {
  content = record { sections = sections_of ls; warnings = warnings_of ls };
  current = option_map (position_of (sections_of ls)) (last_header ls None);
  count = length ls;
}

one_more : (n : ℕ) → 1 + n ≡ suc n
one_more n = omega arith

position-push : {X : Type 0} (p : X → Bool) (xs : List X) (x : X) → p x ≡ true
    → position_or_len p (xs ++ x ∷ []) ≡ position_or_len p xs
position-push p [] x h = rw h refl
position-push p (y ∷ xs) x h = ap (λ n. cond (not (p y)) (1 + n) 0) (position-push p xs x h)

-- a name's section stands where it would
position-with_name : (ss : List Section) (n : List ℕ) → position_of (with_name ss n) n ≡ position_of ss n
position-with_name ss n =
    elim (has_name ss n) as (λ t. position_of (cond t ss (ss ++ record { name = n; pairs = [] } ∷ [])) n
    ≡ position_of ss n) [
      | true ↦ refl
      | false ↦ position-push (λ s. same n s.name) ss (record { name = n; pairs = [] })
          (same_refl n)
    ]

-- a pair moves no section
position-with_pair_in : (ss : List Section) (n k v m : List ℕ)
    → position_of (with_pair_in ss n k v) m ≡ position_of ss m
position-with_pair_in [] n k v m = refl
position-with_pair_in (s ∷ ss) n k v m =
    elim (same n s.name) as (λ t. position_of (cond t (with_pair s k v ∷ ss) (s ∷ with_pair_in ss n k v)) m
    ≡ position_of (s ∷ ss) m) [
      | true ↦ ap (λ x. cond (not (same m x)) (1 + position_of ss m) 0) (with_pair-name s k v)
      | false ↦ ap (λ i. cond (not (same m s.name)) (1 + i) 0) (position-with_pair_in ss n k v m)
    ]

put_at_position : (ss : List Section) (n k v : List ℕ) → with_pair_at ss (position_of ss n) k v ≡ with_pair_in ss n k v
put_at_position [] n k v = refl
put_at_position (s ∷ ss) n k v =
    elim (same n s.name) as (λ t. with_pair_at (s ∷ ss) (cond (not t) (1 + position_of ss n) 0) k v
    ≡ cond t (with_pair s k v ∷ ss) (s ∷ with_pair_in ss n k v)) [
      | true ↦ refl
      | false ↦ rw (one_more (position_of ss n)) (ap (λ xs. s ∷ xs) (put_at_position ss n k v))
    ]

has_at_position : (ss : List Section) (n k : List ℕ) → has_key_at ss (position_of ss n) k ≡ has_key_in ss n k
has_at_position [] n k = refl
has_at_position (s ∷ ss) n k =
    elim (same n s.name) as (λ t. has_key_at (s ∷ ss) (cond (not t) (1 + position_of ss n) 0) k
    ≡ cond t (has_key s.pairs k) (has_key_in ss n k)) [
      | true ↦ refl
      | false ↦ rw (one_more (position_of ss n)) (has_at_position ss n k)
    ]

warned_after-push : (before ls : List Line) (l : Line)
    → warned_after before (ls ++ l ∷ []) ≡ warned_after before ls ++ cond (is_warned (before ++ ls) l)
    ((length (before ++ ls) + 1) ∷ []) []
warned_after-push before [] l =
    rw (append_nil before)
    (elim (is_warned before l) as (λ t. cond t ((length before + 1) ∷ []) []
    ≡ cond t ((length before + 1) ∷ []) []) [ true ↦ refl | false ↦ refl ])
warned_after-push before (m ∷ ls) l =
    let ih = warned_after-push (before ++ m ∷ []) ls l in
    let ih' = rw (append_assoc before (m ∷ []) ls) at ih in
    elim (is_warned before m) as (λ t. cond t ((length before + 1) ∷ warned_after (before ++ m ∷ []) (ls ++ l ∷ []))
    (warned_after (before ++ m ∷ []) (ls ++ l ∷ []))
    ≡ cond t ((length before + 1) ∷ warned_after (before ++ m ∷ []) ls) (warned_after (before ++ m ∷ []) ls)
    ++ cond (is_warned (before ++ m ∷ ls) l) ((length (before ++ m ∷ ls) + 1) ∷ []) []) [
      | true ↦ ap (λ ns. (length before + 1) ∷ ns) ih'
      | false ↦ ih'
    ]

warnings_of-push : (ls : List Line) (l : Line)
    → warnings_of (ls ++ l ∷ []) ≡ cond (is_warned ls l) (warnings_of ls ++ (length ls + 1) ∷ []) (warnings_of ls)
unfolding warnings_of
warnings_of-push ls l = warned_after-push [] ls l
    ∙ elim (is_warned ls l) as (λ t. warned_after [] ls ++ cond t ((length ls + 1) ∷ []) []
    ≡ cond t (warned_after [] ls ++ (length ls + 1) ∷ []) (warned_after [] ls)) [ true ↦ refl | false ↦ append_nil _ ]

abbrev position_after : List Line → Option ℕ
position_after ls = option_map (position_of (sections_of ls)) (last_header ls None)

warns-after : (ls : List Line) (l : Line) → is_warned ls l ≡ warns (sections_of ls) (position_after ls) l
warns-after ls nothing = refl
warns-after ls (header n) = refl
warns-after ls other = refl
warns-after ls (pair k v) = by (last_header ls None)
  where
    by : (o : Option (List ℕ)) → option_map_or (λ name. gives_key ls name k || is_misused k v) o true
        ≡ warns (sections_of ls) (option_map (position_of (sections_of ls)) o) (pair k v)
    by None = refl
    by (Some n) = ap (λ t. t || is_misused k v)
        (sym (has_at_position (sections_of ls) n k ∙ has_key_in-sections ls n k))

sections-after : (ls : List Line) (l : Line)
    → sections_of (ls ++ l ∷ []) ≡ sections_after (sections_of ls) (position_after ls) l
sections-after ls nothing = sections_of-plain ls nothing refl (λ m h. refl)
sections-after ls (header n) = sections_of-header ls n
sections-after ls other = sections_of-plain ls other refl (λ m h. refl)
sections-after ls (pair k v) = by (last_header ls None) refl
  where
    by : (o : Option (List ℕ)) → last_header ls None ≡ o
        → sections_of (ls ++ pair k v ∷ []) ≡ sections_after (sections_of ls)
        (option_map (position_of (sections_of ls)) o) (pair k v)
    by None h = sections_of-early ls k v h
    by (Some n) h = sections_of-pair ls n k v h ∙ sym (put_at_position (sections_of ls) n k v)

current-after : (ls : List Line) (l : Line)
    → position_after (ls ++ l ∷ []) ≡ current_after (sections_of ls) (position_after ls) l
current-after ls nothing = λ i. option_map (position_of (sections-after ls nothing i))
    (last_header-append ls (nothing ∷ []) None i)
current-after ls other = λ i. option_map (position_of (sections-after ls other i))
    (last_header-append ls (other ∷ []) None i)
current-after ls (header n) = (λ i. option_map (position_of (sections-after ls (header n) i))
    (last_header-append ls (header n ∷ []) None i)) ∙ ap Some (position-with_name (sections_of ls) n)
current-after ls (pair k v) = ap (option_map (position_of (sections_of (ls ++ pair k v ∷ []))))
    (last_header-append ls (pair k v ∷ []) None) ∙ by (last_header ls None) refl
  where
    by : (o : Option (List ℕ)) → last_header ls None ≡ o
        → option_map (position_of (sections_of (ls ++ pair k v ∷ []))) o ≡ option_map (position_of (sections_of ls)) o
    by None h = refl
    by (Some n) h = ap Some (ap (λ ss. position_of ss n) (sections_of-pair ls n k v h)
        ∙ position-with_pair_in (sections_of ls) n k v n)

step-after : (ls : List Line) (l : Line) → step (after ls) l ≡ after (ls ++ l ∷ [])
step-after ls l =
    let w : cond (warns (sections_of ls) (position_after ls) l) (warnings_of ls ++ (length ls + 1) ∷ [])
    (warnings_of ls) ≡ warnings_of (ls ++ l ∷ []) =
    ap (λ t. cond t (warnings_of ls ++ (length ls + 1) ∷ []) (warnings_of ls)) (sym (warns-after ls l))
    ∙ sym (warnings_of-push ls l) in
    let n : length ls + 1 ≡ length (ls ++ l ∷ []) = sym (length-append ls (l ∷ [])) in
    λ i. record {
      content = record { sections = sym (sections-after ls l) i; warnings = w i };
      current = sym (current-after ls l) i;
      count = n i;
    }

pub run-after : (done ls : List Line) → run (after done) ls ≡ after (done ++ ls)
run-after done [] = ap after (sym (append_nil done))
run-after done (l ∷ ls) = ap (λ s. run s ls) (step-after done l) ∙ run-after (done ++ l ∷ []) ls
    ∙ ap after (append_assoc done (l ∷ []) ls)

-- what a run leaves is the content of its lines
pub run_start : (ls : List Line) → (run start ls).content
    ≡ record { sections = sections_of ls; warnings = warnings_of ls }
unfolding sections_of warnings_of
run_start ls = ap (λ s. s.content) (run-after [] ls)
