-- Entries are put in order, and are refused where they are too many.
use Rattle.std.proofs.Common.{◌≡◌, ℕ, zero, suc, ◌+◌, ◌<◌, ◌≤◌, Bool, true, false, List, [], ◌∷◌, ◌++◌, length, take}
use Rattle.std.proofs.Common.{drop, get_or, Result, Ok, Err, refl, sym, ap, ◌∙◌, arith, add-one, inl, inr, ltb-true}
use Rattle.std.proofs.Common.{append-nil, take-append-drop, take_all}
use Rattle.std.specs.Prelude.{if◌then◌else◌, nat_lt}
use Rattle.std.specs.declared.cmp.Ordering.{Ordering}
use Rattle.std.specs.declared.cmp.Ordering.TheVariants.{Less, Equal, Greater}
use Rattle.std.specs.Ordering.{match_ordering}
use Rattle.std.specs.BTreeSet.{insert_key}
use Rattle.std.specs.List.{flat_map}
use Rattle.std.proofs.lemmas.Bool.{cases_lt, lt-ltb}
use Rattle.std.proofs.lemmas.List.{take_more}
use Rattle.std.proofs.lemmas.List.Concat.{flat_map-append}
use Rattle.std.specs.Bool.{OnFalse}
use Rattle.ini_text.specs.Content.{Content, Section}
use Rattle.eds_places.specs.declared.fault.DeviceFault.{DeviceFault}
use Rattle.eds_places.specs.declared.fault.DeviceFault.TheVariants.{Memory, Range, Limit, BadByte}
use Rattle.eds_places.specs.Faults.{is_memory, unless_too_many, most_entries}
use Rattle.co_dict.specs.Places.{place_cmp}
use Rattle.eds_places.specs.Places.{first_subs, put_in_order, places_given, pairs_of}

pub put-append : (done ps qs : List (ℕ × ℕ)) → put_in_order done (ps ++ qs) ≡ put_in_order (put_in_order done ps) qs
put-append done [] qs = refl
put-append done (p ∷ ps) qs = put-append (insert_key place_cmp done p) ps qs

insert_longer : (xs : List (ℕ × ℕ)) (k : ℕ × ℕ) → length xs ≤ length (insert_key place_cmp xs k)
insert_longer [] k = omega arith
insert_longer (x ∷ xs) k = by (place_cmp k x) (insert_longer xs k)
  where
    by : (o : Ordering) → length xs ≤ length (insert_key place_cmp xs k)
        → length (x ∷ xs) ≤ length (match_ordering o (k ∷ x ∷ xs) (x ∷ xs) (x ∷ insert_key place_cmp xs k))
    by Less h = omega arith
    by Equal h = omega arith
    by Greater h = omega arith

pub put_longer : (done ps : List (ℕ × ℕ)) → length done ≤ length (put_in_order done ps)
put_longer done [] = omega arith
put_longer done (p ∷ ps) = omega (arith, insert_longer done p, put_longer (insert_key place_cmp done p) ps)

-- what isn't refused is all, and not too much
pub not_refused : (all new : List (ℕ × ℕ)) → unless_too_many all all ≡ Ok new → (new ≡ all) × (length new ≤ most_entries)
not_refused all new h = elim (cases_lt most_entries (length all)) [
  | inl large ↦ let t : nat_lt most_entries (length all) ≡ true = lt-ltb most_entries (length all) large
      in absurd (refused (nat_lt most_entries (length all)) t h)
  | inr small ↦ by (nat_lt most_entries (length all)) small h
]
  where
    refused : (b : Bool) → b ≡ true → let r : Result (List (ℕ × ℕ)) DeviceFault = if b then Err Limit else Ok all
        in r ≡ Ok new → ⊥
    refused true t e = cc
    refused false t e = cc

    by : (b : Bool) → length all ≤ most_entries
        → (let r : Result (List (ℕ × ℕ)) DeviceFault = if b then Err Limit else Ok all in r ≡ Ok new)
        → (new ≡ all) × (length new ≤ most_entries)
    by true s e = cc
    by false s e = let same : new ≡ all = cc in (same, rw same s)

-- what was refused for too many is refused with more
pub still_refused : (fault : DeviceFault) (some all : List (ℕ × ℕ)) → length some ≤ length all
    → OnFalse (is_memory fault) (unless_too_many some some ≡ Err fault)
    → OnFalse (is_memory fault) (unless_too_many all all ≡ Err fault)
still_refused Memory some all le h = tt
still_refused Range some all le h = by (nat_lt most_entries (length some)) h
  where
    by : (b : Bool) → (let r : Result (List (ℕ × ℕ)) DeviceFault = if b then Err Limit else Ok some in r ≡ Err Range)
        → unless_too_many all all ≡ Err Range
    by true e = cc
    by false e = cc
still_refused BadByte some all le h = by (nat_lt most_entries (length some)) h
  where
    by : (b : Bool) → (let r : Result (List (ℕ × ℕ)) DeviceFault = if b then Err Limit else Ok some in r ≡ Err BadByte)
        → unless_too_many all all ≡ Err BadByte
    by true e = cc
    by false e = cc
still_refused Limit some all le h = by (nat_lt most_entries (length some)) refl h
  where
    large : nat_lt most_entries (length some) ≡ true → unless_too_many all all ≡ Err Limit
    large t = let more : nat_lt most_entries (length all) ≡ true = lt-ltb most_entries (length all)
        (omega (arith, ltb-true most_entries (length some) t))
        in ap (λ (b : Bool). let r : Result (List (ℕ × ℕ)) DeviceFault = if b then Err Limit else Ok all in r) more

    by : (b : Bool) → nat_lt most_entries (length some) ≡ b
        → (let r : Result (List (ℕ × ℕ)) DeviceFault = if b then Err Limit else Ok some in r ≡ Err Limit)
        → unless_too_many all all ≡ Err Limit
    by true t e = large t
    by false t e = cc

-- one more sub
pub subs_more : (done keys : List (ℕ × ℕ)) (index n : ℕ) → keys ≡ put_in_order done (first_subs index n)
    → put_in_order done (first_subs index (n + 1)) ≡ put_in_order keys ((index, n) ∷ [])
subs_more done keys index n h = rw (add-one, h) (put-append done (first_subs index n) ((index, n) ∷ []))

pub subs_longer : (done : List (ℕ × ℕ)) (index k n : ℕ) → k ≤ n
    → length (put_in_order done (first_subs index k)) ≤ length (put_in_order done (first_subs index n))
subs_longer done index zero zero h = omega arith
subs_longer done index (suc k) zero h = absurd (omega arith)
subs_longer done index k (suc n) h = elim (cases_lt k (suc n)) [
  | inl lt ↦
      let ih = subs_longer done index k n (omega arith) in
      let step = put_longer (put_in_order done (first_subs index n)) ((index, n) ∷ []) in
      rw put-append (omega (arith, ih, step))
  | inr ge ↦ let same : k ≡ suc n = omega arith in rw same (omega arith)
]

-- one more section
pub sections_more : (keys : List (ℕ × ℕ)) (ss : List Section) (i : ℕ) (s : Section) → i < length ss → s ≡ get_or ss i s
    → keys ≡ put_in_order [] (flat_map places_given (take i ss))
    → put_in_order [] (flat_map places_given (take (i + 1) ss)) ≡ put_in_order keys (places_given s)
sections_more keys ss i s lt is h =
    let more : take (i + 1) ss ≡ take i ss ++ s ∷ [] = take_more ss i s lt ∙ ap (λ x. take i ss ++ x ∷ []) (sym is) in
    rw (more, h)
    (ap (put_in_order []) (flat_map-append places_given (take i ss) (s ∷ [])
    ∙ ap (λ xs. flat_map places_given (take i ss) ++ xs) (append-nil (places_given s)))
    ∙ put-append [] (flat_map places_given (take i ss)) (places_given s))

pub sections_longer : (ss : List Section) (i : ℕ)
    → length (put_in_order [] (flat_map places_given (take i ss))) ≤ length (pairs_of ss)
unfolding pairs_of
sections_longer ss i =
    let whole : put_in_order [] (flat_map places_given ss)
    ≡ put_in_order (put_in_order [] (flat_map places_given (take i ss))) (flat_map places_given (drop i ss)) =
    ap (λ xs. put_in_order [] (flat_map places_given xs)) (sym (take-append-drop i ss))
    ∙ ap (put_in_order []) (flat_map-append places_given (take i ss) (drop i ss))
    ∙ put-append [] (flat_map places_given (take i ss)) (flat_map places_given (drop i ss)) in
    rw whole (put_longer (put_in_order [] (flat_map places_given (take i ss))) (flat_map places_given (drop i ss)))

-- what isn't too much is given
pub none_refused : (all given : List (ℕ × ℕ)) → length all ≤ most_entries → given ≡ all → unless_too_many all all ≡ Ok given
none_refused all given small same = rw same (by (nat_lt most_entries (length all)) refl)
  where
    by : (b : Bool) → nat_lt most_entries (length all) ≡ b
        → (let r : Result (List (ℕ × ℕ)) DeviceFault = if b then Err Limit else Ok all in r ≡ Ok all)
    by true t = absurd (omega (arith, ltb-true most_entries (length all) t))
    by false t = refl

-- all sections are seen
pub all_sections : (keys : List (ℕ × ℕ)) (ss : List Section) (i : ℕ) → length ss ≤ i
    → keys ≡ put_in_order [] (flat_map places_given (take i ss)) → keys ≡ pairs_of ss
unfolding pairs_of
all_sections keys ss i h is = is ∙ ap (λ xs. put_in_order [] (flat_map places_given xs)) (take_all i ss h)

-- ---- what is read of a content, unless they are too many

pub places_refused : (fault : DeviceFault) (places : List (ℕ × ℕ)) (content : Content)
    → OnFalse (is_memory fault) (unless_too_many places places ≡ Err fault)
    → OnFalse (is_memory fault) (unless_too_many places content ≡ Err fault)
places_refused Memory places content h = tt
places_refused Range places content h = by (nat_lt most_entries (length places)) h
  where
    by : (b : Bool) → (let r : Result (List (ℕ × ℕ)) DeviceFault = if b then Err Limit else Ok places in r ≡ Err Range)
        → (let r : Result Content DeviceFault = if b then Err Limit else Ok content in r ≡ Err Range)
    by true e = cc
    by false e = cc
places_refused Limit places content h = by (nat_lt most_entries (length places)) h
  where
    by : (b : Bool) → (let r : Result (List (ℕ × ℕ)) DeviceFault = if b then Err Limit else Ok places in r ≡ Err Limit)
        → (let r : Result Content DeviceFault = if b then Err Limit else Ok content in r ≡ Err Limit)
    by true e = refl
    by false e = cc
places_refused BadByte places content h = by (nat_lt most_entries (length places)) h
  where
    by : (b : Bool) → (let r : Result (List (ℕ × ℕ)) DeviceFault = if b then Err Limit else Ok places
        in r ≡ Err BadByte) → (let r : Result Content DeviceFault = if b then Err Limit else Ok content
        in r ≡ Err BadByte)
    by true e = cc
    by false e = cc

pub places_given_back : (places given : List (ℕ × ℕ)) (content : Content) → unless_too_many places places ≡ Ok given
    → (unless_too_many places content ≡ Ok content) × ((given ≡ places) × (length given ≤ most_entries))
places_given_back places given content h = (by (nat_lt most_entries (length places)) h, not_refused places given h)
  where
    by : (b : Bool) → (let r : Result (List (ℕ × ℕ)) DeviceFault = if b then Err Limit else Ok places in r ≡ Ok given)
        → (let r : Result Content DeviceFault = if b then Err Limit else Ok content in r ≡ Ok content)
    by true e = cc
    by false e = refl
