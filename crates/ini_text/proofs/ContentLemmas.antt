-- The content after one more line.
use Rattle.std.proofs.Common.{◌≡◌, ℕ, Bool, true, false, cond, ◌||◌, List, [], ◌∷◌, ◌++◌, map, Option, None, Some, refl}
use Rattle.std.proofs.Common.{ap, ◌∙◌, sym}
use Rattle.std.specs.List.{list_any, AllByRecursion}
use Rattle.std.specs.Option.{option_map_or}
use Rattle.std.proofs.lemmas.Bool.{false≢true}
use Rattle.ini_text.specs.Line.{Line, nothing, header, pair, other}
use Rattle.ini_text.specs.Content.{Pair, Section, same, same_key, headers, pairs_under, firsts, section_of, sections_of}
use Rattle.ini_text.specs.Content.{last_header, gives_key}
use Rattle.ini_text.specs.Reading.{has_key, has_name, with_pair, with_name}
use Rattle.ini_text.proofs.NameLemmas.{same_sym, same_as, IsSameness, same_laws, firsts-push, any-firsts, firsts_apart}
use Rattle.ini_text.proofs.NameLemmas.{append_nil}
use Rattle.ini_text.specs.Printable.{AreApart}

-- with the pair in the section of this name
abbrev pub with_pair_in : List Section → List ℕ → List ℕ → List ℕ → List Section
with_pair_in [] name key value = []
with_pair_in (s ∷ ss) name key value = cond (same name s.name) (with_pair s key value ∷ ss)
    (s ∷ with_pair_in ss name key value)

-- the section of this name has the key
abbrev pub has_key_in : List Section → List ℕ → List ℕ → Bool
has_key_in [] name key = false
has_key_in (s ∷ ss) name key = cond (same name s.name) (has_key s.pairs key) (has_key_in ss name key)

pub key_laws : IsSameness same_key
key_laws = record { flips = λ p q. same_sym p.key q.key; joins = λ p q r. same_as p.key q.key r.key }

-- the lines after ls stand under a header of the name
abbrev pub here_after : List ℕ → Bool → List Line → Bool
here_after name here [] = here
here_after name here (header n ∷ ls) = here_after name (same name n) ls
here_after name here (nothing ∷ ls) = here_after name here ls
here_after name here (pair k v ∷ ls) = here_after name here ls
here_after name here (other ∷ ls) = here_after name here ls

pub here_after-append : (name : List ℕ) (here : Bool) (ls ms : List Line)
    → here_after name here (ls ++ ms) ≡ here_after name (here_after name here ls) ms
here_after-append name here [] ms = refl
here_after-append name here (header n ∷ ls) ms = here_after-append name (same name n) ls ms
here_after-append name here (nothing ∷ ls) ms = here_after-append name here ls ms
here_after-append name here (pair k v ∷ ls) ms = here_after-append name here ls ms
here_after-append name here (other ∷ ls) ms = here_after-append name here ls ms

pub headers-append : (ls ms : List Line) → headers (ls ++ ms) ≡ headers ls ++ headers ms
headers-append [] ms = refl
headers-append (header n ∷ ls) ms = ap (λ ns. n ∷ ns) (headers-append ls ms)
headers-append (nothing ∷ ls) ms = headers-append ls ms
headers-append (pair k v ∷ ls) ms = headers-append ls ms
headers-append (other ∷ ls) ms = headers-append ls ms

pub pairs_under-append : (name : List ℕ) (here : Bool) (ls ms : List Line)
    → pairs_under name here (ls ++ ms) ≡ pairs_under name here ls ++ pairs_under name (here_after name here ls) ms
pairs_under-append name here [] ms = refl
pairs_under-append name here (header n ∷ ls) ms = pairs_under-append name (same name n) ls ms
pairs_under-append name here (nothing ∷ ls) ms = pairs_under-append name here ls ms
pairs_under-append name true (pair k v ∷ ls) ms = ap (λ ps. record { key = k; value = v } ∷ ps)
    (pairs_under-append name true ls ms)
pairs_under-append name false (pair k v ∷ ls) ms = pairs_under-append name false ls ms
pairs_under-append name here (other ∷ ls) ms = pairs_under-append name here ls ms

pub last_header-append : (ls ms : List Line) (o : Option (List ℕ))
    → last_header (ls ++ ms) o ≡ last_header ms (last_header ls o)
last_header-append [] ms o = refl
last_header-append (header n ∷ ls) ms o = last_header-append ls ms (Some n)
last_header-append (nothing ∷ ls) ms o = last_header-append ls ms o
last_header-append (pair k v ∷ ls) ms o = last_header-append ls ms o
last_header-append (other ∷ ls) ms o = last_header-append ls ms o

-- under the last header
pub here_after-last : (name : List ℕ) (ls : List Line) (o : Option (List ℕ))
    → here_after name (option_map_or (same name) o false) ls ≡ option_map_or (same name) (last_header ls o) false
here_after-last name [] o = refl
here_after-last name (header n ∷ ls) o = here_after-last name ls (Some n)
here_after-last name (nothing ∷ ls) o = here_after-last name ls o
here_after-last name (pair k v ∷ ls) o = here_after-last name ls o
here_after-last name (other ∷ ls) o = here_after-last name ls o

-- a name that no header gives has no pairs
pub no_pairs : (name : List ℕ) (ls : List Line) → list_any (same name) (headers ls) ≡ false
    → pairs_under name false ls ≡ []
no_pairs name [] h = refl
no_pairs name (header n ∷ ls) h = by (same name n) h (λ g. no_pairs name ls g)
  where
    by : (t : Bool) → (t || list_any (same name) (headers ls)) ≡ false
        → (list_any (same name) (headers ls) ≡ false → pairs_under name false ls ≡ []) → pairs_under name t ls ≡ []
    by true g ih = absurd (false≢true (sym g))
    by false g ih = ih g
no_pairs name (nothing ∷ ls) h = no_pairs name ls h
no_pairs name (pair k v ∷ ls) h = no_pairs name ls h
no_pairs name (other ∷ ls) h = no_pairs name ls h

-- equal names have the same pairs
pub pairs_under-same : (n m : List ℕ) (here : Bool) (ls : List Line) → same n m ≡ true
    → pairs_under n here ls ≡ pairs_under m here ls
pairs_under-same n m here [] h = refl
pairs_under-same n m here (header x ∷ ls) h = pairs_under-same n m (same n x) ls h
    ∙ ap (λ t. pairs_under m t ls) (same_as n m x h)
pairs_under-same n m here (nothing ∷ ls) h = pairs_under-same n m here ls h
pairs_under-same n m true (pair k v ∷ ls) h = ap (λ ps. record { key = k; value = v } ∷ ps)
    (pairs_under-same n m true ls h)
pairs_under-same n m false (pair k v ∷ ls) h = pairs_under-same n m false ls h
pairs_under-same n m here (other ∷ ls) h = pairs_under-same n m here ls h

map_same : {X Y : Type 0} (f g : X → Y) (xs : List X) → ((x : X) → f x ≡ g x) → map f xs ≡ map g xs
map_same f g [] h = refl
map_same f g (x ∷ xs) h = λ i. h x i ∷ map_same f g xs h i

pub any_same : {X : Type 0} (p q : X → Bool) (xs : List X) → ((x : X) → p x ≡ q x) → list_any p xs ≡ list_any q xs
any_same p q [] h = refl
any_same p q (x ∷ xs) h = λ i. h x i || any_same p q xs h i

any-map : {X Y : Type 0} (p : Y → Bool) (f : X → Y) (xs : List X) → list_any p (map f xs) ≡ list_any (λ x. p (f x)) xs
any-map p f [] = refl
any-map p f (x ∷ xs) = ap (λ t. p (f x) || t) (any-map p f xs)

map-push : {X Y : Type 0} (f : X → Y) (xs : List X) (x : X) → map f (xs ++ x ∷ []) ≡ map f xs ++ f x ∷ []
map-push f [] x = refl
map-push f (y ∷ xs) x = ap (λ ys. f y ∷ ys) (map-push f xs x)

section_same : (ls ms : List Line) (m : List ℕ) → pairs_under m false ms ≡ pairs_under m false ls
    → section_of ms m ≡ section_of ls m
section_same ls ms m e = ap (λ ps. record { name = m; pairs = firsts same_key ps }) e

-- a line that is nothing or anything else changes no section
pub sections_of-plain : (ls : List Line) (l : Line) → headers (l ∷ []) ≡ []
    → ((m : List ℕ) (here : Bool) → pairs_under m here (l ∷ []) ≡ []) → sections_of (ls ++ l ∷ []) ≡ sections_of ls
unfolding sections_of
sections_of-plain ls l h g =
    let hs : headers (ls ++ l ∷ []) ≡ headers ls = headers-append ls (l ∷ []) ∙ ap (λ ns. headers ls ++ ns) h
    ∙ append_nil (headers ls) in
    ap (λ ns. map (section_of (ls ++ l ∷ [])) (firsts same ns)) hs
    ∙ map_same _ _ (firsts same (headers ls))
    (λ m. section_same ls (ls ++ l ∷ []) m (pairs_under-append m false ls (l ∷ [])
    ∙ ap (λ ps. pairs_under m false ls ++ ps) (g m _) ∙ append_nil _))

-- a header adds its section, where it is new
pub sections_of-header : (ls : List Line) (n : List ℕ)
    → sections_of (ls ++ header n ∷ []) ≡ with_name (sections_of ls) n
unfolding sections_of
sections_of-header ls n =
    let ms = ls ++ header n ∷ [] in
    let d = firsts same (headers ls) in
    let known : has_name (map (section_of ls) d) n ≡ list_any (λ y. same y n)
    (headers ls) = any-map (λ s. same n s.name) (section_of ls) d ∙ any-firsts same same_laws n (headers ls)
    ∙ any_same (same n) (λ y. same y n) (headers ls) (λ y. same_sym n y) in
    let each : (m : List ℕ) → section_of ms m
    ≡ section_of ls m = λ m. section_same ls ms m (pairs_under-append m false ls (header n ∷ []) ∙ append_nil _) in
    ap (λ ns. map (section_of ms) (firsts same ns)) (headers-append ls (header n ∷ []))
    ∙ ap (map (section_of ms)) (firsts-push same (headers ls) n)
    ∙ map_same _ _ (cond (list_any (λ y. same y n) (headers ls)) d (d ++ n ∷ [])) each
    ∙ by (list_any (λ y. same y n) (headers ls)) refl
    ∙ ap (λ t. cond t (map (section_of ls) d) (map (section_of ls) d ++ record { name = n; pairs = [] } ∷ []))
    (sym known)
  where
    by : (t : Bool) → list_any (λ y. same y n) (headers ls) ≡ t
        → map (section_of ls) (cond t (firsts same (headers ls)) (firsts same (headers ls) ++ n ∷ []))
        ≡ cond t (map (section_of ls) (firsts same (headers ls)))
        (map (section_of ls) (firsts same (headers ls)) ++ record { name = n; pairs = [] } ∷ [])
    by true h = refl
    by false h = map-push (section_of ls) (firsts same (headers ls)) n
        ∙ ap (λ ps. map (section_of ls) (firsts same (headers ls)) ++ record { name = n; pairs = firsts same_key ps }
        ∷ []) (no_pairs n ls (any_same (same n) (λ y. same y n) (headers ls) (λ y. same_sym n y) ∙ h))

-- what a pair adds to a section
added_pair : (ls : List Line) (n k v m : List ℕ) → last_header ls None ≡ Some n
    → pairs_under m false (ls ++ pair k v ∷ []) ≡ pairs_under m false ls ++ cond (same n m)
    (record { key = k; value = v } ∷ []) []
added_pair ls n k v m last =
    pairs_under-append m false ls (pair k v ∷ [])
    ∙ ap (λ t. pairs_under m false ls ++ pairs_under m t (pair k v ∷ []))
    (here_after-last m ls None ∙ ap (λ o. option_map_or (same m) o false) last ∙ same_sym m n)

with_pair_of : (ls : List Line) (n k v m : List ℕ) → last_header ls None ≡ Some n → same n m ≡ true
    → section_of (ls ++ pair k v ∷ []) m ≡ with_pair (section_of ls m) k v
with_pair_of ls n k v m last at =
    let ps = pairs_under m false ls in
    let p : Pair = record { key = k; value = v } in
    let seen : list_any (λ y. same_key y p) ps ≡ has_key (firsts same_key ps) k = any_same (λ y. same_key y p)
    (same_key p) ps (λ y. same_sym y.key k) ∙ sym (any-firsts same_key key_laws p ps) in
    ap (λ qs. record { name = m; pairs = firsts same_key qs })
    (added_pair ls n k v m last ∙ ap (λ t. ps ++ cond t (p ∷ []) []) at)
    ∙ ap (λ qs. record { name = m; pairs = qs }) (firsts-push same_key ps p)
    ∙ ap (λ t. record { name = m; pairs = cond t (firsts same_key ps) (firsts same_key ps ++ p ∷ []) }) seen
    ∙ elim (has_key (firsts same_key ps) k) as (λ t. record {
      name = m;
      pairs = cond t (firsts same_key ps)
          (firsts same_key ps ++ p ∷ []);
    } ≡ cond t (section_of ls m)
    (record { name = m; pairs = firsts same_key ps ++ p ∷ [] })) [ true ↦ refl | false ↦ refl ]

without_pair : (ls : List Line) (n k v m : List ℕ) → last_header ls None ≡ Some n → same n m ≡ false
    → section_of (ls ++ pair k v ∷ []) m ≡ section_of ls m
without_pair ls n k v m last at = section_same ls (ls ++ pair k v ∷ []) m (added_pair ls n k v m last
    ∙ ap (λ t. pairs_under m false ls ++ cond t (record { key = k; value = v } ∷ []) []) at ∙ append_nil _)

all_without : (ls : List Line) (n k v m : List ℕ) (ds : List (List ℕ)) → last_header ls None ≡ Some n → same n m ≡ true
    → AllByRecursion (λ y. same m y ≡ false) ds → map (section_of (ls ++ pair k v ∷ [])) ds ≡ map (section_of ls) ds
all_without ls n k v m [] last at h = refl
all_without ls n k v m (d ∷ ds) last at h = λ i. without_pair ls n k v d last (same_as n m d at ∙ h.0) i
    ∷ all_without ls n k v m ds last at h.1 i

pair_in : (ls : List Line) (n k v : List ℕ) (ds : List (List ℕ)) → last_header ls None ≡ Some n → AreApart same ds
    → map (section_of (ls ++ pair k v ∷ [])) ds ≡ with_pair_in (map (section_of ls) ds) n k v
pair_in ls n k v [] last h = refl
pair_in ls n k v (m ∷ ds) last h = by (same n m) refl (pair_in ls n k v ds last h.1)
  where
    by : (t : Bool) → same n m ≡ t → map (section_of (ls ++ pair k v ∷ [])) ds
        ≡ with_pair_in (map (section_of ls) ds) n k v
        → section_of (ls ++ pair k v ∷ []) m ∷ map (section_of (ls ++ pair k v ∷ [])) ds
        ≡ cond t (with_pair (section_of ls m) k v ∷ map (section_of ls) ds)
        (section_of ls m ∷ with_pair_in (map (section_of ls) ds) n k v)
    by true at ih = λ i. with_pair_of ls n k v m last at i ∷ all_without ls n k v m ds last at h.0 i
    by false at ih = λ i. without_pair ls n k v m last at i ∷ ih i

-- a pair goes to the section of the last header
pub sections_of-pair : (ls : List Line) (n k v : List ℕ) → last_header ls None ≡ Some n
    → sections_of (ls ++ pair k v ∷ []) ≡ with_pair_in (sections_of ls) n k v
unfolding sections_of
sections_of-pair ls n k v last =
    ap (λ ns. map (section_of (ls ++ pair k v ∷ [])) (firsts same ns))
    (headers-append ls (pair k v ∷ []) ∙ append_nil (headers ls))
    ∙ pair_in ls n k v (firsts same (headers ls)) last (firsts_apart same (headers ls))

-- and before the first header nowhere
pub sections_of-early : (ls : List Line) (k v : List ℕ) → last_header ls None ≡ None
    → sections_of (ls ++ pair k v ∷ []) ≡ sections_of ls
unfolding sections_of
sections_of-early ls k v last =
    ap (λ ns. map (section_of (ls ++ pair k v ∷ [])) (firsts same ns))
    (headers-append ls (pair k v ∷ []) ∙ append_nil (headers ls))
    ∙ map_same _ _ (firsts same (headers ls))
    (λ m. section_same ls (ls ++ pair k v ∷ []) m (pairs_under-append m false ls (pair k v ∷ [])
    ∙ ap (λ t. pairs_under m false ls ++ pairs_under m t (pair k v ∷ []))
    (here_after-last m ls None ∙ ap (λ o. option_map_or (same m) o false) last) ∙ append_nil _))

key_in : (ls : List Line) (n k : List ℕ) (ds : List (List ℕ))
    → has_key_in (map (section_of ls) ds) n k ≡ cond (list_any (same n) ds) (gives_key ls n k) false
key_in ls n k [] = refl
key_in ls n k (m ∷ ds) = by (same n m) refl (key_in ls n k ds)
  where
    by : (t : Bool) → same n m ≡ t → has_key_in (map (section_of ls) ds) n k ≡ cond (list_any (same n) ds)
        (gives_key ls n k) false → cond t (has_key (firsts same_key (pairs_under m false ls)) k)
        (has_key_in (map (section_of ls) ds) n k) ≡ cond (t || list_any (same n) ds) (gives_key ls n k) false
    by true at ih = any-firsts same_key key_laws (record { key = k; value = [] }) (pairs_under m false ls)
        ∙ ap (list_any (λ p. same k p.key)) (sym (pairs_under-same n m false ls at))
    by false at ih = ih

-- whether a line under a header of the name gave the key
pub has_key_in-sections : (ls : List Line) (n k : List ℕ) → has_key_in (sections_of ls) n k ≡ gives_key ls n k
unfolding sections_of
has_key_in-sections ls n k = key_in ls n k (firsts same (headers ls))
    ∙ ap (λ t. cond t (gives_key ls n k) false) (any-firsts same same_laws n (headers ls))
    ∙ by (list_any (same n) (headers ls)) refl
  where
    by : (t : Bool) → list_any (same n) (headers ls) ≡ t → cond t (gives_key ls n k) false ≡ gives_key ls n k
    by true h = refl
    by false h = ap (list_any (λ p. same k p.key)) (sym (no_pairs n ls h))
