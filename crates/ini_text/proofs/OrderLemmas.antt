-- Where sections and pairs stand: the first of equal elements, by position.
use Rattle.std.proofs.Common.{◌≡◌, ℕ, zero, suc, ◌+◌, Bool, true, false, cond, List, [], ◌∷◌, ◌++◌, map, length}
use Rattle.std.proofs.Common.{slice_get, None, Some, refl, ap, ◌∙◌, sym, subst, append_assoc, add-zero, length-append}
use Rattle.std.proofs.Common.{arith}
use Rattle.std.specs.List.{list_any}
use Rattle.std.specs.Option.{option_map_or}
use Rattle.std.proofs.lemmas.List.{length-map}
use Rattle.ini_text.specs.Line.{Line, nothing, header, pair, other}
use Rattle.ini_text.specs.Content.{Pair, same, same_key, headers, pairs_under, firsts, section_of, sections_of}
use Rattle.ini_text.specs.Content.{last_header}
use Rattle.ini_text.specs.Order.{OpensAt, GivesAt}
use Rattle.ini_text.proofs.NameLemmas.{append_nil, same_sym, firsts-push}
use Rattle.ini_text.proofs.ContentLemmas.{here_after, here_after-last, headers-append, pairs_under-append, any_same}
use Rattle.ini_text.proofs.FirstLemmas.{heading_of}

slice_get-seam : {X : Type 0} (xs ys : List X) (x : X) → slice_get (xs ++ x ∷ ys) (length xs) ≡ Some x
slice_get-seam [] ys x = refl
slice_get-seam (y ∷ xs) ys x = slice_get-seam xs ys x

module _ {X : Type 0} (e : X → X → Bool) where
  -- those of xs that nothing before equals, where some were seen
  abbrev pub news : List X → List X → List X
  news seen [] = []
  news seen (x ∷ xs) = cond (list_any (λ y. e y x) seen) (news (seen ++ x ∷ []) xs) (x ∷ news (seen ++ x ∷ []) xs)

  pub firsts-append : (seen xs : List X) → firsts e (seen ++ xs) ≡ firsts e seen ++ news seen xs
  firsts-append seen [] = ap (firsts e) (append_nil seen) ∙ sym (append_nil (firsts e seen))
  firsts-append seen (x ∷ xs) =
      ap (firsts e) (sym (append_assoc seen (x ∷ []) xs))
      ∙ firsts-append (seen ++ x ∷ []) xs
      ∙ ap (λ ys. ys ++ news (seen ++ x ∷ []) xs) (firsts-push e seen x)
      ∙ by (list_any (λ y. e y x) seen)
    where
      by : (t : Bool) → cond t (firsts e seen) (firsts e seen ++ x ∷ []) ++ news (seen ++ x ∷ []) xs
          ≡ firsts e seen ++ cond t (news (seen ++ x ∷ []) xs) (x ∷ news (seen ++ x ∷ []) xs)
      by true = refl
      by false = append_assoc (firsts e seen) (x ∷ []) (news (seen ++ x ∷ []) xs)

  -- x stands in xs with nothing before it that equals it, and the position counts the first ones before it
  pub record FirstAt (xs : List X) (position : ℕ) (x : X) : Type 0 where
    pub before : List X
    pub later : List X
    pub stands : xs ≡ before ++ x ∷ later
    pub new : list_any (λ y. e y x) before ≡ false
    pub counted : position ≡ length (firsts e before)

  found : (seen xs : List X) (j : ℕ) (x : X) → slice_get (news seen xs) j ≡ Some x
      → FirstAt (seen ++ xs) (length (firsts e seen) + j) x
  found seen [] j x h = cc
  found seen (y ∷ xs) j x h =
      by (list_any (λ z. e z y) seen) refl j h
      (λ k g. subst (λ zs. FirstAt zs (length (firsts e (seen ++ y ∷ [])) + k) x) (append_assoc seen (y ∷ []) xs)
      (found (seen ++ y ∷ []) xs k x g))
    where
      by : (t : Bool) → list_any (λ z. e z y) seen ≡ t → (j : ℕ)
          → slice_get (cond t (news (seen ++ y ∷ []) xs) (y ∷ news (seen ++ y ∷ []) xs)) j ≡ Some x
          → ((k : ℕ) → slice_get (news (seen ++ y ∷ []) xs) k ≡ Some x
          → FirstAt (seen ++ y ∷ xs) (length (firsts e (seen ++ y ∷ [])) + k) x)
          → FirstAt (seen ++ y ∷ xs) (length (firsts e seen) + j) x
      by true a j g rest = subst (λ (ys : List X). FirstAt (seen ++ y ∷ xs) (length ys + j) x)
          (firsts-push e seen y ∙ ap (λ t. cond t (firsts e seen) (firsts e seen ++ y ∷ [])) a) (rest j g)
      by false a zero g rest =
          let same_one : y ≡ x = cc in
          record {
            before = seen;
            later = xs;
            stands = ap (λ z. seen ++ z ∷ xs) same_one;
            new = subst (λ w. list_any (λ z. e z w) seen ≡ false) same_one a;
            counted = add-zero (length (firsts e seen));
          }
      by false a (suc k) g rest =
          let more : length (firsts e (seen ++ y ∷ []))
          ≡ length (firsts e seen ++ y ∷ []) = ap length (firsts-push e seen y
          ∙ ap (λ t. cond t (firsts e seen) (firsts e seen ++ y ∷ [])) a) in
          let n : length (firsts e (seen ++ y ∷ [])) + k
          ≡ length (firsts e seen) + suc k = omega (arith, more, length-append (firsts e seen) (y ∷ [])) in
          subst (λ m. FirstAt (seen ++ y ∷ xs) m x) n (rest k g)

  pub first_at : (xs : List X) (i : ℕ) (x : X) → slice_get (firsts e xs) i ≡ Some x → FirstAt xs i x
  first_at xs i x h =
      let n : 0 + i ≡ i = omega arith in
      subst (λ m. FirstAt xs m x) n (found [] xs i x (ap (λ ys. slice_get ys i) (sym (firsts-append [] xs)) ∙ h))

  pub at_first : (xs : List X) (i : ℕ) (x : X) → FirstAt xs i x → slice_get (firsts e xs) i ≡ Some x
  at_first xs i x f =
      let rest = news (f.before ++ x ∷ []) f.later in
      ap (λ zs. slice_get (firsts e zs) i) f.stands
      ∙ ap (λ zs. slice_get zs i) (firsts-append f.before (x ∷ f.later))
      ∙ ap (λ t. slice_get (firsts e f.before ++ cond t rest (x ∷ rest)) i) f.new
      ∙ ap (slice_get (firsts e f.before ++ x ∷ rest)) f.counted
      ∙ slice_get-seam (firsts e f.before) rest x

-- the lines around a header
record HeaderSplit (ls : List Line) (names : List (List ℕ)) (n : List ℕ) : Type 0 where
  before : List Line
  later : List Line
  stands : ls ≡ before ++ header n ∷ later
  heads : headers before ≡ names

header_more : (l : Line) (ls : List Line) (names more : List (List ℕ)) (n : List ℕ)
    → ((ms : List Line) → headers ms ≡ names → headers (l ∷ ms) ≡ more) → HeaderSplit ls names n
    → HeaderSplit (l ∷ ls) more n
header_more l ls names more n f s = record {
  before = l ∷ s.before;
  later = s.later;
  stands = ap (λ ms. l ∷ ms) s.stands;
  heads = f s.before s.heads;
}

header_split : (ls : List Line) (names later : List (List ℕ)) (n : List ℕ) → headers ls ≡ names ++ n ∷ later
    → HeaderSplit ls names n
header_split [] [] later n h = cc
header_split [] (m ∷ names) later n h = cc
header_split (header m ∷ ls) [] later n h = let e : m ≡ n = cc
    in record { before = []; later = ls; stands = ap (λ k. header k ∷ ls) e; heads = refl }
header_split (header m ∷ ls) (k ∷ names) later n h =
    let e : m ≡ k = cc in
    let r : headers ls ≡ names ++ n ∷ later = cc in
    header_more (header m) ls names (k ∷ names) n (λ ms g i. e i ∷ g i) (header_split ls names later n r)
header_split (nothing ∷ ls) names later n h = header_more nothing ls names names n (λ ms g. g)
    (header_split ls names later n h)
header_split (pair k v ∷ ls) names later n h = header_more (pair k v) ls names names n (λ ms g. g)
    (header_split ls names later n h)
header_split (other ∷ ls) names later n h = header_more other ls names names n (λ ms g. g)
    (header_split ls names later n h)

names_of : (ls : List Line) (ds : List (List ℕ)) → map (λ s. s.name) (map (section_of ls) ds) ≡ ds
names_of ls [] = refl
names_of ls (d ∷ ds) = ap (λ ns. d ∷ ns) (names_of ls ds)

section_count : (ls : List Line) → length (sections_of ls) ≡ length (firsts same (headers ls))
unfolding sections_of
section_count ls = length-map (firsts same (headers ls)) (section_of ls)

names_are : (ls : List Line) → map (λ s. s.name) (sections_of ls) ≡ firsts same (headers ls)
unfolding sections_of
names_are ls = names_of ls (firsts same (headers ls))

flip : (n : List ℕ) (names : List (List ℕ)) → list_any (same n) names ≡ list_any (λ m. same m n) names
flip n names = any_same (same n) (λ m. same m n) names (λ m. same_sym n m)

pub opens_from : (ls : List Line) (i : ℕ) (n : List ℕ) → slice_get (map (λ s. s.name) (sections_of ls)) i ≡ Some n
    → OpensAt ls i n
opens_from ls i n h =
    let f = first_at same (headers ls) i n (ap (λ ns. slice_get ns i) (sym (names_are ls)) ∙ h) in
    let s = header_split ls f.before f.later n f.stands in
    record {
      before = s.before;
      later = s.later;
      stands = s.stands;
      first = ap (list_any (same n)) s.heads ∙ flip n f.before ∙ f.new;
      counted = f.counted ∙ ap (λ ns. length (firsts same ns)) (sym s.heads) ∙ sym (section_count s.before);
    }

pub opens_to : (ls : List Line) (i : ℕ) (n : List ℕ) → OpensAt ls i n
    → slice_get (map (λ s. s.name) (sections_of ls)) i ≡ Some n
opens_to ls i n o =
    ap (λ ns. slice_get ns i) (names_are ls)
    ∙ at_first same (headers ls) i n (record {
      before = headers o.before;
      later = headers o.later;
      stands = ap headers o.stands ∙ headers-append o.before (header n ∷ o.later);
      new = sym (flip n (headers o.before)) ∙ o.first;
      counted = o.counted ∙ section_count o.before;
    })

-- the lines around a pair under a header of the name
record PairSplit (name : List ℕ) (here : Bool) (ls : List Line) (given : List Pair) (p : Pair) : Type 0 where
  before : List Line
  later : List Line
  stands : ls ≡ before ++ pair p.key p.value ∷ later
  gives : pairs_under name here before ≡ given
  under : here_after name here before ≡ true

given_more : (k v : List ℕ) {name : List ℕ} (ls : List Line) (q : Pair) (given : List Pair) (p : Pair)
    → record { key = k; value = v } ≡ q → PairSplit name true ls given p
    → PairSplit name true (pair k v ∷ ls) (q ∷ given) p
given_more k v ls q given p e s = record {
  before = pair k v ∷ s.before;
  later = s.later;
  stands = ap (λ ms. pair k v ∷ ms) s.stands;
  gives = λ i. e i ∷ s.gives i;
  under = s.under;
}

pair_split : (name : List ℕ) (here : Bool) (ls : List Line) (given later : List Pair) (p : Pair)
    → pairs_under name here ls ≡ given ++ p ∷ later → PairSplit name here ls given p
pair_split name here [] [] later p h = cc
pair_split name here [] (q ∷ given) later p h = cc
pair_split name here (header m ∷ ls) given later p h =
    let s = pair_split name (same name m) ls given later p h in
    record {
      before = header m ∷ s.before;
      later = s.later;
      stands = ap (λ ms. header m ∷ ms) s.stands;
      gives = s.gives;
      under = s.under;
    }
pair_split name here (nothing ∷ ls) given later p h =
    let s = pair_split name here ls given later p h in
    record {
      before = nothing ∷ s.before;
      later = s.later;
      stands = ap (λ ms. nothing ∷ ms) s.stands;
      gives = s.gives;
      under = s.under;
    }
pair_split name here (other ∷ ls) given later p h =
    let s = pair_split name here ls given later p h in
    record {
      before = other ∷ s.before;
      later = s.later;
      stands = ap (λ ms. other ∷ ms) s.stands;
      gives = s.gives;
      under = s.under;
    }
pair_split name false (pair k v ∷ ls) given later p h =
    let s = pair_split name false ls given later p h in
    record {
      before = pair k v ∷ s.before;
      later = s.later;
      stands = ap (λ ms. pair k v ∷ ms) s.stands;
      gives = s.gives;
      under = s.under;
    }
pair_split name true (pair k v ∷ ls) [] later p h =
    let first : Pair = record { key = k; value = v } in
    let e : first ≡ p = cc in
    record { before = []; later = ls; stands = λ i. pair (e i).key (e i).value ∷ ls; gives = refl; under = refl }
pair_split name true (pair k v ∷ ls) (q ∷ given) later p h =
    let first : Pair = record { key = k; value = v } in
    let e : first ≡ q = cc in
    let r : pairs_under name true ls ≡ given ++ p ∷ later = cc in
    given_more k v ls q given p e (pair_split name true ls given later p r)

flip_key : (p : Pair) (ps : List Pair) → list_any (λ q. same p.key q.key) ps ≡ list_any (λ q. same_key q p) ps
flip_key p ps = any_same (λ q. same p.key q.key) (λ q. same_key q p) ps (λ q. same_sym p.key q.key)

pub gives_from : (ls : List Line) (name : List ℕ) (i : ℕ) (p : Pair) → slice_get (section_of ls name).pairs i ≡ Some p
    → GivesAt ls name i p
gives_from ls name i p h =
    let f = first_at same_key (pairs_under name false ls) i p h in
    let s = pair_split name false ls f.before f.later p f.stands in
    let head = heading_of (last_header s.before None) name (sym (here_after-last name s.before None) ∙ s.under) in
    record {
      before = s.before;
      heading = head.0;
      later = s.later;
      stands = s.stands;
      under = head.1;
      named = head.2;
      first = ap (list_any (λ q. same p.key q.key)) s.gives ∙ flip_key p f.before ∙ f.new;
      counted = f.counted ∙ ap (λ ps. length (firsts same_key ps)) (sym s.gives);
    }

pub gives_to : (ls : List Line) (name : List ℕ) (i : ℕ) (p : Pair) → GivesAt ls name i p
    → slice_get (section_of ls name).pairs i ≡ Some p
gives_to ls name i p g =
    let here : here_after name false g.before ≡ true = here_after-last name g.before None
    ∙ ap (λ o. option_map_or (same name) o false) g.under ∙ g.named in
    at_first same_key (pairs_under name false ls) i p (record {
      before = pairs_under name false g.before;
      later = pairs_under name true g.later;
      stands = ap (pairs_under name false) g.stands
          ∙ pairs_under-append name false g.before (pair p.key p.value ∷ g.later)
          ∙ ap (λ t. pairs_under name false g.before ++ pairs_under name t (pair p.key p.value ∷ g.later)) here;
      new = sym (flip_key p (pairs_under name false g.before)) ∙ g.first;
      counted = g.counted;
    })
