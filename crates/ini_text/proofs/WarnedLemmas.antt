-- The warned lines, and why they are.
use Rattle.std.proofs.Common.{◌≡◌, ℕ, zero, suc, ◌+◌, ◌<◌, length-append, Bool, true, false, cond, ◌||◌, ◌⊎◌, List, []}
use Rattle.std.proofs.Common.{◌∷◌, ◌++◌, length, Contains, inl, inr, Option, None, Some, refl, ap, ◌∙◌, sym, subst}
use Rattle.std.proofs.Common.{append_assoc, arith}
use Rattle.std.specs.List.{AllByRecursion}
use Rattle.std.specs.List.Sorted.{IsStrictlyIncreasing}
use Rattle.std.specs.Option.{option_map_or}
use Rattle.std.proofs.lemmas.Bool.{false≢true}
use Rattle.std.proofs.lemmas.List.Elements.{Contains-append_left, Contains-append_right, Contains-append_cases}
use Rattle.std.proofs.lemmas.List.Elements.{Contains-push, Contains-push_cases}
use Rattle.ini_text.specs.Line.{Line, nothing, header, pair, other}
use Rattle.ini_text.specs.Content.{last_header, gives_key, is_misused, is_warned, warned_after, warnings_of}
use Rattle.ini_text.specs.Warned.{Reason, skipped, early, repeated, misused, IsWarned}
use Rattle.ini_text.proofs.NameLemmas.{append_nil}

reason_of : (before : List Line) (l : Line) → is_warned before l ≡ true → Reason before l
reason_of before nothing h = absurd (false≢true h)
reason_of before (header n) h = absurd (false≢true h)
reason_of before other h = skipped refl
reason_of before (pair k v) h = by (last_header before None) refl h
  where
    why : (n : List ℕ) (t : Bool) → last_header before None ≡ Some n → gives_key before n k ≡ t
        → (t || is_misused k v) ≡ true → Reason before (pair k v)
    why n true o g h = repeated n k v refl o g
    why n false o g h = misused n k v refl o h

    by : (o : Option (List ℕ)) → last_header before None ≡ o
        → option_map_or (λ name. gives_key before name k || is_misused k v) o true ≡ true → Reason before (pair k v)
    by None o h = early k v refl o
    by (Some n) o h = why n (gives_key before n k) o refl h

or_true : (a b : Bool) → b ≡ true → (a || b) ≡ true
or_true true b h = refl
or_true false b h = h

warned_by : (before : List Line) (l : Line) → Reason before l → is_warned before l ≡ true
warned_by before l (skipped e) = ap (is_warned before) e
warned_by before l (early k v e o) = ap (is_warned before) e
    ∙ ap (λ o. option_map_or (λ name. gives_key before name k || is_misused k v) o true) o
warned_by before l (repeated n k v e o g) = ap (is_warned before) e
    ∙ ap (λ o. option_map_or (λ name. gives_key before name k || is_misused k v) o true) o
    ∙ ap (λ t. t || is_misused k v) g
warned_by before l (misused n k v e o g) = ap (is_warned before) e
    ∙ ap (λ o. option_map_or (λ name. gives_key before name k || is_misused k v) o true) o
    ∙ or_true (gives_key before n k) (is_misused k v) g

none_in : {X : Type 0} (x : X) {P : Type 0} → Contains [] x → P
none_in x h = absurd (omega (arith, h.1))

only_one : {X : Type 0} (x y : X) → Contains (x ∷ []) y → x ≡ y
only_one x y h = by (Contains-push_cases [] x y h)
  where
    by : (Contains [] y ⊎ (x ≡ y)) → x ≡ y
    by (inl g) = none_in y g
    by (inr g) = g

numbered_from : (done ls : List Line) (n : ℕ) → Contains (warned_after done ls) n → IsWarned (done ++ ls) n
numbered_from done [] n h = none_in n h
numbered_from done (l ∷ ls) n h = by (is_warned done l) refl h (λ g. subst (λ ms. IsWarned ms n)
    (append_assoc done (l ∷ []) ls) (numbered_from (done ++ l ∷ []) ls n g))
  where
    rest : List ℕ
    rest = warned_after (done ++ l ∷ []) ls

    either : is_warned done l ≡ true → (Contains rest n → IsWarned (done ++ l ∷ ls) n)
        → (Contains ((length done + 1) ∷ []) n ⊎ Contains rest n) → IsWarned (done ++ l ∷ ls) n
    either w more (inl g) = record {
      before = done;
      line = l;
      later = ls;
      stands = refl;
      numbered = sym (only_one (length done + 1) n g);
      reason = reason_of done l w;
    }
    either w more (inr g) = more g

    by : (t : Bool) → is_warned done l ≡ t → Contains (cond t ((length done + 1) ∷ rest) rest) n
        → (Contains rest n → IsWarned (done ++ l ∷ ls) n) → IsWarned (done ++ l ∷ ls) n
    by true w g more = either w more (Contains-append_cases ((length done + 1) ∷ []) rest n g)
    by false w g more = more g

numbered_to : (done before : List Line) (l : Line) (later : List Line) → is_warned (done ++ before) l ≡ true
    → Contains (warned_after done (before ++ l ∷ later)) (length (done ++ before) + 1)
numbered_to done [] l later w =
    let e = append_nil done in
    let w' = rw e at w in
    rw e (subst (λ t. Contains (cond t ((length done + 1) ∷ warned_after (done ++ l ∷ []) later)
    (warned_after (done ++ l ∷ []) later)) (length done + 1)) (sym w')
    (Contains-append_left ((length done + 1) ∷ []) (warned_after (done ++ l ∷ []) later) (length done + 1)
    (Contains-push [] (length done + 1))))
numbered_to done (m ∷ before) l later w =
    let e = append_assoc done (m ∷ []) before in
    let ih = rw e at (numbered_to (done ++ m ∷ []) before l later (rw e w)) in
    elim (is_warned done m) as (λ t. Contains (cond t ((length done + 1) ∷ warned_after (done ++ m ∷ [])
    (before ++ l ∷ later)) (warned_after (done ++ m ∷ []) (before ++ l ∷ later)))
    (length (done ++ m ∷ before) + 1)) [
      | true ↦ Contains-append_right ((length done + 1) ∷ []) (warned_after (done ++ m ∷ []) (before ++ l ∷ later))
          (length (done ++ m ∷ before) + 1) ih
      | false ↦ ih
    ]

pub warned_from : (ls : List Line) (n : ℕ) → Contains (warnings_of ls) n → IsWarned ls n
unfolding warnings_of
warned_from ls n h = numbered_from [] ls n h

pub warned_to : (ls : List Line) (n : ℕ) → IsWarned ls n → Contains (warnings_of ls) n
unfolding warnings_of
warned_to ls n w =
    subst (λ ms. Contains (warned_after [] ms) n) (sym w.stands)
    (subst (λ m. Contains (warned_after [] (w.before ++ w.line ∷ w.later)) m) (sym w.numbered)
    (numbered_to [] w.before w.line w.later (warned_by w.before w.line w.reason)))

increasing-cons : (x : ℕ) (xs : List ℕ) → AllByRecursion (λ n. x < n) xs → IsStrictlyIncreasing xs
    → IsStrictlyIncreasing (x ∷ xs)
increasing-cons x [] h g = λ k l. absurd (omega arith)
increasing-cons x (y ∷ ys) h g = by
  where
    next : (k : ℕ) → suc k + 1 ≡ suc (k + 1)
    next k = omega arith

    by : IsStrictlyIncreasing (x ∷ y ∷ ys)
    by zero l = h.0
    by (suc k) l = let m : k + 1 < length (y ∷ ys) = omega arith in rw (next k) (g k m)

-- each warned line stands after those before it
later_numbers : (m : ℕ) (before ls : List Line) → m < length before + 1
    → AllByRecursion (λ n. m < n) (warned_after before ls)
later_numbers m before [] h = tt
later_numbers m before (l ∷ ls) h =
    let more : m < length (before ++ l ∷ []) + 1 = omega (arith, length-append before (l ∷ [])) in
    let ih = later_numbers m (before ++ l ∷ []) ls more in
    elim (is_warned before l) as (λ t. AllByRecursion (λ n. m < n)
    (cond t ((length before + 1) ∷ warned_after (before ++ l ∷ []) ls) (warned_after (before ++ l ∷ []) ls)))
    [ true ↦ (h, ih) | false ↦ ih ]

rise : (before ls : List Line) → IsStrictlyIncreasing (warned_after before ls)
rise before [] = λ k l. absurd (omega arith)
rise before (l ∷ ls) =
    let next : length before + 1 < length (before ++ l ∷ []) + 1 = omega (arith, length-append before (l ∷ [])) in
    let ih = rise (before ++ l ∷ []) ls in
    elim (is_warned before l) as (λ t. IsStrictlyIncreasing
    (cond t ((length before + 1) ∷ warned_after (before ++ l ∷ []) ls) (warned_after (before ++ l ∷ []) ls))) [
      | true ↦ increasing-cons (length before + 1) (warned_after (before ++ l ∷ []) ls)
          (later_numbers (length before + 1) (before ++ l ∷ []) ls next) ih
      | false ↦ ih
    ]

pub warnings_rise : (ls : List Line) → IsStrictlyIncreasing (warnings_of ls)
unfolding warnings_of
warnings_rise ls = rise [] ls
