-- Bytes without blanks at their ends, and bytes around a separator.
use Rattle.std.proofs.Common.{◌≡◌, ℕ, zero, suc, ◌+◌, ◌-◌, ◌<◌, ◌≤◌, ltb, Bool, true, false, cond, not, List, [], ◌∷◌}
use Rattle.std.proofs.Common.{◌++◌, reverse, length, take, drop, None, Some, eqb, refl, ap, ◌∙◌, sym, subst}
use Rattle.std.proofs.Common.{length-drop, take_all, take-append-drop, arith}
use Rattle.std.specs.List.{list_any, prefix_len, suffix_len, position_or_len, AllByRecursion}
use Rattle.std.specs.Option.{option_map}
use Rattle.std.proofs.Math.Seq.{take-append_seam, drop-append-add}
use Rattle.std.proofs.lemmas.Bool.{false≢true}
use Rattle.std.proofs.lemmas.Bool.Decides.{Decides-eqb, Decides-ltb, same_from_decides}
use Rattle.std.proofs.lemmas.List.{reverse-append, reverse-reverse, length-reverse}
use Rattle.std.proofs.lemmas.List.Folds.{list_any-append}
use Rattle.std.proofs.lemmas.List.Sums.{prefix_len-le-length}
use Rattle.ini_text.specs.Text.{is_blank, trim_start, trim_end, trim_line, split_once}
use Rattle.ini_text.specs.Printable.{has_byte}
use Rattle.ini_text.proofs.KeyedLemmas.{or_false_left, or_false_right}

-- the first byte, if there is one, isn't blank
abbrev pub IsSharp : List ℕ → Type 0
IsSharp [] = Unit {0}
IsSharp (b ∷ bs) = is_blank b ≡ false

abbrev pub AreBlank : List ℕ → Type 0
AreBlank bs = AllByRecursion (λ b. is_blank b ≡ true) bs

no_prefix : (bs : List ℕ) → IsSharp bs → prefix_len is_blank bs ≡ 0
no_prefix [] h = refl
no_prefix (b ∷ bs) h = rw h refl

pub trim_start_sharp : (bs : List ℕ) → IsSharp bs → trim_start is_blank bs ≡ bs
trim_start_sharp bs h = ap (λ n. drop n bs) (no_prefix bs h)

trim_end_sharp : (bs : List ℕ) → IsSharp (reverse bs) → trim_end is_blank bs ≡ bs
trim_end_sharp bs h =
    let n : length bs ≤ length bs - suffix_len is_blank bs = omega (arith, no_prefix (reverse bs) h) in
    take_all (length bs - suffix_len is_blank bs) bs n

-- what has no blank at its ends is left as it is
pub trimmed_sharp : (bs : List ℕ) → IsSharp bs → IsSharp (reverse bs) → trim_line bs ≡ bs
unfolding trim_line
trimmed_sharp bs h g = ap (trim_end is_blank) (trim_start_sharp bs h) ∙ trim_end_sharp bs g

sharp_start : (bs : List ℕ) → IsSharp (trim_start is_blank bs)
sharp_start [] = tt
sharp_start (b ∷ bs) = by (is_blank b) refl (sharp_start bs)
  where
    one : (n : ℕ) → 1 + n ≡ suc n
    one n = omega arith

    by : (t : Bool) → is_blank b ≡ t → IsSharp (drop (prefix_len is_blank bs) bs)
        → IsSharp (drop (cond t (1 + prefix_len is_blank bs) 0) (b ∷ bs))
    by true h ih = rw (one (prefix_len is_blank bs)) ih
    by false h ih = h

sharp_take : (n : ℕ) (bs : List ℕ) → IsSharp bs → IsSharp (take n bs)
sharp_take zero bs h = tt
sharp_take (suc n) [] h = tt
sharp_take (suc n) (b ∷ bs) h = h

-- the blanks at the start
blank_prefix : (bs : List ℕ) → AreBlank (take (prefix_len is_blank bs) bs)
blank_prefix [] = tt
blank_prefix (b ∷ bs) = by (is_blank b) refl (blank_prefix bs)
  where
    one : (n : ℕ) → 1 + n ≡ suc n
    one n = omega arith

    by : (t : Bool) → is_blank b ≡ t → AreBlank (take (prefix_len is_blank bs) bs)
        → AreBlank (take (cond t (1 + prefix_len is_blank bs) 0) (b ∷ bs))
    by true h ih = rw (one (prefix_len is_blank bs)) (h, ih)
    by false h ih = tt

pub blank_append : (fs bs : List ℕ) → AreBlank fs → AreBlank bs → AreBlank (fs ++ bs)
blank_append [] bs h g = g
blank_append (a ∷ fs) bs h g = (h.0, blank_append fs bs h.1 g)

blank_reverse : (bs : List ℕ) → AreBlank bs → AreBlank (reverse bs)
blank_reverse [] h = tt
blank_reverse (b ∷ bs) h = subst AreBlank (sym (reverse-append (b ∷ []) bs))
    (blank_append (reverse bs) (b ∷ []) (blank_reverse bs h.1) (h.0, tt))

-- a list, with some of its end cut off
cut_end : (n : ℕ) (bs : List ℕ) → n ≤ length bs → (take (length bs - n) bs ≡ reverse (drop n (reverse bs)))
    × (drop (length bs - n) bs ≡ reverse (take n (reverse bs)))
cut_end n bs h =
    let fs = reverse (drop n (reverse bs)) in
    let cs = reverse (take n (reverse bs)) in
    let whole : bs ≡ fs ++ cs = sym (reverse-reverse bs) ∙ ap reverse (sym (take-append-drop n (reverse bs)))
    ∙ reverse-append (take n (reverse bs)) (drop n (reverse bs)) in
    let m : length fs ≡ length bs - n = length-reverse (drop n (reverse bs)) ∙ length-drop n (reverse bs)
    ∙ ap (λ k. k - n) (length-reverse bs) in
    let m' : length bs - n ≡ length fs + 0 = omega arith in (
      ap (λ k. take k bs) (sym m) ∙ ap (take (length fs)) whole ∙ take-append_seam fs cs,
      ap (λ k. drop k bs) m' ∙ ap (drop (length fs + 0)) whole ∙ drop-append-add fs cs 0,
    )

-- what is left, and the blanks behind it
pub record EndTrim (bs : List ℕ) : Type 0 where
  pub blanks : List ℕ
  pub whole : bs ≡ trim_end is_blank bs ++ blanks
  pub are_blank : AreBlank blanks
  pub sharp : IsSharp (reverse (trim_end is_blank bs))

prefix_within : (bs : List ℕ) → prefix_len is_blank bs ≤ length bs
prefix_within bs = prefix_len-le-length is_blank bs

pub end_trim : (bs : List ℕ) → EndTrim bs
end_trim bs =
    let n = suffix_len is_blank bs in
    let within : n ≤ length bs = omega (arith, prefix_within (reverse bs), length-reverse bs) in
    let cut = cut_end n bs within in
    record {
      blanks = drop (length bs - n) bs;
      whole = sym (take-append-drop (length bs - n) bs);
      are_blank = subst AreBlank (sym cut.1) (blank_reverse (take n (reverse bs)) (blank_prefix (reverse bs)));
      sharp = subst (λ xs. IsSharp (reverse xs)) (sym cut.0)
          (subst IsSharp (sym (reverse-reverse (drop n (reverse bs)))) (sharp_start (reverse bs)));
    }

-- what is left has no blank at its ends
pub sharp_trimmed : (bs : List ℕ) → IsSharp (trim_line bs)
unfolding trim_line
sharp_trimmed bs = sharp_take _ (trim_start is_blank bs) (sharp_start bs)

pub sharp_trimmed_end : (bs : List ℕ) → IsSharp (reverse (trim_line bs))
unfolding trim_line
sharp_trimmed_end bs = (end_trim (trim_start is_blank bs)).sharp

pub trim_line-trim_line : (bs : List ℕ) → trim_line (trim_line bs) ≡ trim_line bs
trim_line-trim_line bs = trimmed_sharp (trim_line bs) (sharp_trimmed bs) (sharp_trimmed_end bs)

pub sharp_if_trim : (bs : List ℕ) → trim_line bs ≡ bs → IsSharp bs
sharp_if_trim bs h = subst IsSharp h (sharp_trimmed bs)

pub sharp_end_if_trim : (bs : List ℕ) → trim_line bs ≡ bs → IsSharp (reverse bs)
sharp_end_if_trim bs h = subst (λ xs. IsSharp (reverse xs)) h (sharp_trimmed_end bs)

-- a blank in front is cut off
pub trim_line-blank : (b : ℕ) (bs : List ℕ) → is_blank b ≡ true → trim_line (b ∷ bs) ≡ trim_line bs
unfolding trim_line
trim_line-blank b bs h =
    let one : 1 + prefix_len is_blank bs ≡ suc (prefix_len is_blank bs) = omega arith in
    ap (λ n. trim_end is_blank (drop n (b ∷ bs))) (ap (λ t. cond t (1 + prefix_len is_blank bs) 0) h ∙ one)

-- another byte in front stays
pub record KeepsFirst (b : ℕ) (bs : List ℕ) : Type 0 where
  pub left : List ℕ
  pub blanks : List ℕ
  pub is : trim_line (b ∷ bs) ≡ b ∷ left
  pub whole : bs ≡ left ++ blanks
  pub are_blank : AreBlank blanks

pub keeps_first : (b : ℕ) (bs : List ℕ) → is_blank b ≡ false → KeepsFirst b bs
unfolding trim_line
keeps_first b bs h =
    let e = end_trim (b ∷ bs) in
    by (trim_end is_blank (b ∷ bs)) refl e.blanks e.whole e.are_blank
  where
    same_trim : trim_line (b ∷ bs) ≡ trim_end is_blank (b ∷ bs)
    same_trim = ap (trim_end is_blank) (trim_start_sharp (b ∷ bs) h)

    first_blank : (blanks : List ℕ) → b ∷ bs ≡ blanks → AreBlank blanks → ⊥
    first_blank [] e a = cc
    first_blank (c ∷ cs) e a = let f : b ≡ c = cc in false≢true (sym h ∙ ap is_blank f ∙ a.0)

    by : (ts : List ℕ) → trim_end is_blank (b ∷ bs) ≡ ts → (blanks : List ℕ)
        → b ∷ bs ≡ trim_end is_blank (b ∷ bs) ++ blanks → AreBlank blanks → KeepsFirst b bs
    by [] g blanks e a = absurd (first_blank blanks (e ∙ ap (λ ts. ts ++ blanks) g) a)
    by (c ∷ cs) g blanks e a =
        let f : b ∷ bs ≡ c ∷ (cs ++ blanks) = e ∙ ap (λ ts. ts ++ blanks) g in
        let same_first : c ≡ b = cc in
        let rest : bs ≡ cs ++ blanks = cc in
        record {
          left = cs;
          blanks = blanks;
          is = same_trim ∙ g ∙ ap (λ x. x ∷ cs) same_first;
          whole = rest;
          are_blank = a;
        }

-- a byte that isn't among some isn't among fewer
module _ (p : ℕ → Bool) where
  pub none_dropped : (n : ℕ) (bs : List ℕ) → list_any p bs ≡ false → list_any p (drop n bs) ≡ false
  none_dropped zero bs h = h
  none_dropped (suc n) [] h = h
  none_dropped (suc n) (b ∷ bs) h = none_dropped n bs (or_false_right (p b) (list_any p bs) h)

  pub none_taken : (n : ℕ) (bs : List ℕ) → list_any p bs ≡ false → list_any p (take n bs) ≡ false
  none_taken zero bs h = refl
  none_taken (suc n) [] h = h
  none_taken (suc n) (b ∷ bs) h = rw (or_false_left (p b) (list_any p bs) h)
      (none_taken n bs (or_false_right (p b) (list_any p bs) h))

  pub none_trimmed : (bs : List ℕ) → list_any p bs ≡ false → list_any p (trim_line bs) ≡ false
  unfolding trim_line
  none_trimmed bs h = none_taken _ (trim_start is_blank bs) (none_dropped (prefix_len is_blank bs) bs h)

  pub none_append : (fs bs : List ℕ) → list_any p fs ≡ false → list_any p bs ≡ false → list_any p (fs ++ bs) ≡ false
  none_append fs bs h g = list_any-append p fs bs ∙ rw h g

  pub none_left : (fs bs : List ℕ) → list_any p (fs ++ bs) ≡ false → list_any p fs ≡ false
  none_left fs bs h = or_false_left (list_any p fs) (list_any p bs) (sym (list_any-append p fs bs) ∙ h)

  pub none_right : (fs bs : List ℕ) → list_any p (fs ++ bs) ≡ false → list_any p bs ≡ false
  none_right fs bs h = or_false_right (list_any p fs) (list_any p bs) (sym (list_any-append p fs bs) ∙ h)

abbrev pub parts : List ℕ → List ℕ → List ℕ × List ℕ
parts xs ys = (xs, ys)

abbrev pub onto : ℕ → (List ℕ × List ℕ) → List ℕ × List ℕ
onto c p = (c ∷ p.0, p.1)

ltb-suc : (m n : ℕ) → ltb (suc m) (suc n) ≡ ltb m n
ltb-suc m n =
    same_from_decides {P = m < n} (ltb (suc m) (suc n)) (ltb m n) (
      λ h. let l : suc m < suc n = (Decides-ltb (suc m) (suc n)).0 h
          in omega arith,
      λ h. let l : suc m < suc n = omega arith in (Decides-ltb (suc m) (suc n)).1 l,
    )
    (Decides-ltb m n)

-- the parts around the first byte b
pub split_once-cons : (b c : ℕ) (cs : List ℕ)
    → split_once b (c ∷ cs) ≡ cond (eqb c b) (Some (parts [] cs)) (option_map (onto c) (split_once b cs))
unfolding split_once
split_once-cons b c cs = by (eqb c b) (position_or_len (λ x. eqb x b) cs)
  where
    one : (n : ℕ) → 1 + n ≡ suc n
    one n = omega arith

    next : (m : ℕ) → suc m + 1 ≡ suc (m + 1)
    next m = omega arith

    no : (m : ℕ) → cond (ltb (suc m) (suc (length cs)))
        (Some (parts (take (suc m) (c ∷ cs)) (drop (suc m + 1) (c ∷ cs)))) None
        ≡ option_map (onto c) (cond (ltb m (length cs)) (Some (parts (take m cs) (drop (m + 1) cs))) None)
    no m = rw (ltb-suc m (length cs)) (rw (next m)
        (elim (ltb m (length cs)) as (λ t. cond t (Some (parts (c ∷ take m cs) (drop (m + 1) cs))) None
        ≡ option_map (onto c) (cond t (Some (parts (take m cs) (drop (m + 1) cs))) None))
        [ true ↦ refl | false ↦ refl ]))

    by : (t : Bool) (m : ℕ) → cond (ltb (cond (not t) (1 + m) 0) (length (c ∷ cs)))
        (Some (parts (take (cond (not t) (1 + m) 0) (c ∷ cs)) (drop (cond (not t) (1 + m) 0 + 1) (c ∷ cs)))) None
        ≡ cond t (Some (parts [] cs)) (option_map (onto c)
        (cond (ltb m (length cs)) (Some (parts (take m cs) (drop (m + 1) cs))) None))
    by true m = let some : 0 < suc (length cs) = omega arith
        in ap (λ t. cond t (Some (parts [] cs)) None) ((Decides-ltb 0 (suc (length cs))).1 some)
    by false m = rw (one m) (no m)

pub split_once_at : (b : ℕ) (fs bs : List ℕ) → eqb b b ≡ true → has_byte b fs ≡ false
    → split_once b (fs ++ b ∷ bs) ≡ Some (parts fs bs)
split_once_at b [] bs e h = split_once-cons b b bs ∙ rw e refl
split_once_at b (a ∷ fs) bs e h =
    split_once-cons b a (fs ++ b ∷ bs)
    ∙ rw (or_false_left (eqb a b) (has_byte b fs) h)
    (ap (option_map (onto a)) (split_once_at b fs bs e (or_false_right (eqb a b) (has_byte b fs) h)))

pub split_once_none : (b : ℕ) (bs : List ℕ) → has_byte b bs ≡ false → split_once b bs ≡ None
unfolding split_once
split_once_none b [] h = refl
split_once_none b (c ∷ cs) h =
    split_once-cons b c cs ∙ rw (or_false_left (eqb c b) (has_byte b cs) h)
    (ap (option_map (onto c)) (split_once_none b cs (or_false_right (eqb c b) (has_byte b cs) h)))

-- where there is a first byte b, and where there is none
pub data Split (b : ℕ) (bs : List ℕ) : Type 0 where
  at : (fs cs : List ℕ) → split_once b bs ≡ Some (parts fs cs) → bs ≡ fs ++ b ∷ cs → has_byte b fs ≡ false → Split b bs
  none : split_once b bs ≡ None → has_byte b bs ≡ false → Split b bs

pub split : (b : ℕ) (bs : List ℕ) → Split b bs
unfolding split_once
split b [] = none refl refl
split b (c ∷ cs) = by (eqb c b) refl (split b cs)
  where
    by : (t : Bool) → eqb c b ≡ t → Split b cs → Split b (c ∷ cs)
    by true e s = at [] cs (split_once-cons b c cs ∙ rw e refl) (ap (λ x. x ∷ cs) ((Decides-eqb c b).0 e)) refl
    by false e (at fs ds f w h) = at (c ∷ fs) ds (split_once-cons b c cs ∙ rw e (ap (option_map (onto c)) f))
        (ap (λ xs. c ∷ xs) w) (rw e h)
    by false e (none f h) = none (split_once-cons b c cs ∙ rw e (ap (option_map (onto c)) f)) (rw e h)
