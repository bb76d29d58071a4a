-- The sections of a text: no two are named for one object, since two such names are equal without case.
use Rattle.std.proofs.Common.{◌≡◌, ℕ, zero, suc, ◌+◌, ◌*◌, ◌<◌, Bool, true, false, ◌&&◌, List, [], ◌∷◌, length, map}
use Rattle.std.proofs.Common.{get_or, None, Some, refl, sym, ap, ◌∙◌, arith, ltb-true}
use Rattle.std.specs.Prelude.{if◌then◌else◌, ◌==◌}
use Rattle.std.specs.Char.{digit_char, digit_value, is_digit, to_ascii_lowercase}
use Rattle.std.specs.List.{AllByRecursion, Contains, list_all}
use Rattle.std.specs.Str.Parse.{digits_value, digits_value_after}
use Rattle.std.proofs.lemmas.Bool.{eqb-true, false≢true}
use Rattle.std.proofs.lemmas.Slice.Eq.{bytes_eq-Decides}
use Rattle.base.specs.Digits.{digits_number}
use Rattle.ini_text.specs.Content.{Section, lower_case, same, content_of}
use Rattle.ini_text.specs.Printable.{AreApart, same_name}
use Rattle.ini_text.proofs.NameLemmas.{same_sym}
use Rattle.ini_text.proofs.ReadLemmas.{read_is_printable}
use Rattle.eds_entries.specs.Names.{index_named}

-- no two sections are named for one object
abbrev pub AreNamedOnce : List Section → Type 0
AreNamedOnce ss = (s t : Section) (index : ℕ) → Contains ss s → Contains ss t → index_named s.name ≡ Some index
    → index_named t.name ≡ Some index → s ≡ t

-- ---- digits

-- a digit in lower case is told by its value
lower_by_value : (c : ℕ) → digit_value c < 36 → to_ascii_lowercase c ≡ digit_char (digit_value c)
lower_by_value c h = search arith

abbrev glyphs : List ℕ → List ℕ
glyphs cs = map (λ c. digit_char (digit_value c)) cs

folded_glyphs : (cs : List ℕ) → list_all (λ d. is_digit d 16) cs ≡ true → lower_case cs ≡ glyphs cs
folded_glyphs [] h = refl
folded_glyphs (c ∷ cs) h = by (is_digit c 16) refl h (folded_glyphs cs)
  where
    by : (t : Bool) → is_digit c 16 ≡ t → (t && list_all (λ d. is_digit d 16) cs) ≡ true
        → (list_all (λ d. is_digit d 16) cs ≡ true → lower_case cs ≡ glyphs cs) → lower_case (c ∷ cs) ≡ glyphs (c ∷ cs)
    by true e g ih = let low = lower_by_value c (omega (arith, ltb-true (digit_value c) 16 e)) in let rest = ih g
        in λ i. low i ∷ rest i
    by false e g ih = cc

-- digits of one length that write one number behind are those of one number, digit by digit
same_digits : (cs ds : List ℕ) (m n : ℕ) → length cs ≡ length ds → list_all (λ d. is_digit d 16) cs ≡ true
    → list_all (λ d. is_digit d 16) ds ≡ true
    → digits_value_after 16 m cs ≡ digits_value_after 16 n ds → (m ≡ n) × (glyphs cs ≡ glyphs ds)
same_digits [] [] m n l p q e = (e, refl)
same_digits [] (d ∷ ds) m n l p q e = absurd (omega arith)
same_digits (c ∷ cs) [] m n l p q e = absurd (omega arith)
same_digits (c ∷ cs) (d ∷ ds) m n l p q e =
    by (is_digit c 16) (is_digit d 16) refl refl p q (λ f g. same_digits cs ds (m * 16 + digit_value c)
    (n * 16 + digit_value d) (omega arith) f g e)
  where
    by : (t u : Bool) → is_digit c 16 ≡ t → is_digit d 16 ≡ u → (t && list_all (λ x. is_digit x 16) cs) ≡ true
        → (u && list_all (λ x. is_digit x 16) ds) ≡ true
        → (list_all (λ x. is_digit x 16) cs ≡ true → list_all (λ x. is_digit x 16) ds ≡ true
        → (m * 16 + digit_value c ≡ n * 16 + digit_value d) × (glyphs cs ≡ glyphs ds))
        → (m ≡ n) × (glyphs (c ∷ cs) ≡ glyphs (d ∷ ds))
    by true true v w f g ih =
        let r = ih f g in
        let low = ltb-true (digit_value c) 16 v in
        let low' = ltb-true (digit_value d) 16 w in
        let first : digit_value c ≡ digit_value d = omega (arith, r.0, low, low') in
        (omega (arith, r.0, low, low'), λ i. digit_char (first i) ∷ r.1 i)
    by true false v w f g ih = cc
    by false u v w f g ih = cc

all_digits : (cs : List ℕ) (index : ℕ) → digits_number 16 cs ≡ Some index → (list_all (λ d. is_digit d 16) cs ≡ true)
    × (digits_value 16 cs ≡ index)
all_digits [] index h = cc
all_digits (c ∷ cs) index h = by (list_all (λ d. is_digit d 16) (c ∷ cs)) refl h
  where
    by : (t : Bool) → list_all (λ d. is_digit d 16) (c ∷ cs) ≡ t
        → (if t then Some (digits_value 16 (c ∷ cs)) else None) ≡ Some index
        → (list_all (λ d. is_digit d 16) (c ∷ cs) ≡ true) × (digits_value 16 (c ∷ cs) ≡ index)
    by true e g = (e, cc)
    by false e g = cc

four_digits : (name : List ℕ) (index : ℕ) → index_named name ≡ Some index
    → (length name ≡ 4) × (digits_number 16 name ≡ Some index)
unfolding index_named
four_digits name index h = by (length name == 4) refl h
  where
    by : (t : Bool) → (length name == 4) ≡ t → (if t then digits_number 16 name else None) ≡ Some index
        → (length name ≡ 4) × (digits_number 16 name ≡ Some index)
    by true e g = (eqb-true (length name) 4 e, g)
    by false e g = cc

-- names of one index are equal without case
pub one_index_one_name : (a b : List ℕ) (index : ℕ) → index_named a ≡ Some index → index_named b ≡ Some index
    → same a b ≡ true
one_index_one_name a b index h g =
    let first = four_digits a index h in
    let other = four_digits b index g in
    let digits = all_digits a index first.1 in
    let digits' = all_digits b index other.1 in
    let spelled = same_digits a b 0 0 (first.0 ∙ sym other.0) digits.0 digits'.0 (digits.1 ∙ sym digits'.1) in
    (bytes_eq-Decides (lower_case a) (lower_case b)).1 (folded_glyphs a digits.0 ∙ spelled.1 ∙ sym (folded_glyphs b digits'.0))

-- ---- sections

one_of_all : {X : Type 0} (P : X → Type 0) (xs : List X) (x : X) (k : ℕ) → AllByRecursion P xs → k < length xs
    → get_or xs k x ≡ x → P x
one_of_all P [] x k h lt is = absurd (omega arith)
one_of_all P (y ∷ ys) x zero h lt is = rw (← is) h.0
one_of_all P (y ∷ ys) x (suc k) h lt is = one_of_all P ys x k h.1 (omega arith) is

apart_once : (ss : List Section) (s t : Section) (j k : ℕ) → AreApart same_name ss → j < length ss → get_or ss j s ≡ s
    → k < length ss → get_or ss k t ≡ t → same s.name t.name ≡ true → s ≡ t
apart_once [] s t j k h lt is lt' is' e = absurd (omega arith)
apart_once (x ∷ ss) s t zero zero h lt is lt' is' e = sym is ∙ is'
apart_once (x ∷ ss) s t zero (suc k) h lt is lt' is' e =
    let other : same x.name t.name ≡ false = one_of_all (λ y. same_name x y ≡ false) ss t k h.0 (omega arith) is' in
    absurd (false≢true (sym other ∙ ap (λ (y : Section). same y.name t.name) is ∙ e))
apart_once (x ∷ ss) s t (suc j) zero h lt is lt' is' e =
    let other : same x.name s.name ≡ false = one_of_all (λ y. same_name x y ≡ false) ss s j h.0 (omega arith) is in
    absurd (false≢true (sym other ∙ ap (λ (y : Section). same y.name s.name) is' ∙ same_sym t.name s.name ∙ e))
apart_once (x ∷ ss) s t (suc j) (suc k) h lt is lt' is' e =
    apart_once ss s t j k h.1 (omega arith) is (omega arith) is' e

-- the sections of a text are named once
pub read_named_once : (text : List ℕ) → AreNamedOnce (content_of text).sections
read_named_once text s t index there there' named named' =
    apart_once (content_of text).sections s t there.0 there'.0 (read_is_printable text).apart there.1 there.2 there'.1
    there'.2 (one_index_one_name s.name t.name index named named')
