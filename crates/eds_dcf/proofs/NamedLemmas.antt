-- What the names of sections say: no section of the node, nor one of values, is that of an entry.
use Rattle.std.proofs.Common.{◌≡◌, ◌==◌, ℕ, Bool, true, false, cond, List, length, take, drop, codes, bytes_eq, Option}
use Rattle.std.proofs.Common.{None, Some, inl, inr, refl, sym, ap, ◌∙◌, arith}
use Rattle.std.proofs.lemmas.Bool.{eqb-true, false≢true, or_cases}
use Rattle.std.proofs.lemmas.List.{drop-map, drop_all, length-map, take-map}
use Rattle.std.specs.Char.{to_ascii_lowercase}
use Rattle.std.specs.Option.{option_zip}
use Rattle.ini_text.proofs.NameLemmas.{same_folded}
use Rattle.ini_text.specs.Content.{lower_case, same}
use Rattle.base.specs.Digits.{digits_number}
use Rattle.eds_device.specs.Names.{index_named, place_named, sub_named, values_named}
use Rattle.eds_dcf.specs.Commissioning.{first_spelling, is_commissioning, second_spelling}
use Rattle.eds_dcf.specs.Compact.{values_name}

-- ---- parts of names without case

part_folded : (n m : ℕ) (name other : List ℕ) → lower_case name ≡ lower_case other → (word : List ℕ)
    → same (take n (drop m name)) word ≡ same (take n (drop m other)) word
part_folded n m name other is word =
    let fold : (bs : List ℕ) → lower_case (take n (drop m bs))
    ≡ take n (drop m (lower_case bs)) = λ bs. sym (take-map to_ascii_lowercase n (drop m bs))
    ∙ ap (take n) (sym (drop-map to_ascii_lowercase m bs)) in
    ap (λ f. bytes_eq f (lower_case word)) (fold name ∙ ap (λ f. take n (drop m f)) is ∙ sym (fold other))

end_folded : (m : ℕ) (name other : List ℕ) → lower_case name ≡ lower_case other → (word : List ℕ)
    → same (drop m name) word ≡ same (drop m other) word
end_folded m name other is word =
    let fold : (bs : List ℕ) → lower_case (drop m bs) ≡ drop m (lower_case bs) = λ bs. sym (drop-map to_ascii_lowercase m bs) in
    ap (λ f. bytes_eq f (lower_case word)) (fold name ∙ ap (drop m) is ∙ sym (fold other))

length_folded : (name other : List ℕ) → lower_case name ≡ lower_case other → length name ≡ length other
length_folded name other is = sym (length-map name to_ascii_lowercase) ∙ ap length is
    ∙ length-map other to_ascii_lowercase

module _ (name : List ℕ) where
  no_place : same (take 3 (drop 4 name)) (codes "sub") ≡ false → place_named name ≡ None
  unfolding place_named
  no_place h = rw h refl

  no_index : (length name ≡ 4 → ⊥) → index_named name ≡ None
  unfolding index_named
  no_index other = by (length name == 4) refl
    where
      by : (t : Bool) → (length name == 4) ≡ t → cond t (digits_number 16 name) None ≡ None
      by true e = absurd (other (eqb-true (length name) 4 e))
      by false e = refl

  no_values : same (drop 4 name) (codes "Value") ≡ false → values_named name ≡ None
  unfolding values_named
  no_values h = rw h refl

-- a name of the node's section
module _ (name spelled : List ℕ) (is : lower_case name ≡ lower_case spelled) where
  spelled_no_place : same (take 3 (drop 4 spelled)) (codes "sub") ≡ false → place_named name ≡ None
  spelled_no_place h = no_place name (part_folded 3 4 name spelled is (codes "sub") ∙ h)

  spelled_no_index : (length spelled ≡ 4 → ⊥) → index_named name ≡ None
  spelled_no_index other = no_index name (λ four. other (sym (length_folded name spelled is) ∙ four))

  spelled_no_values : same (drop 4 spelled) (codes "Value") ≡ false → values_named name ≡ None
  spelled_no_values h = no_values name (end_folded 4 name spelled is (codes "Value") ∙ h)

pub record IsOther (name : List ℕ) : Type 0 where
  pub no_place : place_named name ≡ None
  pub no_index : index_named name ≡ None

other_as : (name spelled : List ℕ) → lower_case name ≡ lower_case spelled → same (take 3 (drop 4 spelled)) (codes "sub") ≡ false
    → (length spelled ≡ 4 → ⊥) → IsOther name
other_as name spelled is place index = record {
  no_place = spelled_no_place name spelled is place;
  no_index = spelled_no_index name spelled is index;
}

pub node_is_other : (name : List ℕ) → is_commissioning name ≡ true → IsOther name
node_is_other name h = elim (or_cases (same first_spelling name) (same second_spelling name) h) [
  | inl one ↦ other_as name first_spelling (sym (same_folded first_spelling name one)) refl (λ e. absurd (omega arith))
  | inr two ↦ other_as name second_spelling (sym (same_folded second_spelling name two)) refl
      (λ e. absurd (omega arith))
]

pub node_no_values : (name : List ℕ) → is_commissioning name ≡ true → values_named name ≡ None
node_no_values name h = elim (or_cases (same first_spelling name) (same second_spelling name) h) [
  | inl one ↦ spelled_no_values name first_spelling (sym (same_folded first_spelling name one)) refl
  | inr two ↦ spelled_no_values name second_spelling (sym (same_folded second_spelling name two)) refl
]

-- a name of values that is made, and any other name of values
pub made_is_other : (index : ℕ) → IsOther (values_name index)
unfolding place_named index_named
made_is_other index = record { no_place = refl; no_index = refl }

pub index_no_values : (name : List ℕ) (index : ℕ) → index_named name ≡ Some index → values_named name ≡ None
unfolding index_named
index_no_values name index e = by (length name == 4) refl e
  where
    by : (t : Bool) → (length name == 4) ≡ t → cond t (digits_number 16 name) None ≡ Some index
        → values_named name ≡ None
    by true h e = let four : length name ≡ 4 = eqb-true (length name) 4 h
        in no_values name (ap (λ bs. same bs (codes "Value")) (drop_all 4 name (omega arith)))
    by false h e = absurd (cc)

-- three letters of `Value` aren't `sub`
sub_no_values : (name : List ℕ) → same (take 3 (drop 4 name)) (codes "sub") ≡ true
    → same (drop 4 name) (codes "Value") ≡ false
sub_no_values name h = by (same (drop 4 name) (codes "Value")) refl
  where
    by : (t : Bool) → same (drop 4 name) (codes "Value") ≡ t → t ≡ false
    by true e =
        let letters : lower_case (take 3 (drop 4 name))
        ≡ take 3 (lower_case (codes "Value")) = sym (take-map to_ascii_lowercase 3 (drop 4 name))
        ∙ ap (take 3) (same_folded (drop 4 name) (codes "Value") e) in
        absurd (false≢true (sym (ap (λ f. bytes_eq f (lower_case (codes "sub"))) letters) ∙ h))
    by false e = refl

pub place_no_values : (name : List ℕ) (place : ℕ × ℕ) → place_named name ≡ Some place → values_named name ≡ None
unfolding place_named
place_no_values name place e = by (same (take 3 (drop 4 name)) (codes "sub")) refl e
  where
    by : (t : Bool) → same (take 3 (drop 4 name)) (codes "sub") ≡ t
        → cond t (option_zip (index_named (take 4 name)) (sub_named (drop 7 name))) None ≡ Some place
        → values_named name ≡ None
    by true h e = no_values name (sub_no_values name h)
    by false h e = absurd (cc)

-- a section of values is that of no entry
pub values_is_other : (name : List ℕ) (index : ℕ) → values_named name ≡ Some index → IsOther name
values_is_other name index e = record { no_place = by (place_named name) refl; no_index = at (index_named name) refl }
  where
    by : (o : Option (ℕ × ℕ)) → place_named name ≡ o → o ≡ None
    by None h = refl
    by (Some place) h = let none = place_no_values name place h in absurd (cc)

    at : (o : Option ℕ) → index_named name ≡ o → o ≡ None
    at None h = refl
    at (Some n) h = let none = index_no_values name n h in absurd (cc)
