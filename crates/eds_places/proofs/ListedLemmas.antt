-- The table of sections of compact values.
use Rattle.std.proofs.Common.{◌≡◌, ℕ, ◌+◌, ◌<◌, Bool, true, false, List, [], ◌∷◌, ◌++◌, length, take, get_or, Option}
use Rattle.std.proofs.Common.{None, Some, refl, sym, ap, ◌∙◌}
use Rattle.std.specs.Prelude.{if◌then◌else◌, option_map, MatchOption}
use Rattle.std.specs.BTreeMap.{is_at}
use Rattle.std.specs.Map.{lookup}
use Rattle.std.specs.List.{find, slice_get}
use Rattle.std.specs.Option.{option_or}
use Rattle.std.specs.Ordering.{nat_cmp}
use Rattle.std.proofs.lemmas.List.{take_more}
use Rattle.std.proofs.lemmas.List.Folds.{find-append}
use Rattle.std.proofs.lemmas.Option.{slice_get-get_or}
use Rattle.ini_text.specs.Content.{Section, Pair}
use Rattle.eds_places.specs.declared.index.Listed.{Listed}
use Rattle.eds_entries.specs.Names.{sub_listed, values_named}
use Rattle.eds_places.specs.Index.{FindsFirsts, IsListed, FindsListed}
use Rattle.eds_places.specs.Origins.{is_index, listed_value, values_section}

-- no section is seen
pub none_listed : (entries : List (ℕ × Listed)) (all : List Section) → entries ≡ [] → FindsListed entries all []
unfolding FindsListed
none_listed entries all h = λ key. rw h refl

abbrev when_named : ℕ → Option ℕ → Section → Option Section
when_named key named s = if is_index key named then Some s else None

or_none : (o : Option Section) → option_or o None ≡ o
or_none None = refl
or_none (Some s) = refl

seen_more : (key : ℕ) (all : List Section) (i : ℕ) (s : Section) → i < length all → s ≡ get_or all i s
    → find (λ x. is_index key (values_named x.name)) (take (i + 1) all)
    ≡ option_or (find (λ x. is_index key (values_named x.name)) (take i all))
    (when_named key (values_named s.name) s)
seen_more key all i s lt is =
    let test : Section → Bool = λ x. is_index key (values_named x.name) in
    let more : take (i + 1) all ≡ take i all ++ s ∷ [] = take_more all i s lt ∙ ap (λ x. take i all ++ x ∷ []) (sym is)
    in
    ap (find test) more ∙ find-append test (take i all) (s ∷ [])

-- one more section is seen, of no values
pub more_unlisted : (entries : List (ℕ × Listed)) (all : List Section) (i : ℕ) (s : Section) → i < length all
    → s ≡ get_or all i s → values_named s.name ≡ None
    → FindsListed entries all (take i all) → FindsListed entries all (take (i + 1) all)
unfolding FindsListed
more_unlisted entries all i s lt is none so_far = λ key.
    let same : find (λ x. is_index key (values_named x.name)) (take (i + 1) all)
    ≡ find (λ x. is_index key (values_named x.name)) (take i all) =
    seen_more key all i s lt is ∙ ap (λ o. option_or (find (λ x. is_index key (values_named x.name)) (take i all))
    (when_named key o s)) none ∙ or_none (find (λ x. is_index key (values_named x.name)) (take i all)) in
    rw same (so_far key)

-- one more section is seen, of values
pub more_listed : (old new : List (ℕ × Listed)) (listed : Listed) (index : ℕ) (all : List Section) (s : Section)
    → listed.position < length all → s ≡ get_or all listed.position s → values_named s.name ≡ Some index
    → FindsFirsts nat_cmp (λ key (p : Pair). is_index key (sub_listed p.key)) listed.pairs.entries s.pairs s.pairs
    → ((key : ℕ) → lookup (is_at (nat_cmp key)) new ≡ option_or (lookup (is_at (nat_cmp key)) old)
    (if is_index key (Some index) then Some listed else None))
    → FindsListed old all (take listed.position all) → FindsListed new all (take (listed.position + 1) all)
unfolding FindsListed
more_listed old new listed index all s lt is named finds added so_far = λ key.
    rw (added key, seen_more key all listed.position s lt is, named)
    (step (lookup (is_at (nat_cmp key)) old)
    (find (λ x. is_index key (values_named x.name)) (take listed.position all)) (is_index key (Some index))
    (so_far key))
  where
    there : slice_get all listed.position ≡ Some s
    there = slice_get-get_or all listed.position s lt ∙ ap Some (sym is)

    step : (o : Option Listed) (p : Option Section) (t : Bool) → MatchOption o (p ≡ None) (λ l. IsListed l p all)
        → let now : Option Listed = if t then Some listed else None in let here : Option Section = if t then Some s
        else None in MatchOption (option_or o now) (option_or p here ≡ None)
        (λ l. IsListed l (option_or p here) all)
    step None p true h = rw h (record { section = s; named = refl; there = there; finds = finds })
    step None p false h = rw h refl
    step (Some l) p t h = record {
      section = h.section;
      named = ap (λ q. option_or q (let here : Option Section = if t then Some s else None in here)) h.named;
      there = h.there;
      finds = h.finds;
    }

-- what the table has is the first section
pub values_found : (entries : List (ℕ × Listed)) (all : List Section) (listed : Listed) (index : ℕ)
    → FindsListed entries all all → lookup (is_at (nat_cmp index)) entries ≡ Some listed
    → IsListed listed (values_section all index) all
unfolding FindsListed values_section
values_found entries all listed index h at = rw at at (h index)

pub no_values_found : (entries : List (ℕ × Listed)) (all : List Section) (index : ℕ) → FindsListed entries all all
    → lookup (is_at (nat_cmp index)) entries ≡ None
    → values_section all index ≡ None
unfolding FindsListed values_section
no_values_found entries all index h at = rw at at (h index)

pub nothing_listed : (ss : List Section) (index sub : ℕ) → values_section ss index ≡ None
    → listed_value ss index sub ≡ None
unfolding listed_value
nothing_listed ss index sub h = rw h refl

pub listed_in : (ss : List Section) (index sub : ℕ) (s : Section) → values_section ss index ≡ Some s
    → listed_value ss index sub ≡ option_map (λ (p : Pair). p.value)
    (find (λ p. is_index sub (sub_listed p.key)) s.pairs)
unfolding listed_value
listed_in ss index sub s h = rw h refl

pub none_is_not_some : {x : Section} → let none : Option Section = None in none ≡ Some x → ⊥
none_is_not_some e = cc

pub some_is_one : {x y : Section} → Some x ≡ Some y → x ≡ y
some_is_one e = cc
