-- The program's own index of a content, which no contract of a public call shows: each table has the position of the
-- first section of a name.
use Rattle.std.specs.Prelude.{◌≡◌, ℕ, Bool, List, ◌≤◌, length, map, Option, Some, None, option_map, MatchOption}
use Rattle.std.specs.declared.cmp.Ordering.{Ordering}
use Rattle.std.specs.BTreeMap.{is_at}
use Rattle.std.specs.Map.{lookup}
use Rattle.std.specs.List.{find, slice_get}
use Rattle.std.specs.Ordering.{nat_cmp}
use Rattle.ini_text.specs.Content.{Section}
use Rattle.eds_entries.specs.declared.said.Said.{Said}
use Rattle.eds_entries.specs.Said.{said_in}
use Rattle.eds_places.specs.declared.index.Listed.{Listed}
use Rattle.eds_places.specs.declared.table.Stand.{Stand}
use Rattle.eds_places.specs.Table.{AreStands}
use Rattle.eds_entries.specs.Names.{index_named, sub_listed, values_named}
use Rattle.eds_places.specs.Places.{pairs_of}
use Rattle.eds_places.specs.Origins.{is_index}
use Rattle.eds_places.specs.Faults.{most_entries}

-- the elements at the positions that a table has are the first ones, of those seen, that pass
unfoldable pub FindsFirsts : {K X : Type 0} → (K → K → Ordering) → (K → X → Bool) → List (K × ℕ) → List X → List X
    → Type 0
FindsFirsts {K} {X} cmp test entries all seen =
    (key : K) → option_map (slice_get all) (lookup (is_at (cmp key)) entries) ≡ option_map Some (find (test key) seen)

-- a section of compact values: where the first one stands, and the positions of its pairs by sub
pub record IsListed (listed : Listed) (first : Option Section) (all : List Section) : Type 0 where
  pub section : Section
  pub named : first ≡ Some section
  pub there : slice_get all listed.position ≡ Some section
  pub finds : FindsFirsts nat_cmp (λ key p. is_index key (sub_listed p.key)) listed.pairs.entries section.pairs
      section.pairs

-- the same of each index
unfoldable pub FindsListed : List (ℕ × Listed) → List Section → List Section → Type 0
FindsListed entries all seen =
    (key : ℕ) → let first = find (λ s. is_index key (values_named s.name)) seen
    in MatchOption (lookup (is_at (nat_cmp key)) entries) (first ≡ None) (λ listed. IsListed listed first all)

-- the tables and the lists of entries are those of the sections
pub record IsIndexed (sections : List Section) (said : List Said) (objects : List (ℕ × ℕ)) (values : List (ℕ × Listed))
    (places : List (ℕ × ℕ)) (stands : List (Option Stand)) : Type 0 where
  pub all_said : said ≡ map said_in sections
  pub finds_objects : FindsFirsts nat_cmp (λ key s. is_index key (index_named s.name)) objects sections sections
  pub finds_values : FindsListed values sections sections
  pub all_places : places ≡ pairs_of sections
  pub not_too_many : length places ≤ most_entries
  pub all_stands : AreStands sections places stands
