-- The last of a node's writes that names an entry, and the last in a concise DCF.
use Rattle.std.proofs.Common.{◌≡◌, ◌≢◌, ℕ, zero, suc, ◌+◌, ◌<◌, ◌≤◌, List, length, Option, Some, None, IfSome}
use Rattle.std.proofs.Common.{◌⊎◌, inl, inr, refl, sym, ap, ◌∙◌, subst, arith, slice_get, get_or}
use Rattle.std.proofs.lemmas.Bool.{cases_eq}
use Rattle.std.proofs.lemmas.Option.{same_Some, slice_get-get_or, slice_get_within}
use Rattle.image_parts.specs.Contents.{Image, write_of}
use Rattle.image_parts.specs.Images.{IsImage, greatest_place}
use Rattle.image_parts.specs.declared.part.Part.TheVariants.{Boot}
use Rattle.concise_dcf.proofs.Entries.{one_list}
use Rattle.concise_dcf.specs.Concise.{IsTextOf}
use Rattle.concise_dcf.specs.declared.write.Write.{Write}
use Rattle.image_parts.specs.Configured.{Configures, HasWritesUpTo, IsWrite}
use Rattle.network_laws.specs.Files.{IsGivenBy, IsLastIn}
use Rattle.concise_dcf.specs.Writes.{place_of}
use Rattle.network_laws.proofs.ListLemmas.{below_next, place_or_not}

some_is_there : {X : Type 0} (o : Option X) (x : X) → o ≡ Some x → o ≢ None
some_is_there o x e f = let contrary : Some x ≡ None = sym e ∙ f in cc

below_or_not : (a b : ℕ) → (a < b) ⊎ (b ≤ a)
below_or_not zero zero = inr (omega arith)
below_or_not zero (suc b) = inl (omega arith)
below_or_not (suc a) zero = inr (omega arith)
below_or_not (suc a) (suc b) = elim (below_or_not a b) [
  | inl less ↦ inl (omega (arith, less))
  | inr more ↦ inr (omega (arith, more))
]

module _ (image : Image) (node : ℕ) where
  abbrev At : ℕ → Option Write
  At k = write_of (image (Boot node k))

  -- ---- the writes end

  -- one is absent, and none before it
  record IsEnd (j : ℕ) : Type 0 where
    absent : At j ≡ None
    before : (k : ℕ) → k < j → At k ≢ None

  end_or_more : (n : ℕ) → ((j : ℕ) × IsEnd j) ⊎ ((k : ℕ) → k < n → At k ≢ None)
  end_or_more zero = inr (λ k less. absurd (omega (arith, less)))
  end_or_more (suc n) = by (end_or_more n) (At n) refl
    where
      by : ((j : ℕ) × IsEnd j) ⊎ ((k : ℕ) → k < n → At k ≢ None) → (o : Option Write) → At n ≡ o
          → ((j : ℕ) × IsEnd j) ⊎ ((k : ℕ) → k < suc n → At k ≢ None)
      by (inl end) o e = inl end
      by (inr all) None e = inl (n, record { absent = e; before = all })
      by (inr all) (Some w) e = inr (λ k less. at k less (cases_eq k n))
        where
          at : (k : ℕ) → k < suc n → (k ≡ n) ⊎ (k ≢ n) → At k ≢ None
          at k less (inl same) = subst (λ (i : ℕ). At i ≢ None) (sym same) (some_is_there (At n) w e)
          at k less (inr apart) = all k (below_next k n (omega (arith, less)) apart)

  -- ---- the last that names an entry

  module _ (place : ℕ × ℕ) where
    record IsLastBelow (j : ℕ) : Type 0 where
      number : ℕ
      write : Write
      below : number < j
      is_write : IsWrite image node number write
      names : place_of write ≡ place
      is_last : (later : ℕ) (other : Write) → number < later → later < j → IsWrite image node later other
          → place_of other ≢ place

    abbrev NoneBelow : ℕ → Type 0
    NoneBelow j = (k : ℕ) (w : Write) → k < j → IsWrite image node k w → place_of w ≢ place

    -- the write names another entry, or there is none
    abbrev IsOther : ℕ → Type 0
    IsOther j = (w : Write) → At j ≡ Some w → place_of w ≢ place

    last_or_none : (j : ℕ) → IsLastBelow j ⊎ NoneBelow j
    last_or_none zero = inr (λ k w less is. absurd (omega (arith, less)))
    last_or_none (suc j) = by (last_or_none j) (At j) refl
      where
        kept : IsOther j → IsLastBelow j → IsLastBelow (suc j)
        kept other h = record {
          number = h.number;
          write = h.write;
          below = omega (arith, h.below);
          is_write = h.is_write;
          names = h.names;
          is_last = λ later w after below is. at later w after below is (cases_eq later j);
        }
          where
            at : (later : ℕ) (w : Write) → h.number < later → later < suc j → IsWrite image node later w
                → (later ≡ j) ⊎ (later ≢ j) → place_of w ≢ place
            at later w after below is (inl same) = other w (ap At (sym same) ∙ is)
            at later w after below is (inr apart) =
                h.is_last later w after (below_next later j (omega (arith, below)) apart) is

        still_none : IsOther j → NoneBelow j → NoneBelow (suc j)
        still_none other none k w less is = at (cases_eq k j)
          where
            at : (k ≡ j) ⊎ (k ≢ j) → place_of w ≢ place
            at (inl same) = other w (ap At (sym same) ∙ is)
            at (inr apart) = none k w (below_next k j (omega (arith, less)) apart) is

        either : IsOther j → IsLastBelow j ⊎ NoneBelow j → IsLastBelow (suc j) ⊎ NoneBelow (suc j)
        either other (inl h) = inl (kept other h)
        either other (inr none) = inr (still_none other none)

        here : (w : Write) → At j ≡ Some w → place_of w ≡ place → IsLastBelow (suc j)
        here w is names = record {
          number = j;
          write = w;
          below = omega arith;
          is_write = is;
          names = names;
          is_last = λ later other after below other_is. absurd (omega (arith, after, below));
        }

        named : (w : Write) → At j ≡ Some w → IsLastBelow j ⊎ NoneBelow j → (place_of w ≡ place) ⊎ (place_of w ≢ place)
            → IsLastBelow (suc j) ⊎ NoneBelow (suc j)
        named w is h (inl same) = inl (here w is same)
        named w is h (inr apart) =
            either (λ v there. subst (λ (x : Write). place_of x ≢ place) (same_Some w v (sym is ∙ there)) apart) h

        by : IsLastBelow j ⊎ NoneBelow j → (o : Option Write) → At j ≡ o → IsLastBelow (suc j) ⊎ NoneBelow (suc j)
        by h None e = either (λ v there. absurd (some_is_there (At j) v there e)) h
        by h (Some w) e = named w e h (place_or_not (place_of w) place)

  -- below the end all are reached, and no others
  reached_below : (j : ℕ) → IsEnd j → (number : ℕ) → HasWritesUpTo image node number → number < j
  reached_below j end number reached = by (below_or_not number j)
    where
      by : (number < j) ⊎ (j ≤ number) → number < j
      by (inl less) = less
      by (inr more) = absurd (reached j more end.absent)

  last_there : (j : ℕ) → IsEnd j → (number : ℕ) (write : Write) → IsWrite image node number write
      → HasWritesUpTo image node number → (bytes : List ℕ) × Configures image node (place_of write) bytes
  last_there j end number write is reached = by (last_or_none (place_of write) j)
    where
      by : IsLastBelow (place_of write) j ⊎ NoneBelow (place_of write) j
          → (bytes : List ℕ) × Configures image node (place_of write) bytes
      by (inl h) = (
        h.write.bytes,
        record {
          number = h.number;
          write = h.write;
          is_write = h.is_write;
          is_reached = λ k up. end.before k (omega (arith, up, h.below));
          names = h.names;
          gives = refl;
          is_last = λ later other after reached other_is.
              h.is_last later other after (reached_below j end later reached) other_is;
        },
      )
      by (inr none) = absurd (none number write (reached_below j end number reached) is refl)

  -- where one is absent, there is an end
  absent_at : (n : ℕ) → IfSome (At n) (λ write. n < n) → At n ≡ None
  absent_at n h = by (At n) h
    where
      by : (o : Option Write) → IfSome o (λ write. n < n) → o ≡ None
      by None h = refl
      by (Some w) h = absurd (omega (arith, h))

  ends_by : (n : ℕ) → At n ≡ None → (j : ℕ) × IsEnd j
  ends_by n none = by (end_or_more (n + 1))
    where
      by : ((j : ℕ) × IsEnd j) ⊎ ((k : ℕ) → k < n + 1 → At k ≢ None) → (j : ℕ) × IsEnd j
      by (inl end) = end
      by (inr all) = absurd (all n (omega arith) none)

  -- ---- there is but one

  pub one_last : (place : ℕ × ℕ) (a b : List ℕ) → Configures image node place a → Configures image node place b → a ≡ b
  one_last place a b c d = by (cases_eq c.number d.number) (below_or_not c.number d.number)
    where
      by : (c.number ≡ d.number) ⊎ (c.number ≢ d.number) → (c.number < d.number) ⊎ (d.number ≤ c.number) → a ≡ b
      by (inl same) order =
          sym c.gives
          ∙ ap (λ (w : Write). w.bytes) (same_Some c.write d.write (sym c.is_write ∙ ap At same ∙ d.is_write)) ∙ d.gives
      by (inr apart) (inl less) = absurd (c.is_last d.number d.write less d.is_reached d.is_write d.names)
      by (inr apart) (inr more) =
          absurd (d.is_last c.number c.write (omega (arith, apart, more)) c.is_reached c.is_write c.names)

  -- ---- a list of writes

  module _ (writes : List Write) (listed : (k : ℕ) → At k ≡ slice_get writes k) where
    reached_in : (later : ℕ) (other : Write) → slice_get writes later ≡ Some other → HasWritesUpTo image node later
    reached_in later other there k up =
        let within : later < length writes = slice_get_within writes later other there in
        some_is_there (At k) (get_or writes k other)
        (listed k ∙ slice_get-get_or writes k other (omega (arith, within, up)))

    to_list : (place : ℕ × ℕ) (bytes : List ℕ) → Configures image node place bytes → IsLastIn writes place bytes
    to_list place bytes c = record {
      number = c.number;
      write = c.write;
      there = sym (listed c.number) ∙ c.is_write;
      names = c.names;
      gives = c.gives;
      is_last = λ later other after there.
          c.is_last later other after (reached_in later other there) (listed later ∙ there);
    }

    from_list : (place : ℕ × ℕ) (bytes : List ℕ) → IsLastIn writes place bytes → Configures image node place bytes
    from_list place bytes h = record {
      number = h.number;
      write = h.write;
      is_write = listed h.number ∙ h.there;
      is_reached = reached_in h.number h.write h.there;
      names = h.names;
      gives = h.gives;
      is_last = λ later other after reached is. h.is_last later other after (sym (listed later) ∙ is);
    }

    module _ (text : List ℕ) (is : IsTextOf writes text) (place : ℕ × ℕ) (bytes : List ℕ) where
      pub in_text : Configures image node place bytes → IsGivenBy text place bytes
      in_text c = (writes, (is, to_list place bytes c))

      pub from_text : IsGivenBy text place bytes → Configures image node place bytes
      from_text h =
          from_list place bytes (subst (λ (ws : List Write). IsLastIn ws place bytes)
          (one_list h.0 writes text h.1.0 is) h.1.1)

pub has_last : (image : Image) → IsImage image → (node number : ℕ) (write : Write) → IsWrite image node number write
    → HasWritesUpTo image node number → (bytes : List ℕ) × Configures image node (place_of write) bytes
has_last image is node number write there reached =
    let end = ends_by image node greatest_place (absent_at image node greatest_place (is.last node greatest_place)) in
    last_there image node end.0 end.1 number write there reached
