-- What the entries hold of the writes so far.
use Rattle.std.proofs.Common.{◌≡◌, ◌≢◌, ℕ, ◌+◌, ◌<◌, Bool, true, List, [], ◌∷◌, Option, Some, None}
use Rattle.std.proofs.Common.{◌⊎◌, inl, inr, refl, sym, ap, ◌∙◌, subst, arith}
use Rattle.std.proofs.lemmas.List.Elements.{Contains-append_right}
use Rattle.std.specs.FinMap.{get, insert}
use Rattle.std.proofs.lemmas.Option.{same_Some}
use Rattle.co_dict.specs.Values.{Values}
use Rattle.co_dict.proofs.PlaceLemmas.{written_elsewhere, written_there}
use Rattle.image_parts.specs.Contents.{Image, write_of}
use Rattle.image_parts.specs.declared.part.Part.TheVariants.{Boot}
use Rattle.concise_dcf.specs.declared.write.Write.{Write}
use Rattle.network_laws.specs.Written.{AgreeButRegister, AreOf, AreStored, NoneBySdo, Written, error_register}
use Rattle.network_laws.specs.Written.{with_writes}
use Rattle.network_laws.specs.Exchanges.{GivesBelow, HoldsBelow}
use Rattle.image_parts.specs.Configured.{IsWrite}
use Rattle.network_laws.specs.Files.{HasData, IsExcepted}
use Rattle.concise_dcf.specs.Writes.{place_of}
use Rattle.network_laws.proofs.ListLemmas.{below_next, place_or_not}
use Rattle.network_laws.proofs.MarkLemmas.{IsWritten, stays_marked, told, written_is_marked}
use Rattle.std.proofs.lemmas.Bool.{cases_eq}

-- where writes are stored, a value changes where it is written alone
kept_or_written : (writes : List Written) (values : Values) (place : ℕ × ℕ)
    → (get (with_writes writes values) place ≡ get values place) ⊎ IsWritten place writes
kept_or_written [] values place = inl refl
kept_or_written (w ∷ writes) values place =
    by (kept_or_written writes (insert values w.place w.bytes) place) (place_or_not w.place place)
  where
    by : (get (with_writes writes (insert values w.place w.bytes)) place ≡ get (insert values w.place w.bytes) place)
        ⊎ IsWritten place writes → (w.place ≡ place) ⊎ (w.place ≢ place)
        → (get (with_writes writes (insert values w.place w.bytes)) place ≡ get values place)
        ⊎ IsWritten place (w ∷ writes)
    by (inr later) here = inr (later.0, (Contains-append_right (w ∷ []) writes later.0 later.1.0, later.1.1))
    by (inl same) (inl here) = inr (w, ((0, omega arith, refl), here))
    by (inl same) (inr apart) = inl (same ∙ written_elsewhere values w.place place w.bytes (λ e. apart (sym e)))

pub changed_by : (writes : List Written) (values left : Values) → AreStored writes values left → (place : ℕ × ℕ)
    → place ≢ error_register → (get left place ≡ get values place) ⊎ IsWritten place writes
changed_by writes values left stored place apart = by (kept_or_written writes values place)
  where
    by : (get (with_writes writes values) place ≡ get values place) ⊎ IsWritten place writes
        → (get left place ≡ get values place) ⊎ IsWritten place writes
    by (inl same) = inl (stored place apart ∙ same)
    by (inr written) = inr written

module _ (image : Image) (node : ℕ) where
  abbrev Below : (ℕ × ℕ → Bool) → Values → ℕ → Type 0
  Below marks values j = HoldsBelow image node marks values j

  -- before the first write nothing is said
  pub none_below : (marks : ℕ × ℕ → Bool) (values : Values) → Below marks values 0
  none_below marks values = record {
    there = λ k h. absurd (omega (arith, h));
    holds = λ place bytes g. absurd (nothing g.number g.below);
  }
    where
      nothing : (k : ℕ) → k < 0 → ⊥
      nothing k h = omega (arith, h)

  -- where others than the SDO server write, the entries that change are marked
  pub others_wrote : (marks after : ℕ × ℕ → Bool) (values left : Values) (j : ℕ) (writes : List Written)
      → ((place : ℕ × ℕ) → after place ≡ told (marks place) writes node place)
      → NoneBySdo writes → AreOf node writes → AreStored writes values left
      → Below marks values j → Below after left j
  others_wrote marks after values left j writes now none own stored h = record {
    there = h.there;
    holds = λ place bytes g. by place bytes g (place_or_not place error_register);
  }
    where
      marked : (place : ℕ × ℕ) → marks place ≡ true → after place ≡ true
      marked place e = now place ∙ ap (λ (b : Bool). told b writes node place) e ∙ stays_marked node place writes none

      still : (place : ℕ × ℕ) (bytes : List ℕ)
          → (get left place ≡ get values place) ⊎ IsWritten place writes
          → IsExcepted marks place ⊎ HasData values place bytes → IsExcepted after place ⊎ HasData left place bytes
      still place bytes c (inl (inl e)) = inl (inl e)
      still place bytes c (inl (inr e)) = inl (inr (marked place e))
      still place bytes (inl same) (inr held) = inr (same ∙ held)
      still place bytes (inr written) (inr held) =
          inl (inr (now place ∙ written_is_marked node place writes none own written (marks place)))

      by : (place : ℕ × ℕ) (bytes : List ℕ) → GivesBelow image node j place bytes
          → (place ≡ error_register) ⊎ (place ≢ error_register) → IsExcepted after place ⊎ HasData left place bytes
      by place bytes g (inl e) = inl (inl e)
      by place bytes g (inr apart) =
          still place bytes (changed_by writes values left stored place apart) (h.holds place bytes g)

  -- where nothing was written but the error register
  pub nothing_wrote : (marks after : ℕ × ℕ → Bool) (values left : Values) (j : ℕ)
      → ((place : ℕ × ℕ) → after place ≡ marks place) → AgreeButRegister values left
      → Below marks values j → Below after left j
  nothing_wrote marks after values left j now agree h = record {
    there = h.there;
    holds = λ place bytes g. by place bytes (h.holds place bytes g) (place_or_not place error_register);
  }
    where
      by : (place : ℕ × ℕ) (bytes : List ℕ) → IsExcepted marks place ⊎ HasData values place bytes
          → (place ≡ error_register) ⊎ (place ≢ error_register) → IsExcepted after place ⊎ HasData left place bytes
      by place bytes k (inl e) = inl (inl e)
      by place bytes (inl (inl e)) (inr apart) = inl (inl e)
      by place bytes (inl (inr e)) (inr apart) = inl (inr (now place ∙ e))
      by place bytes (inr held) (inr apart) = inr (agree place apart ∙ held)

  -- write j was stored
  module _ (marks after : ℕ × ℕ → Bool) (values left : Values) (j : ℕ) (write : Write)
      (is_write : IsWrite image node j write)
      (now : (place : ℕ × ℕ) → place_of write ≢ place → after place ≡ marks place)
      (agree : AgreeButRegister (insert values (place_of write) write.bytes) left)
      (h : Below marks values j) where
    found : (k : ℕ) → k < j + 1 → write_of (image (Boot node k)) ≢ None
    found k below = by (cases_eq k j)
      where
        some : (o : Option Write) → o ≡ Some write → o ≢ None
        some o e f = absurd (cc)

        by : (k ≡ j) ⊎ (k ≢ j) → write_of (image (Boot node k)) ≢ None
        by (inl e) = rw e (some (write_of (image (Boot node j))) is_write)
        by (inr apart) = h.there k (below_next k j below apart)

    stored_here : (place : ℕ × ℕ) (bytes : List ℕ) → place_of write ≡ place → write.bytes ≡ bytes
        → place ≢ error_register → HasData left place bytes
    stored_here place bytes e f apart =
        agree place apart
        ∙ subst (λ (p : ℕ × ℕ). get (insert values (place_of write) write.bytes) p ≡ Some bytes) e
        (written_there values (place_of write) write.bytes ∙ ap Some f)

    earlier : (place : ℕ × ℕ) (bytes : List ℕ) (g : GivesBelow image node (j + 1) place bytes) → g.number < j
        → GivesBelow image node j place bytes
    earlier place bytes g below = record {
      number = g.number;
      write = g.write;
      below = below;
      is_write = g.is_write;
      names = g.names;
      gives = g.gives;
      is_last = λ later other l m w. g.is_last later other l (omega (arith, m)) w;
    }

    abbrev Is : ℕ × ℕ → List ℕ → Type 0
    Is place bytes = IsExcepted after place ⊎ HasData left place bytes

    elsewhere : (place : ℕ × ℕ) (bytes : List ℕ) → place_of write ≢ place → place ≢ error_register
        → IsExcepted marks place ⊎ HasData values place bytes → Is place bytes
    elsewhere place bytes other apart (inl (inl e)) = inl (inl e)
    elsewhere place bytes other apart (inl (inr e)) = inl (inr (now place other ∙ e))
    elsewhere place bytes other apart (inr held) =
        inr (agree place apart
        ∙ written_elsewhere values (place_of write) place write.bytes (λ e. other (sym e)) ∙ held)

    not_the_last : (place : ℕ × ℕ) (bytes : List ℕ) → GivesBelow image node (j + 1) place bytes
        → place_of write ≢ place → (k : ℕ) → k ≡ j → (w : Write) → IsWrite image node k w → place_of w ≡ place → ⊥
    not_the_last place bytes g other k same w is names =
        other (ap place_of (same_Some write w (sym is_write ∙ subst (λ i. IsWrite image node i w) same is)) ∙ names)

    by_place : (place : ℕ × ℕ) (bytes : List ℕ) (g : GivesBelow image node (j + 1) place bytes)
        → (place_of write ≡ place) ⊎ (place_of write ≢ place) → (g.number ≡ j) ⊎ (g.number ≢ j)
        → place ≢ error_register → Is place bytes
    by_place place bytes g (inl e) (inl last) apart =
        inr (stored_here place bytes e
        (ap (λ (w : Write). w.bytes) (same_Some write g.write (sym is_write ∙ subst (λ i. IsWrite image node i g.write) last g.is_write))
        ∙ g.gives) apart)
    by_place place bytes g (inl e) (inr before) apart =
        absurd (g.is_last j write (below_next g.number j g.below before) (omega arith) is_write e)
    by_place place bytes g (inr other) (inl last) apart =
        absurd (not_the_last place bytes g other g.number last g.write g.is_write g.names)
    by_place place bytes g (inr other) (inr before) apart =
        elsewhere place bytes other apart
        (h.holds place bytes (earlier place bytes g (below_next g.number j g.below before)))

    by_register : (place : ℕ × ℕ) (bytes : List ℕ) → GivesBelow image node (j + 1) place bytes
        → (place ≡ error_register) ⊎ (place ≢ error_register) → Is place bytes
    by_register place bytes g (inl e) = inl (inl e)
    by_register place bytes g (inr apart) =
        by_place place bytes g (place_or_not (place_of write) place) (cases_eq g.number j) apart

    pub one_more_below : Below after left (j + 1)
    one_more_below = record {
      there = found;
      holds = λ place bytes g. by_register place bytes g (place_or_not place error_register);
    }
