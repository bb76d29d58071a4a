-- What is held as it is now, and stays so.
use Rattle.std.proofs.Common.{◌≡◌, ◌∙◌, ℕ, inl, inr, Bool, true, false, ◌||◌, List, [], ◌∷◌, ◌++◌, Option, refl, sym, ap, subst}
use Rattle.std.proofs.Common.{if◌then◌else◌}
use Rattle.std.specs.List.{list_any}
use Rattle.kept_values.specs.Work.{IsToMake, Work}
use Rattle.kept_values.specs.Stale.{settled, AreBrought, Counts, IsOneMore}
use Rattle.kept_values.proofs.Brought.{settled-append}

none_of : (P : Type 0) (m n : ℕ) → (P → ⊥) → IsOneMore P m n → n ≡ m
none_of P m n current h = elim h [ inl x ↦ absurd (current x.0) | inr x ↦ x.1 ]

module _ {N V : Type 0} (same : N → N → Bool) (now : N → Option V) where
  -- each of these is as it is now
  abbrev pub AreNow : List N → (N → Option V) → Type 0
  AreNow ps a = (q : N) → list_any (same q) ps ≡ true → a q ≡ now q

  pub brought_now : (ps : List N) (a b : N → Option V) (m n : Work) → AreBrought same now ps a b m n → AreNow ps b
  brought_now ps a b m n brought q there =
      ap (λ f. f q) brought.settled_is ∙ ap (λ t. if t then now q else a q) there

  pub still_now : (ps qs : List N) (a b : N → Option V) (m n : Work) → AreBrought same now ps a b m n → AreNow qs a
      → AreNow qs b
  still_now ps qs a b m n brought are q there =
      ap (λ f. f q) brought.settled_is ∙ by (list_any (same q) ps) (are q there)
    where
      by : (t : Bool) → a q ≡ now q → (if t then now q else a q) ≡ now q
      by true is = refl
      by false is = is

  -- what is as it is now is no other where it is brought
  settled_stays : (ds : List N) (a : N → Option V) → AreNow ds a → settled same now ds a ≡ a
  settled_stays ds a are = λ i q. by q (list_any (same q) ds) (are q) i
    where
      by : (q : N) (t : Bool) → (t ≡ true → a q ≡ now q) → (if t then now q else a q) ≡ a q
      by q true is = sym (is refl)
      by q false is = refl

  module _ (itself : (q : N) → same q q ≡ true) where
    counts_without : (ds qs : List N) (a : N → Option V) (n : ℕ) → AreNow ds a → Counts same now (ds ++ qs) a n
        → Counts same now qs a n
    counts_without [] qs a n are c = c
    counts_without (d ∷ ds) qs a n are c =
        let one : AreNow (d ∷ []) a = λ q there. are q (first q (same q d) (list_any (same q) ds) there) in
        let rest : Counts same now (ds ++ qs) a c.0 =
        subst (λ (f : N → Option V). Counts same now (ds ++ qs) f c.0) (settled_stays (d ∷ []) a one) c.2 in
        let here : a d ≡ now d = are d (ap (λ t. t || list_any (same d) ds) (itself d)) in
        subst (Counts same now qs a) (sym (none_of (IsToMake (a d) (now d)) c.0 n (λ s. s.0 here) c.1))
        (counts_without ds qs a c.0 (λ q there. are q (later (same q d) (list_any (same q) ds) there)) rest)
      where
        first : (q : N) (s t : Bool) → (s || false) ≡ true → (s || t) ≡ true
        first q true t h = refl
        first q false t h = cc

        later : (s t : Bool) → t ≡ true → (s || t) ≡ true
        later true t h = refl
        later false t h = h

    -- what is as it is now needs no mention
    pub brought_without : (ds qs : List N) (a b : N → Option V) (m n : Work) → AreNow ds a
        → AreBrought same now (ds ++ qs) a b m n → AreBrought same now qs a b m n
    brought_without ds qs a b m n are x =
        record {
          settled_is = x.settled_is ∙ settled-append same now ds qs a
              ∙ ap (settled same now qs) (settled_stays ds a are);
          segments_stay = x.segments_stay;
          parts_rise = x.parts_rise;
          counted = (x.counted.0, counts_without ds qs a x.counted.0 are x.counted.1, x.counted.2);
        }
