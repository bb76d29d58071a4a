-- Segments with numbers of their states.
use Rattle.std.proofs.Common.{◌≡◌, ℕ, zero, suc, ◌≤◌, true, false, ◌⊎◌, inl, inr, List, [], ◌∷◌, ◌++◌, take, length}
use Rattle.std.proofs.Common.{Contains, Some, None, nat_eq, refl, sym, ap, subst, ◌∙◌, arith, length-append}
use Rattle.std.specs.Map.{lookup, lookup_entry, remove_entry}
use Rattle.std.proofs.lemmas.List.{take_all}
use Rattle.lru.specs.LruCache.{promoted}
use Rattle.lru.proofs.CallerLemmas.{Contains-take, Contains-promoted}
use Rattle.kept_values.proofs.EntryLemmas.{head_in, tail_in, in_cons, none_in}
use Rattle.can_bus.specs.Bus.{Bus}
use Rattle.co_segments.specs.Placed.{AreNamed, AreSound, IsLater, IsNamed, ServesNone, IsEndNumber}
use Rattle.co_segments.specs.Placed.{Meaning, Numbered, Placed, kept_of}
use Rattle.co_segments.specs.declared.numbers_given.NumbersGiven.{NumbersGiven}
use Rattle.trace_spans.proofs.KnownLemmas.{all_marked_later}
use Rattle.trace_spans.proofs.NumberLemmas.{stands_later}
use Rattle.image_parts.specs.Contents.{Image}
use Rattle.co_segments.specs.Segments.{Advances, IsValidOnce, IsStale, Segment, Serves, TraceState, Uses}
use Rattle.co_segments.proofs.ValidLemmas.{gives_from_serves, valid_from_sound}

-- ---- what a look-up finds

pub in_lookup : (key : ℕ) (es : List (ℕ × Placed)) (s : Placed) → lookup (nat_eq key) es ≡ Some s
    → (k : ℕ) × Contains es (k, s)
in_lookup key [] s h = cc
in_lookup key (e ∷ es) s h = (elim (nat_eq key e.0) as (λ t. nat_eq key e.0 ≡ t → (k : ℕ) × Contains (e ∷ es) (k, s)) [
  | true ↦ λ t.
      let h' = rw t at h in
      let same : e.1 ≡ s = cc in
      (e.0, subst (λ x. Contains (e ∷ es) (e.0, x)) same (head_in e es))
  | false ↦ λ t.
      let rest = in_lookup key es s (rw t at h) in
      (rest.0, tail_in e es (rest.0, s) rest.1)
]) refl

-- the segments before and after one that goes first
pub record IsFirst (key : ℕ) (es : List (ℕ × Placed)) (s : Placed) : Type 0 where
  pub before : List Segment
  pub after : List Segment
  pub held_is : kept_of es ≡ before ++ s.kept ∷ after
  pub others : kept_of (remove_entry (nat_eq key) es) ≡ before ++ after
  pub key_found : ℕ
  pub found : lookup_entry (nat_eq key) es ≡ Some (key_found, s)

none_some : (s : Placed) → None ≡ Some s → ⊥
none_some s e = cc

pub first_from_lookup : (key : ℕ) (es : List (ℕ × Placed)) (s : Placed) → lookup (nat_eq key) es ≡ Some s
    → IsFirst key es s
first_from_lookup key [] s h = absurd (none_some s h)
first_from_lookup key (e ∷ es) s h = (elim (nat_eq key e.0) as (λ t. nat_eq key e.0 ≡ t → IsFirst key (e ∷ es) s) [
  | true ↦ λ t.
      let h' = rw t at h in
      let same : e.1 ≡ s = cc in
      record {
        before = [];
        after = kept_of es;
        held_is = ap (λ (p : Placed). p.kept ∷ kept_of es) same;
        others = rw t refl;
        key_found = e.0;
        found = rw t (ap (λ (p : Placed). Some (e.0, p)) same);
      }
  | false ↦ λ t.
      let f = first_from_lookup key es s (rw t at h) in
      record {
        before = e.1.kept ∷ f.before;
        after = f.after;
        held_is = ap (λ ks. e.1.kept ∷ ks) f.held_is;
        others = rw t (ap (λ ks. e.1.kept ∷ ks) f.others);
        key_found = f.key_found;
        found = rw t f.found;
      }
]) refl

pub kept_promoted : (key : ℕ) (es : List (ℕ × Placed)) (s : Placed) (f : IsFirst key es s)
    → kept_of (promoted (nat_eq key) es) ≡ s.kept ∷ (f.before ++ f.after)
kept_promoted key es s f = rw f.found (ap (λ ks. s.kept ∷ ks) f.others)

length_kept : (es : List (ℕ × Placed)) → length (kept_of es) ≡ length es
length_kept [] = refl
length_kept (e ∷ es) = omega (arith, length_kept es)

-- a held segment that goes first pushes none out
promoted_fits : (key : ℕ) (es : List (ℕ × Placed)) (s : Placed) (f : IsFirst key es s) (capacity : ℕ)
    → length es ≤ capacity → kept_of (promoted (nat_eq key) es) ≡ take capacity (s.kept ∷ (f.before ++ f.after))
promoted_fits key es s f capacity fits =
    let all : length (kept_of es) ≡ length (f.before ++ s.kept ∷ f.after) = ap length f.held_is in
    kept_promoted key es s f
    ∙ sym (take_all capacity (s.kept ∷ (f.before ++ f.after)) (omega (
      arith,
      fits,
      length_kept es,
      all,
      length-append f.before (s.kept ∷ f.after),
      length-append f.before f.after,
    )))

kept_take : (n : ℕ) (es : List (ℕ × Placed)) → kept_of (take n es) ≡ take n (kept_of es)
kept_take zero es = refl
kept_take (suc n) [] = refl
kept_take (suc n) (e ∷ es) = ap (λ ks. e.1.kept ∷ ks) (kept_take n es)

pub kept_added : (n key : ℕ) (s : Placed) (es : List (ℕ × Placed))
    → kept_of (take n ((key, s) ∷ es)) ≡ take n (s.kept ∷ kept_of es)
kept_added n key s es = kept_take n ((key, s) ∷ es)

-- a kept segment is that of an entry
pub in_kept : (es : List (ℕ × Placed)) (k : Segment) → Contains (kept_of es) k
    → (e : ℕ × Placed) × (Contains es e × (e.1.kept ≡ k))
in_kept [] k c = absurd (none_in k c)
in_kept (e ∷ es) k c = elim (in_cons e.1.kept (kept_of es) k c) [
  | inl is ↦ (e, (head_in e es, is))
  | inr rest ↦ (let f = in_kept es k rest in (f.0, (tail_in e es f.0 f.1.0, f.1.1)))
]

-- ---- what holds of all segments

pub sound_promoted : (key : ℕ) (es : List (ℕ × Placed)) → AreSound es → AreSound (promoted (nat_eq key) es)
sound_promoted key es h = λ e c. h e (Contains-promoted (nat_eq key) es e c)

pub named_promoted : (m : Meaning) (given : NumbersGiven) (key : ℕ) (es : List (ℕ × Placed)) → AreNamed m given es
    → AreNamed m given (promoted (nat_eq key) es)
named_promoted m given key es h = λ e c. h e (Contains-promoted (nat_eq key) es e c)

pub sound_added : (n key : ℕ) (s : Placed) (es : List (ℕ × Placed)) → IsValidOnce s.kept → AreSound es
    → AreSound (take n ((key, s) ∷ es))
sound_added n key s es sound h = λ e c. by e (in_cons (key, s) es e (Contains-take n ((key, s) ∷ es) e c))
  where
    by : (e : ℕ × Placed) → ((key, s) ≡ e) ⊎ Contains es e → IsValidOnce e.1.kept
    by e (inl is) = subst (λ (x : ℕ × Placed). IsValidOnce x.1.kept) is sound
    by e (inr c) = h e c

pub named_added : (m : Meaning) (given : NumbersGiven) (n key : ℕ) (s : Placed) (es : List (ℕ × Placed)) → IsNamed m given s
    → AreNamed m given es → AreNamed m given (take n ((key, s) ∷ es))
named_added m given n key s es new h = λ e c. by e (in_cons (key, s) es e (Contains-take n ((key, s) ∷ es) e c))
  where
    by : (e : ℕ × Placed) → ((key, s) ≡ e) ⊎ Contains es e → IsNamed m given e.1
    by e (inl is) = subst (λ (x : ℕ × Placed). IsNamed m given x.1) is new
    by e (inr c) = h e c

-- ---- once more numbers were given

module _ (old new : Meaning) (given later : NumbersGiven) (grows : IsLater old given new later) where
  pub one_later : (s : Placed) → IsNamed old given s → IsNamed new later s
  one_later s h = record {
    start = stands_later old.buses new.buses given.buses later.buses s.start s.kept.start grows.buses grows.more_buses
        h.start;
    end = stands_later old.buses new.buses given.buses later.buses s.end s.kept.end grows.buses grows.more_buses h.end;
    reads = all_marked_later old.contents new.contents given.contents later.contents s.reads grows.contents
        grows.more_contents h.reads;
  }

  pub all_later : (es : List (ℕ × Placed)) → AreNamed old given es → AreNamed new later es
  all_later es h = λ e c. one_later e.1 (h e c)

pub reached_bus : (es : List (ℕ × Placed)) (given later : ℕ) (bus : Bus) (n : Numbered) → IsEndNumber es given later bus n
    → n.bus ≡ bus
reached_bus es given later bus n how = elim how [
  | inl new ↦ ap (λ (x : Numbered). x.bus) new.0
  | inr held ↦ ap (λ (x : Numbered). x.bus) held.0.1.1.0 ∙ held.0.1.1.1
]

-- ---- which segment is of use

pub none_stale : (image : Image) (number : ℕ) (start : Bus) (es : List (ℕ × Placed)) → length es ≡ 0
    → IsStale image (kept_of es) number start
none_stale image number start [] h = λ k c s. none_in k c
none_stale image number start (e ∷ es) h = absurd (omega (arith, h))

pub one_stale : (image : Image) (number : ℕ) (start : Bus) (e : ℕ × Placed) (es : List (ℕ × Placed))
    → (Serves image number start e.1.kept → ⊥) → IsStale image (kept_of es) number start
    → IsStale image (kept_of (e ∷ es)) number start
one_stale image number start e es not rest = λ k c s. by k s (in_cons e.1.kept (kept_of es) k c)
  where
    by : (k : Segment) → Serves image number start k → (e.1.kept ≡ k) ⊎ Contains (kept_of es) k → ⊥
    by k s (inl is) = not (subst (λ (x : Segment). Serves image number start x) (sym is) s)
    by k s (inr c) = rest k c s

-- one of another number more, and those of a front of all
pub new_added : (n key : ℕ) (s : Placed) (es : List (ℕ × Placed)) (number : ℕ) (bus : Bus)
    → (s.kept.number ≡ number → ⊥)
    → ServesNone es number bus → ServesNone (take n ((key, s) ∷ es)) number bus
new_added n key s es number bus other h = λ image k c serves.
    one_stale image number bus (key, s) es (λ x. other x.0) (h image) k
    (Contains-take n (s.kept ∷ kept_of es) k (subst (λ ks. Contains ks k) (kept_added n key s es) c)) serves

-- a held segment that serves is used, and goes first
pub uses_held : (image : Image) (capacity number : ℕ) (s next : TraceState) (key : ℕ) (es : List (ℕ × Placed))
    (p : Placed) → AreSound es → length es ≤ capacity → lookup (nat_eq key) es ≡ Some p
    → Serves image number s.bus p.kept → s.held ≡ kept_of es
    → next ≡ record s { bus = p.kept.end; held = kept_of (promoted (nat_eq key) es); told = s.told ++ p.kept.lines }
    → Advances image capacity number s next
uses_held image capacity number s next key es p sound fits found serves held is =
    let f = first_from_lookup key es p found in
    let c = in_lookup key es p found in
    let gives = gives_from_serves image number s.bus p.kept (valid_from_sound p.kept (sound (c.0, p) c.1)) serves in
    let first = promoted_fits key es p f capacity fits in
    Uses p.kept f.before f.after (held ∙ f.held_is) serves gives
    (is ∙ (λ i. record s { bus = p.kept.end; held = first i; told = s.told ++ p.kept.lines }))
