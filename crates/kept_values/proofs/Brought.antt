-- Parts that are brought up to date one after another.
use Rattle.std.proofs.Common.{◌≡◌, ℕ, ◌+◌, inl, inr, Bool, true, false, ◌||◌, List, [], ◌∷◌, ◌++◌, Option, Some, None}
use Rattle.std.proofs.Common.{if◌then◌else◌, ◌==◌, refl, sym, ap, ◌∙◌, subst, arith, zero-add, ◌-◌, ◌^◌, min}
use Rattle.std.specs.Prelude.{IfSome, IfNone, is_some}
use borrow.Author.Tests.{eqb-true}
use Rattle.std.specs.List.{list_any}
use Rattle.std.specs.Option.{option_map}
use Rattle.std.proofs.lemmas.List.Folds.{list_any-append}
use Rattle.kept_values.specs.At.{at}
use Rattle.kept_values.specs.Work.{IsMoreBy, IsToMake, NeedsNone, Work, Refreshes, Rises}
use Rattle.kept_values.specs.Stale.{settled, Counts, IsOneMore, AreBrought}

one_more_of : (P : Type 0) (k n m : ℕ) → IsOneMore P k n → IsOneMore P (k + m) (n + m)
one_more_of P k n m h = elim h [
  | inl x ↦ inl (x.0, omega (arith, x.1))
  | inr x ↦ inr (x.0, omega (arith, x.1))
]

more_twice : (n m a b c : ℕ) → IsMoreBy n a b → IsMoreBy m b c → IsMoreBy (n + m) a c
more_twice n m a b c x y = (omega (arith, x.0, y.0), omega (arith, x.1, y.1))

none_more : (m : ℕ) → IsMoreBy 0 m m
none_more m = (omega arith, omega arith)

-- what a part adds
one_counted : (m n : Work) → n ≡ record m { parts = min (m.parts + 1) (2 ^ 64 - 1) } → IsMoreBy 1 m.parts n.parts
one_counted m n is = let e = ap (λ (w : Work). w.parts) is in (omega (arith, e), omega (arith, e))

none_counted : (m n : Work) → n ≡ m → IsMoreBy 0 m.parts n.parts
none_counted m n is = let e = ap (λ (w : Work). w.parts) is in (omega (arith, e), omega (arith, e))

-- what needs no making isn't to be made
none_to_make : {V : Type 0} (a b : Option V) → NeedsNone a b → IsToMake a b → ⊥
none_to_make a b needs s = elim needs [ inl same ↦ s.0 same | inr gone ↦ let e : false ≡ true = sym gone ∙ s.1 in cc ]

module _ {N V : Type 0} (same : N → N → Bool) (now : N → Option V) where
  chosen_twice : (s t : Bool) (x y : Option V) → (if s || t then x else y) ≡ (if t then x else if s then x else y)
  chosen_twice true true x y = refl
  chosen_twice true false x y = refl
  chosen_twice false true x y = refl
  chosen_twice false false x y = refl

  -- parts and then further ones are all of them
  pub settled-append : (ps qs : List N) (held : N → Option V)
      → settled same now (ps ++ qs) held ≡ settled same now qs (settled same now ps held)
  settled-append ps qs held = λ i q.
      let e : (if list_any (same q) (ps ++ qs) then now q else held q)
      ≡ (if list_any (same q) qs then now q else if list_any (same q) ps then now q else held q)
      = ap (λ b. if b then now q else held q) (list_any-append (same q) ps qs)
      ∙ chosen_twice (list_any (same q) ps) (list_any (same q) qs) (now q) (held q) in
      e i

  pub counts-append : (ps qs : List N) (held : N → Option V) (n m : ℕ) → Counts same now ps held n
      → Counts same now qs (settled same now ps held) m → Counts same now (ps ++ qs) held (n + m)
  counts-append [] qs held n m a b =
      subst (Counts same now qs held) (sym (zero-add m) ∙ ap (λ k. k + m) (sym a)) b
  counts-append (p ∷ ps) qs held n m a b =
      let here = settled same now (p ∷ []) held in
      let rest = subst (λ (h : N → Option V). Counts same now qs h m) (settled-append (p ∷ []) ps held) b in
      (a.0 + m, one_more_of (IsToMake (held p) (now p)) a.0 n m a.1, counts-append ps qs here a.0 m a.2 rest)

  pub both : (ps qs : List N) (a b c : N → Option V) (k m n : Work) → AreBrought same now ps a b k m
      → AreBrought same now qs b c m n → AreBrought same now (ps ++ qs) a c k n
  both ps qs a b c k m n x y =
      record {
        settled_is = y.settled_is ∙ ap (settled same now qs) x.settled_is ∙ sym (settled-append ps qs a);
        segments_stay = y.segments_stay ∙ x.segments_stay;
        parts_rise = omega (arith, x.parts_rise, y.parts_rise);
        counted = (
          x.counted.0 + y.counted.0,
          counts-append ps qs a x.counted.0 y.counted.0 x.counted.1
              (subst (λ (h : N → Option V). Counts same now qs h y.counted.0) x.settled_is y.counted.1),
          more_twice x.counted.0 y.counted.0 k.parts m.parts n.parts x.counted.2 y.counted.2,
        );
      }

  -- no parts
  pub none : (a : N → Option V) (m : Work) → AreBrought same now [] a a m m
  none a m = record { settled_is = refl; segments_stay = refl; parts_rise = omega arith; counted = (0, refl, none_more m.parts) }

  or_false : (b : Bool) (x y : Option V) → (if b || false then x else y) ≡ (if b then x else y)
  or_false true x y = refl
  or_false false x y = refl

  -- one part
  pub one : (p : N) (a b : N → Option V) (m n : Work) → ((q : N) → b q ≡ (if same q p then now q else a q))
      → Refreshes (a p) (now p) m n → AreBrought same now (p ∷ []) a b m n
  one p a b m n stands refreshes =
      record {
        settled_is = λ i q. (stands q ∙ sym (or_false (same q p) (now q) (a q))) i;
        segments_stay = elim refreshes.1 [
          | inl made ↦ ap (λ (w : Work). w.segments) made.1
          | inr kept ↦ ap (λ (w : Work). w.segments) kept.1
        ];
        parts_rise = refreshes.0;
        counted = elim refreshes.1 [
          | inl made ↦ (1, (0, inl (made.0, refl), refl), one_counted m n made.1)
          | inr kept ↦ (0, (0, inr (none_to_make (a p) (now p) kept.0, refl), refl), none_counted m n kept.1)
        ];
      }

pub is_there : {X G : Type 0} (make : X → G) (o : Option X) → is_some (option_map make o) ≡ is_some o
is_there make None = refl
is_there make (Some x) = refl

pub option_map_back : {X G : Type 0} (make : X → G) → ((x y : X) → make x ≡ make y → x ≡ y) → (a b : Option X)
    → option_map make a ≡ option_map make b → a ≡ b
option_map_back make inj None None e = refl
option_map_back make inj None (Some y) e = cc
option_map_back make inj (Some x) None e = cc
option_map_back make inj (Some x) (Some y) e = let f : make x ≡ make y = cc in ap Some (inj x y f)

module _ {X G : Type 0} (make : X → G) (inj : (x y : X) → make x ≡ make y → x ≡ y) (a b : Option X) where
  -- what is to be made is so by its kind
  pub to_make_kind : IsToMake a b → IsToMake (option_map make a) (option_map make b)
  to_make_kind s = (λ e. s.0 (option_map_back make inj a b e), is_there make b ∙ s.1)

  pub to_make_back : IsToMake (option_map make a) (option_map make b) → IsToMake a b
  to_make_back s = (λ e. s.0 (ap (option_map make) e), sym (is_there make b) ∙ s.1)

  needs_kind : NeedsNone a b → NeedsNone (option_map make a) (option_map make b)
  needs_kind needs = elim needs [
    | inl same ↦ inl (ap (option_map make) same)
    | inr gone ↦ inr (is_there make b ∙ gone)
  ]

  -- the same is counted of it
  pub refreshes_kind : (m n : Work) → Refreshes a b m n → Refreshes (option_map make a) (option_map make b) m n
  refreshes_kind m n r =
      (r.0, elim r.1 [ inl x ↦ inl (to_make_kind x.0, x.1) | inr x ↦ inr (needs_kind x.0, x.1) ])

chosen_at : {X G : Type 0} (make : X → G) (b : Bool) (x y z : Option X) → (b ≡ true → x ≡ y)
    → option_map make (if b then x else z) ≡ (if b then option_map make y else option_map make z)
chosen_at make true x y z e = ap (option_map make) (e refl)
chosen_at make false x y z e = refl

-- one number of a shelf is brought up to date
pub shelf_stands : {X G : Type 0} (make : X → G) (key : ℕ) (now : ℕ → Option X) (old new : List (ℕ × X))
    → ((q : ℕ) → at new q ≡ (if q == key then now key else at old q)) → (q : ℕ)
    → option_map make (at new q) ≡ (if q == key then option_map make (now q) else option_map make (at old q))
shelf_stands make key now old new h q = ap (option_map make) (h q)
    ∙ chosen_at make (q == key) (now key) (now q) (at old q) (λ e. ap now (sym (eqb-true q key e)))

-- ---- what is counted of one part

-- of one that is held as it is to be made now
pub refreshes_none : {V : Type 0} (held now : Option V) (m : Work) → held ≡ now → Refreshes held now m m
refreshes_none held now m current = (omega arith, inr (inl current, refl))

-- and of one that isn't, where it is made, or let go where there is nothing to make it from
pub refreshes_built : {O V : Type 0} (held from : Option V) (now : Option O) (m n : Work) → (held ≡ from → ⊥)
    → is_some from ≡ is_some now → IfSome now (λ _. n ≡ record m { parts = min (m.parts + 1) (2 ^ 64 - 1) })
    → IfNone now (n ≡ m) → Rises m n → Refreshes held from m n
refreshes_built held from None m n other there built same rises =
    (rises.1, inr (inr there, same))
refreshes_built held from (Some o) m n other there built same rises = (rises.1, inl ((other, there), built))
