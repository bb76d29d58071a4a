-- What is known of an image.
use Rattle.std.proofs.Common.{◌≡◌, ℕ, ◌+◌, ◌<◌, ◌≤◌, Bool, true, false, List, [], ◌∷◌, ◌++◌, Option, Some, None, cond}
use Rattle.std.proofs.Common.{get_or, refl, sym, ap, subst, ◌∙◌, arith}
use Rattle.std.proofs.lemmas.List.Elements.{All-append, All-cons, All-nil}
use Rattle.std.specs.declared.cmp.Ordering.{Ordering}
use Rattle.std.specs.declared.cmp.Ordering.TheVariants.{Less, Equal, Greater}
use Rattle.std.specs.Ordering.{nat_cmp, ordering_then, is_eq}
use Rattle.std.specs.BTreeMap.{is_at}
use Rattle.std.proofs.lemmas.Map.Lookups.{exact_unsigned}
use Rattle.image_parts.specs.Contents.{Content, Image}
use Rattle.image_parts.specs.declared.part.Part.{Part}
use Rattle.image_parts.specs.declared.part.Part.TheVariants.{Roster, Defaults, Shape, Expect, Boot, Events}
use Rattle.trace_spans.specs.Numbers.{KeepsMeaning, with_meaning}
use Rattle.trace_spans.specs.Reads.{AreNumbered, AreMarked, LearnsMore, IsKnown, IsMarked, Known, Recorded, known_at, part_cmp}
use Rattle.trace_spans.proofs.NumberLemmas.{given_keeps, given_stands, keeps_all, keeps_in_turn, same_number}
use Rattle.trace_spans.proofs.NumberLemmas.{stands_later}

-- ---- parts that compare alike are one

then_both : (o p : Ordering) → ordering_then o p ≡ Equal → (o ≡ Equal) × (p ≡ Equal)
then_both Less p e = cc
then_both Equal p e = (refl, e)
then_both Greater p e = cc

part_exact : (a b : Part) → part_cmp a b ≡ Equal → a ≡ b
part_exact Roster Roster e = refl
part_exact (Defaults a) (Defaults b) e = ap Defaults (exact_unsigned a b e)
part_exact (Shape a) (Shape b) e = ap Shape (exact_unsigned a b e)
part_exact (Expect a) (Expect b) e = ap Expect (exact_unsigned a b e)
part_exact (Boot a m) (Boot b n) e = let both = then_both (nat_cmp a b) (nat_cmp m n) e
    in λ i. Boot (exact_unsigned a b both.0 i) (exact_unsigned m n both.1 i)
part_exact (Events a) (Events b) e = ap Events (exact_unsigned a b e)
part_exact a b e = cc

equal_is : (o : Ordering) → is_eq o ≡ true → o ≡ Equal
equal_is Less e = cc
equal_is Equal e = refl
equal_is Greater e = cc

same_part : (a b : Part) → is_at (part_cmp a) b ≡ true → a ≡ b
same_part a b e = part_exact a b (equal_is (part_cmp a b) e)

-- ---- once more is known

pub marked_later : (old new : ℕ → Content) (given later : ℕ) (r : Recorded) → KeepsMeaning given old new
    → given ≤ later → IsMarked old given r → IsMarked new later r
marked_later old new given later r keeps more h = stands_later old new given later r.number r.content keeps more h

pub all_marked_later : (old new : ℕ → Content) (given later : ℕ) (rs : List Recorded) → KeepsMeaning given old new
    → given ≤ later → AreMarked old given rs → AreMarked new later rs
all_marked_later old new given later rs keeps more h k d within =
    marked_later old new given later (get_or rs k d) keeps more (h k d within)

module _ (image : Image) where
  known_later : (old new : ℕ → Content) (given later : ℕ) (part : Part) (k : Known) → KeepsMeaning given old new
      → given ≤ later → IsKnown image old given part k → IsKnown image new later part k
  known_later old new given later part k keeps more h = record {
    name = h.name;
    is = h.is;
    marked = marked_later old new given later k.read keeps more h.marked;
    other = λ n e.
        let o = h.other n e in
        (omega (arith, o.0, more), λ same. o.1 (sym (keeps n o.0) ∙ same));
  }

  some_same : (a b : Known) → Some a ≡ Some b → a ≡ b
  some_same a b e = cc

  put_by : (contents : ℕ → Content) (given : ℕ) (part q : Part) (k m : Known) (rest : Option Known) (b : Bool)
      → is_at (part_cmp part) q ≡ b → cond b (Some k) rest ≡ Some m → IsKnown image contents given part k
      → (rest ≡ Some m → IsKnown image contents given q m) → IsKnown image contents given q m
  put_by contents given part q k m rest true at e h others =
      subst (λ (p : Part). IsKnown image contents given p m) (same_part part q at)
      (subst (λ (x : Known). IsKnown image contents given part x) (some_same k m e) h)
  put_by contents given part q k m rest false at e h others = others e

  -- one more part is known
  pub known_put : (contents : ℕ → Content) (given : ℕ) (part : Part) (k : Known) (old new : List (Part × Known))
      → ((q : Part) → known_at new q ≡ cond (is_at (part_cmp part) q) (Some k) (known_at old q))
      → IsKnown image contents given part k → AreNumbered image contents given old → AreNumbered image contents given new
  known_put contents given part k old new put h others q m e =
      put_by contents given part q k m (known_at old q) (is_at (part_cmp part) q) refl (sym (put q) ∙ e) h (others q m)

  pub all_known_later : (old new : ℕ → Content) (given later : ℕ) (es : List (Part × Known))
      → KeepsMeaning given old new → given ≤ later → AreNumbered image old given es → AreNumbered image new later es
  all_known_later old new given later es keeps more h part k e =
      known_later old new given later part k keeps more (h part k e)

  -- ---- more and more is known

  abbrev pub extends_itself : (contents : ℕ → Content) (given : ℕ) (es : List (Part × Known)) → AreNumbered image contents given es
      → LearnsMore image contents given given es
  extends_itself contents given es h =
      record { meaning = contents; more = omega arith; keeps = keeps_all contents given; known = h }

  abbrev pub extends_in_turn : (contents : ℕ → Content) (given later last : ℕ) (es fs : List (Part × Known))
      (e : LearnsMore image contents given later es) → LearnsMore image e.meaning later last fs
      → LearnsMore image contents given last fs
  extends_in_turn contents given later last es fs e f = record {
    meaning = f.meaning;
    more = omega (arith, e.more, f.more);
    keeps = keeps_in_turn contents e.meaning f.meaning given later e.more e.keeps f.keeps;
    known = f.known;
  }

  pub one_still_marked : (contents : ℕ → Content) (given : ℕ) (es : List (Part × Known)) (r : Recorded)
      → AreNumbered image contents given es → IsMarked contents given r
      → (e : LearnsMore image contents given given es) × IsMarked e.meaning given r
  one_still_marked contents given es r h m = (extends_itself contents given es h, m)

  pub still_marked : (contents : ℕ → Content) (given : ℕ) (es : List (Part × Known)) (rs : List Recorded)
      → AreNumbered image contents given es → AreMarked contents given rs
      → (e : LearnsMore image contents given given es) × AreMarked e.meaning given rs
  still_marked contents given es rs h m = (extends_itself contents given es h, m)

  pub none_marked : (contents : ℕ → Content) (given : ℕ) (es : List (Part × Known)) (rs : List Recorded) → rs ≡ []
      → AreNumbered image contents given es → (e : LearnsMore image contents given given es) × AreMarked e.meaning given rs
  none_marked contents given es rs none h =
      rw none (extends_itself contents given es h, All-nil (IsMarked contents given))

  pub marked_in_turn : (contents : ℕ → Content) (given later last : ℕ) (es fs : List (Part × Known)) (rs : List Recorded)
      (e : LearnsMore image contents given later es) (f : LearnsMore image e.meaning later last fs)
      → AreMarked f.meaning last rs → (g : LearnsMore image contents given last fs) × AreMarked g.meaning last rs
  marked_in_turn contents given later last es fs rs e f m = (extends_in_turn contents given later last es fs e f, m)

  -- ---- one comparison

  module _ (contents : ℕ → Content) (given : ℕ) (part : Part) (k : Known) (r : Recorded)
      (h : IsKnown image contents given part k) (m : IsMarked contents given r) where
    pub by_same : k.read.number ≡ r.number → k.read.content ≡ r.content
    by_same e = same_number contents given k.read.number r.number k.read.content r.content e h.marked m

    pub by_other : k.other ≡ Some r.number → k.read.content ≡ r.content → ⊥
    by_other e same = (h.other r.number e).1 (m.1 ∙ sym same)

    -- it takes over the number of the read
    pub taken_over : r.name ≡ part → k.read.content ≡ r.content
        → IsKnown image contents given part (record { read = r; other = k.other })
    taken_over name same = record {
      name = name;
      is = h.is ∙ same;
      marked = m;
      other = λ n e. let o = h.other n e in (o.0, λ x. o.1 (x ∙ sym same));
    }

    is_some : (n : ℕ) → Some r.number ≡ Some n → r.number ≡ n
    is_some n e = cc

    -- it hasn't the content of the read
    pub told_apart : (k.read.content ≡ r.content → ⊥)
        → IsKnown image contents given part (record { read = k.read; other = Some r.number })
    told_apart differs = record {
      name = h.name;
      is = h.is;
      marked = h.marked;
      other = λ n e.
          let same = is_some n e in (
            omega (arith, m.0, same),
            λ x. differs (sym x ∙ ap contents (sym same) ∙ m.1),
          );
    }

  -- ---- a part that wasn't known

  none_some : (n : ℕ) → None ≡ Some n → ⊥
  none_some n e = cc

  module _ (contents : ℕ → Content) (given : ℕ) (old new : List (Part × Known)) (part : Part)
      (known : AreNumbered image contents given old) where
    -- it has the number of a read
    pub met_known : (r : Recorded)
        → ((q : Part) → known_at new q
        ≡ cond (is_at (part_cmp part) q) (Some (record { read = r; other = None })) (known_at old q))
        → r.name ≡ part → image part ≡ r.content → IsMarked contents given r → LearnsMore image contents given given new
    met_known r put name is m = record {
      meaning = contents;
      more = omega arith;
      keeps = keeps_all contents given;
      known = known_put contents given part (record { read = r; other = None }) old new put (record {
        name = name;
        is = is;
        marked = m;
        other = λ n e. absurd (none_some n e);
      }) known;
    }

    module _ (content : Content) (other : Option ℕ) (is : image part ≡ content) where
      abbrev pub new_known : Known
      new_known = record { read = record { name = part; number = given; content = content }; other = other }

      abbrev later : ℕ → Content
      later = with_meaning contents given content

      -- it has a new number
      pub given_known : ((q : Part) → known_at new q ≡ cond (is_at (part_cmp part) q) (Some new_known) (known_at old q))
          → ((n : ℕ) → other ≡ Some n → (n < given) × (contents n ≡ content → ⊥))
          → (e : LearnsMore image contents given (given + 1) new) × IsMarked e.meaning (given + 1) new_known.read
      given_known put differs =
          let keeps = given_keeps contents given content in
          let stands = given_stands contents given content in (
            record {
              meaning = later;
              more = omega arith;
              keeps = keeps;
              known = known_put later (given + 1) part new_known old new put (record {
                name = refl;
                is = is;
                marked = stands;
                other = λ n e.
                    let o = differs n e in
                    (omega (arith, o.0), λ x. o.1 (sym (keeps n o.0) ∙ x));
              }) (all_known_later contents later given (given + 1) old keeps (omega arith) known);
            },
            stands,
          )

  -- a read of another number, and another content
  pub differs_from : (contents : ℕ → Content) (given : ℕ) (content : Content) (r : Recorded) → IsMarked contents given r
      → (content ≡ r.content → ⊥) → (n : ℕ) → Some r.number ≡ Some n → (n < given) × (contents n ≡ content → ⊥)
  differs_from contents given content r m differs n e =
      let same : r.number ≡ n = cc in
      (omega (arith, m.0, same), λ x. differs (sym x ∙ ap contents (sym same) ∙ m.1))

  pub none_differs : (contents : ℕ → Content) (given : ℕ) (content : Content) (n : ℕ) → None ≡ Some n
      → (n < given) × (contents n ≡ content → ⊥)
  none_differs contents given content n e = absurd (none_some n e)

-- one more read is kept
pub marked_push : (contents : ℕ → Content) (given : ℕ) (rs : List Recorded) (r : Recorded) → AreMarked contents given rs
    → IsMarked contents given r → AreMarked contents given (rs ++ r ∷ [])
marked_push contents given rs r h m = All-append (IsMarked contents given) rs (r ∷ []) h
    (All-cons (IsMarked contents given) r [] m (All-nil (IsMarked contents given)))
