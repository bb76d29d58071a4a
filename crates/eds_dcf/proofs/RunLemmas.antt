-- Pieces of sections that are written in runs: some may wait to be copied.
use Rattle.std.proofs.Common.{◌≡◌, ℕ, ◌+◌, ◌-◌, ◌<◌, ◌≤◌, List, [], ◌∷◌, ◌++◌, length, get_or, take, drop, refl, sym, ap}
use Rattle.std.proofs.Common.{◌∙◌, append_assoc, append-nil, arith, length-append}
use Rattle.std.proofs.lemmas.List.{drop-append-le, drop-take, drop_all, take-append-drop, take_all, take_more}
use Rattle.std.proofs.lemmas.List.Concat.{flat_map-append}
use Rattle.std.proofs.lemmas.List.Folds.{length-flat_map-take}
use Rattle.std.proofs.Math.Seq.{take-append_seam}
use Rattle.std.specs.List.{flat_map, slice_range}

module _ {X : Type 0} (xs : List X) where
  -- one more piece
  pub one_more : (f : X → List ℕ) (i : ℕ) (d x : X) → i < length xs → x ≡ get_or xs i d
      → flat_map f (take (i + 1) xs) ≡ flat_map f (take i xs) ++ f x
  one_more f i d x within is =
      ap (flat_map f) (take_more xs i d within) ∙ flat_map-append f (take i xs) (get_or xs i d ∷ [])
      ∙ ap (λ t. flat_map f (take i xs) ++ t) (append-nil (f (get_or xs i d)))
      ∙ ap (λ y. flat_map f (take i xs) ++ f y) (sym is)

  -- the text of the first pieces
  first_pieces : (f : X → List ℕ) (i : ℕ)
      → take (length (flat_map f (take i xs))) (flat_map f xs) ≡ flat_map f (take i xs)
  first_pieces f i =
      ap (λ ys. take (length (flat_map f (take i xs))) (flat_map f ys)) (sym (take-append-drop i xs))
      ∙ ap (take (length (flat_map f (take i xs)))) (flat_map-append f (take i xs) (drop i xs))
      ∙ take-append_seam (flat_map f (take i xs)) (flat_map f (drop i xs))

module _ {X : Type 0} (p q : X → List ℕ) (xs : List X) where
  -- behind a start the pieces q of the first elements are written, but that the pieces p from a byte on are to be
  -- copied yet: those end at another
  pub record AreRun (start out : List ℕ) (i from end : ℕ) : Type 0 where
    pub ends : end ≡ length (flat_map p (take i xs))
    pub begins : from ≤ end
    pub run : out ++ drop from (flat_map p (take i xs)) ≡ start ++ flat_map q (take i xs)

  -- nothing waits at the start
  pub run_begun : (start out : List ℕ) → out ≡ start → AreRun start out 0 0 0
  run_begun start out is = record { ends = refl; begins = omega arith; run = ap (λ t. t ++ []) is }

  -- the next piece is within the text
  pub run_within : (start out text : List ℕ) (i from end : ℕ) (d : X) → i < length xs → text ≡ flat_map p xs
      → AreRun start out i from end → end + length (p (get_or xs i d)) ≤ length text
  run_within start out text i from end d within is_text h =
      let part = length-flat_map-take p xs i d within in
      let long = ap length is_text in
      omega (arith, h.ends, part, long)

  -- one more of which both pieces are the same
  pub run_passed : (start out after : List ℕ) (i from end last : ℕ) (d : X) (size : ℕ) → i < length xs
      → size ≡ length (p (get_or xs i d)) → p (get_or xs i d) ≡ q (get_or xs i d) → after ≡ out → last ≡ from
      → AreRun start out i from end → AreRun start after (i + 1) last (end + size)
  run_passed start out after i from end last d size within is_size same is_after is_last h =
      let x = get_or xs i d in
      let more = one_more xs p i d x within refl in
      let long = ap length more ∙ length-append (flat_map p (take i xs)) (p x) in
      let ends = h.ends in
      let begins = h.begins in
      let inside : from ≤ length (flat_map p (take i xs)) = omega arith in
      record {
        ends = omega (arith, long);
        begins = omega arith;
        run =
            ap (λ t. t ++ drop last (flat_map p (take (i + 1) xs))) is_after
            ∙ ap (λ n. out ++ drop n (flat_map p (take (i + 1) xs))) is_last
            ∙ ap (λ t. out ++ drop from t) more
            ∙ ap (λ t. out ++ t) (drop-append-le from (flat_map p (take i xs)) (p x) inside)
            ∙ sym (append_assoc out (drop from (flat_map p (take i xs))) (p x))
            ∙ ap (λ t. t ++ p x) h.run
            ∙ append_assoc start (flat_map q (take i xs)) (p x)
            ∙ ap (λ t. start ++ (flat_map q (take i xs) ++ t)) same
            ∙ ap (λ t. start ++ t) (sym (one_more xs q i d x within refl));
      }

  -- what waits is copied, and one more is written
  pub run_written : (start out copied after text : List ℕ) (i from end last : ℕ) (x : X) (size : ℕ) → i < length xs
      → x ≡ get_or xs i x → text ≡ flat_map p xs → copied ≡ out ++ slice_range text from end → after ≡ copied ++ q x
      → size ≡ length (p (get_or xs i x)) → last ≡ end + size → AreRun start out i from end
      → AreRun start after (i + 1) last (end + size)
  run_written start out copied after text i from end last x size within is is_text is_copied is_after is_size is_last
      h =
      let more = one_more xs p i x (get_or xs i x) within refl in
      let long = ap length more ∙ length-append (flat_map p (take i xs)) (p (get_or xs i x)) in
      let ends = h.ends in
      let begins = h.begins in
      let sum : from + (end - from) ≡ end = omega arith in
      let waiting : slice_range text from end ≡ drop from (flat_map p (take i xs)) =
      sym (drop-take from (end - from) text) ∙ ap (λ n. drop from (take n text)) (sum ∙ ends)
      ∙ ap (λ t. drop from (take (length (flat_map p (take i xs))) t)) is_text
      ∙ ap (drop from) (first_pieces xs p i) in
      let whole : length (flat_map p (take (i + 1) xs)) ≡ end + size = omega (arith, long) in
      let past : length (flat_map p (take (i + 1) xs)) ≤ last = omega arith in
      record {
        ends = sym whole;
        begins = omega arith;
        run =
            ap (λ t. after ++ t) (drop_all last (flat_map p (take (i + 1) xs)) past)
            ∙ append-nil after ∙ is_after
            ∙ ap (λ t. t ++ q x) (is_copied ∙ ap (λ t. out ++ t) waiting ∙ h.run)
            ∙ append_assoc start (flat_map q (take i xs)) (q x)
            ∙ ap (λ t. start ++ t) (sym (one_more xs q i x x within is));
      }

  -- the last run
  pub run_done : (start out after text : List ℕ) (i from end : ℕ) → length xs ≤ i → text ≡ flat_map p xs
      → after ≡ out ++ drop from text → AreRun start out i from end → after ≡ start ++ flat_map q xs
  run_done start out after text i from end past is_text is_after h =
      is_after ∙ ap (λ t. out ++ drop from t) is_text
      ∙ ap (λ ys. out ++ drop from (flat_map p ys)) (sym (take_all i xs past)) ∙ h.run
      ∙ ap (λ ys. start ++ flat_map q ys) (take_all i xs past)
