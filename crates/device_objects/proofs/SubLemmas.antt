-- The heartbeat consumers of a device, sub-index by sub-index.
use Rattle.std.proofs.Common.{◌≡◌, ℕ, zero, suc, ◌+◌, true, false, List, [], ◌∷◌, ◌++◌, filter, map, append-nil, refl}
use Rattle.std.proofs.Common.{sym, ap, ◌∙◌, arith}
use Rattle.std.specs.List.{range_with_len}
use Rattle.std.proofs.lemmas.List.{map-append}
use Rattle.std.proofs.lemmas.List.Elements.{filter-append}
use Rattle.co_dict.specs.PdoChecks.{has_type, is_unsigned32}
use Rattle.co_dict.specs.Shapes.{Shaped}
use Rattle.co_dict.specs.Values.{Values}
use Rattle.device_objects.specs.Consumers.{consumers_of, waiting_for_start}
use Rattle.device_objects.specs.declared.consumer.Consumer.{Consumer}

-- those from 1 to n that are there as UNSIGNED32
unfoldable pub subs_to : Shaped → ℕ → List ℕ
subs_to shape n = filter (λ sub. has_type is_unsigned32 shape (0x1016, sub)) (range_with_len 1 n)

range_more : (a n j : ℕ) → a + n ≡ j → range_with_len a (n + 1) ≡ range_with_len a n ++ j ∷ []
range_more a zero j e = let same : a ≡ j = omega (arith, e) in ap (λ (k : ℕ). k ∷ []) same
range_more a (suc n) j e =
    let one : suc n + 1 ≡ suc (n + 1) = omega arith in
    ap (range_with_len a) one ∙ ap (λ xs. a ∷ xs) (range_more (a + 1) n j (omega (arith, e)))

module _ (shape : Shaped) (values : Values) where
  next : (i : ℕ) → subs_to shape (i + 1) ≡ subs_to shape i ++ filter (λ s. has_type is_unsigned32 shape (0x1016, s))
      ((i + 1) ∷ [])
  unfolding subs_to
  next i =
      let there = λ (s : ℕ). has_type is_unsigned32 shape (0x1016, s) in
      ap (filter there) (range_more 1 i (i + 1) (omega arith)) ∙ filter-append there (range_with_len 1 i) ((i + 1) ∷ [])

  pub one_more : (i : ℕ) (before after : List Consumer) → has_type is_unsigned32 shape (0x1016, i + 1) ≡ true
      → before ≡ map (waiting_for_start values) (subs_to shape i)
      → after ≡ before ++ waiting_for_start values (i + 1) ∷ []
      → after ≡ map (waiting_for_start values) (subs_to shape (i + 1))
  one_more i before after is so_far added =
      added
      ∙ ap (λ xs. xs ++ waiting_for_start values (i + 1) ∷ []) so_far
      ∙ sym (map-append (waiting_for_start values) (subs_to shape i) ((i + 1) ∷ []))
      ∙ ap (map (waiting_for_start values)) (sym (next i ∙ (rw is refl)))

  pub skipped : (i : ℕ) (before : List Consumer) → has_type is_unsigned32 shape (0x1016, i + 1) ≡ false
      → before ≡ map (waiting_for_start values) (subs_to shape i)
      → before ≡ map (waiting_for_start values) (subs_to shape (i + 1))
  skipped i before not so_far =
      so_far ∙ ap (map (waiting_for_start values)) (sym (next i ∙ (rw (not, append-nil) refl)))

  pub none_at_first : map (waiting_for_start values) (subs_to shape 0) ≡ []
  unfolding subs_to
  none_at_first = refl

  pub all : map (waiting_for_start values) (subs_to shape 255) ≡ consumers_of shape values
  unfolding subs_to consumers_of
  all = refl
