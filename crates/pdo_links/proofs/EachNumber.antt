-- The writes of all numbers in their order: of each that is used, and of each that isn't.
use Rattle.std.proofs.Common.{◌≡◌, ⊎_elim, ℕ, zero, suc, ◌+◌, ◌*◌, ◌<◌, ◌≤◌, List, [], Option, Some, None}
use Rattle.std.proofs.Common.{refl, sym, ap, subst, ◌∙◌, arith}
use Rattle.std.specs.BTreeMap.{is_at}
use Rattle.std.specs.List.{flat_map, range_with_len}
use Rattle.std.specs.Map.{lookup}
use Rattle.std.specs.Option.{option_map_or}
use Rattle.std.specs.Ordering.{nat_cmp}
use Rattle.std.proofs.lemmas.Bool.{cases_lt}
use Rattle.concise_dcf.specs.declared.write.Write.{Write}
use Rattle.eds_device.specs.Sheets.{Sheet}
use Rattle.pdo_stations.proofs.RoomLemmas.{here_or_past}
use Rattle.pdo_links.specs.Tables.{AreFew, AreValues}
use Rattle.pdo_links.specs.VendorWrites.{each_by_number}
use Rattle.pdo_links.proofs.Held.{at_most, holds_both, holds_none, Holds}
use Rattle.pdo_links.proofs.Values.{both_values, no_values}

module _ {Y : Type 0} (used : Y → List Write) (unused : ℕ → List Write) (pdos : List (ℕ × Y)) where
  abbrev pub at_each : ℕ → List Write
  at_each number = option_map_or used (lookup (is_at (nat_cmp number)) pdos) (unused number)

  -- of a number that no message uses, and that nothing is written of
  pub nothing_at : (number : ℕ) → (let none : Option Y = None in lookup (is_at (nat_cmp number)) pdos ≡ none)
      → unused number ≡ [] → at_each number ≡ []
  nothing_at number is off = ap (λ (o : Option Y). option_map_or used o (unused number)) is ∙ off

  pub all_numbers : each_by_number used unused pdos ≡ flat_map at_each (range_with_len 1 512)
  unfolding each_by_number
  all_numbers = refl

  -- ---- values of their entries

  module _ (sheet : Sheet) where
    -- those of the numbers so far are
    abbrev pub AreValuesTo : ℕ → Type 0
    AreValuesTo next = (number : ℕ) → 1 ≤ number → number < next → AreValues sheet (at_each number)

    empty_values : (number : ℕ) → at_each number ≡ [] → AreValues sheet (at_each number)
    empty_values number none = subst (AreValues sheet) (sym none) (no_values sheet)

    pub started_values : (next : ℕ) → ((number : ℕ) → 1 ≤ number → number < next → at_each number ≡ []) → AreValuesTo next
    started_values next none = λ number low below. empty_values number (none number low below)

    pub continued_values : (part : List Write) (number next : ℕ) → AreValuesTo number → AreValues sheet part
        → part ≡ at_each number
        → ((k : ℕ) → number + 1 ≤ k → k < next → at_each k ≡ []) → AreValuesTo next
    continued_values part number next so_far added here none = λ k low below.
        ⊎_elim (λ (before : k < number). so_far k low before)
        (λ (from : number ≤ k). ⊎_elim
        (λ (same : number ≡ k). subst (λ (n : ℕ). AreValues sheet (at_each n)) same
        (subst (AreValues sheet) here added))
        (λ (past : number + 1 ≤ k). empty_values k (none k past below))
        (here_or_past number k from)) (cases_lt k number)

    range_values : (first n : ℕ) → ((number : ℕ) → first ≤ number → number < first + n → AreValues sheet (at_each number))
        → AreValues sheet (flat_map at_each (range_with_len first n))
    range_values first zero each = no_values sheet
    range_values first (suc n) each =
        both_values sheet (at_each first) (flat_map at_each (range_with_len (first + 1) n))
        (each first (omega arith) (omega arith))
        (range_values (first + 1) n (λ number low below. each number (omega arith) (omega arith)))

    pub all_values : AreValuesTo 513 → AreValues sheet (each_by_number used unused pdos)
    unfolding each_by_number
    all_values each = range_values 1 512 (λ number low below. each number low (omega (arith, below)))

  -- ---- how many they are

  module _ (each : (number : ℕ) (y : Y) → lookup (is_at (nat_cmp number)) pdos ≡ Some y → Holds 72 (used y))
      (other : (number : ℕ) → Holds 72 (unused number)) where
    number_held : (number : ℕ) → Holds 72 (at_each number)
    number_held number = by (lookup (is_at (nat_cmp number)) pdos) refl
      where
        by : (o : Option Y) → lookup (is_at (nat_cmp number)) pdos ≡ o
            → Holds 72 (option_map_or used o (unused number))
        by None is = other number
        by (Some y) is = each number y is

    range_held : (first n : ℕ) → Holds (n * 72) (flat_map at_each (range_with_len first n))
    range_held first zero = at_most 0 (0 * 72) [] (omega arith) holds_none
    range_held first (suc n) =
        at_most (72 + n * 72) (suc n * 72) (flat_map at_each (range_with_len first (suc n))) (omega arith)
        (holds_both 72 (n * 72) (at_each first) (flat_map at_each (range_with_len (first + 1) n))
        (number_held first) (range_held (first + 1) n))

    pub each_few : AreFew (each_by_number used unused pdos)
    unfolding each_by_number
    each_few = let h : Holds (512 * 72) (flat_map at_each (range_with_len 1 512)) = range_held 1 512
        in record { sizes = h.sizes; count = h.count }
