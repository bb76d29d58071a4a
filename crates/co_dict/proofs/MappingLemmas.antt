-- Mapping entries one after the other.
use Rattle.std.proofs.Common.{◌≡◌, ℕ, suc, ◌+◌, ◌-◌, ◌<◌, ◌||◌, Bool, false, List, ◌∷◌, map, sym, ap, ◌∙◌, arith}
use Rattle.std.specs.List.{list_any, range_with_len}
use Rattle.std.proofs.lemmas.List.Sums.{sum_by-cons}
use Rattle.co_dict.specs.Mappings.{mapped_length, mapping_bits}
use Rattle.co_dict.specs.Values.{Values, number_at}

-- the subs that are left begin with the next
range_rest : (i end : ℕ) → i < end → range_with_len i (end - i) ≡ i ∷ range_with_len (i + 1) (end - (i + 1))
range_rest i end within = let left : end - i ≡ suc (end - (i + 1)) = omega arith in ap (range_with_len i) left

-- the next doesn't pass, so one that does is behind it
pub any_rest : (test : ℕ → Bool) (i end : ℕ) → i < end → test i ≡ false
    → list_any test (range_with_len (i + 1) (end - (i + 1))) ≡ list_any test (range_with_len i (end - i))
any_rest test i end within not =
    let behind : List ℕ = range_with_len (i + 1) (end - (i + 1)) in
    sym (ap (list_any test) (range_rest i end within) ∙ ap (λ b. b || list_any test behind) not)

-- the bits that the entries of an object take from a sub on
abbrev pub bits_from : Values → ℕ → ℕ → ℕ → ℕ
bits_from values object i end = mapping_bits (map (λ sub. number_at 4 values (object, sub))
    (range_with_len i (end - i)))

pub bits_rest : (values : Values) (object i end : ℕ) → i < end
    → bits_from values object i end
    ≡ mapped_length (number_at 4 values (object, i)) + bits_from values object (i + 1) end
bits_rest values object i end within =
    let entry : ℕ → ℕ = λ sub. number_at 4 values (object, sub) in
    ap (λ subs. mapping_bits (map entry subs)) (range_rest i end within)
    ∙ sum_by-cons mapped_length (entry i) (map entry (range_with_len (i + 1) (end - (i + 1))))
