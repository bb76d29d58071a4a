-- Lists of so many writes, each of a good size.
use Rattle.std.proofs.Common.{ℕ, ◌+◌, ◌≤◌, List, [], ◌∷◌, ◌++◌, length, length-append, All, arith}
use Rattle.std.proofs.lemmas.List.Elements.{All-nil, All-cons, All-append}
use Rattle.concise_dcf.specs.declared.write.Write.{Write}

abbrev pub IsSized : Write → Type 0
IsSized w = (1 ≤ length w.bytes) × (length w.bytes ≤ 512)

-- so many writes, each of a good size
pub record Holds (n : ℕ) (ws : List Write) : Type 0 where
  pub sizes : All IsSized ws
  pub count : length ws ≤ n

pub holds_none : Holds 0 []
holds_none = record { sizes = All-nil IsSized; count = omega arith }

pub holds_one : (n : ℕ) (w : Write) (ws : List Write) → IsSized w → Holds n ws → Holds (1 + n) (w ∷ ws)
holds_one n w ws sized h = record {
  sizes = All-cons IsSized w ws sized h.sizes;
  count = let c : length ws ≤ n = h.count
      in omega arith;
}

pub holds_both : (m n : ℕ) (xs ys : List Write) → Holds m xs → Holds n ys → Holds (m + n) (xs ++ ys)
holds_both m n xs ys a b = record {
  sizes = All-append IsSized xs ys a.sizes b.sizes;
  count = let c : length xs ≤ m = a.count in let d : length ys ≤ n = b.count in omega (arith, length-append xs ys);
}

pub at_most : (m n : ℕ) (ws : List Write) → m ≤ n → Holds m ws → Holds n ws
at_most m n ws le h = record { sizes = h.sizes; count = let c : length ws ≤ m = h.count in omega arith }
