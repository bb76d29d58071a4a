-- A PDO has at most 8 bytes.
use Rattle.std.proofs.Common.{ℕ, ◌≤◌, List, arith}
use Rattle.co_dict.specs.Mappings.{mapping_bits}
use Rattle.co_dict.specs.Values.{Values}
use Rattle.pdo_rules.specs.Packing.{payload_of}
use Rattle.pdo_rules.proofs.PackLemmas.{bytes_of_packed}

pub few : (values : Values) (mapping : List ℕ) → mapping_bits mapping ≤ 64 → (payload_of values mapping).1 ≤ 8
few values mapping fits = let e = bytes_of_packed values mapping in omega arith
