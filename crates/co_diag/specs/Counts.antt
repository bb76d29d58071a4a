-- Private: how often identifiers are had, counted to 2.
use Rattle.std.specs.Prelude.{ℕ, zero, suc, ◌==◌, if◌then◌else◌, List, slice_index_or, Option}
use Rattle.diag_lines.specs.declared.diag.Diag.{Diag}
use Rattle.co_diag.specs.Found.{identifier_diagnostic}

abbrev pub count_to_two : ℕ → ℕ
count_to_two zero = 0
count_to_two (suc zero) = 1
count_to_two (suc (suc n)) = 2

abbrev pub one_more : ℕ → ℕ
one_more n = if n == 0 then 1 else 2

-- what is said of an identifier by them
abbrev pub shared_among : List ℕ → ℕ → Option Diag
shared_among had id = identifier_diagnostic (slice_index_or had id 0) id
