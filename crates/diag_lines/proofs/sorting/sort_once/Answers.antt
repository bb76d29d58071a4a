use Rattle.std.proofs.lemmas.List.Filters.{dedup_is}
use Rattle.std.proofs.lemmas.List.Kept.{Contains-dedup, Contains-from_dedup}
use Rattle.std.proofs.lemmas.List.Sorted.{Contains-permutation, IsPermutation-sym}
use Rattle.diag_lines.specs.contracts.diag.DiagEq.TheImpl.Laws as diag_equal
use Rattle.diag_lines.proofs.OrderLemmas.{diag_total, diag_exact, equal_exact, once_in_order}
use Rattle.diag_lines.proofs.SetLemmas.{the_set}
use Rattle.diag_lines.proofs.sorting.sort_once.Goals as goal

pub returns : goal.returns
returns c =
    let is = dedup_is _ _ _ c.dedup.ensures.filtered in
    let moved = c.sort_unstable.ensures.permutation in
    the_set diag_total diag_exact _ _
    (rw is (once_in_order _ c.sort_unstable.ensures.sorted))
    (λ d. (
      (λ h. Contains-permutation _ _ d (IsPermutation-sym _ _ moved) (Contains-from_dedup _ _ d (rw is at h))),
      (λ h. rw is (Contains-dedup diag_equal.laws-law equal_exact _ d (Contains-permutation _ _ d moved h))),
    ))
