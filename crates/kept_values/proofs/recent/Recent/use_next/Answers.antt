use Rattle.std.proofs.Common.{◌+◌, drop, nat_eq, sym, arith}
use Rattle.std.proofs.lemmas.List.{drop-drop}
use Rattle.lru.specs.LruCache.{promoted}
use Rattle.kept_values.specs.Rows.{use_order}
use Rattle.kept_values.proofs.RowLemmas.{same_last_used, used_shown}
use Rattle.kept_values.proofs.recent.Recent.use_next.Goals as goal

pub returns : goal.returns
returns g c = λ e h.
    let in' = c.self.inside in
    let next = rw (← c.self.view_is) at h in
    let row = in'.row.items in
    rw (← c.self.view_is) (same_last_used in'.capacity in'.given (in'.first + (in'.used + 1)) (in'.first + in'.used + 1) (use_order row (in'.used + 1) in'.rest) (promoted (nat_eq e.0) (use_order row in'.used in'.rest)) (drop (in'.used + 1) row) (drop 1 (drop in'.used row))
    (used_shown g.V.Numbered.number_of in'.first in'.used row in'.rest e next c.self.invariant.distinct) (omega arith) (sym (drop-drop 1 in'.used row)))
