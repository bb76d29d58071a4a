use Rattle.std.proofs.Common.{refl}
use Rattle.dict_values.proofs.LayerLemmas.{same_where_all, same_where_like}
use Rattle.dict_values.proofs.dict.Dict.same_by_places.Goals as goal

pub returns-then-is_like : goal.returns-then-is_like
returns-then-is_like c =
    let a = c.self.inside in
    let b = c.other.inside in
    let written = c.if-not-agrees_on_both.ensures in (
      (λ t. same_where_like a.base a.own c.args.self.now b.base b.own c.args.other.now c.self.view_is c.other.view_is
          (written.agree refl) (written.both_agree refl) (c.is_like.ensures c.if-is_like.true)),
      (λ e. refl),
    )

pub returns : goal.returns
returns c =
    let a = c.self.inside in
    let b = c.other.inside in
    let written = c.if-not-agrees_on_both.ensures in
    let all = c.agrees_on_both-2.ensures in (
      (λ t. same_where_all a.base a.own c.args.self.now b.base b.own c.args.other.now c.self.view_is c.other.view_is
          (written.agree refl) (written.both_agree refl) (all.agree t) (all.both_agree t)),
      all.where_same,
    )
