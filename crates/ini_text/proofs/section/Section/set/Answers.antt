use Rattle.std.proofs.Common.{◌≡◌, ◌∙◌, sym, ap}
use Rattle.ini_text.proofs.PairLemmas.{put_there, put_new}
use Rattle.ini_text.proofs.section.Section.set.Goals as goal
use Rattle.ini_text.proofs.section.Section.set.Goals.{in-Some, in-None}

pub returns-clause-ok : goal.returns-clause-ok
returns-clause-ok c =
    let pairs = c.self.inside.pairs.keys in
    elim c.match-get.branch [
      | in-Some w ↦
          let spelled = ap (λ s. s.now) w.spelled-is ∙ w.key-spelled.ensures in
          let e : c.in_ok-pair.pair ≡ record { key = w.in-Some.pair.now.key; value = c.args.value.now } =
          c.in_ok-pair.ensures ∙ (λ i. record { key = spelled i; value = c.args.value.now }) in
          rw (← c.self.view_is) (ap (λ ps. record { name = c.self.inside.name.items; pairs = ps })
          (c.in_ok-replace.ensures.keys
          ∙ put_there c.args.key.now c.args.value.now pairs w.in-Some.pair.now c.in_ok-pair.pair
          (sym w.in-Some.ensures.key) (sym w.in-Some.ensures.found) e))
      | in-None w ↦
          let e : c.in_ok-pair.pair ≡ record { key = c.args.key.now; value = c.args.value.now } = c.in_ok-pair.ensures
          ∙ (λ i. record { key = (w.spelled-is i).now; value = c.args.value.now }) in
          rw (← c.self.view_is) (ap (λ ps. record { name = c.self.inside.name.items; pairs = ps })
          (c.in_ok-replace.ensures.keys
          ∙ put_new c.args.key.now c.args.value.now pairs c.in_ok-pair.pair (sym w.in-None.ensures.found) e))
    ]
