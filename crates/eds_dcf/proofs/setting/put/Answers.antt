use Rattle.std.proofs.Common.{sym, ◌∙◌}
use Rattle.eds_dcf.proofs.ChangeLemmas.{put_at, put_last}
use Rattle.eds_dcf.proofs.setting.put.Goals as goal

pub returns-in-Some : goal.returns-in-Some
returns-in-Some c = put_at _ _ c.in-Some.position _ _ _ _ _ c.as_slice.ensures.value c.as_slice-2.ensures.value
    (sym c.position_of.ensures ∙ c.in-Some.is) c.index_mut.ensures.value c.set_value.ensures

pub returns-in_ok-push-in-None : goal.returns-in_ok-push-in-None
returns-in_ok-push-in-None c = c.in_ok-push-in-None.ensures.items
    ∙ put_last _ _ _ _ _ c.as_slice.ensures.value c.as_slice-2.ensures.value (sym c.position_of.ensures ∙ c.in-None.is)
