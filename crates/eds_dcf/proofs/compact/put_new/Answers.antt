use Rattle.std.proofs.Common.{ap, sym, ◌∙◌}
use Rattle.eds_dcf.proofs.TextLemmas.{new_text}
use Rattle.eds_dcf.proofs.compact.put_new.Goals as goal

pub returns : goal.returns
returns c =
    new_text c.args.index c.args.set.now _ _ c.args.out.now.items _ _ _ (sym c.is_empty.ensures ∙ c.if-is_empty.false)
    (c.as_slice.ensures.value ∙ c.in_ok-name.ensures)
    (c.as_slice-2.ensures.value ∙ ap (λ v. v.items) c.into_bytes-count.ensures.value ∙ c.in_ok-to_string.ensures.ok)
    c.in_ok-put_name.ensures c.in_ok-put_line.ensures c.in_ok-put_settings.ensures
