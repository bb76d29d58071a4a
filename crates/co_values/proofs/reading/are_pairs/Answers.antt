use Rattle.std.proofs.Common.{◌≡◌, Bool, true, false, length, ap, sym, ◌∙◌}
use Rattle.std.specs.Prelude.{◌&&◌, nat_le, is_some}
use Rattle.std.proofs.lemmas.Bool.{le-leb, lt-leb}
use Rattle.co_values.specs.Values.{bytes_of_pairs}
use Rattle.co_values.proofs.Pairs.{is_some-short}
use Rattle.co_values.proofs.reading.are_pairs.Goals as goal

pub returns-then-text : goal.returns-then-text
returns-then-text c =
    let fits : nat_le (length c.args.text.now) 1024 ≡ true = le-leb _ _ c.if-text.true in
    c.is_paired.ensures ∙ sym (is_some-short c.args.text.now
    ∙ ap (λ (b : Bool). b && is_some (bytes_of_pairs c.args.text.now)) fits)

pub returns-else-text : goal.returns-else-text
returns-else-text c =
    let long : nat_le (length c.args.text.now) 1024 ≡ false = lt-leb _ _ c.if-text.false in
    long ∙ sym (is_some-short c.args.text.now ∙ ap (λ (b : Bool). b && is_some (bytes_of_pairs c.args.text.now)) long)
