use Rattle.std.proofs.Common.{◌≡◌, ◌%◌, length, ap, sym, ◌∙◌}
use Rattle.std.specs.Prelude.{◌==◌, ◌&&◌, Bool, false}
use Rattle.std.specs.Char.{is_digit}
use Rattle.std.specs.List.{list_all}
use Rattle.std.proofs.lemmas.Bool.{ne_eqb}
use Rattle.co_values.proofs.Pairs.{is_some-bytes_of_pairs}
use Rattle.co_values.proofs.hex.is_paired.Goals as goal

pub returns-else-text-eq0 : goal.returns-else-text-eq0
returns-else-text-eq0 c =
    let odd : (length c.args.text.now % 2 == 0) ≡ false = ne_eqb _ _ c.if-text-eq0.false in
    odd ∙ sym (is_some-bytes_of_pairs c.args.text.now
    ∙ ap (λ (b : Bool). b && list_all (λ d. is_digit d 16) c.args.text.now) odd)
