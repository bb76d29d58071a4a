use Rattle.std.proofs.Common.{refl}
use Rattle.kept_parts.proofs.GoneLemmas.{unknown}
use Rattle.kept_parts.proofs.CurrentLemmas.{all_marked}
use Rattle.kept_parts.proofs.kept_parts.KeptParts.new.Goals as goal

pub returns-clause-is_of : goal.returns-clause-is_of
returns-clause-is_of c =
    all_marked _ c.new.ensures c.new-2.ensures.fresh c.new-3.ensures.fresh c.new-4.ensures.fresh c.new-5.ensures.fresh
    c.new-6.ensures.fresh c.new-7.ensures.fresh c.new-8.ensures.fresh c.new-9.ensures.fresh

pub returns-clause-swept : goal.returns-clause-swept
returns-clause-swept c = λ p. unknown p _ refl
