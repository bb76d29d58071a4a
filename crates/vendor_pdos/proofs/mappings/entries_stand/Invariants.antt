use Rattle.std.proofs.Common.{◌≡◌, ◌+◌, length, map}
use Rattle.std.specs.List.{enumerate_from, list_all}
use Rattle.vendor_pdos.specs.Mappings.{stands_at}
use Rattle.vendor_pdos.proofs.mappings.entries_stand.Given as goal

-- those that are left stand where all do
abbrev pub invariant-loop-rest : goal.invariant-loop-rest
invariant-loop-rest g l = record {
  place : l.sub + length l.rest ≡ 1 + length l.carried;
  left : list_all (λ e. stands_at l.device e.1 (l.mapping, e.0)) (enumerate_from l.sub (map (g.W.Wants.choices l.wants) l.rest))
      ≡ list_all (λ e. stands_at l.device e.1 (l.mapping, e.0)) (enumerate_from 1 (map (g.W.Wants.choices l.wants) l.carried));
}

abbrev pub decreases-loop-rest : goal.decreases-loop-rest
decreases-loop-rest g l = length l.rest
