use Rattle.network_image.specs.Image.{window_steps}
use Rattle.network_image.proofs.WindowLemmas.{AreBelow}
use Rattle.kept_parts.proofs.kept_parts.KeptParts.window_table.Given as goal

-- the windows so far are there
abbrev pub invariant-loop-i : goal.invariant-loop-i
invariant-loop-i l = AreBelow (window_steps l.project) l.i l.table
