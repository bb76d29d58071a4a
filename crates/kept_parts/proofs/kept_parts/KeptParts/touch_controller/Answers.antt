use Rattle.kept_parts.proofs.MarkLemmas.{no_own_marks, own_marks}
use Rattle.kept_parts.proofs.kept_parts.KeptParts.touch_controller.Goals as goal
