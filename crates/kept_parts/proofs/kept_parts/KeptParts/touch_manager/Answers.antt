use Rattle.kept_parts.proofs.MarkLemmas.{moved_marks, unmoved_marks}
use Rattle.kept_parts.proofs.kept_parts.KeptParts.touch_manager.Goals as goal
