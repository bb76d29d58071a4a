use Rattle.kept_parts.proofs.MarkLemmas.{file_marks, parameter_marks}
use Rattle.kept_parts.proofs.kept_parts.KeptParts.touch_parameters.Goals as goal
