use Rattle.std.proofs.Common.{◌+◌}
use Rattle.network_laws.proofs.FileLemmas.{files_match}
use Rattle.network_laws.proofs.files_and_devices.files_match_devices.Goals as goal

pub returns : goal.returns
returns c = λ image is t node d configured up place bytes configures.
    files_match image is (t + 1) node d configured up place bytes configures
