use Rattle.std.proofs.Common.{◌+◌}
use Rattle.network_laws.proofs.FileLemmas.{files_match}
use Rattle.network_laws.proofs.NoteLemmas.{noted_is_configured}
use Rattle.network_laws.proofs.files_and_devices.a_node_that_is_noted_configured_holds_its_files.Goals as goal

pub returns-clause-configured : goal.returns-clause-configured
returns-clause-configured c = noted_is_configured

pub returns-clause-holds : goal.returns-clause-holds
returns-clause-holds c = λ image is t node d noted up place bytes configures.
    files_match image is (t + 1) node d (noted_is_configured image t node noted) up place bytes configures
