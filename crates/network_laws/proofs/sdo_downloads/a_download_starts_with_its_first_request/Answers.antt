use Rattle.network_laws.proofs.RequestLaws.{started}
use Rattle.network_laws.proofs.sdo_downloads.a_download_starts_with_its_first_request.Goals as goal

pub returns : goal.returns
returns c = started
