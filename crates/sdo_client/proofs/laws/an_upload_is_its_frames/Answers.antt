use Rattle.sdo_client.proofs.UploadLaws.{server_uploads}
use Rattle.sdo_client.proofs.laws.an_upload_is_its_frames.Goals as goal

pub returns-clause-server : goal.returns-clause-server
returns-clause-server c = λ shape values transfer place value index passed held. server_uploads place value index shape
    values transfer passed held
