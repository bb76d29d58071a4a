use Rattle.network_laws.proofs.LastLemmas.{from_text, has_last, in_text, one_last}
use Rattle.network_laws.proofs.files_and_devices.each_entry_that_is_written_has_a_last_write.Goals as goal

pub returns-clause-some : goal.returns-clause-some
returns-clause-some c = has_last

pub returns-clause-one : goal.returns-clause-one
returns-clause-one c = λ image node place one other first second. one_last image node place one other first second

pub returns-clause-listed : goal.returns-clause-listed
returns-clause-listed c = λ image node writes text listed is place bytes. (
  in_text image node writes listed text is place bytes,
  from_text image node writes listed text is place bytes,
)
