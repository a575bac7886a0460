use Rattle.dav_machine.specs.Devices.{one_device}
use Rattle.dav_machine.specs.Machine.{give}
use Rattle.dav_edge.proofs.Numbering.{number_leads}
use Rattle.dav_edge.proofs.laws.one_number_is_asked.Goals as goal

pub returns : goal.returns
returns c = λ old new n grew. number_leads old new (give one_device) n grew
