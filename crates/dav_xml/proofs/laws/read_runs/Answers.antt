use Rattle.dav_xml.proofs.LawLemmas.{read_run, read_owed}
use Rattle.dav_xml.proofs.laws.read_runs.Goals as goal

pub returns : goal.returns
returns c = record { run = read_run; characters = read_owed }
