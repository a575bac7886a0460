use Rattle.dav_deeds.proofs.AllRows.{spared, released_begin}
use Rattle.dav_deeds.proofs.laws.released_files_are_free.Goals as goal

pub returns-clause-body : goal.returns-clause-body
returns-clause-body c = λ t now deed file sound is there body named. (spared t sound now deed is file there).0 body named

pub returns-clause-job : goal.returns-clause-job
returns-clause-job c = λ t now deed file sound is there. (spared t sound now deed is file there).1

pub returns-clause-begins : goal.returns-clause-begins
returns-clause-begins c = λ t now deed file sound there. released_begin t sound now deed file there
