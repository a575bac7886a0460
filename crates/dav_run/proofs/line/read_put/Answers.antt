use Rattle.dav_run.proofs.PutLines.{split_no_path}
use Rattle.dav_run.proofs.line.read_put.Goals as goal

pub returns-in_default-2 : goal.returns-in_default-2
returns-in_default-2 c = split_no_path c.args.current.now c.args.line.now c.in-Some.target.now c.in-Some.bytes.now c.in-Some.ensures (rw c.in_default-2.is at c.in_ok-path.ensures)
