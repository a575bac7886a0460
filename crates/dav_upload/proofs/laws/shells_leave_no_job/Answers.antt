use Rattle.dav_upload.proofs.ShellAsks.{shell_rests}
use Rattle.dav_upload.proofs.laws.shells_leave_no_job.Goals as goal

pub returns : goal.returns
returns c = shell_rests
