use Rattle.dav_upload.proofs.Once.{drain_once}
use Rattle.dav_upload.proofs.laws.drains_take_once.Goals as goal

pub returns : goal.returns
returns c = λ base now t given run resting stopping early does. drain_once base now t given run resting.sound stopping early does
