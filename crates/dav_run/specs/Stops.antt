-- Why the shell stops.
use Rattle.dav_run.specs.declared.stop.Halt.{Halt}
use Rattle.dav_run.specs.declared.stop.Halt.TheVariants as halts
use Rattle.dav_run.specs.declared.stop.Stop.{Stop}
use Rattle.dav_run.specs.declared.stop.Stop.TheVariants.{Output, Desk}

-- a stop in a line
abbrev pub stop_of : Halt → Stop
stop_of halts.Output = Output
stop_of (halts.Desk fault) = Desk fault
