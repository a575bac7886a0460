-- What contracts see of the shell.
use Rattle.dav_run.specs.declared.shell.Shell.{Shell}
use Rattle.dav_run.specs.Shell.{State, state}

abbrev pub state_of : {D : Type 0} → Shell D → State
state_of shell = state shell.current shell.desk.table shell.faulty shell.starved shell.done
