use Rattle.dav_desk.specs.Working.{IsReadied}
use Rattle.dav_tables.proofs.turns.turn_lines.Given as goal

abbrev pub invariant-loop-line : goal.invariant-loop-line
invariant-loop-line g l = IsReadied g.D.Disk.honest g.D.Disk.moment g.D.Disk.seen g.D.Disk.past l.desk
