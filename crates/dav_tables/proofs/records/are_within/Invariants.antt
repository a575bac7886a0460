use Rattle.dav_index.specs.Bounds.{IsWithin}
use Rattle.dav_tables.proofs.records.are_within.Given as goal

abbrev pub invariant-loop-line : goal.invariant-loop-line
invariant-loop-line l = IsWithin l.table
