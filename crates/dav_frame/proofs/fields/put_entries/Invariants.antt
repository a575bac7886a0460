use Rattle.std.proofs.Common.{◌≡◌, ◌++◌, take}
use Rattle.dav_frame.specs.Fields.{field_lines}
use Rattle.dav_frame.proofs.fields.put_entries.Given as goal

-- the lines of the entries so far stand after the old bytes
abbrev pub invariant-loop-entry : goal.invariant-loop-entry
invariant-loop-entry l = l.out.items ≡ l.fn.out.items ++ field_lines (take l.entry-index l.entries)
