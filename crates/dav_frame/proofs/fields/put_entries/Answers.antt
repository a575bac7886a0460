use Rattle.std.proofs.Common.{take}
use Rattle.dav_frame.specs.Fields.{field_lines}
use Rattle.dav_frame.proofs.PutLemmas.{at_err, begins_grown}
use Rattle.dav_frame.proofs.fields.put_entries.Goals as goal

pub returns-in_err-put_field-clause-err : goal.returns-in_err-put_field-clause-err
returns-in_err-put_field-clause-err c =
    at_err c.from_residual.result _
    (begins_grown c.args.out.now.items (field_lines (take c.loop-entry.entry-index c.args.entries.now)) c.loop-entry.out.items c.put_field.new.out.items
    c.loop-entry.invariant c.in_err-put_field.ensures.err)
