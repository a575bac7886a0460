use Rattle.dav_markup.proofs.RunLemmas.{plain_byte}
use Rattle.dav_markup.proofs.run.in_text.Goals as goal

pub returns-in_default : goal.returns-in_default
returns-in_default c = λ o os.
    plain_byte o os c.args.brackets c.args.byte c.kind_of.result c.in_default.not-Less c.in_default.not-Ampersand
    (c.is_end.ensures.stays c.if-is_end.false) c.if-byte-eq13.false c.kind_of.ensures _ c.counted.ensures
