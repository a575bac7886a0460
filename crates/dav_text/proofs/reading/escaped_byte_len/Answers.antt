use Rattle.std.proofs.Common.{sym, ◌∙◌}
use Rattle.dav_text.specs.declared.sets.TheConstants.{ESCAPED}
use Rattle.dav_text.proofs.ReadLemmas.{escaped_byte_long, escaped_byte_kept}
use Rattle.dav_text.proofs.reading.escaped_byte_len.Goals as goal

pub returns-then-should_percent_encode : goal.returns-then-should_percent_encode
returns-then-should_percent_encode c = escaped_byte_long ESCAPED c.args.byte (sym c.should_percent_encode.ensures ∙ c.if-should_percent_encode.true)
