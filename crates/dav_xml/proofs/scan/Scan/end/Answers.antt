use Rattle.dav_xml.proofs.FeedLemmas.{over_whole, over_cut}
use Rattle.std.proofs.Common.{refl, sym, ◌∙◌}
use Rattle.dav_xml.proofs.scan.Scan.end.Goals as goal

pub returns-then-is_over-clause-whole : goal.returns-then-is_over-clause-whole
returns-then-is_over-clause-whole c = λ text given h. over_whole c.args.self.now text given h (sym c.is_over.ensures ∙ c.if-is_over.true)

pub returns-clause-cut : goal.returns-clause-cut
returns-clause-cut c = λ text given h. (refl, over_cut c.args.self.now text given h (sym c.is_over.ensures ∙ c.if-is_over.false))
