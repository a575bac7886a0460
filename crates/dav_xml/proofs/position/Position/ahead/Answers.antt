use Rattle.std.proofs.Common.{sym, subst}
use Rattle.dav_markup.specs.Owing.{owed_in}
use Rattle.dav_xml.specs.declared.position.Position.{Position}
use Rattle.dav_xml.specs.Ahead.{IsAhead}
use Rattle.dav_xml.proofs.position.Position.ahead.Goals as goal

pub returns-in-Text : goal.returns-in-Text
returns-in-Text c =
    subst (λ (z : Position). IsAhead z c.args.opens.now c.args.size (owed_in c.args.owed) c.args.bytes.now c.text_ahead.result) (sym c.in-Text.is) (c.text_ahead.ensures c.args.size)

pub returns-in-Start : goal.returns-in-Start
returns-in-Start c =
    subst (λ (z : Position). IsAhead z c.args.opens.now c.args.size (owed_in c.args.owed) c.args.bytes.now c.name_ahead.result) (sym c.in-Start.is) (c.name_ahead.ensures c.args.opens.now)

pub returns-in-End : goal.returns-in-End
returns-in-End c =
    subst (λ (z : Position). IsAhead z c.args.opens.now c.args.size (owed_in c.args.owed) c.args.bytes.now c.end_ahead.result) (sym c.in-End.is) (c.end_ahead.ensures c.args.opens.now)
