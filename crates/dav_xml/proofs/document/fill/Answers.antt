use Rattle.std.proofs.Common.{refl, inl}
use Rattle.dav_xml.proofs.GatherLemmas.{breaks_first, cut_first, gathered_whole}
use Rattle.dav_xml.proofs.document.fill.Goals as goal

pub gather-requires-clause-small : goal.gather-requires-clause-small
gather-requires-clause-small c = c.requires.small

pub gather-requires-clause-reads : goal.gather-requires-clause-reads
gather-requires-clause-reads c = c.requires.reads

pub gather-requires-clause-grows : goal.gather-requires-clause-grows
gather-requires-clause-grows c = c.requires.grows

pub returns-in-Err-clause-fault : goal.returns-in-Err-clause-fault
returns-in-Err-clause-fault c = breaks_first c.args.bytes.now c.in-Err.fault c.in-Err.ensures.fault

pub returns-in-Err-end-clause-fault : goal.returns-in-Err-end-clause-fault
returns-in-Err-end-clause-fault c =
    let g = c.in-Ok.ensures.whole in
    cut_first c.gather.new.scan c.gather.new.tree c.args.bytes.now c.in-Err-end.fault g (c.in-Err-end.ensures.cut c.args.bytes.now g.given g.read)

pub returns-in-Ok-end_text-clause-whole : goal.returns-in-Ok-end_text-clause-whole
returns-in-Ok-end_text-clause-whole c =
    let g = c.in-Ok.ensures.whole in
    let k = c.in-Ok-end_text.ensures g.given g.grown in
    gathered_whole c.gather.new.scan c.gather.new.tree c.end_text.new.self c.args.bytes.now g (c.in-Ok-end.ensures.whole c.args.bytes.now g.given g.read) k.0 k.1

pub returns-in-Err-end_text-clause-fault : goal.returns-in-Err-end_text-clause-fault
returns-in-Err-end_text-clause-fault c = inl refl
