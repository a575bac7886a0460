use Rattle.std.proofs.Common.{ℕ, ◌+◌, List, [], ◌∷◌, ◌++◌, sym, ◌∙◌, ap, subst, arith}
use Rattle.dav_disk.proofs.Stretch.{touches_join}
use Rattle.dav_recorder.specs.Opening.{IsBadRow}
use Rattle.dav_recorder.proofs.IndexLemmas.{HasReplayed, replayed_more}
use Rattle.dav_recorder.proofs.reading.read_table.Goals as goal

pub returns-in-Ok-End-clause-read : goal.returns-in-Ok-End-clause-read
returns-in-Ok-End-clause-read g c h url reading =
    let was = c.loop-row.invariant.read (c.next_record.ensures.keeps h) url reading in
    c.in-Ok-End.ensures.ended h c.in-Ok-End.field-0-is url was.0 was.1

pub returns-in-Err-clause-refused : goal.returns-in-Err-clause-refused
returns-in-Err-clause-refused g c h place why url reading =
    let was = c.loop-row.invariant.read (c.next_record.ensures.keeps h) url reading in
    subst (λ (s : List ℕ). IsBadRow url place s) (c.loop-row.invariant.seen (c.next_record.ensures.keeps h) 0) (c.in-Err.ensures.refused h place why url was.0 was.1)

pub loop-row-preserved : goal.loop-row-preserved
loop-row-preserved g c = record {
  within = c.in-Ok-Row.ensures.within;
  counted = let counted = c.in-Ok-Row.ensures.counted c.in-Ok-Row.field-0-is in ap (λ (n : ℕ). n + 1) (sym counted);
  read = λ h url reading.
      let was = c.loop-row.invariant.read (c.next_record.ensures.keeps h) url reading in
      let more = c.in-Ok-Row.ensures.more h c.in-Ok-Row.field-0-is url was.0 was.1 in
      (was.0 ++ more.0 ∷ [], more.1);
  touches = λ h. touches_join (c.loop-row.invariant.touches (c.next_record.ensures.keeps h)) (c.next_record.ensures.touches h);
  seen = λ h f. c.next_record.ensures.seen h f ∙ c.loop-row.invariant.seen (c.next_record.ensures.keeps h) f;
  keeps = λ h. c.loop-row.invariant.keeps (c.next_record.ensures.keeps h);
  replayed = let got = c.in-Ok-Row.ensures.record c.in-Ok-Row.field-0-is in replayed_more c.loop-row.table c.next_record.new.table got.0 got.1 got.2 c.in-Ok-Row.ensures.within c.loop-row.invariant.replayed;
  moments = omega (arith, c.loop-row.invariant.moments, c.next_record.ensures.moments);
  faults = omega (arith, c.loop-row.invariant.faults, c.next_record.ensures.cause.later);
}

pub returns-in-Ok-End-clause-replayed : goal.returns-in-Ok-End-clause-replayed
returns-in-Ok-End-clause-replayed g c = subst HasReplayed (sym (c.in-Ok-End.ensures.same c.in-Ok-End.field-0-is)) c.loop-row.invariant.replayed
