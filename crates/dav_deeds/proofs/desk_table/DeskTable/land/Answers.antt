use Rattle.std.proofs.Common.{◌≡◌, refl, sym, ◌∙◌, ap, subst}
use Rattle.dav_index.specs.declared.entry.Waiting.{Waiting}
use Rattle.dav_deeds.specs.Change.{Notes, IsPlannedBy}
use Rattle.dav_deeds.specs.DeskTable.{DeskTable}
use Rattle.dav_deeds.specs.DeskView.{table_of}
use Rattle.dav_deeds.specs.Effects.{fated_of, settle_by_fate, waiting_at, record_of_fate}
use Rattle.dav_deeds.specs.Made.{AreRecords}
use Rattle.dav_deeds.specs.Spare.{AreRows}
use Rattle.dav_deeds.specs.declared.answer.Fated.{Fated}
use Rattle.dav_deeds.specs.declared.made.Made.{Made}
use Rattle.dav_deeds.specs.declared.plan.Planned.{Planned}
use Rattle.dav_deeds.specs.declared.plan.NextJob.TheVariants.{Ended}
use Rattle.dav_deeds.proofs.Making.{lands_waiting}
use Rattle.dav_deeds.proofs.Sparing.{end_recorded, end_numbered}
use Rattle.dav_deeds.proofs.desk_table.DeskTable.land.Goals as goal

pub ended-noting-requires-clause-rows : goal.ended-noting-requires-clause-rows
ended-noting-requires-clause-rows c = subst (λ (t : DeskTable). AreRows t.index c.args.flight.now c.args.spare.rows) (sym c.self.view_is) c.requires.spare.rows

pub ended-noting-requires-clause-number : goal.ended-noting-requires-clause-number
ended-noting-requires-clause-number c = end_numbered c.self.inside.index c.args.flight.now c.args.now c.args.done.now c.fated-fated.result c.fated-fated.ensures

pub ended-noting-requires-clause-is_record : goal.ended-noting-requires-clause-is_record
ended-noting-requires-clause-is_record c =
    subst (λ (f : Fated). AreRecords (record_of_fate c.args.flight.now c.args.done.now f)) (sym c.fated-fated.ensures)
    (end_recorded (table_of c.self.inside) c.self.invariant c.args.flight.now c.args.now c.args.done.now (ap (λ (t : DeskTable). t.job) c.self.view_is ∙ c.requires.flight) c.requires.done)

pub returns : goal.returns
returns c =
    let t = c.args.self.now in
    let fated = c.fated-fated.result in
    let same : fated ≡ fated_of t.index c.args.flight.now c.args.now c.args.done.now =
    c.fated-fated.ensures ∙ ap (λ (t : DeskTable). fated_of t.index c.args.flight.now c.args.now c.args.done.now) c.self.view_is in
    let planned : Planned = record {
      made = c.settled.result;
      change = record { noting = c.ended-noting.result; waits = c.waits_by.result; job = Ended; stopping = c.self.inside.stopping };
    } in
    subst (λ (f : Fated). IsPlannedBy t c.args.who c.args.now c.args.deed (settle_by_fate t c.args.flight.now c.args.done.now f) planned c.ended-noting.new.row.items) same
    (record {
      is_deed = c.requires.deed;
      stands = refl;
      step = ap (λ (m : Made). m.step) c.settled.ensures;
      answer = ap (λ (m : Made). m.answer) c.settled.ensures;
      released = ap (λ (m : Made). m.released.items) c.settled.ensures ∙ c.settled_files-released.ensures;
      row_is = c.ended-noting.ensures.row;
      change = record {
        noting = subst (λ (t : DeskTable). Notes t.index (record_of_fate c.args.flight.now c.args.done.now fated) c.ended-noting.result) c.self.view_is c.ended-noting.ensures.noting;
        waits = lands_waiting t.index c.args.flight.now fated fated c.waiting_at-tried.result.tried c.waits_by.result refl
            (ap (λ (w : Waiting). w.tried) c.waiting_at-tried.ensures ∙ ap (λ (t : DeskTable). (waiting_at c.args.flight.now.path t.index.entries).tried) c.self.view_is)
            (c.waits_by.ensures c.args.flight.now c.requires.spare.waits);
        job = refl;
        jobs = refl;
        stopping = ap (λ (t : DeskTable). t.stopping) (sym c.self.view_is);
      };
    })
