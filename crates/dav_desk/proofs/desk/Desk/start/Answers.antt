use Rattle.std.proofs.Common.{List, sym, ◌∙◌, ap, subst}
use Rattle.dav_index.specs.declared.table.Table.{Table}
use Rattle.dav_deeds.specs.DeskTable.{DeskTable, started}
use Rattle.dav_recorder.specs.Opening.{IsIndexOf}
use Rattle.dav_deeds.specs.Legal.{table_after}
use Rattle.dav_deeds.specs.declared.deed.Step.{Step}
use Rattle.dav_desk.specs.Called.{AreTimed}
use Rattle.dav_desk.proofs.desk.Desk.start.Goals as goal

pub returns-in-Ok-clause-working : goal.returns-in-Ok-clause-working
returns-in-Ok-clause-working g c h table given all =
    let both = c.in-Ok.ensures.live h table given all in
    let same = c.start-in-Ok.ensures ∙ ap (λ (t : Table). started t) both.0 in (
      same,
      record {
        alive = c.in-Ok.ensures.fresh.2;
        table = same ∙ ap (λ (l : List Step). table_after (started table) l) (sym c.in-Ok.ensures.fresh.0);
        live = both.1;
      },
    )

pub returns-in-Ok-clause-opened : goal.returns-in-Ok-clause-opened
returns-in-Ok-clause-opened g c h =
    let opened = c.in-Ok.ensures.opened h in
    (opened.0, subst (λ (t : Table). IsIndexOf c.args.url.now t (g.D.Disk.seen c.args.disk 0)) (sym (ap (λ (t : DeskTable). t.index) c.start-in-Ok.ensures)) opened.1)

pub returns-in-Ok-clause-indexed : goal.returns-in-Ok-clause-indexed
returns-in-Ok-clause-indexed g c =
    let indexed = c.in-Ok.ensures.indexed in
    (indexed.0, subst (λ (t : Table). IsIndexOf c.args.url.now t indexed.0) (sym (ap (λ (t : DeskTable). t.index) c.start-in-Ok.ensures)) indexed.1)

pub returns-in-Ok-clause-moments : goal.returns-in-Ok-clause-moments
returns-in-Ok-clause-moments g c = subst (λ (l : List Step). AreTimed (g.D.Disk.moment c.args.disk) l (g.D.Disk.moment c.in-Ok.recorder.disk)) (sym c.in-Ok.ensures.fresh.0) c.in-Ok.ensures.moments
