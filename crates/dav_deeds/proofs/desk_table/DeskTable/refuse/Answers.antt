use Rattle.std.proofs.Common.{refl, sym, ap, subst}
use Rattle.dav_deeds.specs.DeskTable.{DeskTable}
use Rattle.dav_deeds.specs.declared.deed.Mark.TheVariants as marks
use Rattle.dav_deeds.specs.declared.plan.Change.{Change}
use Rattle.dav_deeds.specs.Change.{IsChange}
use Rattle.dav_deeds.specs.Effects.{quiet}
use Rattle.std.proofs.Common.{None}
use Rattle.dav_deeds.proofs.desk_table.DeskTable.refuse.Goals as goal

pub returns : goal.returns
returns c =
    let made = c.in_ok-made.ensures c.args.self.now in
    record {
      is_deed = c.requires;
      stands = refl;
      step = made.step;
      answer = made.answer;
      released = made.released;
      row_is = made.row_is;
      change = subst (λ (x : Change). IsChange c.args.self.now (quiet c.args.self.now (marks.Refused c.args.fault) None) x) (sym c.only_stopping.ensures)
          (record { noting = tt; waits = tt; job = refl; jobs = refl; stopping = ap (λ (t : DeskTable). t.stopping) (sym c.self.view_is) });
    }
