use Rattle.std.proofs.Common.{rules, ℕ, Option, Some, false, refl, sym, ◌∙◌, ap, subst}
use Rattle.dav_index.specs.Records.{IsRecord, text_of}
use Rattle.dav_deeds.specs.Sound.{IsSound}
use Rattle.dav_deeds.proofs.Sounds.{closed_record}
use Rattle.dav_index.specs.declared.record.Record.TheVariants as records
use Rattle.dav_text.specs.Path.{PathParts}
use Rattle.dav_deeds.specs.Change.{CanNote}
use Rattle.dav_deeds.specs.declared.deed.Deed.TheVariants as deeds
use Rattle.dav_deeds.specs.declared.deed.Mark.TheVariants as marks
use Rattle.dav_deeds.specs.declared.answer.Told.TheVariants as answers
use Rattle.dav_deeds.specs.declared.fault.DeskFault.{DeskFault}
use Rattle.dav_deeds.specs.declared.made.Made.{Made}
use Rattle.dav_deeds.specs.DeskTable.{DeskTable}
use Rattle.dav_deeds.specs.Effects.{file_of, body_at, grounded}
use Rattle.dav_deeds.specs.Legal.{IsBodyUnless}
use Rattle.dav_store.specs.declared.body_id.BodyId.{BodyId}
use Rattle.dav_deeds.proofs.desk_table.DeskTable.plan_close.Goals as goal

pub noting-requires-clause-is_record : goal.noting-requires-clause-is_record
noting-requires-clause-is_record c =
    subst (λ (p : PathParts). IsRecord (records.Closed p c.args.body)) (sym c.in_ok-bare.ensures)
    (closed_record c.args.self.now (subst IsSound c.self.view_is c.self.invariant) c.args.now c.args.path.now c.args.len c.args.body c.requires.path c.requires.free (c.requires.file, c.requires.len, search rules))

pub returns : goal.returns
returns c =
    let can : CanNote c.args.self.now.index (records.Closed c.in_ok-bare.bare c.args.body) c.in_ok-noting.noting =
    subst (λ (t : DeskTable). CanNote t.index (records.Closed c.in_ok-bare.bare c.args.body) c.in_ok-noting.noting) c.self.view_is c.in_ok-noting.ensures.noting in
    record {
      is_deed = (c.requires.path, subst (λ (r : Option DeskFault). IsBodyUnless r c.args.self.now.index.next_file c.args.len (Some c.args.body)) (sym c.requires.free) (c.requires.file, c.requires.len, search rules));
      stands = refl;
      step = ap (λ (m : Made). m.step) c.closed.ensures
          ∙ ap (λ (p : PathParts). record { who = c.args.who; now = c.args.now; deed = deeds.Store p c.args.len (Some c.args.body); mark = marks.Body c.args.body; told = Some (answers.Closed c.args.body); moment = 0 }) c.in_ok-asked.ensures;
      answer = ap (λ (m : Made). m.answer) c.closed.ensures;
      released = ap (λ (m : Made). m.released.items) c.closed.ensures ∙ c.in_ok-released.ensures
          ∙ ap (λ (o : Option BodyId). grounded c.self.inside.job (file_of o)) c.body_at.ensures
          ∙ ap (λ (t : DeskTable). grounded t.job (file_of (body_at c.args.path.now t.index.entries))) c.self.view_is;
      row_is = c.in_ok-noting.ensures.row ∙ ap (λ (p : PathParts). text_of (records.Closed p c.args.body)) c.in_ok-bare.ensures;
      change = record {
        noting = subst (λ (p : PathParts). CanNote c.args.self.now.index (records.Closed p c.args.body) c.in_ok-noting.noting) c.in_ok-bare.ensures can;
        waits = (c.in_ok-waits_for.ensures ∙ c.in_ok-bare.ensures, ap (λ (due : ℕ). record { attempts = 0; due = due; tried = false }) c.later.ensures);
        job = refl;
        jobs = refl;
        stopping = ap (λ (t : DeskTable). t.stopping) (sym c.self.view_is);
      };
    }
