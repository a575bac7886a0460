use Rattle.std.proofs.Common.{◌≡◌, Option, MatchOption, sym, subst}
use Rattle.dav_text.specs.Path.{IsPath, PathParts}
use Rattle.dav_uri.specs.Target.{BaseParts}
use Rattle.dav_upload.specs.Desks.{disk_view}
use Rattle.dav_run.specs.Run.{words_end}
use Rattle.dav_run.specs.Words.{HasNoBase, IsBase, texts_of}
use Rattle.dav_run.specs.declared.ended.Status.TheVariants as status
use Rattle.dav_run.proofs.Basing.{base_path, base_short}
use Rattle.dav_run.proofs.LastLines.{ran_refused, ran_unread, says, under_as}
use Rattle.dav_run.proofs.whole.run_all.Goals as goal

pub returns-in-Err : goal.returns-in-Err
returns-in-Err g c =
    under_as (disk_view g.D.Disk.honest g.D.Disk.moment g.D.Disk.seen g.D.Disk.past g.D.Disk.faults) (texts_of c.args.words.now) _ _ _ _ _ _ c.args.disk _ _ _ _ _ c.unopened.ensures.trace.1
    (ran_unread (disk_view g.D.Disk.honest g.D.Disk.moment g.D.Disk.seen g.D.Disk.past g.D.Disk.faults) (texts_of c.args.words.now) _ _ _ _ c.args.disk _ _ c.tell_memory-status.result _ c.unopened.ensures.disk c.unopened.ensures.trace.0 c.tell_memory-status.ensures.status c.tell_memory-status.ensures.says c.unopened.ensures.end)

pub returns-in-Ok-None : goal.returns-in-Ok-None
returns-in-Ok-None g c =
    under_as (disk_view g.D.Disk.honest g.D.Disk.moment g.D.Disk.seen g.D.Disk.past g.D.Disk.faults) (texts_of c.args.words.now) _ _ _ _ _ _ c.args.disk _ _ _ _ _ c.unopened-in-Ok-None.ensures.trace.1
    (ran_refused (disk_view g.D.Disk.honest g.D.Disk.moment g.D.Disk.seen g.D.Disk.past g.D.Disk.faults) (texts_of c.args.words.now) _ _ _ _ c.args.disk _ _ _ (subst (λ (b : Option (BaseParts × PathParts)). MatchOption b (HasNoBase (texts_of c.args.words.now)) (λ p. IsBase (texts_of c.args.words.now) p.0 × (p.1 ≡ p.0.path))) c.in-Ok-None.field-0-is c.in-Ok-None.ensures) c.unopened-in-Ok-None.ensures.disk c.unopened-in-Ok-None.ensures.trace.0 (says _ _ words_end _ status.Words _ c.as_slice.ensures c.put_whole.ensures) c.unopened-in-Ok-None.ensures.end)

pub run_over-requires-clause-short : goal.run_over-requires-clause-short
run_over-requires-clause-short g c = base_short (texts_of c.args.words.now) c.in-Ok-Some.base (subst (λ (b : Option (BaseParts × PathParts)). MatchOption b (HasNoBase (texts_of c.args.words.now)) (λ p. IsBase (texts_of c.args.words.now) p.0 × (p.1 ≡ p.0.path))) c.in-Ok-Some.field-0-is c.in-Ok-Some.ensures).0

pub run_over-requires-clause-path : goal.run_over-requires-clause-path
run_over-requires-clause-path g c = subst IsPath (sym (subst (λ (b : Option (BaseParts × PathParts)). MatchOption b (HasNoBase (texts_of c.args.words.now)) (λ p. IsBase (texts_of c.args.words.now) p.0 × (p.1 ≡ p.0.path))) c.in-Ok-Some.field-0-is c.in-Ok-Some.ensures).1) (base_path (texts_of c.args.words.now) c.in-Ok-Some.base (subst (λ (b : Option (BaseParts × PathParts)). MatchOption b (HasNoBase (texts_of c.args.words.now)) (λ p. IsBase (texts_of c.args.words.now) p.0 × (p.1 ≡ p.0.path))) c.in-Ok-Some.field-0-is c.in-Ok-Some.ensures).0)

pub returns-in-Ok-Some : goal.returns-in-Ok-Some
returns-in-Ok-Some g c = c.run_over.ensures (texts_of c.args.words.now) (subst (λ (b : Option (BaseParts × PathParts)). MatchOption b (HasNoBase (texts_of c.args.words.now)) (λ p. IsBase (texts_of c.args.words.now) p.0 × (p.1 ≡ p.0.path))) c.in-Ok-Some.field-0-is c.in-Ok-Some.ensures).0 (subst (λ (b : Option (BaseParts × PathParts)). MatchOption b (HasNoBase (texts_of c.args.words.now)) (λ p. IsBase (texts_of c.args.words.now) p.0 × (p.1 ≡ p.0.path))) c.in-Ok-Some.field-0-is c.in-Ok-Some.ensures).1
