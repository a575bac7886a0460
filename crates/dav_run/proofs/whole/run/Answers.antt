use Rattle.dav_upload.specs.Desks.{disk_view}
use Rattle.dav_run.specs.Words.{texts_of}
use Rattle.dav_run.proofs.Causes.{disk_rose, cache_caused, has_index}
use Rattle.dav_run.proofs.Heading.{headline}
use Rattle.dav_run.proofs.Keeping.{keeps, words_refused, input_rose, output_rose, memory_starves}
use Rattle.dav_run.proofs.TheRun.{is_the_run, begins_fed}
use Rattle.dav_run.proofs.whole.run.Goals as goal

pub returns-clause-kept : goal.returns-clause-kept
returns-clause-kept g c = keeps (disk_view g.D.Disk.honest g.D.Disk.moment g.D.Disk.seen g.D.Disk.past g.D.Disk.faults) (texts_of c.args.words.now) _ _ _ _ _ _ _ _ _ _ _ c.run_all.ensures

pub returns-clause-headline : goal.returns-clause-headline
returns-clause-headline g c = headline (disk_view g.D.Disk.honest g.D.Disk.moment g.D.Disk.seen g.D.Disk.past g.D.Disk.faults) (texts_of c.args.words.now) _ _ _ _ _ _ _ _ _ _ _ c.run_all.ensures

pub returns-clause-words : goal.returns-clause-words
returns-clause-words g c = words_refused (disk_view g.D.Disk.honest g.D.Disk.moment g.D.Disk.seen g.D.Disk.past g.D.Disk.faults) (texts_of c.args.words.now) _ _ _ _ _ _ _ _ _ _ _ c.run_all.ensures

pub returns-clause-input : goal.returns-clause-input
returns-clause-input g c = input_rose (disk_view g.D.Disk.honest g.D.Disk.moment g.D.Disk.seen g.D.Disk.past g.D.Disk.faults) (texts_of c.args.words.now) _ _ _ _ _ _ _ _ _ _ _ c.run_all.ensures

pub returns-clause-output : goal.returns-clause-output
returns-clause-output g c = output_rose (disk_view g.D.Disk.honest g.D.Disk.moment g.D.Disk.seen g.D.Disk.past g.D.Disk.faults) (texts_of c.args.words.now) _ _ _ _ _ _ _ _ _ _ _ c.run_all.ensures

pub returns-clause-disk : goal.returns-clause-disk
returns-clause-disk g c = disk_rose (disk_view g.D.Disk.honest g.D.Disk.moment g.D.Disk.seen g.D.Disk.past g.D.Disk.faults) (texts_of c.args.words.now) _ _ _ _ _ _ _ _ _ _ _ c.run_all.ensures

pub returns-clause-cache : goal.returns-clause-cache
returns-clause-cache g c = cache_caused (disk_view g.D.Disk.honest g.D.Disk.moment g.D.Disk.seen g.D.Disk.past g.D.Disk.faults) (texts_of c.args.words.now) _ _ _ _ _ _ _ _ _ _ _ c.run_all.ensures

pub returns-clause-index : goal.returns-clause-index
returns-clause-index g c = has_index (disk_view g.D.Disk.honest g.D.Disk.moment g.D.Disk.seen g.D.Disk.past g.D.Disk.faults) (texts_of c.args.words.now) _ _ _ _ _ _ _ _ _ _ _ c.run_all.ensures

pub returns-clause-memory : goal.returns-clause-memory
returns-clause-memory g c = memory_starves (disk_view g.D.Disk.honest g.D.Disk.moment g.D.Disk.seen g.D.Disk.past g.D.Disk.faults) (texts_of c.args.words.now) _ _ _ _ _ _ _ _ _ _ _ c.run_all.ensures

pub returns-clause-function : goal.returns-clause-function
returns-clause-function g c fed = is_the_run (disk_view g.D.Disk.honest g.D.Disk.moment g.D.Disk.seen g.D.Disk.past g.D.Disk.faults) (texts_of c.args.words.now) _ _ _ _ _ _ _ _ _ _ _ c.run_all.ensures fed

pub returns-clause-beginning : goal.returns-clause-beginning
returns-clause-beginning g c = begins_fed (disk_view g.D.Disk.honest g.D.Disk.moment g.D.Disk.seen g.D.Disk.past g.D.Disk.faults) (texts_of c.args.words.now) _ _ _ _ _ _ _ _ _ _ _ c.run_all.ensures
