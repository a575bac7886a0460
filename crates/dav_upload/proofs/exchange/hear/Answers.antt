use Rattle.std.proofs.Common.{◌++◌, take, drop, [], Ok, Some, None, refl, ap}
use Rattle.dav_machine.specs.Devices.{one_device}
use Rattle.dav_machine.specs.Machine.{give}
use Rattle.dav_edge.proofs.Sending.{on_same, on_then}
use Rattle.dav_frame.specs.declared.reader.Reply.{Reply}
use Rattle.dav_frame.specs.Reading.{is_alone}
use Rattle.dav_upload.specs.Exchange.{Heard, Hears}
use Rattle.dav_upload.proofs.Exchanging.{reads_on, reads_short, reads_whole, reply_in, hears_short, hears_whole, hears_fault, hears_end, hears_failed}
use Rattle.dav_upload.proofs.exchange.hear.Goals as goal

pub loop-count-init : goal.loop-count-init
loop-count-init g c = ([], on_same _ (Hears []), c.new-reader.ensures.starts, c.new-reader.ensures.reading)

pub returns-in_default : goal.returns-in_default
returns-in_default g c =
    on_then _ _ _ (Hears []) (Hears c.loop-count.invariant.0) (give one_device (Ok None)) c.loop-count.invariant.1
    (hears_failed _ _ c.loop-count.invariant.0 c.receive.new.buf 4096 c.in_default.field-0 refl c.in_default.ensures.log)

pub ended-requires : goal.ended-requires
ended-requires g c = c.loop-count.invariant.3

pub returns-then-count-eq0 : goal.returns-then-count-eq0
returns-then-count-eq0 g c =
    on_then _ _ _ (Hears []) (Hears c.loop-count.invariant.0) (give one_device (Ok c.ended.result)) c.loop-count.invariant.1
    (hears_end _ _ c.loop-count.invariant.0 c.receive.new.buf 4096 c.in-Ok.count c.loop-count.reader c.ended.result refl c.if-count-eq0.true c.in-Ok.ensures.log c.loop-count.invariant.2 c.ended.ensures)

pub whole-requires : goal.whole-requires
whole-requires g c = c.in-Ok-feed.ensures.done.0 c.if-progress.true

pub returns-then-progress : goal.returns-then-progress
returns-then-progress g c =
    let so_far = c.loop-count.invariant.0 in
    let piece = take c.in-Ok.count c.receive.new.buf in
    let used = c.in-Ok-feed.progress.used in
    let read = c.whole.ensures in
    on_then _ _ _ (Hears []) (Hears so_far) (give one_device _) c.loop-count.invariant.1
    (hears_whole _ _ so_far c.receive.new.buf 4096 c.in-Ok.count read.0 (drop used piece) _ refl c.if-count-eq0.false c.in-Ok.ensures.count c.in-Ok.ensures.log
    (reads_whole so_far piece c.loop-count.reader c.feed.new.self used read.0 c.loop-count.invariant.2 c.in-Ok-feed.ensures.leads read.1)
    (ap (λ (r : Reply). let h : Heard = Ok (Some r) in h)
    (reply_in piece used (is_alone c.feed.new.self) read.0 c.whole.result c.in-Ok-feed.ensures.used (c.in-Ok-feed.ensures.alone c.if-progress.true c.loop-count.invariant.3) read.2)))

pub loop-count-preserved : goal.loop-count-preserved
loop-count-preserved g c =
    let so_far = c.loop-count.invariant.0 in
    let piece = take c.in-Ok.count c.receive.new.buf in
    let all = c.in-Ok-feed.ensures.all c.if-progress.false in (
      so_far ++ piece,
      on_then _ _ _ (Hears []) (Hears so_far) (Hears (so_far ++ piece)) c.loop-count.invariant.1
          (hears_short _ _ so_far c.receive.new.buf 4096 c.in-Ok.count refl c.if-count-eq0.false c.in-Ok.ensures.count c.in-Ok.ensures.log
          (reads_short so_far piece c.loop-count.reader c.feed.new.self c.in-Ok-feed.progress.used c.loop-count.invariant.2 c.in-Ok-feed.ensures.leads all.0 all.2)),
      reads_on so_far piece c.loop-count.reader c.feed.new.self c.in-Ok-feed.progress.used c.loop-count.invariant.2 c.in-Ok-feed.ensures.leads all.0,
      all.1,
    )

pub returns-in-Err : goal.returns-in-Err
returns-in-Err g c =
    let so_far = c.loop-count.invariant.0 in
    on_then _ _ _ (Hears []) (Hears so_far) (give one_device _) c.loop-count.invariant.1
    (hears_fault _ _ so_far c.receive.new.buf 4096 c.in-Ok.count c.loop-count.reader c.in-Err.fault _ refl c.if-count-eq0.false c.in-Ok.ensures.count c.in-Ok.ensures.log
    c.loop-count.invariant.2 c.in-Err.ensures.fault c.heard_of.ensures)
