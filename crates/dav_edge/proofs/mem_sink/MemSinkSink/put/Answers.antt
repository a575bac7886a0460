use Rattle.std.proofs.Common.{Ok, refl, rules}
use Rattle.dav_edge.specs.Device.{Send, Fails, happened, sent}
use Rattle.dav_edge.specs.History.{log_of}
use Rattle.dav_edge.proofs.Written.{tells_wrote, tells_faulted}
use Rattle.dav_edge.proofs.mem_sink.MemSinkSink.put.Goals as goal

pub invariant_of-self : goal.invariant_of-self
invariant_of-self c = record { exact = tells_faulted (log_of c.args.self.now.history) _ (happened (Send c.args.bytes.now) Fails) _ c.not_sent.ensures refl c.args.self.now.exact }

pub invariant_of-self-in-Ok-sent : goal.invariant_of-self-in-Ok-sent
invariant_of-self-in-Ok-sent c = record { exact = tells_wrote (log_of c.args.self.now.history) (log_of c.sent.new.self) (sent c.args.bytes.now (Ok c.min-count.result)) c.args.self.now.written.items _ c.in-Ok-sent.ensures.ok (search rules) c.args.self.now.exact }
