use Rattle.std.proofs.Common.{◌≡◌, List, ℕ, take, if◌then◌else◌, ◌∙◌, ap, subst}
use Rattle.std.proofs.lemmas.Result.{on_ok_weaker}
use Rattle.dav_disk.proofs.Recording.{fair_now, fair_cut, cut_seen, cut_passes, cut_others, made_ok}
use Rattle.dav_disk.proofs.mem_disk.MemDiskDisk.cut.Goals as goal

pub record-requires : goal.record-requires
record-requires c =
    let made = subst (λ (x : List ℕ). c.in-Ok.next.items ≡ (if c.is_to_fail-fails.result then x else take c.args.len x)) c.content.ensures c.in-Ok.ensures in
    fair_cut c.args.self.now.calls.items c.args.file c.args.len c.in-Ok.next c.is_to_fail-fails.result (fair_now c.args.self.now.first c.args.self.now.calls.items c.args.self.now.exact) made

pub returns-clause-cut : goal.returns-clause-cut
returns-clause-cut c _ = on_ok_weaker c.record.result (λ p.
    cut_seen c.args.self.now.calls.items c.record.new.self.calls.items c.args.file c.args.len c.in-Ok.next p.0
    ∙ made_ok c.is_to_fail-fails.result c.in-Ok.next.items c.content.result.now _ c.in-Ok.ensures p.1
    ∙ ap (λ (x : List ℕ). take c.args.len x) c.content.ensures) c.record.ensures.ok

pub returns-clause-others : goal.returns-clause-others
returns-clause-others c _ = cut_others c.args.self.now.calls.items c.record.new.self.calls.items c.args.file c.args.len _ c.record.ensures.either

pub returns-clause-time : goal.returns-clause-time
returns-clause-time c _ = cut_passes c.args.self.now.first c.record.new.self.first c.args.self.now.calls.items c.record.new.self.calls.items c.args.file c.args.len _ c.record.ensures.first c.record.ensures.either
