use Rattle.std.proofs.Common.{◌≡◌, ◌+◌, ◌≤◌, List, ℕ, length, if◌then◌else◌, ◌∙◌, ap, subst, arith}
use Rattle.std.proofs.lemmas.Result.{on_ok_weaker}
use Rattle.dav_disk.specs.Disk.{Doubt, Passes, overwritten, touched_by_write}
use Rattle.dav_disk.specs.Record.{state_of, past_of}
use Rattle.dav_disk.proofs.Recording.{fair_now, fair_write, write_seen, write_passes, write_others, made_ok, look_passes, look_seen, out_of_range}
use Rattle.dav_disk.proofs.mem_disk.MemDiskDisk.write_at.Goals as goal

pub record-requires : goal.record-requires
record-requires c =
    let calls = c.args.self.now.calls.items in
    let made = subst (λ (x : List ℕ). c.in-Ok.next.items ≡ (if c.is_to_fail-fails.result then x else overwritten x c.args.at c.args.bytes.now)) c.content-old.ensures c.in-Ok.ensures in
    let ends : c.in-Some.end ≡ c.args.at + length c.args.bytes.now = omega (arith, c.in-Some.ensures) in
    let changed = c.of_write-change.ensures ∙ ap (λ (x : List ℕ). touched_by_write c.args.at (length c.args.bytes.now) (length x)) c.content-old.ensures in
    fair_write calls c.args.file c.args.at c.args.bytes.now c.of_write-change.result c.in-Some.end c.in-Ok.next c.is_to_fail-fails.result (fair_now c.args.self.now.first calls c.args.self.now.exact) (c.requires tt) ends changed made

pub returns-in_default-clause-others : goal.returns-in_default-clause-others
returns-in_default-clause-others c _ = λ f out. look_seen c.args.self.now.calls.items c.refuse.new.self.calls.items c.refuse.ensures.either f

pub returns-in_default-clause-time : goal.returns-in_default-clause-time
returns-in_default-clause-time c _ =
    let first = c.args.self.now.first in
    let calls = c.args.self.now.calls.items in
    let new = c.refuse.new.self.calls.items in
    let size = length (state_of c.args.file calls).seen in
    let long : 18446744073709551616 ≤ c.args.at + length c.args.bytes.now = omega (arith, c.in_default.ensures) in
    subst (λ (d : Doubt). Passes (first + length calls) (c.refuse.new.self.first + length new) (past_of first calls) (past_of c.refuse.new.self.first new) c.args.file d)
    (out_of_range c.args.at (length c.args.bytes.now) size (past_of first calls (first + length calls) c.args.file) long)
    (look_passes first c.refuse.new.self.first calls new c.args.file c.refuse.ensures.first c.refuse.ensures.either)

pub returns-clause-written : goal.returns-clause-written
returns-clause-written c _ = on_ok_weaker c.record.result (λ p.
    write_seen c.args.self.now.calls.items c.record.new.self.calls.items c.args.file c.of_write-change.result c.in-Some.end c.in-Ok.next p.0
    ∙ made_ok c.is_to_fail-fails.result c.in-Ok.next.items c.content-old.result.now _ c.in-Ok.ensures p.1
    ∙ ap (λ (x : List ℕ). overwritten x c.args.at c.args.bytes.now) c.content-old.ensures) c.record.ensures.ok

pub returns-clause-others : goal.returns-clause-others
returns-clause-others c _ = write_others c.args.self.now.calls.items c.record.new.self.calls.items c.args.file c.of_write-change.result c.in-Some.end c.in-Ok.next c.record.ensures.either

pub returns-clause-time : goal.returns-clause-time
returns-clause-time c _ =
    let ends : c.in-Some.end ≡ c.args.at + length c.args.bytes.now = omega (arith, c.in-Some.ensures) in
    let le : c.args.at + length c.args.bytes.now ≤ 18446744073709551615 = omega (arith, c.in-Some.ensures) in
    let changed = c.of_write-change.ensures ∙ ap (λ (x : List ℕ). touched_by_write c.args.at (length c.args.bytes.now) (length x)) c.content-old.ensures in
    write_passes c.args.self.now.first c.record.new.self.first c.args.self.now.calls.items c.record.new.self.calls.items c.args.file c.args.at (length c.args.bytes.now) c.of_write-change.result c.in-Some.end c.in-Ok.next le ends changed c.record.ensures.first c.record.ensures.either
