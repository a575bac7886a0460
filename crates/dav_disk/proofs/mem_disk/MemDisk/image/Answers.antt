use Rattle.std.proofs.Common.{◌≡◌, ◌-◌, List, length, min, max, take, subst, sym, ap, ◌∙◌, arith}
use Rattle.dav_disk.specs.Record.{IsFair}
use Rattle.dav_disk.specs.declared.call.Call.{Call}
use Rattle.dav_disk.proofs.Imaging.{one_image, any_image, at_moment}
use Rattle.dav_disk.proofs.mem_disk.MemDisk.image.Goals as goal

pub returns : goal.returns
returns c =
    let first = c.args.self.now.first in
    let calls = c.args.self.now.calls.items in
    let used = take c.min-count.result c.deref.result.now in
    let counted : c.min-count.result ≡ min (c.args.moment - first) (length calls) = omega (arith, c.min-count.ensures, c.saturating_sub.ensures, c.len.ensures) in
    let of_moment : used ≡ take (c.args.moment - first) calls = ap (λ (l : List Call). take c.min-count.result l) c.deref.ensures.value ∙ at_moment first calls c.args.moment c.min-count.result counted in
    let fair : IsFair used = subst IsFair (sym of_moment) (c.args.self.now.exact.each (c.args.moment - first)) in
    let s = c.standing_of-standing.result in
    let clamped : c.min-len.result ≡ min (max (length c.args.wish.now) s.least) s.greatest = omega (arith, c.min-len.ensures, c.max.ensures) in
    record {
      one = one_image c.picked.result first c.args.moment c.args.file calls used s.seen.now s.synced.now c.args.wish.now s.least s.greatest c.min-len.result of_moment fair c.standing_of-standing.ensures clamped c.picked.ensures.long c.picked.ensures.each;
      any = any_image c.picked.result first c.args.moment c.args.file calls used s.seen.now s.synced.now c.args.wish.now s.least s.greatest c.min-len.result of_moment fair c.standing_of-standing.ensures clamped c.picked.ensures.long c.picked.ensures.each;
    }
