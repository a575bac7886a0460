use Rattle.std.proofs.Common.{rules, ◌≡◌, ◌∙◌, ◌++◌, ◌+◌, ◌-◌, ap, take, arith, sym, length, subst, List, ℕ}
use Rattle.dav_head.proofs.KeepLemmas.{parts_of, keeps_all, keeps_cut}
use Rattle.dav_head.specs.Limit.{Keeps}
use Rattle.dav_head.proofs.limit.keep.Goals as goal

pub returns-then-end-len-clause-ok : goal.returns-then-end-len-clause-ok
returns-then-end-len-clause-ok c =
    let before = c.args.before in
    let old = c.args.kept.now.items in
    let piece = c.args.piece.now in
    let room : c.len.result ≡ length old = omega arith in
    let front : c.front_of-front.result.now ≡ take ((65537 - before) - length old) piece =
    c.front_of-front.ensures ∙ ap (λ n. take ((65537 - before) - n) piece) room in
    let is : c.extend_from_slice.new.self.items ≡ old ++ c.front_of-front.result.now = search rules in
    let whole : c.deref.result.now ≡ old ++ take ((65537 - before) - length old) piece =
    c.deref.ensures.value ∙ is ∙ ap (λ s. old ++ s) front in
    keeps_cut before old piece c.deref.result.now c.truncate.new.self.items c.free_bytes-end.result
    (parts_of before old piece c.deref.result.now c.requires whole)
    (c.truncate.ensures.items ∙ ap (λ s. take (c.free_bytes-end.result + 1) s) (sym c.deref.ensures.value)) (omega arith)
    c.free_bytes-end.ensures.free (c.free_bytes-end.ensures.stops (omega arith)) c.free_bytes-end.ensures.few

pub returns-clause-ok : goal.returns-clause-ok
returns-clause-ok c =
    let before = c.args.before in
    let old = c.args.kept.now.items in
    let piece = c.args.piece.now in
    let room : c.len.result ≡ length old = omega arith in
    let front : c.front_of-front.result.now ≡ take ((65537 - before) - length old) piece =
    c.front_of-front.ensures ∙ ap (λ n. take ((65537 - before) - n) piece) room in
    let is : c.extend_from_slice.new.self.items ≡ old ++ c.front_of-front.result.now = search rules in
    let whole : c.deref.result.now ≡ old ++ take ((65537 - before) - length old) piece =
    c.deref.ensures.value ∙ is ∙ ap (λ s. old ++ s) front in
    let P : List ℕ → Type 0 = λ s. Keeps before old piece s _ in
    subst P c.deref.ensures.value (keeps_all before old piece c.deref.result.now c.free_bytes-end.result
    (parts_of before old piece c.deref.result.now c.requires whole)
    (omega arith) c.free_bytes-end.ensures.free c.free_bytes-end.ensures.few)
