use Rattle.std.proofs.Common.{◌≡◌, ◌<◌, ◌+◌, ℕ, List, false, true, length, get_or, drop, sym, ap, ◌∙◌, arith}
use Rattle.std.proofs.lemmas.List.{drop_all, take_rest}
use Rattle.dav_text.specs.Reading.{bad_escape_from, is_bad_escape}
use Rattle.dav_text.proofs.ReadLemmas.{escape_passed, escape_found, no_escape_left}
use Rattle.dav_text.proofs.reading.bad_escape.Goals as goal

pub returns-then-is_bad_escape : goal.returns-then-is_bad_escape
returns-then-is_bad_escape c =
    let bytes = c.args.bytes.now in
    let at = c.loop-at.at in
    let bad : is_bad_escape (get_or bytes at 0) (drop (at + 1) bytes) ≡ true =
    ap (is_bad_escape (get_or bytes at 0)) (sym (take_rest bytes (at + 1))) ∙ sym c.is_bad_escape.ensures ∙ c.if-is_bad_escape.true in
    sym (c.loop-at.invariant ∙ escape_found bytes at c.loop-at-test.true bad)

pub loop-at-preserved : goal.loop-at-preserved
loop-at-preserved c =
    let bytes = c.args.bytes.now in
    let at = c.loop-at.at in
    let fine : is_bad_escape (get_or bytes at 0) (drop (at + 1) bytes) ≡ false =
    ap (is_bad_escape (get_or bytes at 0)) (sym (take_rest bytes (at + 1))) ∙ sym c.is_bad_escape.ensures ∙ c.if-is_bad_escape.false in
    c.loop-at.invariant ∙ escape_passed bytes at c.loop-at-test.true fine

pub returns : goal.returns
returns c =
    sym (c.loop-at.invariant ∙ ap (bad_escape_from c.loop-at.at) (drop_all c.loop-at.at c.args.bytes.now c.loop-at-test.false) ∙ no_escape_left c.loop-at.at)
