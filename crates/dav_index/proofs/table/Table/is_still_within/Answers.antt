use Rattle.std.proofs.Common.{sym, ap, ◌∙◌}
use Rattle.std.specs.List.{list_all}
use Rattle.std.proofs.lemmas.Bool.{false≢true}
use Rattle.dav_index.specs.Item.{Item}
use Rattle.dav_index.specs.Tests.{is_entry_within, is_lost_within}
use Rattle.dav_index.proofs.BoundLemmas.{within_so, within_to}
use Rattle.dav_index.proofs.AfterLemmas.{files_after, numbers_after, apart_so, numbered_apart_so}
use Rattle.dav_index.proofs.table.Table.is_still_within.Goals as goal

pub returns-then-not-has_room : goal.returns-then-not-has_room
returns-then-not-has_room c before was is =
    (λ e. absurd (false≢true e), λ w. absurd (false≢true (sym c.if-not-has_room.true ∙ c.has_room.ensures.1 (within_to c.args.self.now w).room)))

pub returns-then-not-entries_within : goal.returns-then-not-entries_within
returns-then-not-entries_within c before was is =
    let said = c.entries_within.ensures ∙ ap (list_all (λ (item : Item). is_entry_within c.args.self.now.next_file item.entry)) c.as_slice-entries.ensures.value in
    (λ e. absurd (false≢true e), λ w. absurd (false≢true (sym c.if-not-entries_within.true ∙ said ∙ (within_to c.args.self.now w).entries)))

pub returns-then-not-lost_within : goal.returns-then-not-lost_within
returns-then-not-lost_within c before was is =
    let said = c.lost_within.ensures ∙ ap (list_all (is_lost_within c.args.self.now.next_file c.args.self.now.next_lost)) c.as_slice-lost.ensures.value in
    (λ e. absurd (false≢true e), λ w. absurd (false≢true (sym c.if-not-lost_within.true ∙ said ∙ (within_to c.args.self.now w).lost)))

pub returns-then-not-is_apart : goal.returns-then-not-is_apart
returns-then-not-is_apart c before was is =
    (λ e. absurd (false≢true e), λ w. absurd (false≢true (sym c.if-not-is_apart.true ∙ c.is_apart.ensures ∙ apart_so c.args.self.now c.args.rec.now (within_to c.args.self.now w))))

pub returns : goal.returns
returns c before was is =
    let entries = c.entries_within.ensures ∙ ap (list_all (λ (item : Item). is_entry_within c.args.self.now.next_file item.entry)) c.as_slice-entries.ensures.value in
    let lost = c.lost_within.ensures ∙ ap (list_all (is_lost_within c.args.self.now.next_file c.args.self.now.next_lost)) c.as_slice-lost.ensures.value in (
      λ e. within_so c.args.self.now c.as_slice-entries.ensures.in_order c.as_slice-lost.ensures.paths (record {
        room = c.has_room.ensures.0 c.if-not-has_room.false;
        entries = sym entries ∙ c.if-not-entries_within.false;
        lost = sym lost ∙ c.if-not-lost_within.false;
        files = files_after before c.args.self.now c.args.rec.now was is (sym c.is_apart.ensures ∙ c.if-not-is_apart.false);
        numbers = numbers_after before c.args.self.now c.args.rec.now was is (sym c.is_numbered_apart.ensures ∙ e);
      }),
      λ w. c.is_numbered_apart.ensures ∙ numbered_apart_so c.args.self.now c.args.rec.now (within_to c.args.self.now w),
    )
