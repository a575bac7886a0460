-- What is queued of a path, and what is lost, after each change of a table.
use Rattle.std.proofs.Common.{◌≡◌, ℕ, ◌+◌, Bool, true, false, ◌||◌, Option, Some, None, nat_eq, Contains, refl, sym, ◌∙◌, ap, subst, arith, if◌then◌else◌}
use Rattle.std.specs.Prelude.{option_map, option_and_then}
use Rattle.std.proofs.lemmas.List.Elements.{Contains-append_left, Contains-append_right}
use Rattle.dav_text.specs.Path.{PathParts}
use Rattle.dav_text.specs.declared.tag.Seen.{Seen}
use Rattle.dav_store.specs.declared.body_id.BodyId.{BodyId}
use Rattle.dav_index.specs.Items.{same_path, entry_at}
use Rattle.dav_index.specs.Tables.{queued_body, queued_at, waiting_body, has_file, closed_entry, sent_entry, entries_after_loss, lost_as, replay}
use Rattle.dav_index.specs.declared.entry.Entry.{Entry}
use Rattle.dav_index.specs.declared.entry.Waiting.{Waiting}
use Rattle.dav_index.specs.declared.lost.LostItem.{LostItem}
use Rattle.dav_index.specs.declared.record.Record.TheVariants.{Closed, Sent, Lost, Forgot}
use Rattle.dav_index.specs.declared.table.Table.{Table}
use Rattle.dav_deeds.specs.Effects.{Wait, waited, bare}
use Rattle.dav_deeds.specs.Fate.{IsLostAs}
use Rattle.dav_deeds.specs.Refusals.{queued_with}
use Rattle.dav_deeds.proofs.Paths.{by_test, same_back, not_back, goes_at}
use Rattle.dav_deeds.proofs.Entries.{changed_at, changed_other, entry_here, entry_other, gone_at, kept_at, queued_kept, queued_so}

-- what stays queued where the body in this file was dealt with
abbrev pub without : ℕ → Option BodyId → Option BodyId
without file None = None
without file (Some b) = if nat_eq b.file file then None else Some b

pub waited_queued : (p : PathParts) (t : Table) (w : Option Wait) → queued_at p (waited t w).entries ≡ queued_at p t.entries
waited_queued p t None = refl
waited_queued p t (Some w) = queued_so p w.path w.waiting t.entries

pub waited_lost : (t : Table) (w : Option Wait) → (waited t w).lost ≡ t.lost
waited_lost t None = refl
waited_lost t (Some w) = refl

-- what was lost in one table is lost in another that has no less
pub lost_more : (t u : Table) (p : PathParts) (n : ℕ) (b : BodyId) → ((x : LostItem) → Contains t.lost x → Contains u.lost x) → IsLostAs t p n b → IsLostAs u p n b
lost_more t u p n b more l = record {
  item = l.item;
  among = more l.item l.among;
  number_is = l.number_is;
  path_is = l.path_is;
  body_is = l.body_is;
}

pub closed_here : (p q : PathParts) (body : BodyId) (t : Table) → same_path p q ≡ true → queued_at p (replay t (Closed (bare q) body)).entries ≡ Some body
closed_here p q body t same =
    ap (option_and_then queued_body) (entry_here p (bare q) (closed_entry body (t.records + 1) (entry_at (bare q) t.entries)) t.entries same)

pub closed_other : (p q : PathParts) (body : BodyId) (t : Table) → same_path p q ≡ false → queued_at p (replay t (Closed (bare q) body)).entries ≡ queued_at p t.entries
closed_other p q body t other =
    ap (option_and_then queued_body) (entry_other p (bare q) (closed_entry body (t.records + 1) (entry_at (bare q) t.entries)) t.entries other)

sent_body : (file : ℕ) (q : Option Waiting) (b : Option BodyId) → waiting_body (if has_file file b then None else q) b ≡ without file (waiting_body q b)
sent_body file None None = refl
sent_body file (Some w) None = refl
sent_body file q (Some b) = by_test (nat_eq b.file file)
    (λ h. rw h (sym (none q h)))
    (λ h. rw h (sym (kept q h)))
  where
    none : (q : Option Waiting) → nat_eq b.file file ≡ true → without file (waiting_body q (Some b)) ≡ None
    none None h = refl
    none (Some w) h = rw h

    kept : (q : Option Waiting) → nat_eq b.file file ≡ false → without file (waiting_body q (Some b)) ≡ waiting_body q (Some b)
    kept None h = refl
    kept (Some w) h = rw h

sent_so : (file row : ℕ) (seen : Seen) (e : Option Entry) → option_and_then queued_body (option_map (sent_entry file seen row) e) ≡ without file (option_and_then queued_body e)
sent_so file row seen None = refl
sent_so file row seen (Some e) = sent_body file e.queued e.body

pub sent_here : (p q : PathParts) (file : ℕ) (seen : Seen) (t : Table) → same_path p q ≡ true → queued_at p (replay t (Sent q file seen)).entries ≡ without file (queued_at p t.entries)
sent_here p q file seen t same =
    ap (option_and_then queued_body) (changed_at p q (sent_entry file seen (t.records + 1)) t.entries same) ∙ sent_so file (t.records + 1) seen (entry_at p t.entries)

pub sent_other : (p q : PathParts) (file : ℕ) (seen : Seen) (t : Table) → same_path p q ≡ false → queued_at p (replay t (Sent q file seen)).entries ≡ queued_at p t.entries
sent_other p q file seen t other = ap (option_and_then queued_body) (changed_other p q (sent_entry file seen (t.records + 1)) t.entries other)

at_same : (q p : PathParts) (b : Bool) → same_path q p ≡ b → goes_at q false p ≡ b
at_same q p b is = by (same_path q p) is
  where
    by : (c : Bool) → c ≡ b → (c || false) ≡ b
    by true is = is
    by false is = is

pub lost_here : (p q : PathParts) (n : ℕ) (t : Table) (b : BodyId) → queued_at q t.entries ≡ Some b → same_path p q ≡ true → queued_at p (replay t (Lost n q false)).entries ≡ None
lost_here p q n t b is same =
    ap (λ (o : Option BodyId). queued_at p (entries_after_loss q false (t.records + 1) t.entries o)) is
    ∙ ap (option_and_then queued_body) (gone_at q false p t.entries (at_same q p true (same_back p q same)))

pub lost_other : (p q : PathParts) (n : ℕ) (t : Table) (b : BodyId) → queued_at q t.entries ≡ Some b → same_path p q ≡ false → queued_at p (replay t (Lost n q false)).entries ≡ queued_at p t.entries
lost_other p q n t b is other =
    ap (λ (o : Option BodyId). queued_at p (entries_after_loss q false (t.records + 1) t.entries o)) is
    ∙ ap (option_and_then queued_body) (kept_at q false p t.entries (at_same q p false (not_back p q other)))

-- the loss is behind those that were there
pub lost_new : (p q : PathParts) (n : ℕ) (t : Table) (b : BodyId) → queued_at q t.entries ≡ Some b → same_path p q ≡ true → IsLostAs (replay t (Lost n q false)) p n b
lost_new p q n t b is same = record {
  item = record { number = n; path = q; body = b };
  among = Contains-append_right t.lost (lost_as n q (queued_at q t.entries)) (record { number = n; path = q; body = b })
      (subst (λ (o : Option BodyId). Contains (lost_as n q o) (record { number = n; path = q; body = b })) (sym is) (0, omega arith, refl));
  number_is = refl;
  path_is = same;
  body_is = refl;
}

pub lost_before : (q : PathParts) (n : ℕ) (t : Table) (x : LostItem) → Contains t.lost x → Contains (replay t (Lost n q false)).lost x
lost_before q n t x there = Contains-append_left t.lost (lost_as n q (queued_at q t.entries)) x there

pub forgot_queued : (p q : PathParts) (locks below : Bool) (t : Table) → queued_with q below t.entries ≡ None → queued_at p (replay t (Forgot q locks below)).entries ≡ queued_at p t.entries
forgot_queued p q locks below t none = queued_kept q below p t.entries none
