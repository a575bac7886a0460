use Rattle.std.proofs.Common.{inl, inr, ℕ, List, subst}
use Rattle.dav_store.specs.Start.{IsNothing, LacksHead}
use Rattle.dav_store.specs.Rows.{HasRow}
use Rattle.dav_store.proofs.StartLemmas.{ok_weaker, err_weaker, found_nothing, leaves_join, leaves_quiet}
use Rattle.dav_store.proofs.journal.Journal.start.Goals as goal

pub returns-in-Nothing-clause-stays : goal.returns-in-Nothing-clause-stays
returns-in-Nothing-clause-stays g c h stands =
    let found = rw c.in-Nothing.is at c.in_ok-look.ensures.found (c.make.ensures.keeps h) in
    absurd (stands (found_nothing c.in-Nothing.closed (g.D.Disk.seen c.args.disk.now 0) found))

pub returns-in-Nothing-clause-any_moment : goal.returns-in-Nothing-clause-any_moment
returns-in-Nothing-clause-any_moment g c h =
    leaves_join (c.look.ensures.any_moment (c.make.ensures.keeps h)) (c.make.ensures.touches h).before (c.make.ensures.any_moment h) (λ x left. inl left) (λ x made. inr made)

pub returns-in-Something-clause-opened : goal.returns-in-Something-clause-opened
returns-in-Something-clause-opened g c h stands =
    ok_weaker c.open.result (c.open.ensures.opened h) (λ j is. (is.0, subst (λ (s : List ℕ). HasRow j.head s) (c.look.ensures.seen (c.open.ensures.keeps h) 0) is.1))

pub returns-in-Something-clause-refused : goal.returns-in-Something-clause-refused
returns-in-Something-clause-refused g c h =
    let before = c.open.ensures.keeps h in
    let found = rw c.in-Something.is at c.in_ok-look.ensures.found before in
    let same = c.look.ensures.seen before 0 in
    err_weaker c.open.result (c.open.ensures.refused h (λ none. found.1 (subst IsNothing same none)))
    (λ e why at is. let both = why at is in inr (both.0, found.0, subst LacksHead same both.1))

pub returns-in-Something-clause-stays : goal.returns-in-Something-clause-stays
returns-in-Something-clause-stays g c h stands = let before = c.open.ensures.keeps h in leaves_quiet (c.look.ensures.touches before).later (c.look.ensures.any_moment before) (c.open.ensures.touches h)

pub returns-in-Something-clause-any_moment : goal.returns-in-Something-clause-any_moment
returns-in-Something-clause-any_moment g c h k x lo hi left =
    let before = c.open.ensures.keeps h in inl (leaves_quiet (c.look.ensures.touches before).later (c.look.ensures.any_moment before) (c.open.ensures.touches h) k x lo hi left)
