use Rattle.std.proofs.Common.{inl, inr, ℕ, [], sym, subst}
use Rattle.dav_store.specs.Rows.{IsAtRest}
use Rattle.dav_store.proofs.StartLemmas.{leaves_join, spells_none}
use Rattle.dav_store.proofs.journal.Journal.make.Goals as goal

pub returns-in_err-append-clause-any_moment : goal.returns-in_err-append-clause-any_moment
returns-in_err-append-clause-any_moment g c h =
    let d1 = c.ready_gate.new.disk in
    let between = c.append.ensures.keeps h in
    let found = c.requires.found (c.ready_gate.ensures.keeps between) in
    let rest = subst (λ (n : ℕ). IsAtRest [] n (g.D.Disk.seen d1 0) (g.D.Disk.past d1 (g.D.Disk.moment d1) 0)) (sym c.requires.fresh) (c.in_ok-ready_gate.ensures.at_rest between found.0 found.1) in
    leaves_join (c.ready_gate.ensures.any_moment between found.0 found.1) (c.append.ensures.touches h).before (c.append.ensures.any_moment h [] rest)
    (λ x none. inl none) (λ x either. elim either [ inl s ↦ inl (spells_none x s) | inr s ↦ inr s ])

pub returns-clause-any_moment : goal.returns-clause-any_moment
returns-clause-any_moment g c h =
    let d1 = c.ready_gate.new.disk in
    let between = c.append.ensures.keeps h in
    let found = c.requires.found (c.ready_gate.ensures.keeps between) in
    let rest = subst (λ (n : ℕ). IsAtRest [] n (g.D.Disk.seen d1 0) (g.D.Disk.past d1 (g.D.Disk.moment d1) 0)) (sym c.requires.fresh) (c.in_ok-ready_gate.ensures.at_rest between found.0 found.1) in
    leaves_join (c.ready_gate.ensures.any_moment between found.0 found.1) (c.append.ensures.touches h).before (c.append.ensures.any_moment h [] rest)
    (λ x none. inl none) (λ x either. elim either [ inl s ↦ inl (spells_none x s) | inr s ↦ inr s ])
