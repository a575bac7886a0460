use Rattle.std.proofs.Common.{◌≡◌, ◌+◌, ℕ, [], ◌∷◌, ◌++◌, length, ◌∙◌, sym, subst, arith}
use Rattle.dav_store.specs.Rows.{IsAtRest}
use Rattle.dav_store.proofs.Adding.{at_rest_length}
use Rattle.dav_store.proofs.journal.Journal.append.Goals as goal

pub returns-in_err-open_row-clause-any_moment : goal.returns-in_err-open_row-clause-any_moment
returns-in_err-open_row-clause-any_moment g c h rows r = c.open_row.ensures.any_moment h rows c.args.payload.now c.requires.fits (c.as_slice.ensures.value ∙ c.stage.ensures.text) r

pub returns-clause-any_moment : goal.returns-clause-any_moment
returns-clause-any_moment g c h rows r = c.open_row.ensures.any_moment h rows c.args.payload.now c.requires.fits (c.as_slice.ensures.value ∙ c.stage.ensures.text) r

pub returns-clause-ready : goal.returns-clause-ready
returns-clause-ready g c h =
    let q = c.requires.ready (c.open_row.ensures.keeps h) in
    let row = c.args.payload.now in
    let disk = c.open_row.new.disk in
    let rest = c.in_ok-open_row.ensures.added h q.0 row c.requires.fits (c.as_slice.ensures.value ∙ c.stage.ensures.text) q.1 in
    let inside = at_rest_length rest in
    let is : c.pass.new.self.end ≡ c.args.self.now.end + length row + 3 = omega (arith, c.pass.ensures.end, g.met.D.Disk.fits disk h 0, inside) in
    (q.0 ++ row ∷ [], subst (λ (n : ℕ). IsAtRest (q.0 ++ row ∷ []) n (g.D.Disk.seen disk 0) (g.D.Disk.past disk (g.D.Disk.moment disk) 0)) (sym is) rest)
