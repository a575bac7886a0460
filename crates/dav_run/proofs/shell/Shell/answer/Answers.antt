use Rattle.std.proofs.Common.{◌≡◌, ◌≢◌, ◌∙◌, ℕ, List, [], ◌∷◌, length, Bool, true, false, nat_eq, Option, MatchOption, refl, sym, ap, arith, subst}
use Rattle.std.proofs.lemmas.Bool.{false≢true, eqb-true}
use Rattle.dav_text.specs.Path.{IsPath}
use Rattle.dav_upload.specs.Desks.{disk_view}
use Rattle.dav_run.specs.Line.{IsNoPut, IsPut}
use Rattle.dav_run.specs.Said.{state_of}
use Rattle.dav_run.specs.declared.line.Put.{Put}
use Rattle.dav_run.specs.declared.shell.Said.TheVariants as saids
use Rattle.dav_run.proofs.Desking.{line_memory, line_nothing, line_syntax, said_is}
use Rattle.dav_run.proofs.Fitting.{fit_with}
use Rattle.dav_run.proofs.shell.Shell.answer.Goals as goal

-- a line that tests as empty, and one that doesn't
no_bytes : (line : List ℕ) (empty : Bool) → empty ≡ nat_eq (length line) 0 → empty ≡ true → line ≡ []
no_bytes [] empty test is = refl
no_bytes (b ∷ line) empty test is = let none : length (b ∷ line) ≡ 0 = eqb-true (length (b ∷ line)) 0 (sym test ∙ is) in absurd (omega (arith, none))

some_bytes : (line : List ℕ) (empty : Bool) → empty ≡ nat_eq (length line) 0 → empty ≡ false → line ≢ []
some_bytes line empty test off = λ is. absurd (false≢true (sym off ∙ test ∙ ap (λ (l : List ℕ). nat_eq (length l) 0) is))

pub returns-then-is_empty-clause-does : goal.returns-then-is_empty-clause-does
returns-then-is_empty-clause-does g c =
    line_nothing (disk_view g.D.Disk.honest g.D.Disk.moment g.D.Disk.seen g.D.Disk.past g.D.Disk.faults) _ _ (state_of c.args.self.now) c.args.line.now _ refl (no_bytes c.args.line.now c.is_empty.result c.is_empty.ensures c.if-is_empty.true) refl

pub returns-then-is_empty-clause-fit : goal.returns-then-is_empty-clause-fit
returns-then-is_empty-clause-fit g c = c.requires

pub read_put-requires : goal.read_put-requires
read_put-requires g c = c.requires.path

pub store-requires-clause-fit : goal.store-requires-clause-fit
store-requires-clause-fit g c = c.requires

pub store-requires-clause-path : goal.store-requires-clause-path
store-requires-clause-path g c =
    let line = c.args.line.now in
    let current = c.args.self.now.current in
    let IsReading = λ (put : Option Put). MatchOption put (IsNoPut current line) (λ p. IsPut current line p.path p.bytes × IsPath p.path) in
    (subst IsReading c.in-Ok-Some.field-0-is c.in-Ok-Some.ensures).1

pub returns-in-Ok-Some-clause-does : goal.returns-in-Ok-Some-clause-does
returns-in-Ok-Some-clause-does g c =
    let line = c.args.line.now in
    let current = c.args.self.now.current in
    let IsReading = λ (put : Option Put). MatchOption put (IsNoPut current line) (λ p. IsPut current line p.path p.bytes × IsPath p.path) in
    c.store.ensures.does line (subst IsReading c.in-Ok-Some.field-0-is c.in-Ok-Some.ensures).0

pub returns-in-Ok-Some-clause-fit : goal.returns-in-Ok-Some-clause-fit
returns-in-Ok-Some-clause-fit g c = c.store.ensures.fit

pub returns-in-Ok-None-clause-does : goal.returns-in-Ok-None-clause-does
returns-in-Ok-None-clause-does g c =
    let line = c.args.line.now in
    let current = c.args.self.now.current in
    let IsReading = λ (put : Option Put). MatchOption put (IsNoPut current line) (λ p. IsPut current line p.path p.bytes × IsPath p.path) in
    line_syntax (disk_view g.D.Disk.honest g.D.Disk.moment g.D.Disk.seen g.D.Disk.past g.D.Disk.faults) _ _ (state_of c.args.self.now) line _ c.refuse.ensures.same.0 (some_bytes line c.is_empty.result c.is_empty.ensures c.if-is_empty.false) (subst IsReading c.in-Ok-None.field-0-is c.in-Ok-None.ensures)
    (said_is _ saids.Syntax c.refuse.new.self.text.items _ _ c.refuse.ensures.said c.refuse.ensures.state)

pub returns-in-Ok-None-clause-fit : goal.returns-in-Ok-None-clause-fit
returns-in-Ok-None-clause-fit g c =
    fit_with g.D.Disk.honest g.D.Disk.moment g.D.Disk.seen g.D.Disk.past c.refuse.new.self _ _ c.refuse.ensures.same.1 c.refuse.ensures.same.0 c.requires.path c.requires.readied c.requires.resting

pub returns-in-Err-clause-does : goal.returns-in-Err-clause-does
returns-in-Err-clause-does g c =
    line_memory (disk_view g.D.Disk.honest g.D.Disk.moment g.D.Disk.seen g.D.Disk.past g.D.Disk.faults) _ _ (state_of c.args.self.now) c.args.line.now _ c.starve.ensures.same.0 (said_is _ saids.Memory c.starve.new.self.text.items _ _ c.starve.ensures.said c.starve.ensures.state)

pub returns-in-Err-clause-fit : goal.returns-in-Err-clause-fit
returns-in-Err-clause-fit g c =
    fit_with g.D.Disk.honest g.D.Disk.moment g.D.Disk.seen g.D.Disk.past c.starve.new.self _ _ c.starve.ensures.same.1 c.starve.ensures.same.0 c.requires.path c.requires.readied c.requires.resting
