use Rattle.std.proofs.Common.{◌≡◌, ◌+◌, ◌<◌, length, Ok, Err, refl, sym, ap, ◌∙◌, subst}
use Rattle.dav_walk.specs.declared.walker.Walk.TheVariants as walks
use Rattle.dav_walk.specs.declared.walker.State.TheVariants.{Going, Stopped, Failed}
use Rattle.dav_walk.specs.Collecting.{gathering_of}
use Rattle.dav_walk.specs.Walking.{Ends}
use Rattle.dav_walk.specs.WalkerView.{Walking, HasWalked, taken}
use Rattle.dav_walk.proofs.WalkerLemmas.{takes, stops, going_stopped, going_failed, stopped_failed, stopped_going, same_fault, err_ok}
use Rattle.dav_walk.proofs.walker.Walker.feed.Goals as goal

pub pass-requires-clause-room : goal.pass-requires-clause-room
pass-requires-clause-room g c = let P : Walking → Type 0 = λ w. taken w + length c.args.piece.now < 18446744073709551616 in subst P (sym c.self.view_is) c.requires

pub pass-requires-clause-reading : goal.pass-requires-clause-reading
pass-requires-clause-reading g c = c.self.invariant c.in-Going.is

pub returns-in-Ok-Going-clause-going : goal.returns-in-Ok-Going-clause-going
returns-in-Ok-Going-clause-going g c = λ text lent w r.
    let P : Walking → Type 0 = λ v. HasWalked v text lent in
    let s = (subst P (sym c.self.view_is) w).stands in
    let new : Walking = record { root = c.self.inside.root; scan = c.pass.new.scan; gathered = gathering_of c.pass.new.collector; state = c.self.inside.state } in
    let k : c.pass.result ≡ Ok walks.Going = cc in
    takes g.H.Handler.lends new text c.args.piece.now lent c.args.handler.now c.pass.new.handler (c.pass.ensures.going c.self.inside.root text lent s k) c.in-Going.is

pub returns-in-Ok-Stopped-clause-stopped : goal.returns-in-Ok-Stopped-clause-stopped
returns-in-Ok-Stopped-clause-stopped g c = λ text lent w r.
    let P : Walking → Type 0 = λ v. HasWalked v text lent in
    let s = (subst P (sym c.self.view_is) w).stands in
    let new : Walking = record { root = c.self.inside.root; scan = c.pass.new.scan; gathered = gathering_of c.pass.new.collector; state = Stopped } in
    let k : c.pass.result ≡ Ok walks.Stopped = cc in
    stops g.H.Handler.lends new text c.args.piece.now lent c.args.handler.now c.pass.new.handler (c.pass.ensures.stopped c.self.inside.root text lent s k) refl

pub returns-in-Err-clause-fault : goal.returns-in-Err-clause-fault
returns-in-Err-clause-fault g c = λ text lent w.
    let P : Walking → Type 0 = λ v. HasWalked v text lent in
    let s = (subst P (sym c.self.view_is) w).stands in
    let Q : Walking → Type 0 = λ v. Ends g.H.Handler.lends v.root text c.args.piece.now lent c.args.handler.now c.pass.new.handler c.in-Err.fault in
    subst Q c.self.view_is (c.in-Err.ensures.fault c.self.inside.root text lent s)

pub same-self : goal.same-self
same-self g c = refl

pub same-self-in-Failed : goal.same-self-in-Failed
same-self-in-Failed g c = refl

pub returns-in-Stopped-clause-going : goal.returns-in-Stopped-clause-going
returns-in-Stopped-clause-going g c = λ text lent w r. let e : Ok walks.Stopped ≡ Ok walks.Going = r in absurd (stopped_going e)

pub returns-in-Stopped-clause-stopped : goal.returns-in-Stopped-clause-stopped
returns-in-Stopped-clause-stopped g c =
    let st : c.self.inside.state ≡ c.args.self.now.state = ap (λ (v : Walking). v.state) c.self.view_is in
    λ text lent w r. let e : Going ≡ Stopped = sym w.going ∙ sym st ∙ c.in-Stopped.is in absurd (going_stopped e)

pub returns-in-Stopped-clause-over : goal.returns-in-Stopped-clause-over
returns-in-Stopped-clause-over g c = λ s. (refl, refl, refl)

pub returns-in-Stopped-clause-same : goal.returns-in-Stopped-clause-same
returns-in-Stopped-clause-same g c =
    let st : c.self.inside.state ≡ c.args.self.now.state = ap (λ (v : Walking). v.state) c.self.view_is in
    λ fault s. let e : Failed fault ≡ Stopped = sym s ∙ sym st ∙ c.in-Stopped.is in absurd (stopped_failed (sym e))

pub returns-in-Failed-clause-going : goal.returns-in-Failed-clause-going
returns-in-Failed-clause-going g c = λ text lent w r. let e : Err c.in-Failed.fault ≡ Ok walks.Going = r in absurd (err_ok _ _ e)

pub returns-in-Failed-clause-stopped : goal.returns-in-Failed-clause-stopped
returns-in-Failed-clause-stopped g c = λ text lent w r. let e : Err c.in-Failed.fault ≡ Ok walks.Stopped = r in absurd (err_ok _ _ e)

pub returns-in-Failed-clause-fault : goal.returns-in-Failed-clause-fault
returns-in-Failed-clause-fault g c =
    let st : c.self.inside.state ≡ c.args.self.now.state = ap (λ (v : Walking). v.state) c.self.view_is in
    λ text lent w. let e : Going ≡ Failed c.in-Failed.fault = sym w.going ∙ sym st ∙ c.in-Failed.is in absurd (going_failed e)

pub returns-in-Failed-clause-fails : goal.returns-in-Failed-clause-fails
returns-in-Failed-clause-fails g c =
    let st : c.self.inside.state ≡ c.args.self.now.state = ap (λ (v : Walking). v.state) c.self.view_is in
    sym st ∙ c.in-Failed.is

pub returns-in-Failed-clause-over : goal.returns-in-Failed-clause-over
returns-in-Failed-clause-over g c =
    let st : c.self.inside.state ≡ c.args.self.now.state = ap (λ (v : Walking). v.state) c.self.view_is in
    λ s. let e : Stopped ≡ Failed c.in-Failed.fault = sym s ∙ sym st ∙ c.in-Failed.is in absurd (stopped_failed e)

pub returns-in-Failed-clause-same : goal.returns-in-Failed-clause-same
returns-in-Failed-clause-same g c =
    let st : c.self.inside.state ≡ c.args.self.now.state = ap (λ (v : Walking). v.state) c.self.view_is in
    λ fault s. let e : Failed c.in-Failed.fault ≡ Failed fault = sym c.in-Failed.is ∙ st ∙ s in (same_fault _ _ e, refl)

pub invariant_of-self : goal.invariant_of-self
invariant_of-self g c = λ s. let k : c.pass.result ≡ Ok walks.Going = cc in c.pass.ensures.reading k

pub invariant_of-self-in-Ok-Stopped : goal.invariant_of-self-in-Ok-Stopped
invariant_of-self-in-Ok-Stopped g c = λ s. absurd (going_stopped (sym s))

pub invariant_of-self-in-Err : goal.invariant_of-self-in-Err
invariant_of-self-in-Err g c = λ s. absurd (going_failed (sym s))

pub returns-in-Ok-Going-clause-over : goal.returns-in-Ok-Going-clause-over
returns-in-Ok-Going-clause-over g c =
    let st : c.self.inside.state ≡ c.args.self.now.state = ap (λ (v : Walking). v.state) c.self.view_is in
    λ s. let e : Going ≡ Stopped = sym c.in-Going.is ∙ st ∙ s in absurd (going_stopped e)

pub returns-in-Ok-Going-clause-same : goal.returns-in-Ok-Going-clause-same
returns-in-Ok-Going-clause-same g c =
    let st : c.self.inside.state ≡ c.args.self.now.state = ap (λ (v : Walking). v.state) c.self.view_is in
    λ fault s. let e : Going ≡ Failed fault = sym c.in-Going.is ∙ st ∙ s in absurd (going_failed e)

pub returns-in-Ok-Stopped-clause-over : goal.returns-in-Ok-Stopped-clause-over
returns-in-Ok-Stopped-clause-over g c =
    let st : c.self.inside.state ≡ c.args.self.now.state = ap (λ (v : Walking). v.state) c.self.view_is in
    λ s. let e : Going ≡ Stopped = sym c.in-Going.is ∙ st ∙ s in absurd (going_stopped e)

pub returns-in-Ok-Stopped-clause-same : goal.returns-in-Ok-Stopped-clause-same
returns-in-Ok-Stopped-clause-same g c =
    let st : c.self.inside.state ≡ c.args.self.now.state = ap (λ (v : Walking). v.state) c.self.view_is in
    λ fault s. let e : Going ≡ Failed fault = sym c.in-Going.is ∙ st ∙ s in absurd (going_failed e)

pub returns-in-Err-clause-over : goal.returns-in-Err-clause-over
returns-in-Err-clause-over g c =
    let st : c.self.inside.state ≡ c.args.self.now.state = ap (λ (v : Walking). v.state) c.self.view_is in
    λ s. let e : Going ≡ Stopped = sym c.in-Going.is ∙ st ∙ s in absurd (going_stopped e)

pub returns-in-Err-clause-same : goal.returns-in-Err-clause-same
returns-in-Err-clause-same g c =
    let st : c.self.inside.state ≡ c.args.self.now.state = ap (λ (v : Walking). v.state) c.self.view_is in
    λ fault s. let e : Going ≡ Failed fault = sym c.in-Going.is ∙ st ∙ s in absurd (going_failed e)

pub returns-in-Ok-Going-clause-stopped : goal.returns-in-Ok-Going-clause-stopped
returns-in-Ok-Going-clause-stopped g c = λ text lent w r. let e : Ok walks.Going ≡ Ok walks.Stopped = r in absurd (stopped_going (sym e))

pub returns-in-Ok-Stopped-clause-going : goal.returns-in-Ok-Stopped-clause-going
returns-in-Ok-Stopped-clause-going g c = λ text lent w r. let e : Ok walks.Stopped ≡ Ok walks.Going = r in absurd (stopped_going e)

pub returns-in-Err-clause-going : goal.returns-in-Err-clause-going
returns-in-Err-clause-going g c = λ text lent w r. let e : Err c.in-Err.fault ≡ Ok walks.Going = r in absurd (err_ok _ _ e)

pub returns-in-Err-clause-stopped : goal.returns-in-Err-clause-stopped
returns-in-Err-clause-stopped g c = λ text lent w r. let e : Err c.in-Err.fault ≡ Ok walks.Stopped = r in absurd (err_ok _ _ e)

pub returns-in-Err-clause-fails : goal.returns-in-Err-clause-fails
returns-in-Err-clause-fails g c = refl
