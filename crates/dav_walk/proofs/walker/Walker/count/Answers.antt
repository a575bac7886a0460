use Rattle.std.proofs.Common.{Ok, sym, ap, ◌∙◌, subst}
use Rattle.dav_walk.specs.Collecting.{gathering_of}
use Rattle.dav_walk.specs.Walking.{of_xml}
use Rattle.dav_walk.specs.WalkerView.{Walking, HasWalked, HasStopped, Finishes}
use Rattle.dav_walk.proofs.WalkerLemmas.{finishes, walk_count}
use Rattle.dav_walk.proofs.walker.Walker.count.Goals as goal

pub returns-in-Stopped-clause-stopped : goal.returns-in-Stopped-clause-stopped
returns-in-Stopped-clause-stopped c = λ text lent w.
    let P : Walking → Type 0 = λ v. HasStopped v text lent in
    let s = subst P (sym c.self.view_is) w in
    ap Ok (walk_count c.self.inside.root (gathering_of c.self.inside.collector) s.given lent s.walked)

pub returns-in-Ok-clause-whole : goal.returns-in-Ok-clause-whole
returns-in-Ok-clause-whole c = λ text lent w.
    let P : Walking → Type 0 = λ v. HasWalked v text lent in
    let s = (subst P (sym c.self.view_is) w).stands in
    let e = c.in-Ok.ensures.whole text s.given s.read in
    let Q : Walking → Type 0 = λ v. Finishes v.root text lent c.self.inside.collector.index in
    subst Q c.self.view_is (finishes c.self.inside.root (gathering_of c.self.inside.collector) text s.given _ lent e.0 e.1 e.2 s.quiet s.walked)

pub returns-in-Err-clause-cut : goal.returns-in-Err-clause-cut
returns-in-Err-clause-cut c = λ text lent w.
    let P : Walking → Type 0 = λ v. HasWalked v text lent in
    let s = (subst P (sym c.self.view_is) w).stands in
    let e = c.in-Err.ensures.cut text s.given s.read in
    (c.of_xml.ensures ∙ ap of_xml e.0, e.1)
