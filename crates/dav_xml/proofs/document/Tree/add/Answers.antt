use Rattle.std.proofs.Common.{◌++◌, sym, subst}
use Rattle.std.specs.Prelude.{IfOk}
use Rattle.dav_xml.specs.declared.event.Event.{Event}
use Rattle.dav_xml.specs.Events.{event_in}
use Rattle.dav_xml.specs.Nodes.{HasGrown}
use Rattle.dav_xml.proofs.document.Tree.add.Goals as goal

pub returns-in-Start : goal.returns-in-Start
returns-in-Start c = λ given h.
    let P : Event → Type 0 = λ e. IfOk c.begin.result (λ x. HasGrown c.begin.new.self (given ++ event_in e)) in
    subst P (sym c.in-Start.is) (c.begin.ensures given h)

pub returns-in-Chars : goal.returns-in-Chars
returns-in-Chars c = λ given h.
    let P : Event → Type 0 = λ e. IfOk c.say.result (λ x. HasGrown c.say.new.self (given ++ event_in e)) in
    subst P (sym c.in-Chars.is) (c.say.ensures given h)

pub returns-in-End : goal.returns-in-End
returns-in-End c = λ given h.
    let P : Event → Type 0 = λ e. IfOk c.end.result (λ x. HasGrown c.end.new.self (given ++ event_in e)) in
    subst P (sym c.in-End.is) (c.end.ensures given h)
