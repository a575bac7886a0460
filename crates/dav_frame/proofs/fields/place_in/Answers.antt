use Rattle.std.proofs.Common.{◌≡◌, ◌<◌, arith, get_or, length}
use Rattle.dav_frame.specs.Fields.{place_of}
use Rattle.dav_frame.proofs.FieldLemmas.{found, found_after}
use Rattle.dav_frame.proofs.fields.place_in.Goals as goal

pub returns-then-place : goal.returns-then-place
returns-then-place c =
    let fields = c.args.entries.now in
    let i = c.loop-i.i in
    let f = c.index-entries-i.result in
    let less : i < length fields = omega (arith, c.loop-i-test.true) in
    let is : f ≡ get_or fields i f = c.index-entries-i.is in
    let same : place_of f.0 ≡ place_of c.args.name = omega (arith, c.place.ensures, c.place-in-loop-i.ensures, c.if-place.true) in
    (less, found fields c.args.name i f c.loop-i.invariant less is same)

pub returns-then-place-2 : goal.returns-then-place-2
returns-then-place-2 c =
    let fields = c.args.entries.now in
    let i = c.loop-i.i in
    let f = c.index-entries-i.result in
    let less : i < length fields = omega (arith, c.loop-i-test.true) in
    let is : f ≡ get_or fields i f = c.index-entries-i.is in
    let after : place_of c.args.name < place_of f.0 = omega (arith, c.place-in-loop-i-2.ensures, c.place-in-loop-i-3.ensures, c.if-place-2.true) in
    (omega (arith, less), found_after fields c.args.name i f c.loop-i.invariant less is after)
