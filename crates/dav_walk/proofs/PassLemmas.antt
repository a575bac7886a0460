-- A reader of properties goes past one node.
use Rattle.std.proofs.Common.{◌≡◌, ℕ, ◌+◌, ◌-◌, ◌<◌, Bool, true, List, [], ◌∷◌, ◌++◌, refl, ap, sym, ◌∙◌, Some, length, length-drop, take, take_all, drop, get_or, add-one, drop-cons, arith}
use Rattle.std.proofs.lemmas.Option.{slice_get-get_or}
use Rattle.std.specs.Prelude.{if◌then◌else◌}
use Rattle.dav_walk.specs.declared.node.Node.{Node}
use Rattle.dav_walk.specs.declared.props.Context.{Context}
use Rattle.dav_walk.specs.declared.props.Context.TheVariants.{Aside, Prop}
use Rattle.dav_walk.specs.Reading.{Given, is_response, of_response, props}
use Rattle.dav_walk.specs.Props.{Placed, placed, given_here, context_after, left_from}
use Rattle.dav_walk.specs.View.{item_of, items_of}
use Rattle.dav_walk.proofs.PropsLemmas.{left_at, all_left}

left_on : (nodes : List Node) (text : List ℕ) (depth at : ℕ) (c : Context) (d : Node) → at < length nodes → depth < (get_or nodes at d).depth
    → left_from depth at (items_of (drop at nodes) text) c
    ≡ given_here ((get_or nodes at d).depth - depth) at c
    ++ left_from depth (at + 1) (items_of (drop (at + 1) nodes) text)
    (context_after ((get_or nodes at d).depth - depth) (item_of text (get_or nodes at d)) (items_of (drop (at + 1) nodes) text) c)
left_on nodes text depth at c d h below =
    let n = get_or nodes at d in
    ap (λ ns. left_from depth at (items_of ns text) c) (drop-cons nodes at d h ∙ ap (λ k. n ∷ drop k nodes) (sym (add-one at)))
    ∙ left_at (n.depth - depth) depth at (item_of text n) (items_of (drop (at + 1) nodes) text) c below refl

pub gives_prop : (nodes : List Node) (text : List ℕ) (depth at status : ℕ) (c after : Context) (d : Node) → at < length nodes → depth < (get_or nodes at d).depth
    → c ≡ Prop status → (get_or nodes at d).depth - depth ≡ 3
    → after ≡ context_after ((get_or nodes at d).depth - depth) (item_of text (get_or nodes at d)) (items_of (drop (at + 1) nodes) text) c
    → placed nodes (left_from depth at (items_of (drop at nodes) text) c)
    ≡ record { status = status; place = at; node = Some (get_or nodes at d) } ∷ placed nodes (left_from depth (at + 1) (items_of (drop (at + 1) nodes) text) after)
gives_prop nodes text depth at status c after d h below is level next =
    let n = get_or nodes at d in
    let rest = items_of (drop (at + 1) nodes) text in
    let g : Given = record { status = status; place = at } in
    ap (placed nodes)
    (left_on nodes text depth at c d h below
    ∙ ap (λ z. z ++ left_from depth (at + 1) rest (context_after (n.depth - depth) (item_of text n) rest c)) (ap (λ l. given_here l at c) level ∙ ap (given_here 3 at) is)
    ∙ ap (λ k. g ∷ left_from depth (at + 1) rest k) (sym next))
    ∙ ap (λ o. let p : Placed = record { status = status; place = at; node = o } in p ∷ placed nodes (left_from depth (at + 1) rest after)) (slice_get-get_or nodes at d h)

pub gives_nothing : (nodes : List Node) (text : List ℕ) (depth at : ℕ) (c after : Context) (d : Node) → at < length nodes → depth < (get_or nodes at d).depth
    → given_here ((get_or nodes at d).depth - depth) at c ≡ []
    → after ≡ context_after ((get_or nodes at d).depth - depth) (item_of text (get_or nodes at d)) (items_of (drop (at + 1) nodes) text) c
    → placed nodes (left_from depth (at + 1) (items_of (drop (at + 1) nodes) text) after) ≡ placed nodes (left_from depth at (items_of (drop at nodes) text) c)
gives_nothing nodes text depth at c after d h below none next =
    let n = get_or nodes at d in
    let rest = items_of (drop (at + 1) nodes) text in
    ap (placed nodes)
    (ap (left_from depth (at + 1) rest) next
    ∙ sym (left_on nodes text depth at c d h below
    ∙ ap (λ z. z ++ left_from depth (at + 1) rest (context_after (n.depth - depth) (item_of text n) rest c)) none))

pub rest_is : (nodes : List Node) (n : ℕ) → take (length nodes - n) (drop n nodes) ≡ drop n nodes
rest_is nodes n = take_all (length nodes - n) (drop n nodes) (omega (arith, length-drop n nodes))

pub all_props : (nodes : List Node) (text : List ℕ) (own : Node) (rest : List Node) → nodes ≡ own ∷ rest → is_response (items_of nodes text) ≡ true
    → placed nodes (left_from own.depth 1 (items_of (drop 1 nodes) text) Aside) ≡ placed nodes (props (items_of nodes text))
all_props nodes text own rest e is =
    ap (placed nodes)
    (ap (λ ns. left_from own.depth 1 (items_of (drop 1 ns) text) Aside) e
    ∙ all_left own.depth 1 (items_of rest text)
    ∙ sym (ap (λ (t : Bool). if t then of_response (items_of nodes text) else []) is ∙ ap (λ ns. of_response (items_of ns text)) e))
