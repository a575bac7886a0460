use Rattle.std.proofs.Common.{◌≡◌, subst}
use Rattle.dav_index.specs.Item.{Item}
use Rattle.dav_index.specs.Items.{is_item_below}
use Rattle.dav_index.proofs.Segments.{below_is}
use Rattle.dav_index.proofs.entries.Held.is_below.Goals as goal

pub returns : goal.returns
returns c =
    subst (λ (item : Item). c.is_under.result ≡ is_item_below c.args.top.now item) c.self.view_is
    (below_is c.self.inside.path c.args.top.now c.is_under.result c.is_under.ensures)
