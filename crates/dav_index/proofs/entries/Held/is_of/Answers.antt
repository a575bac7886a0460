use Rattle.std.proofs.Common.{◌≡◌, subst}
use Rattle.dav_index.specs.Item.{Item}
use Rattle.dav_index.specs.Items.{has_path}
use Rattle.dav_index.proofs.Segments.{same_is}
use Rattle.dav_index.proofs.entries.Held.is_of.Goals as goal

pub returns : goal.returns
returns c =
    subst (λ (item : Item). c.same.result ≡ has_path c.args.path.now item) c.self.view_is (same_is c.args.path.now c.self.inside.path c.same.result c.same.ensures)
