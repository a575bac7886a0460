use Rattle.std.proofs.Common.{length, ap, ◌∙◌, arith}
use Rattle.dav_index.specs.Items.{entry_at}
use Rattle.dav_index.proofs.EntryLemmas.{fresh_made, key_of_bare}
use Rattle.dav_index.proofs.table.Table.prepare_entry.Goals as goal

pub returns : goal.returns
returns c =
    fresh_made c.args.path.now (length c.args.self.now.entries) (entry_at c.args.path.now c.args.self.now.entries) _ (record {
      path_is = c.in_ok-copy.ensures;
      key_is = c.in_ok-escaped.ensures ∙ key_of_bare c.args.path.now c.requires;
      empty = c.in_ok-with_capacity.ensures.items;
      room = omega (arith, c.in_ok-with_capacity.ensures.exact, ap length c.as_slice-len.ensures.value);
    })
