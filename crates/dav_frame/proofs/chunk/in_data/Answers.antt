use Rattle.std.proofs.Common.{rules, ◌≡◌, ◌++◌, arith}
use Rattle.dav_frame.proofs.ChunkLemmas.{in_data_more, in_data_end}
use Rattle.dav_frame.proofs.chunk.in_data.Goals as goal

pub returns-then-used-need-clause-leads : goal.returns-then-used-need-clause-leads
returns-then-used-need-clause-leads c more o q =
    let is : c.extend_from_slice.new.self.items ≡ c.args.chunks.body.items ++ c.wanted-data.result.now = search rules in
    in_data_more c.args.chunks.head c.args.chunks.before c.args.chunks.at c.args.chunks.body.items c.extend_from_slice.new.self.items
    c.args.piece.now c.wanted-data.result.now more c.args.got _ c.args.need _ _ o is c.wanted-data.ensures
    (omega arith) (omega arith) (omega arith) (omega arith) q

pub returns-clause-leads : goal.returns-clause-leads
returns-clause-leads c more o q =
    let is : c.extend_from_slice.new.self.items ≡ c.args.chunks.body.items ++ c.wanted-data.result.now = search rules in
    in_data_end c.args.chunks.head c.args.chunks.before c.args.chunks.at c.args.chunks.body.items c.extend_from_slice.new.self.items
    c.args.piece.now c.wanted-data.result.now more c.args.got _ c.args.need _ o is c.wanted-data.ensures
    (omega arith) (omega arith) (omega arith) (omega arith) q
