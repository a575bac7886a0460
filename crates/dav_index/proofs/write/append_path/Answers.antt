use Rattle.std.proofs.Common.{rules}
use Rattle.dav_text.specs.Path.{escaped}
use Rattle.dav_index.proofs.WriteLemmas.{length_put}
use Rattle.dav_index.proofs.write.append_path.Goals as goal

pub returns-clause-ok : goal.returns-clause-ok
returns-clause-ok c =
    length_put c.args.out.now.items (escaped c.args.path.now) c.push.new.self.items c.push-2.new.self.items c.escaped_into.new.out.items c.len-at.result c.len.result
    (search rules) c.in_ok-push.ensures.items c.in_ok-push-2.ensures.items c.in_ok-escaped_into.ensures.ok (search rules) c.requires
