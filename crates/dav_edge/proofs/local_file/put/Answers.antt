use Rattle.std.proofs.Common.{◌≡◌, ◌∷◌, [], ◌++◌, List, Some, ap, ◌∙◌, rules}
use Rattle.dav_edge.specs.LocalFile.{content_of}
use Rattle.dav_edge.specs.declared.local_file.LocalFile.{LocalFile}
use Rattle.dav_edge.proofs.Storing.{put_holds, put_keeps}
use Rattle.dav_edge.proofs.local_file.put.Goals as goal

pub returns-clause-stored : goal.returns-clause-stored
returns-clause-stored c =
    let items : c.push.new.self.items ≡ c.args.files.now.items ++ c.in_ok-file.file ∷ [] = search rules in
    ap (λ (l : List LocalFile). content_of l c.args.name.now) items ∙ put_holds c.args.files.now.items c.in_ok-file.file c.args.name.now c.in_ok-file.ensures.name ∙ ap Some c.in_ok-file.ensures.bytes

pub returns-clause-others : goal.returns-clause-others
returns-clause-others c = λ other differs.
    let items : c.push.new.self.items ≡ c.args.files.now.items ++ c.in_ok-file.file ∷ [] = search rules in
    ap (λ (l : List LocalFile). content_of l other) items ∙ put_keeps c.args.files.now.items c.in_ok-file.file c.args.name.now other c.in_ok-file.ensures.name differs
