use Rattle.std.proofs.Common.{◌∙◌, ◌++◌, [], ap}
use Rattle.std.proofs.lemmas.Result.{on_ok_weaker}
use Rattle.dav_frame.specs.Fields.{crlf}
use Rattle.dav_frame.proofs.RequestLemmas.{text_is}
use Rattle.dav_frame.proofs.request.put_parts.Goals as goal

pub returns-clause-ok : goal.returns-clause-ok
returns-clause-ok c =
    on_ok_weaker c.put_all.result
    (λ e. text_is c.args.req.now c.len.result c.args.out.now.items c.put_start.new.out.items c.put.new.out.items c.put_length.new.out.items
    c.put_all.new.out.items c.in_ok-put_start.ensures.ok c.in_ok-put.ensures.ok c.in_ok-put_length.ensures.ok c.len.ensures
    (e ∙ ap (λ s. c.put_length.new.out.items ++ (crlf ++ (s ++ []))) c.as_slice.ensures))
    c.put_all.ensures.ok
