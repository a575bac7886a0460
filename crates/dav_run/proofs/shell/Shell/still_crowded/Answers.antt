use Rattle.std.proofs.Common.{◌++◌, ℕ, List, None, ap, ◌∙◌}
use Rattle.dav_run.specs.Said.{state_of}
use Rattle.dav_run.specs.Shell.{crowded_line, faulted, lined, memory, tells}
use Rattle.dav_run.specs.declared.shell.Said.TheVariants as saids
use Rattle.dav_run.proofs.Desking.{said_is}
use Rattle.dav_run.proofs.shell.Shell.still_crowded.Goals as goal

pub returns-in_default-clause-lined : goal.returns-in_default-clause-lined
returns-in_default-clause-lined g c = memory (said_is _ saids.Memory c.starve.new.self.text.items _ _ c.starve.ensures.said c.starve.ensures.state)

pub returns-clause-lined : goal.returns-clause-lined
returns-clause-lined g c =
    let after = faulted (state_of c.args.self.now) in
    tells (ap (λ (text : List ℕ). lined text after None) (c.in-Ok.ensures ∙ ap (λ (l : List ℕ). l ++ crowded_line c.args.oldest.now) c.clear.ensures.items))
