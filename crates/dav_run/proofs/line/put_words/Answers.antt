use Rattle.std.proofs.Common.{◌+◌, Some, refl, sym, subst, codes}
use Rattle.std.proofs.lemmas.Bool.{false≢true}
use Rattle.std.proofs.lemmas.Bool.Decides.{Decides-eqb}
use Rattle.std.proofs.lemmas.List.{take_rest}
use Rattle.std.proofs.lemmas.Slice.Eq.{strip_prefix_is}
use Rattle.dav_run.specs.Line.{IsArgument}
use Rattle.dav_run.proofs.PutLines.{unbroken_no_put, blank_no_argument, blank_no_path, split_found}
use Rattle.dav_run.proofs.line.put_words.Goals as goal

pub returns-in_default-first_blank : goal.returns-in_default-first_blank
returns-in_default-first_blank c =
    let words = c.in-Some.words in
    let is = strip_prefix_is Decides-eqb c.args.line.now (codes "fput ") (Some words) c.in-Some.ensures.cases in
    unbroken_no_put c.args.line.now words.now is c.in_default-first_blank.ensures

pub returns-then-not-is_argument : goal.returns-then-not-is_argument
returns-then-not-is_argument c =
    let words = c.in-Some.words in
    let is = strip_prefix_is Decides-eqb c.args.line.now (codes "fput ") (Some words) c.in-Some.ensures.cases in
    let at = c.in-Some-first_blank.blank in
    blank_no_argument c.args.line.now words.now at is c.in-Some-first_blank.ensures
    (λ argument. false≢true (c.if-not-is_argument.ensures.1 (subst IsArgument (sym (take_rest words.now (at + 1))) argument)))

pub returns-in-Ok : goal.returns-in-Ok
returns-in-Ok c =
    let words = c.in-Some.words in
    let is = strip_prefix_is Decides-eqb c.args.line.now (codes "fput ") (Some words) c.in-Some.ensures.cases in
    let at = c.in-Some-first_blank.blank in
    split_found c.args.line.now words.now c.in-Ok.target.now _ at is c.in-Some-first_blank.ensures c.in-Ok.ensures.cases.0 (take_rest words.now (at + 1)) (c.if-not-is_argument.ensures.0 refl)

pub returns-in-Err : goal.returns-in-Err
returns-in-Err c =
    let words = c.in-Some.words in
    let is = strip_prefix_is Decides-eqb c.args.line.now (codes "fput ") (Some words) c.in-Some.ensures.cases in
    let at = c.in-Some-first_blank.blank in
    blank_no_path c.args.line.now words.now at is c.in-Some-first_blank.ensures
    (λ text. c.in-Err.ensures.cases.0 text)
