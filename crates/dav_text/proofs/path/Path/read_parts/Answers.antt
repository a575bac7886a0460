use Rattle.std.proofs.Common.{◌≡◌, ◌+◌, ℕ, Option, Some, None, MatchOption, Bor, List, [], ◌∷◌, length, map, refl, sym, ap, ◌∙◌, arith}
use Rattle.percent_encoding.specs.Percent.{percent_decode}
use Rattle.dav_text.specs.Path.{PathParts}
use Rattle.dav_text.specs.Reading.{parts_of, with_part, folded, not_text_from}
use Rattle.dav_text.proofs.ReadLemmas.{text_passed, no_text, no_part_left}
use Rattle.dav_text.proofs.path.Path.read_parts.Goals as goal

-- a first part is there, whether or not others are behind it
split_either : (text part : List ℕ) (r : Option (Bor (List ℕ))) {P : Type 0} → ((parts : List (List ℕ)) → parts_of text ≡ part ∷ parts → P)
    → MatchOption r (parts_of text ≡ part ∷ []) (λ after. parts_of text ≡ part ∷ parts_of after.now) → P
split_either text part None first split = first [] split
split_either text part (Some after) first split = first (parts_of after.now) split

pub first_part-requires-text-text : goal.first_part-requires-text-text
first_part-requires-text-text c = λ _. c.parts.invariant.utf8

pub returns-in-Err : goal.returns-in-Err
returns-in-Err c = λ other.
    let none = c.in-Err.ensures other in
    let first : (parts : List (List ℕ)) → parts_of c.parts.rest.now ≡ c.first_part.result.0.now ∷ parts → not_text_from 1 (parts_of c.args.text.now) ≡ Some c.parts.at =
    λ parts split. c.parts.invariant.texts ∙ ap (not_text_from c.parts.at) split ∙ no_text c.parts.at c.first_part.result.0.now parts none.0 in
    (c.parts.at, none.1, split_either c.parts.rest.now c.first_part.result.0.now c.first_part.result.1 first c.first_part.ensures.parts)

pub parts-preserved : goal.parts-preserved
parts-preserved c =
    let part = c.first_part.result.0.now in
    let after = c.in-Some.after.now in
    let split : parts_of c.parts.rest.now ≡ part ∷ parts_of after = rw c.in-Some.is at c.first_part.ensures.parts in
    let long : length c.parts.rest.now ≡ length part + 1 + length after = rw c.in-Some.is at c.first_part.ensures.len in
    let place = c.parts.invariant.place in
    record {
      utf8 = rw c.in-Some.is at c.first_part.ensures.utf8;
      texts = c.parts.invariant.texts ∙ ap (not_text_from c.parts.at) split ∙ text_passed c.parts.at part (parts_of after) c.in_default.ensures.0;
      parts = c.parts.invariant.parts ∙ ap (λ (ps : List (List ℕ)). folded c.parts.self (map percent_decode ps)) split
          ∙ ap (λ (q : PathParts). folded q (map percent_decode (parts_of after))) (sym c.in_default.ensures.1);
      place = omega arith;
    }

pub returns-in-None : goal.returns-in-None
returns-in-None c =
    let part = c.first_part.result.0.now in
    let split : parts_of c.parts.rest.now ≡ part ∷ [] = rw c.in-None.is at c.first_part.ensures.parts in (
      c.parts.invariant.texts ∙ ap (not_text_from c.parts.at) split ∙ text_passed c.parts.at part [] c.in_default.ensures.0 ∙ no_part_left _,
      c.in_default.ensures.1 ∙ sym (c.parts.invariant.parts ∙ ap (λ (ps : List (List ℕ)). folded c.parts.self (map percent_decode ps)) split),
    )
