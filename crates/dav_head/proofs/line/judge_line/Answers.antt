use Rattle.std.proofs.Common.{arith, drop}
use Rattle.dav_head.proofs.LineLemmas.{never-of_digits, never-of_length, never-in_time, may_still_come, whole_is_size_line}
use Rattle.dav_head.proofs.line.judge_line.Goals as goal

pub returns-then-hex_front-gt-DIGIT_LIMIT : goal.returns-then-hex_front-gt-DIGIT_LIMIT
returns-then-hex_front-gt-DIGIT_LIMIT c = never-of_digits c.args.bytes.now c.hex_front.result c.hex_front.ensures.in_range c.hex_front.ensures.pass c.if-hex_front-gt-DIGIT_LIMIT.true

pub returns-then-used-gt-LINE_LIMIT : goal.returns-then-used-gt-LINE_LIMIT
returns-then-used-gt-LINE_LIMIT c =
    let f = rw c.in-Ok-Complete.field-0-is at c.in-Ok-Complete.ensures.complete in
    never-of_length c.args.bytes.now f.0 (drop c.in-Ok-Complete.used c.args.bytes.now) f.1.reads (let n = f.1.len_is in omega arith)

pub returns-else-used-gt-LINE_LIMIT : goal.returns-else-used-gt-LINE_LIMIT
returns-else-used-gt-LINE_LIMIT c =
    let f = rw c.in-Ok-Complete.field-0-is at c.in-Ok-Complete.ensures.complete in (
      f.0,
      whole_is_size_line c.args.bytes.now c.hex_front.result c.hex_front.ensures.stops (omega arith) f.0
          (drop c.in-Ok-Complete.used c.args.bytes.now) f.1.reads (let n = f.1.len_is in omega arith),
      f.1,
    )

pub returns-then-is_too_long : goal.returns-then-is_too_long
returns-then-is_too_long c =
    let none = rw c.in-Ok-Partial.field-0-is at c.in-Ok-Partial.ensures.partial in
    never-in_time c.args.bytes.now none (c.is_too_long.ensures.yes c.if-is_too_long.true)

pub returns-else-is_too_long : goal.returns-else-is_too_long
returns-else-is_too_long c =
    let none = rw c.in-Ok-Partial.field-0-is at c.in-Ok-Partial.ensures.partial in
    let may = rw c.in-Ok-Partial.field-0-is at c.in-Ok-Partial.ensures.unfinished in (
      λ l rest line is. none l rest (line.valid, is),
      may_still_come c.args.bytes.now c.hex_front.result none may c.hex_front.ensures.stops (omega arith) (c.is_too_long.ensures.no c.if-is_too_long.false),
    )
