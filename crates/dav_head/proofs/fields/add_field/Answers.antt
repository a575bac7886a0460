use Rattle.std.proofs.Common.{ap, Err}
use Rattle.dav_head.proofs.FieldLemmas.{is_name_no, is_name_yes, is_value_yes, is_value_no}
use Rattle.dav_head.proofs.fields.add_field.Goals as goal

pub returns-in-Err-Invalid : goal.returns-in-Err-Invalid
returns-in-Err-Invalid c =
    let e = is_name_no c.args.name.now (c.in-Err-Invalid.ensures.invalid.0 (ap (λ x. Err x) c.in-Err-Invalid.field-0-is)) in rw e

pub returns-in-Err-Invalid-from_bytes : goal.returns-in-Err-Invalid-from_bytes
returns-in-Err-Invalid-from_bytes c =
    let e = is_name_yes c.args.name.now (λ h. let q = c.in-Ok.ensures.invalid.1 h in cc) in
    let f = is_value_no c.args.value.now (c.in-Err-Invalid-from_bytes.ensures.invalid.0 (ap (λ x. Err x) c.in-Err-Invalid-from_bytes.field-0-is)) in rw (e, f)

pub returns-in-Ok-append : goal.returns-in-Ok-append
returns-in-Ok-append c =
    let e = is_name_yes c.args.name.now (λ h. let q = c.in-Ok.ensures.invalid.1 h in cc) in
    let f = is_value_yes c.args.value.now (λ h. let q = c.in-Ok-from_bytes.ensures.invalid.1 h in cc) in
    rw (e, f) (cc (c.in-Ok-append.ensures.ok, c.in-Ok.ensures.ok, c.in-Ok-from_bytes.ensures.ok))
