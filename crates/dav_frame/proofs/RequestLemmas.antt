-- The parts of a request, one after the other.
use Rattle.std.proofs.Common.{◌≡◌, ℕ, List, [], ◌++◌, length, ap, ◌∙◌, append_assoc, append-nil}
use Rattle.dav_frame.specs.Fields.{crlf, field_lines}
use Rattle.dav_frame.specs.Request.{request_text, start_of, length_line}
use Rattle.dav_frame.specs.declared.request.Req.{Req}

regroup : (old start fields line end body : List ℕ)
    → (((old ++ start) ++ fields) ++ line) ++ (end ++ (body ++ [])) ≡ old ++ ((((start ++ fields) ++ line) ++ end) ++ body)
regroup old start fields line end body = simp (append_assoc, append-nil)

pub text_is : (req : Req) (size : ℕ) (old one two three new : List ℕ) → one ≡ old ++ start_of req
    → two ≡ one ++ field_lines req.fields → three ≡ two ++ length_line req.method size → size ≡ length req.body
    → new ≡ three ++ (crlf ++ (req.body ++ [])) → new ≡ old ++ request_text req
unfolding request_text
text_is req size old one two three new a b d e f =
    let line : three ≡ two ++ length_line req.method (length req.body) = d ∙ ap (λ n. two ++ length_line req.method n) e in
    let fields : two ≡ (old ++ start_of req) ++ field_lines req.fields = b ∙ ap (λ s. s ++ field_lines req.fields) a in
    let all : three ≡ ((old ++ start_of req) ++ field_lines req.fields) ++ length_line req.method (length req.body) =
    line ∙ ap (λ s. s ++ length_line req.method (length req.body)) fields in
    f ∙ ap (λ s. s ++ (crlf ++ (req.body ++ []))) all
    ∙ regroup old (start_of req) (field_lines req.fields) (length_line req.method (length req.body)) crlf req.body
