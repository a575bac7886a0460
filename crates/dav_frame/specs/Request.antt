-- The text of a request: RFC 9112 section 3.
use Rattle.std.specs.Prelude.{◌≡◌, ◌⊎◌, ℕ, Bool, true, false, IsTrue, List, [], ◌++◌, length, take, if◌then◌else◌, codes, decimal}
use Rattle.dav_text.specs.declared.method.Method.{Method}
use Rattle.dav_text.specs.declared.method.Method.TheVariants.{Put, Lock, Propfind, Proppatch}
use Rattle.dav_text.specs.Method.{method_name}
use Rattle.dav_frame.specs.Fields.{crlf, field_line, field_lines}
use Rattle.dav_frame.specs.declared.request.Req.{Req}

-- the method, the target and the version
abbrev pub request_line : List ℕ → List ℕ → List ℕ
request_line method target = method ++ codes " " ++ target ++ codes " HTTP/1.1" ++ crlf

-- the first line, and the fields that each request has
abbrev pub start_of : Req → List ℕ
start_of req =
    request_line (method_name req.method) req.target
    ++ field_line (codes "Host") req.host
    ++ field_line (codes "User-Agent") (codes "davsh/1")
    ++ field_line (codes "Accept-Encoding") (codes "identity")

-- a request of this method states the length of its body, and so may have one
abbrev pub has_length : Method → Bool
has_length Put = true
has_length Lock = true
has_length Propfind = true
has_length Proppatch = true
has_length method = false

-- a request of this method may be sent again where no reply came: RFC 9110 section 9.2.2. A LOCK may not: a
-- second one makes another lock, or meets the first (RFC 4918 section 9.10)
abbrev pub is_idempotent : Method → Bool
is_idempotent Lock = false
is_idempotent method = true

-- the line that states it
abbrev pub length_line : Method → ℕ → List ℕ
length_line method size =
    if has_length method then field_line (codes "Content-Length") (decimal size) else []

-- the text of a request
unfoldable pub request_text : Req → List ℕ
request_text req =
    start_of req ++ field_lines req.fields
    ++ length_line req.method (length req.body) ++ crlf ++ req.body

-- the body is empty, or the text states its length
abbrev pub StatesBody : Req → Type 0
StatesBody req = IsTrue (has_length req.method) ⊎ (req.body ≡ [])

-- the new bytes begin with the old ones
abbrev pub BeginsWith : List ℕ → List ℕ → Type 0
BeginsWith old new = take (length old) new ≡ old
