-- Where the body of a reply ends: RFC 9112 section 6.3. Its points on CONNECT and on requests do not
-- come up here, and a list of transfer codings other than `chunked` alone is refused, as is a content coding.
use Rattle.std.specs.Prelude.{ℕ, ◌==◌, ◌&&◌, ◌||◌, not, Bool, true, false, nat_lt, nat_le, Result, Ok, Err, if◌then◌else◌}
use Rattle.http_header.specs.FieldValue.{FieldValue}
use Rattle.http_header.specs.HeaderMap.{Entries}
use Rattle.dav_text.specs.declared.method.Method.{Method}
use Rattle.dav_text.specs.declared.method.Method.TheVariants.{Options, Get, Head, Put, Delete, Mkcol, Copy, Move, Lock, Unlock, Propfind, Proppatch}
use Rattle.dav_head.specs.Lengths.{content_length}
use Rattle.dav_head.specs.Codings.{transfer_coding, is_encoded, says_close}
use Rattle.dav_head.specs.declared.lengths.Length.{Length}
use Rattle.dav_head.specs.declared.codings.Transfer.{Transfer}
use Rattle.dav_head.specs.declared.body.Body.{Body}
use Rattle.dav_head.specs.declared.body.BodyFault.{BodyFault}

-- the status is of an interim reply
abbrev pub is_interim : ℕ → Bool
is_interim status = nat_le 100 status && nat_lt status 200

abbrev pub is_head : Method → Bool
is_head Options = false
is_head Get = false
is_head Head = true
is_head Put = false
is_head Delete = false
is_head Mkcol = false
is_head Copy = false
is_head Move = false
is_head Lock = false
is_head Unlock = false
is_head Propfind = false
is_head Proppatch = false

-- a reply to this method with this status has no body, whatever its fields say
abbrev pub is_bodyless : Method → ℕ → Bool
is_bodyless method status = is_head method || is_interim status || status == 204 || status == 304

-- the body where no transfer coding is stated, by the length that is
abbrev pub by_length : Length → Result Body BodyFault
by_length Length.Missing = Ok Body.ToEnd
by_length Length.Bad = Err BodyFault.BadLength
by_length (Length.Stated n) = if nat_le n 8388608 then Ok (Body.Sized n) else Err BodyFault.BodyLimit

-- the body by its transfer coding, which comes before a length
abbrev pub by_transfer : Transfer → Length → Result Body BodyFault
by_transfer Transfer.Other length = Err BodyFault.Coding
by_transfer Transfer.Chunked length = Ok Body.Chunked
by_transfer Transfer.Missing length = by_length length

-- the body of a reply to this method, by its status and its fields
abbrev pub body_of : Method → ℕ → Entries FieldValue → Result Body BodyFault
body_of method status fields =
    if is_bodyless method status
    then Ok Body.Empty
    else (if is_encoded fields then Err BodyFault.Coding else by_transfer (transfer_coding fields) (content_length fields))

abbrev pub is_to_end : Body → Bool
is_to_end Body.Empty = false
is_to_end (Body.Sized n) = false
is_to_end Body.Chunked = false
is_to_end Body.ToEnd = true

abbrev pub has_transfer : Transfer → Bool
has_transfer Transfer.Missing = false
has_transfer Transfer.Chunked = true
has_transfer Transfer.Other = true

abbrev pub has_length : Length → Bool
has_length Length.Missing = false
has_length (Length.Stated n) = true
has_length Length.Bad = true

-- after the reply the connection may serve another request, as far as its head says: the version is 1.1,
-- `close` is not said, the body has an end of its own, and no length stands beside a transfer coding
abbrev pub may_persist : ℕ → Entries FieldValue → Body → Bool
may_persist minor fields body =
    minor == 1 && not (says_close fields) && not (is_to_end body)
    && not (has_transfer (transfer_coding fields) && has_length (content_length fields))
