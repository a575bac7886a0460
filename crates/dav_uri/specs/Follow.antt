-- Which redirects are followed: RFC 9110 section 15.4, with rules of this client's own.
use Rattle.std.specs.Prelude.{ℕ, Bool, true, false, ◌&&◌, ◌||◌, ◌==◌, nat_lt, if◌then◌else◌}
use Rattle.dav_text.specs.declared.method.Method.{Method}
use Rattle.dav_text.specs.declared.method.Method.TheVariants.{Options, Get, Head, Propfind}
use Rattle.dav_uri.specs.declared.redirect.Follow.{Follow}
use Rattle.dav_uri.specs.declared.redirect.Follow.TheVariants.{Go, Answer, Stay, TooMany}

-- a reply of this status points elsewhere
abbrev pub is_redirect : ℕ → Bool
is_redirect status = status == 301 || status == 302 || status == 303 || status == 307 || status == 308

-- a request of this method changes nothing, so it may be made elsewhere
abbrev pub is_reading : Method → Bool
is_reading Options = true
is_reading Get = true
is_reading Head = true
is_reading Propfind = true
is_reading _ = false

-- what is done about a reply of this status, after so many redirects
abbrev pub followed : Method → ℕ → ℕ → Follow
followed method status hops =
    if is_redirect status
    then (if is_reading method && (if status == 303 then false else true)
    then (if nat_lt hops 5 then Go else TooMany)
    else Answer)
    else Stay
