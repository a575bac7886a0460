-- What a base is, and what a reference stands for: RFC 3986 section 5, as the URL Standard reads it.
use Rattle.std.specs.Prelude.{ℕ, ◌-◌, slice_index, Bool, true, false, not, ◌&&◌, ◌||◌, ◌==◌, nat_le, bytes_eq, List, [], ◌∷◌, ◌++◌, length, codes, decimal, Option, Some, None, is_some, unwrap_or, option_map, Result, Ok, Err, if◌then◌else◌}
use Rattle.url.specs.Parser.{parse_url, Parsed}
use Rattle.url.specs.Parts.{Parts, nonempty_host, serialize}
use Rattle.url.specs.Host.{host_text}
use Rattle.dav_text.specs.Path.{PathParts}
use Rattle.dav_text.specs.Reading.{path_of}
use Rattle.dav_text.specs.declared.fault.PathFault.{PathFault}
use Rattle.dav_uri.specs.declared.fault.UriFault.{UriFault}
use Rattle.dav_uri.specs.declared.fault.UriFault.TheVariants.{NotAUrl, NotHttp, OtherServer}
use Rattle.dav_uri.specs.declared.target.Target.{Target}

-- a server and a path on it: the host, the port, the path, and the whole as a URL
pub record BaseParts : Type 0 where
  pub host : List ℕ
  pub port : ℕ
  pub path : PathParts
  pub text : List ℕ

-- the value of a Host field: the port is left out where it is 80 (RFC 9110 section 7.2)
abbrev pub host_field : List ℕ → ℕ → List ℕ
host_field host port = host ++ (if port == 80 then [] else 58 ∷ decimal port)

-- the host of a URL; one of `http` has one
abbrev pub host_of : Parts → List ℕ
host_of url = unwrap_or (option_map host_text (nonempty_host url)) []

-- the port of a URL of `http`
abbrev pub port_of : Parts → ℕ
port_of url = unwrap_or url.port 80

-- the path and the query of a URL
abbrev pub request_text : Parts → List ℕ
request_text url = url.path ++ unwrap_or (option_map (λ query. 63 ∷ query) url.query) []

-- the next step, unless this one was refused
abbrev pub on_ok : {A B : Type 0} → Result A UriFault → (A → Result B UriFault) → Result B UriFault
on_ok (Ok x) next = next x
on_ok (Err fault) next = Err fault

-- a URL, or the fault that it is none
abbrev pub url_of : Parsed Parts → Result Parts UriFault
url_of (Ok url) = Ok url
url_of (Err e) = Err NotAUrl

abbrev pub is_http : Parts → Bool
is_http url = bytes_eq url.scheme (codes "http")

-- a path, or the fault that it is none
abbrev pub path_else : Result PathParts PathFault → Result PathParts UriFault
path_else (Ok path) = Ok path
path_else (Err fault) = Err NotAUrl

abbrev pub path_in : List ℕ → Result PathParts UriFault
path_in text = path_else (path_of text)

-- the URL is on this server
abbrev pub is_on : BaseParts → Parts → Bool
is_on base url = bytes_eq (host_of url) base.host && (port_of url == base.port)

-- the tests on a URL that was joined: the scheme, the server, the path
abbrev pub tested : BaseParts → Parts → Result Target UriFault
tested base url =
    if is_http url
    then (if is_on base url
    then on_ok (path_in url.path) (λ path. Ok (record { path = path; text = request_text url }))
    else Err (OtherServer (host_of url) (port_of url)))
    else Err NotHttp

-- the URL of a target on the base's server
abbrev pub target_url : BaseParts → List ℕ → List ℕ
target_url base text = codes "http://" ++ host_field base.host base.port ++ text

-- the target of a reference that stands at a target
abbrev pub target : BaseParts → Target → List ℕ → Result Target UriFault
target base at reference =
    on_ok (url_of (parse_url None (target_url base at.text))) (λ from.
    on_ok (url_of (parse_url (Some from) reference)) (tested base))

-- the URL has no part but scheme, host, port and path
abbrev pub is_plain : Parts → Bool
is_plain url = bytes_eq url.username [] && bytes_eq url.password [] && not (is_some url.query) && not (is_some url.fragment)

-- the last byte is a slash
abbrev pub ends_with_slash : List ℕ → Bool
ends_with_slash text = slice_index text (length text - 1) == 47

-- the text with a slash at its end
abbrev pub with_slash : List ℕ → List ℕ
with_slash text = if ends_with_slash text then text else text ++ 47 ∷ []

-- the base, where no other part is there and the text has at most 65,504 bytes
abbrev pub plain_base : Parts → PathParts → List ℕ → Result BaseParts UriFault
plain_base url path text =
    if is_plain url && nat_le (length text) 65504
    then Ok (record { host = host_of url; port = port_of url; path = path; text = text })
    else Err NotAUrl

-- The tests on a URL that is to be a base: the scheme, the path, the other parts, and the length of its text.
-- A missing last slash is added to the path and the text.
abbrev pub base_tested : Parts → Result BaseParts UriFault
base_tested url =
    if is_http url
    then on_ok (path_in (with_slash url.path)) (λ path. plain_base url path (with_slash (serialize url)))
    else Err NotHttp

-- the base that a text is
abbrev pub base_of : List ℕ → Result BaseParts UriFault
base_of text = on_ok (url_of (parse_url None text)) base_tested
