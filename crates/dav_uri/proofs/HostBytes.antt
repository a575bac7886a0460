-- Which bytes the host of a URL, and a Host field, are made of.
use Rattle.std.proofs.Common.{◌≡◌, ℕ, ◌<◌, ◌^◌, Bool, true, false, not, ◌&&◌, ◌||◌, ◌==◌, ltb, leb, List, [], ◌∷◌, ◌++◌, All, sym, refl, subst, ◌∙◌, arith, if◌then◌else◌}
use Rattle.std.specs.Prelude.{Option, Some, None, unwrap_or, option_map, decimal}
use Rattle.std.specs.List.{list_all}
use Rattle.std.specs.Int.{IsInRange}
use Rattle.std.proofs.lemmas.Bool.Decides.{nat_tests}
use Rattle.std.proofs.lemmas.Fmt.{digits_decimal}
use Rattle.std.proofs.lemmas.Str.Parse.{numerals_by_value, tells_by_index}
use Rattle.std.proofs.lemmas.List.Elements.{All-nil, All-cons, All-append, All-from_get_or}
use Rattle.std.proofs.lemmas.List.Sums.{list_all-from_AllPass, AllPass-from_list_all}
use Rattle.percent_encoding.specs.declared.ascii_set.TheConstants.{CONTROLS}
use Rattle.percent_encoding.specs.Percent.{IsKept}
use Rattle.url.specs.declared.sets.TheConstants.{FORBIDDEN_HOST, FORBIDDEN_DOMAIN}
use Rattle.url.specs.declared.host.Host.{Host}
use Rattle.url.specs.declared.scheme.SchemeType.{SchemeType}
use Rattle.url.specs.Host.{host_text, IsHostOf}
use Rattle.url.specs.Parts.{Parts, kind_of, has_host, IsValid}
use Rattle.url.proofs.InputLemmas.{Passes}
use Rattle.url.proofs.SetLemmas.{passes_from_kept}
use Rattle.url.proofs.HostLemmas.{All-host_text}
use Rattle.dav_uri.specs.Target.{host_of, host_field}
use Rattle.dav_uri.specs.Url.{is_url_byte, is_url_text}

opaque_byte : (b : ℕ) → IsKept FORBIDDEN_HOST b → IsKept CONTROLS b → Passes is_url_byte b
opaque_byte b allowed visible =
    let mark = passes_from_kept FORBIDDEN_HOST (λ x. not (x == 32 || x == 60 || x == 62)) refl b allowed in
    let above = passes_from_kept CONTROLS (λ x. leb 32 x && ltb x 127) refl b visible in
    grind (arith, nat_tests)

digit_byte : (b : ℕ) → IsInRange 48 57 b → Passes is_url_byte b
digit_byte b digit = grind (arith, nat_tests)

host_bytes : (kind : SchemeType) (host : Host (List ℕ)) → IsHostOf kind host → All (Passes is_url_byte) (host_text host)
host_bytes kind host =
    All-host_text (Passes is_url_byte) kind host (passes_from_kept FORBIDDEN_DOMAIN is_url_byte refl) opaque_byte (λ b digit. grind (arith, nat_tests)) (λ b hex. grind (arith, nat_tests)) refl refl

given_host : (url : Parts) (host : Option (Host (List ℕ))) → IsValid url → url.host ≡ host → All (Passes is_url_byte) (unwrap_or (option_map host_text host) [])
given_host url None valid is = All-nil (Passes is_url_byte)
given_host url (Some host) valid is = host_bytes (kind_of url) host (rw is at valid.head.host)

own_host : (url : Parts) (has : Bool) → IsValid url → All (Passes is_url_byte) (unwrap_or (option_map host_text (if has then url.host else None)) [])
own_host url true valid = given_host url url.host valid refl
own_host url false valid = All-nil (Passes is_url_byte)

-- the host of a URL has only bytes of a URL
pub host_is_url_text : (url : Parts) → IsValid url → is_url_text (host_of url) ≡ true
host_is_url_text url valid = list_all-from_AllPass is_url_byte (host_of url) (own_host url (has_host url) valid)

digits_pass : (n : ℕ) → n < 2 ^ 64 → All (Passes is_url_byte) (decimal n)
digits_pass n short =
    All-from_get_or (Passes is_url_byte) (decimal n) 0 (λ i inside. digit_byte _ (digits_decimal (numerals_by_value _ tells_by_index) n short i inside))

port_passes : (host : List ℕ) (n : ℕ) (default : Bool) → n < 2 ^ 64 → All (Passes is_url_byte) host → All (Passes is_url_byte) (host ++ (if default then [] else 58 ∷ decimal n))
port_passes host n true short passes = All-append (Passes is_url_byte) host [] passes (All-nil (Passes is_url_byte))
port_passes host n false short passes = All-append (Passes is_url_byte) host (58 ∷ decimal n) passes (All-cons (Passes is_url_byte) 58 (decimal n) refl (digits_pass n short))

-- and so has the value of a Host field with that host
pub field_is_url_text : (host : List ℕ) (port : ℕ) → port < 2 ^ 64 → is_url_text host ≡ true → is_url_text (host_field host port) ≡ true
field_is_url_text host port short is =
    list_all-from_AllPass is_url_byte (host_field host port) (port_passes host port (port == 80) short (AllPass-from_list_all is_url_byte host is))
