-- What the base is that the words name.
use Rattle.std.proofs.Common.{◌≡◌, ◌<◌, ℕ, List, length, Bool, true, false, ◌&&◌, if◌then◌else◌, nat_le, Result, Ok, Err, None, refl, sym, ap, subst, arith}
use Rattle.std.proofs.lemmas.Bool.Decides.{nat_tests}
use Rattle.url.specs.Parser.{parse_url}
use Rattle.url.specs.Parts.{Parts, serialize}
use Rattle.dav_text.specs.Path.{PathParts, IsPath}
use Rattle.dav_text.specs.Reading.{path_of}
use Rattle.dav_text.specs.declared.fault.PathFault.{PathFault}
use Rattle.dav_text.proofs.RoundTrip.{read_path}
use Rattle.dav_uri.specs.Target.{BaseParts, host_of, port_of, on_ok, url_of, is_http, path_else, path_in, is_plain, with_slash, plain_base, base_tested, base_of}
use Rattle.dav_uri.specs.declared.fault.UriFault.{UriFault}
use Rattle.dav_uri.specs.declared.fault.UriFault.TheVariants.{NotAUrl, NotHttp}
use Rattle.dav_run.specs.Words.{IsBase}

-- what was read of a text that is one
record IsOn {A B : Type 0} (r : Result A UriFault) (next : A → Result B UriFault) (y : B) : Type 0 where
  value : A
  read : r ≡ Ok value
  next_is : next value ≡ Ok y

on_ok_is : {A B : Type 0} (r : Result A UriFault) (next : A → Result B UriFault) (y : B) → on_ok r next ≡ Ok y → IsOn r next y
on_ok_is (Ok x) next y is = record { value = x; read = refl; next_is = is }
on_ok_is {A} {B} (Err fault) next y is = let h : Err fault ≡ Ok y = is in absurd (cc)

tested_is : (test : Bool) (r : Result BaseParts UriFault) (base : BaseParts) → (if test then r else Err NotHttp) ≡ Ok base → r ≡ Ok base
tested_is true r base is = is
tested_is false r base is = let h : Err NotHttp ≡ Ok base = is in absurd (cc)

-- a base that has passed its tests
record IsFine (path : PathParts) (text : List ℕ) (base : BaseParts) : Type 0 where
  path_is : base.path ≡ path
  text_is : base.text ≡ text
  short : length text < 65505

short_text : (n : ℕ) → nat_le n 65504 ≡ true → n < 65505
short_text n h = grind (arith, nat_tests)

plain_is : (url : Parts) (path : PathParts) (text : List ℕ) (base : BaseParts) → plain_base url path text ≡ Ok base → IsFine path text base
plain_is url path text base is = by (is_plain url) (nat_le (length text) 65504) refl is
  where
    made : BaseParts
    made = record { host = host_of url; port = port_of url; path = path; text = text }

    by : (plain short : Bool) → nat_le (length text) 65504 ≡ short → (if plain && short then Ok made else Err NotAUrl) ≡ Ok base → IsFine path text base
    by true true test h =
        let same : made ≡ base = cc in
        record { path_is = sym (ap (λ (b : BaseParts). b.path) same); text_is = sym (ap (λ (b : BaseParts). b.text) same); short = short_text (length text) test }
    by true false test h = let other : Err NotAUrl ≡ Ok base = h in absurd (cc)
    by false short test h = let other : Err NotAUrl ≡ Ok base = h in absurd (cc)

path_read : (r : Result PathParts PathFault) (path : PathParts) → path_else r ≡ Ok path → r ≡ Ok path
path_read (Ok found) path is = let h : path_else (Ok found) ≡ Ok path = is in let same : found ≡ path = cc in ap (λ (p : PathParts). let r : Result PathParts PathFault = Ok p in r) same
path_read (Err fault) path is = let h : path_else (Err fault) ≡ Ok path = is in absurd (cc)

record Based (base : BaseParts) : Type 0 where
  path : IsPath base.path
  short : length base.text < 65505

based_by : (url : Parts) (base : BaseParts) → base_tested url ≡ Ok base → Based base
based_by url base is =
    let next : PathParts → Result BaseParts UriFault = λ path. plain_base url path (with_slash (serialize url)) in
    let on = on_ok_is (path_in (with_slash url.path)) next base (tested_is (is_http url) (on_ok (path_in (with_slash url.path)) next) base is) in
    let fine = plain_is url on.value (with_slash (serialize url)) base on.next_is in
    record {
      path = subst IsPath (sym fine.path_is) (read_path (with_slash url.path) on.value (path_read (path_of (with_slash url.path)) on.value on.read));
      short = subst (λ (text : List ℕ). length text < 65505) (sym fine.text_is) fine.short;
    }

based : (text : List ℕ) (base : BaseParts) → base_of text ≡ Ok base → Based base
based text base is = let on = on_ok_is (url_of (parse_url None text)) base_tested base is in based_by on.value base on.next_is

pub base_path : (words : List (List ℕ)) (base : BaseParts) → IsBase words base → IsPath base.path
base_path words base named = (based named.text base named.read).path

pub base_short : (words : List (List ℕ)) (base : BaseParts) → IsBase words base → length base.text < 65505
base_short words base named = (based named.text base named.read).short
