-- What a byte can be in a list of challenges.
use Rattle.std.specs.Prelude.{ℕ, ◌==◌, if◌then◌else◌}
use Rattle.dav_auth.specs.Grammar.{is_token_byte, in_string}
use Rattle.dav_auth.specs.Elements.{is_token68_byte}
use Rattle.dav_auth.specs.declared.kind.ByteKind.{ByteKind}
use Rattle.dav_auth.specs.declared.kind.ByteKind.TheVariants.{Space, Tab, Comma, Equals, Quote, Backslash, Slash, Shared, TokenOnly, Quotable, Control}

-- the kind of a byte that stands for itself alone, else of a byte of tokens or of quoted strings
abbrev pub kind_of : ℕ → ByteKind
kind_of b =
    if b == 32 then Space else (if b == 9 then Tab else (if b == 44 then Comma else (if b == 61 then Equals else (if b == 34 then Quote
    else (if b == 92 then Backslash else (if b == 47 then Slash else
    (if is_token_byte b then (if is_token68_byte b then Shared else TokenOnly) else (if in_string b then Quotable else Control))))))))
