-- The bytes of a URL's text.
use Rattle.std.specs.Prelude.{ℕ, Bool, not, ◌&&◌, ◌||◌, ◌==◌, nat_lt, List}
use Rattle.std.specs.List.{list_all}

-- a byte that can stand in a URL between angle brackets: RFC 3986 appendix C
abbrev pub is_url_byte : ℕ → Bool
is_url_byte b = nat_lt 32 b && nat_lt b 127 && not (b == 60 || b == 62)

abbrev pub is_url_text : List ℕ → Bool
is_url_text text = list_all is_url_byte text
