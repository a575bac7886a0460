-- Lock tokens: RFC 4918 section 6.5. Each is a URI, of which no more is asked here than that it can stand
-- between angle brackets.
use Rattle.std.specs.Prelude.{ℕ, Bool, not, ◌&&◌, ◌||◌, ◌==◌, nat_lt, nat_le, List, length, Result, Ok, Err, if◌then◌else◌}
use Rattle.std.specs.List.{list_all}
use Rattle.std.specs.Str.{is_utf8}
use Rattle.dav_locks.specs.declared.fault.LockFault.{LockFault}
use Rattle.dav_locks.specs.declared.fault.LockFault.TheVariants.{NoToken}

-- no blank, no control character and no angle bracket
abbrev pub is_token_byte : ℕ → Bool
is_token_byte b = nat_lt 32 b && not (b == 60 || b == 62 || b == 127)

-- a token that can be submitted
abbrev pub is_token : List ℕ → Bool
is_token text = nat_lt 0 (length text) && nat_le (length text) 512 && list_all is_token_byte text && is_utf8 text

abbrev pub token_of : List ℕ → Result (List ℕ) LockFault
token_of text = if is_token text then Ok text else Err NoToken
