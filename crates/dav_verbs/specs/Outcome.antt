-- What a status says of a request that stores a file: RFC 9110 section 15.
use Rattle.std.specs.Prelude.{ℕ, ◌==◌, ◌&&◌, ◌||◌, Bool, nat_le, if◌then◌else◌}
use Rattle.dav_verbs.specs.declared.outcome.Outcome.{Outcome}
use Rattle.dav_verbs.specs.declared.outcome.Outcome.TheVariants.{Sent, Again, Refused}

-- the server did what was asked
abbrev pub is_success : ℕ → Bool
is_success status = nat_le 200 status && nat_le status 299

-- the server did not, and the same request may succeed later
abbrev pub may_pass : ℕ → Bool
may_pass status = status == 408 || status == 429 || status == 500 || status == 502 || status == 503 || status == 504

abbrev pub outcome_of : ℕ → Outcome
outcome_of status = if is_success status then Sent else (if may_pass status then Again else Refused)
