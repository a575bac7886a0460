-- After how many seconds a request may be sent again: RFC 9110 section 10.2.3.
use Rattle.std.specs.Prelude.{ℕ, List, Option, Some, None, codes}
use Rattle.http_header.specs.FieldValue.{FieldValue}
use Rattle.http_header.specs.HeaderMap.{Entries, get_all}
use Rattle.dav_text.specs.Digits.{number_of}
use Rattle.dav_verbs.specs.Only.{only_in}

abbrev pub seconds_by : Option ℕ → ℕ
seconds_by None = 0
seconds_by (Some seconds) = seconds

-- the number of seconds that 1 to 9 digits write, and 0 where the text is none of these, as a date is not
abbrev pub seconds_of : List ℕ → ℕ
seconds_of text = seconds_by (number_of 9 text)

abbrev pub seconds_in : Option FieldValue → ℕ
seconds_in None = 0
seconds_in (Some value) = seconds_of value.bytes

-- what the one Retry-After field says; of several, none counts
abbrev pub retry_after_of : Entries FieldValue → ℕ
retry_after_of fields = seconds_in (only_in (get_all fields (codes "retry-after")))
