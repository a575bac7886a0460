-- The precondition of a request, by what is known of its file: RFC 9110 section 13.1.
use Rattle.std.specs.Prelude.{ℕ, List, codes, Option, Some, None, option_to_list}
use Rattle.dav_text.specs.declared.tag.Seen.{Seen}
use Rattle.dav_text.specs.declared.tag.Seen.TheVariants.{Unknown, Absent, Untagged, Tagged}
use Rattle.dav_frame.specs.declared.fields.FieldName.{FieldName}
use Rattle.dav_frame.specs.declared.fields.FieldName.TheVariants as names
use Rattle.dav_verbs.specs.declared.condition.Precondition.{Precondition}
use Rattle.dav_verbs.specs.declared.condition.Precondition.TheVariants.{IfMatch, IfMatchAny, IfNoneMatchAny, Nothing}

-- what the server is asked to find before it does anything: just what is known
abbrev pub precondition_of : Seen → Precondition
precondition_of Unknown = Nothing
precondition_of Absent = IfNoneMatchAny
precondition_of Untagged = IfMatchAny
precondition_of (Tagged tag) = IfMatch tag

-- the field that asks for it, with its value
abbrev pub field_of : Precondition → Option (FieldName × List ℕ)
field_of (IfMatch tag) = Some (names.IfMatch, tag)
field_of IfMatchAny = Some (names.IfMatch, codes "*")
field_of IfNoneMatchAny = Some (names.IfNoneMatch, codes "*")
field_of Nothing = None

-- the fields of a request with this precondition and no other field
abbrev pub fields_of : Precondition → List (FieldName × List ℕ)
fields_of precondition = option_to_list (field_of precondition)
