-- What is known after a reply is one.
use Rattle.std.proofs.Common.{◌≡◌, ℕ, List, [], ◌∷◌, refl, sym, ◌∙◌, ap}
use Rattle.http_header.specs.FieldValue.{FieldValue}
use Rattle.http_header.specs.HeaderMap.{Entries}
use Rattle.dav_text.specs.declared.method.Method.{Method}
use Rattle.dav_text.specs.declared.tag.Seen.{Seen}
use Rattle.dav_text.specs.declared.tag.Seen.TheVariants.{Unknown, Absent, Untagged, Tagged}
use Rattle.dav_verbs.specs.Seen.{HasTag, IsShown, news_of, IsKnownAfter, IsSeenAfter}
use Rattle.dav_verbs.specs.declared.seen.News.{News}
use Rattle.dav_verbs.specs.declared.seen.News.TheVariants.{There, Gone, Same}

one_value : (values : List FieldValue) (one other : FieldValue) → values ≡ one ∷ [] → values ≡ other ∷ [] → one ≡ other
one_value values one other is too = cc

one_tag : (fields : Entries FieldValue) (one other : List ℕ) → HasTag fields one → HasTag fields other → one ≡ other
one_tag fields one other has too =
    sym has.bytes ∙ ap (λ (value : FieldValue). value.bytes) (one_value _ has.value too.value has.only too.only) ∙ too.bytes

one_shown : (fields : Entries FieldValue) (one other : Seen) → IsShown fields one → IsShown fields other → one ≡ other
one_shown fields Unknown other shown too = absurd shown
one_shown fields Absent other shown too = absurd shown
one_shown fields one Unknown shown too = absurd too
one_shown fields one Absent shown too = absurd too
one_shown fields Untagged Untagged shown too = refl
one_shown fields Untagged (Tagged tag) shown too = absurd (shown tag too)
one_shown fields (Tagged tag) Untagged shown too = absurd (too tag shown)
one_shown fields (Tagged tag) (Tagged other) shown too = ap Tagged (one_tag fields tag other shown too)

one_known : (news : News) (seen : Seen) (fields : Entries FieldValue) (one other : Seen) → IsKnownAfter news seen fields one → IsKnownAfter news seen fields other → one ≡ other
one_known There seen fields one other known too = one_shown fields one other known too
one_known Gone seen fields one other known too = known ∙ sym too
one_known Same seen fields one other known too = known ∙ sym too

pub same_seen : (seen : Seen) (method : Method) (status : ℕ) (fields : Entries FieldValue) (one other : Seen) → IsSeenAfter seen method status fields one → IsSeenAfter seen method status fields other → one ≡ other
same_seen seen method status fields = one_known (news_of method status) seen fields
