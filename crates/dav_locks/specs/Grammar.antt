-- The grammar of an If field, RFC 4918 section 10.4.2, of which only tagged lists of one state token each
-- are taken: no list without a tag, no `Not` and no entity tag. Blanks may stand between the parts.
use Rattle.std.specs.Prelude.{◌≡◌, ℕ, Bool, ◌&&◌, List, [], ◌∷◌, ◌++◌, IsTrue}
use Rattle.std.specs.List.{list_all}
use Rattle.dav_text.specs.Blanks.{is_blank}
use Rattle.dav_text.specs.declared.blanks.Blanks.TheVariants.{Field}
use Rattle.dav_uri.specs.Url.{is_url_text}
use Rattle.dav_locks.specs.Token.{is_token}

-- what a request asks for: that the resource is locked with the token
pub record Condition : Type 0 where
  pub url : List ℕ
  pub token : List ℕ

abbrev pub are_blanks : List ℕ → Bool
are_blanks text = list_all (is_blank Field) text

-- the text begins with a tagged list, `Resource-Tag List`, and this follows it
pub record IsTagged (condition : Condition) (text behind : List ℕ) : Type 0 where
  pub before_list : List ℕ
  pub before_token : List ℕ
  pub after_token : List ℕ
  pub split : text ≡ 60 ∷ (condition.url ++ 62 ∷ (before_list ++ 40 ∷ (before_token ++ 60 ∷ (condition.token ++ 62 ∷ (after_token ++ 41 ∷ behind)))))
  pub url : IsTrue (is_url_text condition.url)
  pub token : IsTrue (is_token condition.token)
  pub blanks : IsTrue (are_blanks before_list && are_blanks before_token && are_blanks after_token)

-- the text is a tagged list for each condition, in order
pub data If : List Condition → List ℕ → Type 0 where
  last : (condition : Condition) (text : List ℕ) → IsTagged condition text [] → If (condition ∷ []) text
  more : (condition : Condition) (conditions : List Condition) (text between behind : List ℕ) → IsTagged condition text (between ++ behind) → IsTrue (are_blanks between) → If conditions behind → If (condition ∷ conditions) text
