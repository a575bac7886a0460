-- Stretches of a piece that are taken at once.
use Rattle.std.specs.Prelude.{◌≡◌, ℕ, ◌+◌, ◌<◌, ◌≤◌, ◌-◌, ◌^◌, Bool, true, false, List, length, take, drop, Some}
use Rattle.dav_doc.specs.Bytes.{in_name}
use Rattle.dav_doc.specs.Characters.{Owed, owed_by}
use Rattle.dav_markup.specs.Name.{name_in, is_begun}
use Rattle.dav_markup.specs.Stretch.{is_plain, after_all, longer_by}
use Rattle.dav_markup.specs.Owing.{owed_in}
use Rattle.dav_markup.specs.declared.name.Name.{Name}
use Rattle.dav_markup.specs.declared.scope.Open.{Open}
use Rattle.dav_markup.specs.declared.section.Brackets.TheVariants.{Zero}
use Rattle.dav_xml.specs.declared.ahead.Ahead.{Ahead}
use Rattle.dav_xml.specs.declared.ahead.Ahead.TheVariants as aheads
use Rattle.dav_xml.specs.declared.position.Position.{Position}
use Rattle.dav_xml.specs.declared.position.Position.TheVariants as positions
use Rattle.dav_xml.specs.declared.position.StartTag.{StartTag}
use Rattle.dav_xml.specs.declared.position.StartTag.TheVariants as starts

-- these bytes are text in an element
pub record IsText (p : Position) (opens : List Open) (run : List ℕ) (o v : Owed) : Type 0 where
  pub is : p ≡ positions.Text Zero
  pub inside : 0 < length opens
  pub all : after_all is_plain run o ≡ Some v

-- the position is in a name of a start tag, each part of which has its first byte
abbrev pub is_naming : StartTag → Bool
is_naming (starts.Name name) = is_begun (name_in name)
is_naming (starts.Attribute tag name) = is_begun (name_in name)
is_naming start = false

-- with these bytes the name goes on, and the tag is no longer than it may be
pub record IsNaming (p : Position) (size : ℕ) (run : List ℕ) (o v : Owed) : Type 0 where
  pub start : StartTag
  pub is : p ≡ positions.Start start
  pub naming : is_naming start ≡ true
  pub small : size + length run ≤ 65536
  pub all : after_all in_name run o ≡ Some v

-- these bytes of the name of an end tag come next, and the tag is no longer than it may be
pub record IsEnding (p : Position) (size : ℕ) (run : List ℕ) (o v : Owed) : Type 0 where
  pub name : List ℕ
  pub came : ℕ
  pub is : p ≡ positions.End name came
  pub fits : came + length run < 2 ^ 64
  pub short : came + length run ≤ length name
  pub same : run ≡ take (length run) (drop came name)
  pub small : size + length run ≤ 65536
  pub owed : owed_by run o ≡ Some v

-- these bytes are of the name of a start tag or an end tag
pub data IsOfName (p : Position) (size : ℕ) (run : List ℕ) (o v : Owed) : Type 0 where
  in_start : IsNaming p size run o v → IsOfName p size run o v
  in_end : IsEnding p size run o v → IsOfName p size run o v

-- how many bytes the tag may still have
abbrev pub room : ℕ → ℕ
room size = 65536 - size

-- a stretch of the bytes that leads on alike from that position
abbrev pub IsAhead : Position → List Open → ℕ → Owed → List ℕ → Ahead → Type 0
IsAhead p opens size o bytes aheads.Byte = Unit {0}
IsAhead p opens size o bytes (aheads.Text s) = (0 < s.len) × (s.len ≤ length bytes) × IsText p opens (take s.len bytes) o (owed_in s.owed)
IsAhead p opens size o bytes (aheads.Name s) = (0 < s.len) × (s.len ≤ length bytes) × IsOfName p size (take s.len bytes) o (owed_in s.owed)

-- the name is longer by these bytes
abbrev pub LengthensName : StartTag → List ℕ → StartTag → Type 0
LengthensName (starts.Name name) run new = (longer : Name) × (new ≡ starts.Name longer) × (name_in longer ≡ longer_by (name_in name) run)
LengthensName (starts.Attribute tag name) run new =
    (longer : Name) × (new ≡ starts.Attribute tag longer) × (name_in longer ≡ longer_by (name_in name) run)
LengthensName start run new = new ≡ start

abbrev pub Lengthens : Position → List ℕ → Position → Type 0
Lengthens (positions.Start start) run new = (longer : StartTag) × (new ≡ positions.Start longer) × LengthensName start run longer
Lengthens (positions.End name came) run new = new ≡ positions.End name (came + length run)
Lengthens p run new = new ≡ p

-- so many bytes more of an end tag can be counted
abbrev pub CanLengthen : Position → List ℕ → Type 0
CanLengthen (positions.End name came) run = came + length run < 2 ^ 64
CanLengthen p run = Unit {0}
