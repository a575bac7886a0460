-- Texts of fixed words, with blanks and choices between them.
use Rattle.std.specs.Prelude.{◌≡◌, ℕ, true, false, ◌==◌, ◌||◌, List, [], ◌∷◌, codes, Option, Some, None, if◌then◌else◌}
use Rattle.dav_doc.specs.Bytes.{blank}

-- nothing more; one of two bytes; a blank; blanks, or none; a byte and what then follows, or something else
pub data Want : Type 0 where
  Done : Want
  One_of : ℕ → ℕ → Want → Want
  Space : Want → Want
  Spaces : Want → Want
  Either : ℕ → Want → Want → Want

-- the text is of these words
pub data Words : Want → List ℕ → Type 0 where
  done : Words Done []
  one_of : {x y : ℕ} {w : Want} {s : List ℕ} (b : ℕ) → ((b == x) || (b == y)) ≡ true → Words w s → Words (One_of x y w) (b ∷ s)
  space : {w : Want} {s : List ℕ} (b : ℕ) → blank b ≡ true → Words w s → Words (Space w) (b ∷ s)
  further_space : {w : Want} {s : List ℕ} (b : ℕ) → blank b ≡ true → Words (Spaces w) s → Words (Spaces w) (b ∷ s)
  no_space : {w : Want} {s : List ℕ} (b : ℕ) → blank b ≡ false → Words w (b ∷ s) → Words (Spaces w) (b ∷ s)
  this : {x : ℕ} {w v : Want} {s : List ℕ} (b : ℕ) → (b == x) ≡ true → Words w s → Words (Either x w v) (b ∷ s)
  other : {x : ℕ} {w v : Want} {s : List ℕ} (b : ℕ) → (b == x) ≡ false → Words v (b ∷ s) → Words (Either x w v) (b ∷ s)

abbrev pub word : List ℕ → Want → Want
word [] w = w
word (b ∷ s) w = One_of b b (word s w)

-- an equals sign with blanks around it
abbrev pub equals : Want → Want
equals w = Spaces (One_of 61 61 (Spaces w))

abbrev pub closing : Want
closing = One_of 62 62 Done

abbrev pub ending : Want
ending = Spaces (One_of 63 63 closing)

abbrev pub yes_or_no : ℕ → Want
yes_or_no q = Either 121 (word (codes "es") (One_of q q ending)) (word (codes "no") (One_of q q ending))

-- `standalone` after its first letter (production 32)
abbrev pub standalone : Want
standalone = word (codes "tandalone") (equals (Either 34 (yes_or_no 34) (One_of 39 39 (yes_or_no 39))))

abbrev pub after_encoding : Want
after_encoding = Either 63 closing (Space (Spaces (Either 115 standalone (One_of 63 63 closing))))

-- `utf-8` after its first two letters, in any case
abbrev pub utf_8 : ℕ → Want
utf_8 q = One_of 102 70 (word (codes "-8") (One_of q q after_encoding))

-- `us-ascii` after its first letter, in any case
abbrev pub us_ascii : ℕ → Want
us_ascii q = One_of 115 83 (One_of 45 45 (One_of 97 65 (One_of 115 83 (One_of 99 67 (One_of 105 73 (One_of 105 73 (One_of q q after_encoding)))))))

abbrev pub encoding_name : ℕ → Want
encoding_name q = One_of 117 85 (Either 116 (utf_8 q) (Either 84 (utf_8 q) (us_ascii q)))

-- `encoding` after its first letter (production 80)
abbrev pub encoding : Want
encoding = word (codes "ncoding") (equals (Either 34 (encoding_name 34) (One_of 39 39 (encoding_name 39))))

abbrev pub after_version : Want
after_version = Either 63 closing (Space (Spaces (Either 101 encoding (Either 115 standalone (One_of 63 63 closing)))))

-- version 1.0 or 1.1 (production 24)
abbrev pub version_number : ℕ → Want
version_number q = word (codes "1.") (One_of 48 49 (One_of q q after_version))

abbrev pub version : Want
version = Spaces (word (codes "version") (equals (Either 34 (version_number 34) (One_of 39 39 (version_number 39)))))

-- the declaration after `<?` (production 23)
abbrev pub declaration : Want
declaration = word (codes "xml") (Space version)

-- what follows when a byte has come
abbrev pub want : Want → ℕ → Option Want
want Done b = None
want (One_of x y w) b = if (b == x) || (b == y) then Some w else None
want (Space w) b = if blank b then Some w else None
want (Spaces w) b = if blank b then Some (Spaces w) else want w b
want (Either x w v) b = if b == x then Some w else want v b
