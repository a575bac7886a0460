-- A declaration of the code as the words that are left of it.
use Rattle.std.specs.Prelude.{ℕ, List, [], ◌∷◌}
use Rattle.dav_doc.specs.Words as words
use Rattle.dav_doc.specs.Words.{Want, Done, One_of, Space, Spaces, word, equals, closing, ending, version, version_number, encoding, encoding_name, utf_8, us_ascii, standalone, yes_or_no, after_version, after_encoding}
use Rattle.dav_markup.specs.declared.declaration.Quote.{Quote}
use Rattle.dav_markup.specs.declared.declaration.Quote.TheVariants.{Double, Single}
use Rattle.dav_markup.specs.declared.declaration.Part.{Part}
use Rattle.dav_markup.specs.declared.declaration.Part.TheVariants.{Version, Encoding, Standalone}
use Rattle.dav_markup.specs.declared.declaration.Then.{Then}
use Rattle.dav_markup.specs.declared.declaration.Then.TheVariants as thens
use Rattle.dav_markup.specs.declared.declaration.Declaration.{Declaration}
use Rattle.dav_markup.specs.declared.declaration.Declaration.TheVariants as places

abbrev pub quote_in : Quote → ℕ
quote_in Double = 34
quote_in Single = 39

-- what stands behind the first quote of a part's value
abbrev pub value_in : Part → ℕ → Want
value_in Version q = version_number q
value_in Encoding q = encoding_name q
value_in Standalone q = yes_or_no q

-- what stands behind the last quote of a part's value
abbrev pub after_in : Part → Want
after_in Version = after_version
after_in Encoding = after_encoding
after_in Standalone = ending

-- the parts that may follow behind blanks, or the end
abbrev pub parts_in : Part → Want
parts_in Version = words.Either 101 encoding (words.Either 115 standalone (One_of 63 63 closing))
parts_in Encoding = words.Either 115 standalone (One_of 63 63 closing)
parts_in Standalone = One_of 63 63 closing

abbrev pub quoted : Part → Want
quoted part = words.Either 34 (value_in part 34) (One_of 39 39 (value_in part 39))

abbrev pub then_in : Then → Want
then_in (thens.Equals part) = equals (quoted part)
then_in (thens.Digit q) = One_of 48 49 (One_of (quote_in q) (quote_in q) after_version)
then_in (thens.Close part q) = One_of (quote_in q) (quote_in q) (after_in part)

abbrev pub in_any_case : List (ℕ × ℕ) → Want → Want
in_any_case [] w = w
in_any_case (x ∷ xs) w = One_of x.0 x.1 (in_any_case xs w)

abbrev pub want_in : Declaration → Want
want_in places.Start = version
want_in (places.Letters left then) = word left.now (then_in then)
want_in (places.AnyCase left then) = in_any_case left.now (then_in then)
want_in (places.Equals part) = equals (quoted part)
want_in (places.Value part) = Spaces (quoted part)
want_in (places.Digit q) = One_of 48 49 (One_of (quote_in q) (quote_in q) after_version)
want_in (places.Encoding q) = encoding_name (quote_in q)
want_in (places.SecondLetter q) = words.Either 116 (utf_8 (quote_in q)) (words.Either 84 (utf_8 (quote_in q)) (us_ascii (quote_in q)))
want_in (places.YesOrNo q) = yes_or_no (quote_in q)
want_in (places.Close part q) = One_of (quote_in q) (quote_in q) (after_in part)
want_in (places.After part) = after_in part
want_in (places.Blanks part) = Spaces (parts_in part)
want_in places.Closing = closing
want_in places.Done = Done
