-- The choices in tags of the code as steps of the machine.
use Rattle.std.specs.Prelude.{ℕ, ◌+◌, List, [], ◌∷◌, ◌++◌, length}
use Rattle.dav_doc.specs.Bytes as bytes
use Rattle.dav_doc.specs.Document.{Tag, End}
use Rattle.dav_doc.specs.Names.{Name, Plain, resolved}
use Rattle.dav_doc.specs.Machine as machine
use Rattle.dav_doc.specs.Machine.{Open, Move, To, AtName, BeforeEquals, AfterEquals, InValue, EndBlanks, scope_of, opened, slashed}
use Rattle.dav_markup.specs.declared.declaration.Quote.{Quote}
use Rattle.dav_markup.specs.declared.declaration.Quote.TheVariants.{Double, Single}
use Rattle.dav_markup.specs.declared.choice.InTag.{InTag}
use Rattle.dav_markup.specs.declared.choice.InTag.TheVariants.{Bad, Blank, Close, Slash, Attribute}
use Rattle.dav_markup.specs.declared.choice.Sign.{Sign}
use Rattle.dav_markup.specs.declared.choice.Sign.TheVariants as signs
use Rattle.dav_markup.specs.declared.choice.Opening.{Opening}
use Rattle.dav_markup.specs.declared.choice.Opening.TheVariants as openings
use Rattle.dav_markup.specs.declared.choice.Sort.{Sort}
use Rattle.dav_markup.specs.declared.choice.Sort.TheVariants as sorts
use Rattle.dav_markup.specs.declared.choice.Closing.{Closing}
use Rattle.dav_markup.specs.declared.choice.Closing.TheVariants as closings

abbrev pub quote_of : Quote → bytes.Quote
quote_of Double = bytes.Double
quote_of Single = bytes.Single

-- in a start tag, behind its name or an attribute and these blanks
abbrev pub in_tag_by : InTag → List Open → Tag → List ℕ → ℕ → Move
in_tag_by Bad os t w b = machine.Bad
in_tag_by Blank os t w b = To (machine.InTag os t (w ++ (b ∷ []))) []
in_tag_by Close os t w b = opened os t (resolved (scope_of os) t.name t.attributes)
in_tag_by Slash os t w b = slashed os t w (resolved (scope_of os) t.name t.attributes)
in_tag_by Attribute os t w b = To (AtName os t w (Plain (b ∷ []))) []

-- behind the name of an attribute and these blanks
abbrev pub equals_by : Sign → List Open → Tag → List ℕ → Name → List ℕ → ℕ → Move
equals_by signs.Bad os t w n x b = machine.Bad
equals_by signs.Blank os t w n x b = To (BeforeEquals os t w n (x ++ (b ∷ []))) []
equals_by signs.Equals os t w n x b = To (AfterEquals os t w n x []) []

-- behind its equals sign and these blanks
abbrev pub quote_by : Opening → List Open → Tag → List ℕ → Name → List ℕ → List ℕ → ℕ → Move
quote_by openings.Bad os t w n x y b = machine.Bad
quote_by openings.Blank os t w n x y b = To (AfterEquals os t w n x (y ++ (b ∷ []))) []
quote_by (openings.Value q) os t w n x y b =
    To (InValue os t (record { lead = w; name = n; before = x; after = y; quote = quote_of q; parts = [] })) []

abbrev pub sort_in : Sort → bytes.Sort
sort_in sorts.Stays = bytes.Stays
sort_in sorts.Ends = bytes.Ends
sort_in sorts.Refers = bytes.Refers
sort_in sorts.Wrong = bytes.Wrong

-- behind the name of an end tag and these blanks
abbrev pub close_by : Closing → Open → List Open → List ℕ → ℕ → Move
close_by closings.Bad o os w b = machine.Bad
close_by closings.Blank o os w b = To (EndBlanks o os (w ++ (b ∷ []))) []
close_by closings.Close o os w b = To (machine.Text os machine.Zero) (End (length os + 1) ∷ [])
