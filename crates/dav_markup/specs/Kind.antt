-- The kinds of bytes of the code are those of the grammar.
use Rattle.dav_doc.specs.Bytes as bytes
use Rattle.dav_markup.specs.declared.kind.ByteKind.{ByteKind}
use Rattle.dav_markup.specs.declared.kind.ByteKind.TheVariants.{Less, Ampersand, Blank, Greater, DoubleQuote, SingleQuote, Equals, Slash, Colon, Exclamation, Letter, Digit, Other}

abbrev pub kind_in : ByteKind → bytes.Kind
kind_in Less = bytes.Less
kind_in Ampersand = bytes.Ampersand
kind_in Blank = bytes.Blank
kind_in Greater = bytes.Greater
kind_in DoubleQuote = bytes.DoubleQuote
kind_in SingleQuote = bytes.SingleQuote
kind_in Equals = bytes.Equals
kind_in Slash = bytes.Slash
kind_in Colon = bytes.Colon
kind_in Exclamation = bytes.Exclamation
kind_in Letter = bytes.Letter
kind_in Digit = bytes.Digit
kind_in Other = bytes.Other
