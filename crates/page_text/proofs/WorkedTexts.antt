-- Texts that were worked out by hand.
use Rattle.std.proofs.Common.{◌≡◌, [], ◌∷◌, ◌++◌, refl}
use Rattle.std.specs.Prelude.{codes, false}
use Rattle.page_text.specs.Escapes.{attribute_text, has_references, page_text, read_back, read_from}

-- the end of a script element
closing-tag : page_text (codes "</script>") ≡ codes "&#60;/script&#62;"
closing-tag = refl

-- a reference that was written is shown as it was written
written-reference : page_text (codes "a & b &lt;") ≡ codes "a &#38; b &#38;lt;"
written-reference = refl

-- both quotes, an end of a line, and bytes that aren't printable
quotes-in-an-attribute : attribute_text (34 ∷ 39 ∷ 10 ∷ 0 ∷ 200 ∷ []) ≡ codes "&#34;&#39;&#10;&#92;x00&#92;xc8"
quotes-in-an-attribute = refl

-- a line's end stays one in the text of an element, and a backslash is a byte as others are
lines : page_text (10 ∷ 92 ∷ 120 ∷ 48 ∷ 48 ∷ []) ≡ 10 ∷ codes "\\x00"
lines = refl

-- the byte 0 isn't taken for what is written so
byte-zero : page_text (0 ∷ []) ≡ codes "&#92;x00"
byte-zero = refl

read-again : read_back (codes "&#60;b&#62; &#92;x0a") ≡ codes "<b> " ++ 10 ∷ []
unfolding read_from
read-again = refl

-- an `&` alone, and one whose reference isn't whole, are refused
ampersand-alone : has_references (codes "a & b") ≡ false
unfolding has_references
ampersand-alone = refl

reference-cut-short : has_references (codes "&#60") ≡ false
unfolding has_references
reference-cut-short = refl
