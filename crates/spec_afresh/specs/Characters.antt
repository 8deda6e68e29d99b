-- Documents that are made of XML Chars (XML 1.0, production 2). Of names nothing is said: a QName is made of them, and so is a target.
use Rattle.std.specs.Prelude.{Bool, IsTrue}
use Rattle.std.specs.List.{list_all}
use Rattle.spec_document.specs.Character.{is_char}
use Rattle.spec_document.specs.Forest.{Content, Element, Text, Comment, Instruction, Forest, Empty, Node}

-- what a node has besides its name: the values of its attributes and declarations, or its text
abbrev pub has_chars : Content → Bool
has_chars (Element name attributes) = list_all (λ a. list_all is_char a.value) attributes
has_chars (Text text) = list_all is_char text
has_chars (Comment text) = list_all is_char text
has_chars (Instruction target text) = list_all is_char text

-- so are all of these siblings, and what is below them
abbrev pub HasChars : {L : Type 0} → Forest L → Type 0
HasChars Empty = Unit {0}
HasChars (Node label content children siblings) = IsTrue (has_chars content) × HasChars children × HasChars siblings
