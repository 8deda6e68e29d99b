-- The local parts of names, which no scope changes.
use Rattle.std.specs.Prelude.{ℕ, Bool, false, List, Option, None, Some, bytes_eq}
use Rattle.spec_document.specs.Forest.{Content, Element, Text, Comment, Instruction}
use Rattle.spec_document.specs.Name.{QName, qname_of}

-- whether this is a name of this local part
abbrev pub is_local : List ℕ → Option QName → Bool
is_local local None = false
is_local local (Some name) = bytes_eq local name.local

-- whether the name of a node of this content has this local part
abbrev pub has_local : List ℕ → Content → Bool
has_local local (Element name attributes) = is_local local (qname_of name)
has_local local (Text text) = false
has_local local (Comment text) = false
has_local local (Instruction target text) = bytes_eq local target
