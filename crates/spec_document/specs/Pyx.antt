-- PYX: a document as lines, one event a line. The first character of a line says what it is.
use Rattle.std.specs.Prelude.{ℕ, Bool, not, ◌==◌, List, [], ◌∷◌, ◌++◌, Option, None, Some, if◌then◌else◌, IsTrue}
use Rattle.std.specs.List.{list_all, list_any, before_first, after_first, flat_map}
use Rattle.spec_document.specs.declared.event.Event.{Event}
use Rattle.spec_document.specs.declared.event.Event.TheVariants.{Start, Attribute, Data, Instruction, End, Comment}
use Rattle.spec_document.specs.Character.{is_char}

abbrev pub Line : Type 0
Line = List ℕ

-- the escapes: \n line feed, \t tab, \r carriage return, \\ backslash
abbrev pub escape : ℕ → List ℕ
escape c =
    if c == 0xA then 0x5C ∷ 0x6E ∷ []
    else (if c == 0x9 then 0x5C ∷ 0x74 ∷ [] else (if c == 0xD then 0x5C ∷ 0x72 ∷ [] else (if c == 0x5C then 0x5C ∷ 0x5C ∷ [] else c ∷ [])))

-- a text as it is written: exactly these four characters are escaped
abbrev pub escaped : List ℕ → List ℕ
escaped text = flat_map escape text

-- what a backslash and the character behind it are read as; where that is no escape, as themselves
abbrev pub unescape : ℕ → List ℕ
unescape c =
    if c == 0x6E then 0xA ∷ []
    else (if c == 0x74 then 0x9 ∷ [] else (if c == 0x72 then 0xD ∷ [] else (if c == 0x5C then 0x5C ∷ [] else 0x5C ∷ c ∷ [])))

abbrev mutual
  -- a text as it is read
  pub unescaped : List ℕ → List ℕ
  unescaped [] = []
  unescaped (c ∷ cs) = if c == 0x5C then behind_backslash cs else c ∷ unescaped cs

  -- the same behind a backslash; the last one stands for itself
  pub behind_backslash : List ℕ → List ℕ
  behind_backslash [] = 0x5C ∷ []
  behind_backslash (c ∷ cs) = unescape c ++ unescaped cs

abbrev pub is_blank : ℕ → Bool
is_blank c = c == 0x20

-- by the first character: ( A - ? ) C. A name ends at the first space; with no space, what follows it is empty
abbrev pub event_behind : ℕ → Line → Option (Event (List ℕ))
event_behind sign rest =
    if sign == 0x28 then Some (Start rest)
    else (if sign == 0x41 then Some (Attribute (before_first is_blank rest) (unescaped (after_first is_blank rest)))
    else (if sign == 0x2D then Some (Data (unescaped rest))
    else (if sign == 0x3F then Some (Instruction (before_first is_blank rest) (unescaped (after_first is_blank rest)))
    else (if sign == 0x29 then Some (End rest)
    else (if sign == 0x43 then Some (Comment (unescaped rest)) else None)))))

-- the event of a line. There is none where it begins otherwise, or holds a character that is no XML Char:
-- as escapes stand for XML Chars, it is the same to ask that of the line and of what is read
abbrev pub event_of : Line → Option (Event (List ℕ))
event_of [] = None
event_of (sign ∷ rest) = if list_all is_char (sign ∷ rest) then event_behind sign rest else None

-- the line that is written for an event
abbrev pub line_of : Event (List ℕ) → Line
line_of (Start name) = 0x28 ∷ name
line_of (Attribute name value) = 0x41 ∷ name ++ 0x20 ∷ escaped value
line_of (Data text) = 0x2D ∷ escaped text
line_of (Instruction target []) = 0x3F ∷ target
line_of (Instruction target (c ∷ cs)) = 0x3F ∷ target ++ 0x20 ∷ escaped (c ∷ cs)
line_of (End name) = 0x29 ∷ name
line_of (Comment text) = 0x43 ∷ escaped text

-- all its characters are XML Chars, and no attribute name or target has a space in it
abbrev pub IsWritable : Event (List ℕ) → Type 0
IsWritable (Start name) = IsTrue (list_all is_char name)
IsWritable (Attribute name value) = IsTrue (list_all is_char name) × IsTrue (list_all is_char value) × IsTrue (not (list_any is_blank name))
IsWritable (Data text) = IsTrue (list_all is_char text)
IsWritable (Instruction target text) = IsTrue (list_all is_char target) × IsTrue (list_all is_char text) × IsTrue (not (list_any is_blank target))
IsWritable (End name) = IsTrue (list_all is_char name)
IsWritable (Comment text) = IsTrue (list_all is_char text)
