-- What of a stream stands in the result, with the recoveries that XSLT 1.0 allows (sections 7.1.2, 7.1.3, 7.3 and 7.4): its elements with
-- their attributes and copied namespace nodes, its texts, comments and processing instructions; and its messages (section 13).
use Rattle.std.specs.Prelude.{ℕ, Bool, true, false, ◌&&◌, ◌||◌, ◌==◌, not, List, [], ◌∷◌, ◌++◌, None, Some, bytes_eq, if◌then◌else◌, is_some, unwrap_or}
use Rattle.spec_document.specs.Declaration.{is_there, is_xmlns}
use Rattle.spec_document.specs.Name.{qname_of}
use Rattle.spec_meaning.specs.Stream.{Stream, Ended, Element, Nameless, Attribute, Namespace, Text, Comment, Instruction, Message, Hole, texts_of}

-- the parts of a name as it is written; the empty prefix is none. A name that is no QName is its own local part
abbrev pub prefix_of : List ℕ → List ℕ
prefix_of name = elim (qname_of name) [ None ↦ [] | Some parts ↦ unwrap_or parts.prefix [] ]

abbrev pub local_of : List ℕ → List ℕ
local_of name = elim (qname_of name) [ None ↦ name | Some parts ↦ parts.local ]

-- an attribute: the prefix that was written, its expanded name, and its value
pub record Given : Type 0 where
  pub prefix : List ℕ
  pub local : List ℕ
  pub uri : List ℕ
  pub value : List ℕ

-- a namespace node: a prefix, empty for the default one, and its URI
abbrev pub NamespaceNode : Type 0
NamespaceNode = List ℕ × List ℕ

-- the nodes that stand, as siblings with what is below them
pub data Standing : Type 0 where
  Nothing : Standing
  AnElement : (prefix local uri : List ℕ) → (namespaces : List NamespaceNode) → (attributes : List Given) → (children siblings : Standing) → Standing
  AText : (text : List ℕ) → (siblings : Standing) → Standing
  AComment : (text : List ℕ) → (siblings : Standing) → Standing
  AnInstruction : (target text : List ℕ) → (siblings : Standing) → Standing

-- ---- Contents: what stands in an element

-- whether a content has a child. What stands in an element without a good name stands in its place; an empty text is no child
abbrev pub has_child : Stream → Bool
has_child Ended = false
has_child (Element name uri namespaces content rest) = true
has_child (Nameless content rest) = has_child content || has_child rest
has_child (Attribute name uri content rest) = has_child rest
has_child (Namespace prefix uri rest) = has_child rest
has_child (Text text rest) = is_there text || has_child rest
has_child (Comment content rest) = true
has_child (Instruction target content rest) = true
has_child (Message content rest) = has_child rest
has_child (Hole rest) = has_child rest

-- the text of what makes a value: other nodes than texts are dropped with what is below them
abbrev pub value_of : Stream → List ℕ
value_of Ended = []
value_of (Element name uri namespaces content rest) = value_of rest
value_of (Nameless content rest) = value_of content ++ value_of rest
value_of (Attribute name uri content rest) = value_of rest
value_of (Namespace prefix uri rest) = value_of rest
value_of (Text text rest) = text ++ value_of rest
value_of (Comment content rest) = value_of rest
value_of (Instruction target content rest) = value_of rest
value_of (Message content rest) = value_of rest
value_of (Hole rest) = value_of rest

-- an attribute gives nothing where its name is no QName, or is `xmlns`, or has the local part `xmlns` and no namespace: it would declare one
abbrev pub is_attribute_name : (name uri : List ℕ) → Bool
is_attribute_name name uri = is_some (qname_of name) && not (is_xmlns name) && (is_there uri || not (is_xmlns (local_of name)))

abbrev pub given_by : (name uri value : List ℕ) → List Given
given_by name uri value =
    if is_attribute_name name uri then record { prefix = prefix_of name; local = local_of name; uri = uri; value = value } ∷ [] else []

-- the attributes that come before the first child, in their order: those of an element without a good name are ignored
abbrev pub attributes_of : Stream → List Given
attributes_of Ended = []
attributes_of (Element name uri namespaces content rest) = []
attributes_of (Nameless content rest) = if has_child content then [] else attributes_of rest
attributes_of (Attribute name uri content rest) = given_by name uri (value_of content) ++ attributes_of rest
attributes_of (Namespace prefix uri rest) = attributes_of rest
attributes_of (Text text rest) = if is_there text then [] else attributes_of rest
attributes_of (Comment content rest) = []
attributes_of (Instruction target content rest) = []
attributes_of (Message content rest) = attributes_of rest
attributes_of (Hole rest) = attributes_of rest

-- the namespace nodes copied by themselves that come before the first child, in their order
abbrev pub namespaces_of : Stream → List NamespaceNode
namespaces_of Ended = []
namespaces_of (Element name uri namespaces content rest) = []
namespaces_of (Nameless content rest) = namespaces_of content ++ (if has_child content then [] else namespaces_of rest)
namespaces_of (Attribute name uri content rest) = namespaces_of rest
namespaces_of (Namespace prefix uri rest) = (prefix, uri) ∷ namespaces_of rest
namespaces_of (Text text rest) = if is_there text then [] else namespaces_of rest
namespaces_of (Comment content rest) = []
namespaces_of (Instruction target content rest) = []
namespaces_of (Message content rest) = namespaces_of rest
namespaces_of (Hole rest) = namespaces_of rest

-- one attribute added: one of the same expanded name is replaced in its place, value and written prefix
abbrev pub is_same_attribute : Given → Given → Bool
is_same_attribute a b = bytes_eq a.uri b.uri && bytes_eq a.local b.local

abbrev pub added_to : List Given → Given → List Given
added_to [] a = a ∷ []
added_to (b ∷ bs) a = if is_same_attribute a b then a ∷ bs else b ∷ added_to bs a

abbrev pub all_added : List Given → List Given → List Given
all_added done [] = done
all_added done (a ∷ more) = all_added (added_to done a) more

-- ---- Comments and processing instructions

-- a space stands after each `-` of a comment that another follows, and after a last one
abbrev pub space_behind_hyphen : (rest : List ℕ) → List ℕ
space_behind_hyphen [] = 0x20 ∷ []
space_behind_hyphen (c ∷ cs) = if c == 0x2D then 0x20 ∷ [] else []

abbrev pub comment_text : List ℕ → List ℕ
comment_text [] = []
comment_text (c ∷ cs) = c ∷ (if c == 0x2D then space_behind_hyphen cs else []) ++ comment_text cs

-- a space stands after each `?` of a processing instruction that a `>` follows
abbrev pub space_behind_mark : (rest : List ℕ) → List ℕ
space_behind_mark [] = []
space_behind_mark (c ∷ cs) = if c == 0x3E then 0x20 ∷ [] else []

abbrev pub instruction_text : List ℕ → List ℕ
instruction_text [] = []
instruction_text (c ∷ cs) = c ∷ (if c == 0x3F then space_behind_mark cs else []) ++ instruction_text cs

-- ---- The whole

-- a text before what stands: an empty text makes no node, and adjacent texts one
abbrev pub text_before : List ℕ → Standing → Standing
text_before [] others = others
text_before (c ∷ cs) (AText text siblings) = AText ((c ∷ cs) ++ text) siblings
text_before (c ∷ cs) others = AText (c ∷ cs) others

-- what stands of a stream, before these siblings. An attribute or a namespace node that no element takes is ignored
abbrev pub standing_before : Stream → Standing → Standing
standing_before Ended others = others
standing_before (Element name uri namespaces content rest) others =
    AnElement (prefix_of name) (local_of name) uri (namespaces ++ namespaces_of content) (all_added [] (attributes_of content)) (standing_before content Nothing)
    (standing_before rest others)
standing_before (Nameless content rest) others = standing_before content (standing_before rest others)
standing_before (Attribute name uri content rest) others = standing_before rest others
standing_before (Namespace prefix uri rest) others = standing_before rest others
standing_before (Text text rest) others = text_before text (standing_before rest others)
standing_before (Comment content rest) others = AComment (comment_text (value_of content)) (standing_before rest others)
standing_before (Instruction target content rest) others = AnInstruction target (instruction_text (value_of content)) (standing_before rest others)
standing_before (Message content rest) others = standing_before rest others
standing_before (Hole rest) others = standing_before rest others

abbrev pub standing : Stream → Standing
standing stream = standing_before stream Nothing

-- the messages in their order, those of nodes that are dropped too: the text of each stands where its instruction ends
abbrev pub messages_of : Stream → List (List ℕ)
messages_of Ended = []
messages_of (Element name uri namespaces content rest) = messages_of content ++ messages_of rest
messages_of (Nameless content rest) = messages_of content ++ messages_of rest
messages_of (Attribute name uri content rest) = messages_of content ++ messages_of rest
messages_of (Namespace prefix uri rest) = messages_of rest
messages_of (Text text rest) = messages_of rest
messages_of (Comment content rest) = messages_of content ++ messages_of rest
messages_of (Instruction target content rest) = messages_of content ++ messages_of rest
messages_of (Message content rest) = messages_of content ++ texts_of content ∷ messages_of rest
messages_of (Hole rest) = messages_of rest
