-- Copies (XSLT 1.0, sections 7.5 and 11.3): the stream of a whole node, and what a value puts into a result.
use Rattle.std.specs.Prelude.{ℕ, List, [], ◌∷◌, Option, None, Some, unwrap_or}
use Rattle.std.specs.Option.{option_map}
use Rattle.spec_document.specs.Forest.{Content, Element, Text, Comment, Instruction, Forest, Empty, Node, Written}
use Rattle.spec_document.specs.Place.{Found, Item, TreeNode, AttributeNode, NamespaceNode, found_in, namespaces_of, attributes_of, expanded_name}
use Rattle.spec_meaning.specs.Stream as stream
use Rattle.spec_meaning.specs.Stream.{Stream, followed}
use Rattle.spec_meaning.specs.Question.{Answer, Copied}

-- ---- A node of the source, with its namespace nodes, its attributes and what is below it

abbrev pub uri_of : {L : Type 0} → Item L → List ℕ
uri_of item = unwrap_or (option_map (λ name. name.uri) (expanded_name item)) []

abbrev pub attributes_before : {L : Type 0} → Found L → List Written → Stream → Stream
attributes_before element [] rest = rest
attributes_before element (a ∷ more) rest =
    stream.Attribute a.name (uri_of (AttributeNode element a)) (stream.Text a.value stream.Ended) (attributes_before element more rest)

-- a node before what follows it, by what is copied of the nodes below it
abbrev pub node_before : {L : Type 0} → Found L → Content → (below rest : Stream) → Stream
node_before node (Element name attributes) below rest =
    stream.Element name (uri_of (TreeNode node)) (namespaces_of node) (attributes_before node (attributes_of node) below) rest
node_before node (Text text) below rest = stream.Text text rest
node_before node (Comment text) below rest = stream.Comment (stream.Text text stream.Ended) rest
node_before node (Instruction target text) below rest = stream.Instruction target (stream.Text text stream.Ended) rest

-- siblings below these contents
abbrev pub copied_among : {L : Type 0} → List Content → Forest L → Stream
copied_among above Empty = stream.Ended
copied_among above (Node label content children siblings) =
    node_before (found_in above label content children) content (copied_among (content ∷ above) children) (copied_among above siblings)

-- of a root its children; of a namespace node that node by itself
abbrev pub copied_by : {L : Type 0} → Found L → Option Content → Stream
copied_by node None = copied_among node.above node.children
copied_by node (Some content) = node_before node content (copied_among node.above node.children) stream.Ended

abbrev pub copy_of : {L : Type 0} → Item L → Stream
copy_of (TreeNode node) = copied_by node node.content
copy_of (AttributeNode element a) = attributes_before element (a ∷ []) stream.Ended
copy_of (NamespaceNode element prefix uri) = stream.Namespace prefix uri stream.Ended

abbrev pub stream_in : {N : Type 0} → Answer N → Stream
stream_in (Copied s) = s
stream_in _ = stream.Ended

-- ---- A fragment: the attributes and namespace nodes on its root are left out. What stands in an element without a good name on the root
-- stands on the root in its place

abbrev pub without_attributes : Stream → Stream
without_attributes stream.Ended = stream.Ended
without_attributes (stream.Element name uri namespaces content rest) = stream.Element name uri namespaces content (without_attributes rest)
without_attributes (stream.Nameless content rest) = stream.Nameless (without_attributes content) (without_attributes rest)
without_attributes (stream.Attribute name uri content rest) = without_attributes rest
without_attributes (stream.Namespace prefix uri rest) = without_attributes rest
without_attributes (stream.Text text rest) = stream.Text text (without_attributes rest)
without_attributes (stream.Comment content rest) = stream.Comment content (without_attributes rest)
without_attributes (stream.Instruction target content rest) = stream.Instruction target content (without_attributes rest)
without_attributes (stream.Message content rest) = stream.Message content (without_attributes rest)
without_attributes (stream.Hole rest) = stream.Hole (without_attributes rest)
