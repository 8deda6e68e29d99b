-- A copy has no label in it: a document and the same without labels have the same copies.
use Rattle.std.proofs.Common.{◌≡◌, ℕ, ◌+◌, List, [], ◌∷◌, ◌++◌, refl}
use Rattle.spec_document.specs.Forest.{Written, Content, Element, Text, Comment, Instruction, Forest, Empty, Node, Document, plain}
use Rattle.spec_document.specs.Place.{Found, found_in, TreeNode, attributes_of, namespaces_of}
use Rattle.spec_document.specs.Order.{Entry, namespace_entries, attribute_entries, own_entries, entries_in, entries_of}
use Rattle.spec_meaning.specs.Stream as stream
use Rattle.spec_meaning.specs.Related.{Each, none, more}
use Rattle.spec_meaning.specs.Naming.{unlabelled}
use Rattle.spec_meaning.proofs.Matching.{each_append}
use Rattle.spec_run.specs.Copy.{uri_of, attributes_before, copied_among, copy_of}

pub record CopiedAlike {L M : Type 0} (e : Entry L) (f : Entry M) : Type 0 where
  pub copies : copy_of e.item ≡ copy_of f.item

plain_copied : {L : Type 0} (above : List Content) (f : Forest L) → copied_among above (plain f) ≡ copied_among above f
plain_copied above Empty = refl
plain_copied above (Node label (Element name attributes) children siblings) =
    let node = found_in above label (Element name attributes) children in
    λ i. stream.Element name (uri_of (TreeNode node)) (namespaces_of node)
    (attributes_before node (attributes_of node) (plain_copied (Element name attributes ∷ above) children i)) (plain_copied above siblings i)
plain_copied above (Node label (Text text) children siblings) = λ i. stream.Text text (plain_copied above siblings i)
plain_copied above (Node label (Comment text) children siblings) = λ i. stream.Comment (stream.Text text stream.Ended) (plain_copied above siblings i)
plain_copied above (Node label (Instruction target text) children siblings) =
    λ i. stream.Instruction target (stream.Text text stream.Ended) (plain_copied above siblings i)

node_copied : {L : Type 0} (positions : List ℕ) (above : List Content) (label : L) (content : Content) (children : Forest L)
    → copy_of (TreeNode (found_in above tt content (plain children))) ≡ copy_of (TreeNode (found_in above label content children))
node_copied positions above label (Element name attributes) children =
    let node = found_in above label (Element name attributes) children in
    λ i. stream.Element name (uri_of (TreeNode node)) (namespaces_of node)
    (attributes_before node (attributes_of node) (plain_copied (Element name attributes ∷ above) children i)) stream.Ended
node_copied positions above label (Text text) children = refl
node_copied positions above label (Comment text) children = refl
node_copied positions above label (Instruction target text) children = refl

namespaces_copied : {L M : Type 0} (positions : List ℕ) (element : Found L) (other : Found M) (number : ℕ) (ns : List (List ℕ × List ℕ))
    → Each CopiedAlike (namespace_entries positions element number ns) (namespace_entries positions other number ns)
namespaces_copied positions element other number [] = none
namespaces_copied positions element other number (n ∷ ns) = more (record { copies = refl }) (namespaces_copied positions element other (number + 1) ns)

attributes_copied : {L M : Type 0} (positions : List ℕ) (content : Content) (above : List Content) (l : L) (m : M) (f : Forest L) (g : Forest M)
    (number : ℕ) (xs : List Written)
    → Each CopiedAlike (attribute_entries positions (found_in above l content f) number xs) (attribute_entries positions (found_in above m content g) number xs)
attributes_copied positions content above l m f g number [] = none
attributes_copied positions content above l m f g number (x ∷ xs) =
    more (record { copies = refl }) (attributes_copied positions content above l m f g (number + 1) xs)

own_copied : {L : Type 0} (positions : List ℕ) (above : List Content) (label : L) (content : Content) (children : Forest L)
    → Each CopiedAlike (own_entries positions (found_in above tt content (plain children))) (own_entries positions (found_in above label content children))
own_copied positions above label content children =
    more (record { copies = node_copied positions above label content children })
    (each_append (namespaces_copied positions _ _ 1 (namespaces_of (found_in above label content children)))
    (attributes_copied positions content above tt label (plain children) children 1 (attributes_of (found_in above label content children))))

forests_copied : {L : Type 0} (above : List Content) (parent : List ℕ) (position : ℕ) (f : Forest L)
    → Each CopiedAlike (entries_in above parent position (plain f)) (entries_in above parent position f)
forests_copied above parent position Empty = none
forests_copied above parent position (Node label content children siblings) =
    each_append
    (each_append (own_copied (parent ++ position ∷ []) above label content children) (forests_copied (content ∷ above) (parent ++ position ∷ []) 1 children))
    (forests_copied above parent (position + 1) siblings)

pub documents_copied : {L : Type 0} (document : Document L) → Each CopiedAlike (entries_of (unlabelled document)) (entries_of document)
documents_copied document = more (record { copies = plain_copied [] document.nodes }) (forests_copied [] [] 1 document.nodes)
