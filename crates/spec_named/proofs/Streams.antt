-- Streams whose elements have QNames and whose namespace nodes undeclare no prefix: what is made of them is as they are, and so is what
-- stands of them.
use Rattle.std.proofs.Common.{◌≡◌, ℕ, zero, suc, Bool, true, false, cond, List, [], ◌∷◌, ◌++◌, drop}
use Rattle.spec_document.specs.Name.{is_ncname}
use Rattle.spec_document.specs.Declaration.{is_there}
use Rattle.spec_meaning.specs.Stream.{Stream, Ended, Element, Nameless, Attribute, Namespace, Text, Comment, Instruction, Message, Hole, followed}
use Rattle.spec_meaning.specs.Stream.{holes, first_of, filled}
use Rattle.spec_result.specs.Recovery.{NamespaceNode, Standing, Nothing, AnElement, AText, AComment, AnInstruction, prefix_of, local_of, has_child}
use Rattle.spec_result.specs.Recovery.{namespaces_of, text_before, standing_before}
use Rattle.spec_result.specs.Named.{IsPrefix, AreNodes}
use Rattle.spec_run.specs.Plan.{Wrapping, AsElement, AsNameless, AsAttribute, AsComment, AsInstruction, AsMessage, wrapped}
use Rattle.spec_run.specs.Direct.{quiet, top_after, outer_after, closed_in}
use Rattle.spec_run.specs.Copy.{without_attributes}
use Rattle.spec_named.specs.Named.{IsNamedWell}

-- ---- What is asked of streams. What stands in an attribute, a comment, a processing instruction or a message makes a text, so of its names
-- nothing is asked

abbrev pub IsQName : List ℕ → Type 0
IsQName name = IsPrefix (prefix_of name) × (is_ncname (local_of name) ≡ true)

abbrev pub IsNode : (prefix uri : List ℕ) → Type 0
IsNode prefix uri = IsPrefix prefix × (is_there prefix ≡ true → is_there uri ≡ true)

abbrev pub IsWell : Stream → Type 0
IsWell Ended = Unit {0}
IsWell (Element name uri namespaces content rest) = IsQName name × AreNodes namespaces × IsWell content × IsWell rest
IsWell (Nameless content rest) = IsWell content × IsWell rest
IsWell (Attribute name uri content rest) = IsWell rest
IsWell (Namespace prefix uri rest) = IsNode prefix uri × IsWell rest
IsWell (Text text rest) = IsWell rest
IsWell (Comment content rest) = IsWell rest
IsWell (Instruction target content rest) = IsWell rest
IsWell (Message content rest) = IsWell rest
IsWell (Hole rest) = IsWell rest

abbrev pub AreWell : List Stream → Type 0
AreWell [] = Unit {0}
AreWell (s ∷ ss) = IsWell s × AreWell ss

-- ---- Lists of namespace nodes

pub nodes_append : (ns ms : List NamespaceNode) → AreNodes ns → AreNodes ms → AreNodes (ns ++ ms)
nodes_append [] ms h g = g
nodes_append (n ∷ ns) ms h g = (h.0, h.1, nodes_append ns ms h.2 g)

unless_child : (b : Bool) (ns : List NamespaceNode) → AreNodes ns → AreNodes (cond b [] ns)
unless_child true ns h = tt
unless_child false ns h = h

nodes_well : (s : Stream) → IsWell s → AreNodes (namespaces_of s)
nodes_well Ended h = tt
nodes_well (Element name uri namespaces content rest) h = tt
nodes_well (Nameless content rest) h =
    nodes_append (namespaces_of content) (cond (has_child content) [] (namespaces_of rest)) (nodes_well content h.0)
    (unless_child (has_child content) (namespaces_of rest) (nodes_well rest h.1))
nodes_well (Attribute name uri content rest) h = nodes_well rest h
nodes_well (Namespace prefix uri rest) h = (h.0.0, h.0.1, nodes_well rest h.1)
nodes_well (Text text rest) h = unless_child (is_there text) (namespaces_of rest) (nodes_well rest h)
nodes_well (Comment content rest) h = tt
nodes_well (Instruction target content rest) h = tt
nodes_well (Message content rest) h = nodes_well rest h
nodes_well (Hole rest) h = nodes_well rest h

-- ---- What stands

text_well : (text : List ℕ) (s : Standing) → IsNamedWell s → IsNamedWell (text_before text s)
text_well [] s h = h
text_well (c ∷ cs) Nothing h = h
text_well (c ∷ cs) (AnElement prefix local uri namespaces attributes children siblings) h = h
text_well (c ∷ cs) (AText text siblings) h = h
text_well (c ∷ cs) (AComment text siblings) h = h
text_well (c ∷ cs) (AnInstruction target text siblings) h = h

pub standing_well : (s : Stream) (behind : Standing) → IsWell s → IsNamedWell behind → IsNamedWell (standing_before s behind)
standing_well Ended behind h g = g
standing_well (Element name uri namespaces content rest) behind h g = (
  h.0.0,
  h.0.1,
  nodes_append namespaces (namespaces_of content) h.1 (nodes_well content h.2),
  standing_well content Nothing h.2 tt,
  standing_well rest behind h.3 g,
)
standing_well (Nameless content rest) behind h g = standing_well content (standing_before rest behind) h.0 (standing_well rest behind h.1 g)
standing_well (Attribute name uri content rest) behind h g = standing_well rest behind h g
standing_well (Namespace prefix uri rest) behind h g = standing_well rest behind h.1 g
standing_well (Text text rest) behind h g = text_well text (standing_before rest behind) (standing_well rest behind h g)
standing_well (Comment content rest) behind h g = standing_well rest behind h g
standing_well (Instruction target content rest) behind h g = standing_well rest behind h g
standing_well (Message content rest) behind h g = standing_well rest behind h g
standing_well (Hole rest) behind h g = standing_well rest behind h g

-- ---- What is made of streams

pub followed_well : (a b : Stream) → IsWell a → IsWell b → IsWell (followed a b)
followed_well Ended b h g = g
followed_well (Element name uri namespaces content rest) b h g = (h.0, h.1, h.2, followed_well rest b h.3 g)
followed_well (Nameless content rest) b h g = (h.0, followed_well rest b h.1 g)
followed_well (Attribute name uri content rest) b h g = followed_well rest b h g
followed_well (Namespace prefix uri rest) b h g = (h.0, followed_well rest b h.1 g)
followed_well (Text text rest) b h g = followed_well rest b h g
followed_well (Comment content rest) b h g = followed_well rest b h g
followed_well (Instruction target content rest) b h g = followed_well rest b h g
followed_well (Message content rest) b h g = followed_well rest b h g
followed_well (Hole rest) b h g = followed_well rest b h g

drop_well : (n : ℕ) (ss : List Stream) → AreWell ss → AreWell (drop n ss)
drop_well zero ss h = h
drop_well (suc n) [] h = tt
drop_well (suc n) (s ∷ ss) h = drop_well n ss h.1

first_well : (ss : List Stream) → AreWell ss → IsWell (first_of ss)
first_well [] h = tt
first_well (s ∷ ss) h = h.0

pub filled_well : (s : Stream) (parts : List Stream) → IsWell s → AreWell parts → IsWell (filled s parts)
filled_well Ended parts h g = tt
filled_well (Element name uri namespaces content rest) parts h g =
    (h.0, h.1, filled_well content parts h.2 g, filled_well rest (drop (holes content) parts) h.3 (drop_well (holes content) parts g))
filled_well (Nameless content rest) parts h g =
    (filled_well content parts h.0 g, filled_well rest (drop (holes content) parts) h.1 (drop_well (holes content) parts g))
filled_well (Attribute name uri content rest) parts h g = filled_well rest (drop (holes content) parts) h (drop_well (holes content) parts g)
filled_well (Namespace prefix uri rest) parts h g = (h.0, filled_well rest parts h.1 g)
filled_well (Text text rest) parts h g = filled_well rest parts h g
filled_well (Comment content rest) parts h g = filled_well rest (drop (holes content) parts) h (drop_well (holes content) parts g)
filled_well (Instruction target content rest) parts h g = filled_well rest (drop (holes content) parts) h (drop_well (holes content) parts g)
filled_well (Message content rest) parts h g = filled_well rest (drop (holes content) parts) h (drop_well (holes content) parts g)
filled_well (Hole rest) parts h g =
    followed_well (first_of parts) (filled rest (drop 1 parts)) (first_well parts g) (filled_well rest (drop 1 parts) h (drop_well 1 parts g))

pub quiet_well : (s : Stream) → IsWell s → IsWell (quiet s)
quiet_well Ended h = tt
quiet_well (Element name uri namespaces content rest) h = (h.0, h.1, quiet_well content h.2, quiet_well rest h.3)
quiet_well (Nameless content rest) h = (quiet_well content h.0, quiet_well rest h.1)
quiet_well (Attribute name uri content rest) h = quiet_well rest h
quiet_well (Namespace prefix uri rest) h = (h.0, quiet_well rest h.1)
quiet_well (Text text rest) h = quiet_well rest h
quiet_well (Comment content rest) h = quiet_well rest h
quiet_well (Instruction target content rest) h = quiet_well rest h
quiet_well (Message content rest) h = quiet_well rest h
quiet_well (Hole rest) h = quiet_well rest h

pub without_well : (s : Stream) → IsWell s → IsWell (without_attributes s)
without_well Ended h = tt
without_well (Element name uri namespaces content rest) h = (h.0, h.1, h.2, without_well rest h.3)
without_well (Nameless content rest) h = (without_well content h.0, without_well rest h.1)
without_well (Attribute name uri content rest) h = without_well rest h
without_well (Namespace prefix uri rest) h = without_well rest h.1
without_well (Text text rest) h = without_well rest h
without_well (Comment content rest) h = without_well rest h
without_well (Instruction target content rest) h = without_well rest h
without_well (Message content rest) h = without_well rest h
without_well (Hole rest) h = without_well rest h

-- ---- Sinks

abbrev pub IsWellWrapping : Wrapping → Type 0
IsWellWrapping (AsElement name uri namespaces) = IsQName name × AreNodes namespaces
IsWellWrapping AsNameless = Unit {0}
IsWellWrapping (AsAttribute name uri) = Unit {0}
IsWellWrapping AsComment = Unit {0}
IsWellWrapping (AsInstruction target) = Unit {0}
IsWellWrapping AsMessage = Unit {0}

pub wrapped_well : (how : Wrapping) (s : Stream) → IsWellWrapping how → IsWell s → IsWell (wrapped how s)
wrapped_well (AsElement name uri namespaces) s w h = (w.0, w.1, h, tt)
wrapped_well AsNameless s w h = (h, tt)
wrapped_well (AsAttribute name uri) s w h = tt
wrapped_well AsComment s w h = tt
wrapped_well (AsInstruction target) s w h = tt
wrapped_well AsMessage s w h = tt

pub top_well : (s top : Stream) (outer : List Stream) → IsWell s → IsWell top → AreWell outer → IsWell (top_after s top outer)
top_well s top [] h g k = g
top_well s top (o ∷ os) h g k = followed_well o s k.0 h

pub outer_well : (outer : List Stream) → AreWell outer → AreWell (outer_after outer)
outer_well [] h = tt
outer_well (o ∷ os) h = h.1

pub closed_well : (top : Stream) (outer : List Stream) → IsWell top → AreWell outer → IsWell (closed_in top outer)
closed_well top [] h g = h
closed_well top (o ∷ os) h g = closed_well (followed o _) os (followed_well o _ g.0 tt) g.1
