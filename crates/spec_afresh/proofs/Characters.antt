-- Forests that are made of XML Chars, through what is done with siblings.
use Rattle.std.proofs.Common.{◌≡◌, ℕ, ◌+◌, ◌-◌, ◌==◌, true, false, cond, List, [], ◌∷◌, Option, None, Some, ◌∙◌, subst}
use Rattle.std.specs.Prelude.{IsTrue}
use Rattle.std.specs.Option.{option_and_then}
use Rattle.std.specs.List.{list_all}
use Rattle.std.proofs.lemmas.Bool.{and_from}
use Rattle.std.proofs.lemmas.List.Folds.{list_all-append}
use Rattle.spec_document.specs.Character.{is_char}
use Rattle.spec_document.specs.Forest.{Content, Element, Text, Comment, Instruction, Forest, Empty, Node, Document, plain, size, numbered, followed}
use Rattle.spec_document.specs.Place.{Found, root_of, found_in, child_at, node_from, node_at}
use Rattle.spec_document.specs.Top.{without_texts, kept}
use Rattle.spec_edit.specs.Splice.{first_siblings, later_siblings, replaced, content_replaced, below_changed, children_changed}
use Rattle.spec_edit.specs.Splice.{text_before, last_before, met, inserted, deleted}
use Rattle.spec_afresh.specs.Characters.{has_chars, HasChars}

-- ---- Other labels

pub chars-plain : {L : Type 0} (f : Forest L) → HasChars f → HasChars (plain f)
chars-plain Empty h = tt
chars-plain (Node l c f s) h = (h.0, chars-plain f h.1, chars-plain s h.2)

pub chars-of-plain : {L : Type 0} (f : Forest L) → HasChars (plain f) → HasChars f
chars-of-plain Empty h = tt
chars-of-plain (Node l c f s) h = (h.0, chars-of-plain f h.1, chars-of-plain s h.2)

pub chars-numbered : {L : Type 0} (n : ℕ) (f : Forest L) → HasChars f → HasChars (numbered n f)
chars-numbered n Empty h = tt
chars-numbered n (Node l c f s) h = (h.0, chars-numbered (n + 1) f h.1, chars-numbered (n + 1 + size f) s h.2)

-- ---- Some of the siblings

pub chars-without : {L : Type 0} (f : Forest L) → HasChars f → HasChars (without_texts f)
chars-without Empty h = tt
chars-without (Node l (Element m a) f s) h = (h.0, h.1, chars-without s h.2)
chars-without (Node l (Text t) f s) h = chars-without s h.2
chars-without (Node l (Comment t) f s) h = (h.0, h.1, chars-without s h.2)
chars-without (Node l (Instruction m t) f s) h = (h.0, h.1, chars-without s h.2)

pub chars-kept : {L : Type 0} (others : Option ℕ) (f : Forest L) → HasChars f → HasChars (kept others f)
chars-kept None f h = h
chars-kept (Some n) f h = chars-without f h

pub chars-first : {L : Type 0} (n : ℕ) (f : Forest L) → HasChars f → HasChars (first_siblings n f)
chars-first n Empty h = tt
chars-first n (Node l c f s) h =
    elim (n == 0) as (λ b. HasChars (cond b Empty (Node l c f (first_siblings (n - 1) s)))) [
      | true ↦ tt
      | false ↦ (h.0, h.1, chars-first (n - 1) s h.2)
    ]

pub chars-later : {L : Type 0} (n : ℕ) (f : Forest L) → HasChars f → HasChars (later_siblings n f)
chars-later n Empty h = tt
chars-later n (Node l c f s) h =
    elim (n == 0) as (λ b. HasChars (cond b (Node l c f s) (later_siblings (n - 1) s))) [
      | true ↦ h
      | false ↦ chars-later (n - 1) s h.2
    ]

-- ---- Siblings and others after them

pub chars-followed : {L : Type 0} (f g : Forest L) → HasChars f → HasChars g → HasChars (followed f g)
chars-followed Empty g h k = k
chars-followed (Node l c f s) g h k = (h.0, h.1, chars-followed s g h.2 k)

pub chars-replaced : {L : Type 0} (from to : ℕ) (others f : Forest L) → HasChars others → HasChars f → HasChars (replaced from to others f)
chars-replaced from to others f h k =
    chars-followed (first_siblings from f) (followed others (later_siblings to f)) (chars-first from f k)
    (chars-followed others (later_siblings to f) h (chars-later to f k))

chars-text : {L : Type 0} (l : L) (text : List ℕ) (f g : Forest L) → IsTrue (list_all is_char text) → HasChars f → HasChars g
    → HasChars (text_before l text f g)
chars-text l text f Empty own h k = (own, h, k)
chars-text l text f (Node m (Element n a) d s) own h k = (own, h, k)
chars-text l text f (Node m (Text t) d s) own h k =
    (list_all-append is_char text t ∙ and_from (list_all is_char text) (list_all is_char t) own k.0, h, k.2)
chars-text l text f (Node m (Comment t) d s) own h k = (own, h, k)
chars-text l text f (Node m (Instruction n t) d s) own h k = (own, h, k)

chars-last : {L : Type 0} (l : L) (c : Content) (f g : Forest L) → IsTrue (has_chars c) → HasChars f → HasChars g → HasChars (last_before l c f g)
chars-last l (Element n a) f g own h k = (own, h, k)
chars-last l (Text t) f g own h k = chars-text l t f g own h k
chars-last l (Comment t) f g own h k = (own, h, k)
chars-last l (Instruction n t) f g own h k = (own, h, k)

pub chars-met : {L : Type 0} (f g : Forest L) → HasChars f → HasChars g → HasChars (met f g)
chars-met Empty g h k = k
chars-met (Node l c f Empty) g h k = chars-last l c f g h.0 h.1 k
chars-met (Node l c f (Node m d e s)) g h k = (h.0, h.1, chars-met (Node m d e s) g h.2 k)

pub chars-inserted : {L : Type 0} (n : ℕ) (nodes f : Forest L) → HasChars nodes → HasChars f → HasChars (inserted n nodes f)
chars-inserted n nodes f h k =
    chars-met (first_siblings n f) (met nodes (later_siblings n f)) (chars-first n f k) (chars-met nodes (later_siblings n f) h (chars-later n f k))

pub chars-deleted : {L : Type 0} (n : ℕ) (f : Forest L) → HasChars f → HasChars (deleted n f)
chars-deleted n f h = chars-met (first_siblings n f) (later_siblings (n + 1) f) (chars-first n f h) (chars-later (n + 1) f h)

-- ---- Changes at a place

pub chars-content : {L : Type 0} (n : ℕ) (c : Content) (f : Forest L) → IsTrue (has_chars c) → HasChars f → HasChars (content_replaced n c f)
chars-content n new Empty own h = tt
chars-content n new (Node l c f s) own h =
    elim (n == 1) as (λ b. HasChars (cond b (Node l new f s) (Node l c f (content_replaced (n - 1) new s)))) [
      | true ↦ (own, h.1, h.2)
      | false ↦ (h.0, h.1, chars-content (n - 1) new s own h.2)
    ]

-- what keeps the characters of any siblings
abbrev pub KeepsChars : {L : Type 0} → (Forest L → Forest L) → Type 0
KeepsChars {L} change = (f : Forest L) → HasChars f → HasChars (change f)

chars-below : {L : Type 0} (change : Forest L → Forest L) → KeepsChars change → (n : ℕ) → KeepsChars (below_changed change n)
chars-below change keeps n Empty h = tt
chars-below change keeps n (Node l c f s) h =
    elim (n == 1) as (λ b. HasChars (cond b (Node l c (change f) s) (Node l c f (below_changed change (n - 1) s)))) [
      | true ↦ (h.0, keeps f h.1, h.2)
      | false ↦ (h.0, h.1, chars-below change keeps (n - 1) s h.2)
    ]

pub chars-changed : {L : Type 0} (change : Forest L → Forest L) → KeepsChars change → (ps : List ℕ) → KeepsChars (children_changed change ps)
chars-changed change keeps [] = keeps
chars-changed change keeps (p ∷ ps) = chars-below (children_changed change ps) (chars-changed change keeps ps) p

-- ---- The node at a path

abbrev pub content_has_chars : Option Content → Type 0
content_has_chars None = Unit {0}
content_has_chars (Some content) = IsTrue (has_chars content)

pub record FoundHasChars {L : Type 0} (node : Found L) : Type 0 where
  pub content : content_has_chars node.content
  pub children : HasChars node.children

abbrev IfFound : {L : Type 0} → Option (Found L) → Type 0
IfFound None = Unit {0}
IfFound (Some node) = FoundHasChars node

child-chars : {L : Type 0} (above : List Content) (f : Forest L) (n : ℕ) → HasChars f → IfFound (child_at above f n)
child-chars above Empty n h = tt
child-chars above (Node l c f s) n h =
    elim (n == 1) as (λ b. IfFound (cond b (Some (found_in above l c f)) (child_at above s (n - 1)))) [
      | true ↦ record { content = h.0; children = h.1 }
      | false ↦ child-chars above s (n - 1) h.2
    ]

then-found : {L : Type 0} (go : Found L → Option (Found L)) → ((node : Found L) → FoundHasChars node → IfFound (go node))
    → (o : Option (Found L)) → IfFound o → IfFound (option_and_then go o)
then-found go keeps None h = tt
then-found go keeps (Some node) h = keeps node h

from-chars : {L : Type 0} (ps : List ℕ) (node : Found L) → FoundHasChars node → IfFound (node_from ps node)
from-chars [] node h = h
from-chars (p ∷ ps) node h =
    then-found (node_from ps) (from-chars ps) (child_at node.above node.children p) (child-chars node.above node.children p h.children)

pub node-chars : {L : Type 0} (document : Document L) (ps : List ℕ) (node : Found L) → HasChars document.nodes → node_at document ps ≡ Some node
    → FoundHasChars node
node-chars document ps node h e = subst IfFound e (from-chars ps (root_of document) (record { content = tt; children = h }))
