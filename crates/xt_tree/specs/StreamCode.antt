-- Streams as values that a model may have: each is one to one with a forest.
use Rattle.std.specs.Prelude.{◌≡◌, ◌==◌, ℕ, List, [], ◌∷◌, map, if◌then◌else◌}
use mathlib.Core.Path.{refl, ap}
use base.Stored.{Coded}
use Rattle.std.specs.Coded.{code_by}
use Rattle.spec_document.specs.Forest as forest
use Rattle.spec_meaning.specs.Stream.{Stream, Ended, Element, Nameless, Attribute, Namespace, Text, Comment, Instruction, Message, Hole}
use Rattle.xt_tree.specs.Code.{forest_code}

abbrev pub pair_to : List ℕ × List ℕ → forest.Written
pair_to n = record { name = n.0; value = n.1 }

abbrev pub pair_from : forest.Written → List ℕ × List ℕ
pair_from a = (a.name, a.value)

abbrev pub forest_to : Stream → forest.Forest ℕ
forest_to Ended = forest.Empty
forest_to (Element name uri namespaces content rest) =
    forest.Node 0 (forest.Element name (pair_to (uri, uri) ∷ map pair_to namespaces)) (forest_to content) (forest_to rest)
forest_to (Nameless content rest) = forest.Node 1 (forest.Text []) (forest_to content) (forest_to rest)
forest_to (Attribute name uri content rest) = forest.Node 2 (forest.Instruction name uri) (forest_to content) (forest_to rest)
forest_to (Namespace prefix uri rest) = forest.Node 3 (forest.Instruction prefix uri) forest.Empty (forest_to rest)
forest_to (Text text rest) = forest.Node 4 (forest.Text text) forest.Empty (forest_to rest)
forest_to (Comment content rest) = forest.Node 5 (forest.Text []) (forest_to content) (forest_to rest)
forest_to (Instruction target content rest) = forest.Node 6 (forest.Text target) (forest_to content) (forest_to rest)
forest_to (Message content rest) = forest.Node 7 (forest.Text []) (forest_to content) (forest_to rest)
forest_to (Hole rest) = forest.Node 8 (forest.Text []) forest.Empty (forest_to rest)

abbrev pub element_from : List ℕ → List forest.Written → Stream → Stream → Stream
element_from name [] content rest = Ended
element_from name (a ∷ more) content rest = Element name a.value (map pair_from more) content rest

abbrev pub pair_item : ℕ → (first second : List ℕ) → Stream → Stream → Stream
pair_item label first second content rest = if label == 2 then Attribute first second content rest else Namespace first second rest

abbrev pub text_item : ℕ → List ℕ → Stream → Stream → Stream
text_item label text content rest =
    if label == 1 then Nameless content rest
    else (if label == 4 then Text text rest
    else (if label == 5 then Comment content rest
    else (if label == 6 then Instruction text content rest else (if label == 7 then Message content rest else Hole rest))))

abbrev pub item_from : ℕ → forest.Content → Stream → Stream → Stream
item_from label (forest.Element name attributes) content rest = element_from name attributes content rest
item_from label (forest.Instruction first second) content rest = pair_item label first second content rest
item_from label (forest.Text text) content rest = text_item label text content rest
item_from label (forest.Comment text) content rest = Ended

abbrev pub stream_from : forest.Forest ℕ → Stream
stream_from forest.Empty = Ended
stream_from (forest.Node label content children siblings) = item_from label content (stream_from children) (stream_from siblings)

pub pairs_from : (namespaces : List (List ℕ × List ℕ)) → map pair_from (map pair_to namespaces) ≡ namespaces
pairs_from [] = refl
pairs_from (n ∷ ns) = ap (λ more. n ∷ more) (pairs_from ns)

pub stream_from-to : (s : Stream) → stream_from (forest_to s) ≡ s
stream_from-to Ended = refl
stream_from-to (Element name uri namespaces content rest) =
    let below = stream_from-to content in
    let after = stream_from-to rest in
    let pairs = pairs_from namespaces in
    λ i. Element name uri (pairs i) (below i) (after i)
stream_from-to (Nameless content rest) = let below = stream_from-to content in let after = stream_from-to rest in λ i. Nameless (below i) (after i)
stream_from-to (Attribute name uri content rest) = let below = stream_from-to content in let after = stream_from-to rest in
    λ i. Attribute name uri (below i) (after i)
stream_from-to (Namespace prefix uri rest) = ap (Namespace prefix uri) (stream_from-to rest)
stream_from-to (Text text rest) = ap (Text text) (stream_from-to rest)
stream_from-to (Comment content rest) = let below = stream_from-to content in let after = stream_from-to rest in λ i. Comment (below i) (after i)
stream_from-to (Instruction target content rest) = let below = stream_from-to content in let after = stream_from-to rest in
    λ i. Instruction target (below i) (after i)
stream_from-to (Message content rest) = let below = stream_from-to content in let after = stream_from-to rest in λ i. Message (below i) (after i)
stream_from-to (Hole rest) = ap Hole (stream_from-to rest)

abbrev pub stream_code : Coded Stream
stream_code = code_by (forest.Forest ℕ) forest_code forest_to stream_from stream_from-to
