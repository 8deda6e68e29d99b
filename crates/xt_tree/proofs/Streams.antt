-- Streams after streams, and streams with their holes filled.
use Rattle.std.proofs.Common.{◌≡◌, ◌∙◌, refl, sym, ap, ℕ, ◌+◌, List, [], ◌∷◌, ◌++◌, map, drop, arith}
use Rattle.std.proofs.lemmas.List.{drop-map, drop-drop}
use Rattle.spec_meaning.specs.Stream.{Stream, Ended, Element, Nameless, Attribute, Namespace, Text, Comment, Instruction, Message, Hole, followed}
use Rattle.spec_meaning.specs.Stream.{all_followed, holes, first_of, filled}
use Rattle.xt_tree.specs.StreamView.{item_step, items_step, single_of, stream_of, streams_of}
use Rattle.std.specs.declared.rc.Rc.{Rc}
use Rattle.std.specs.declared.alloc.Global.{Global}
use Rattle.xt_tree.specs.declared.items.Items.{Items, out-Items, fold_out-Items}
use Rattle.xt_tree.specs.declared.items.Item.{Item-F, fold-roll-Item}
use Rattle.xt_tree.specs.declared.items.Item.TheVariants as code

pub view-Items : (i : Items) → stream_of i ≡ all_followed (map single_of (out-Items i).list.items)
view-Items i = fold_out-Items Stream Stream item_step items_step i

pub view-Hole : single_of code.Hole ≡ Hole Ended
view-Hole = ap single_of (sym code.rolls-Hole) ∙ fold-roll-Item Stream Stream item_step items_step Item-F.Hole

pub view-Part : (items : Rc Items Global) → single_of (code.Part items) ≡ stream_of items.value
view-Part items = ap single_of (sym (code.rolls-Part items)) ∙ fold-roll-Item Stream Stream item_step items_step (Item-F.Part items)

pub followed-Ended : (s : Stream) → followed s Ended ≡ s
followed-Ended Ended = refl
followed-Ended (Element name uri namespaces content rest) = ap (Element name uri namespaces content) (followed-Ended rest)
followed-Ended (Nameless content rest) = ap (Nameless content) (followed-Ended rest)
followed-Ended (Attribute name uri content rest) = ap (Attribute name uri content) (followed-Ended rest)
followed-Ended (Namespace prefix uri rest) = ap (Namespace prefix uri) (followed-Ended rest)
followed-Ended (Text text rest) = ap (Text text) (followed-Ended rest)
followed-Ended (Comment content rest) = ap (Comment content) (followed-Ended rest)
followed-Ended (Instruction target content rest) = ap (Instruction target content) (followed-Ended rest)
followed-Ended (Message content rest) = ap (Message content) (followed-Ended rest)
followed-Ended (Hole rest) = ap Hole (followed-Ended rest)

pub followed-followed : (s t u : Stream) → followed (followed s t) u ≡ followed s (followed t u)
followed-followed Ended t u = refl
followed-followed (Element name uri namespaces content rest) t u = ap (Element name uri namespaces content) (followed-followed rest t u)
followed-followed (Nameless content rest) t u = ap (Nameless content) (followed-followed rest t u)
followed-followed (Attribute name uri content rest) t u = ap (Attribute name uri content) (followed-followed rest t u)
followed-followed (Namespace prefix uri rest) t u = ap (Namespace prefix uri) (followed-followed rest t u)
followed-followed (Text text rest) t u = ap (Text text) (followed-followed rest t u)
followed-followed (Comment content rest) t u = ap (Comment content) (followed-followed rest t u)
followed-followed (Instruction target content rest) t u = ap (Instruction target content) (followed-followed rest t u)
followed-followed (Message content rest) t u = ap (Message content) (followed-followed rest t u)
followed-followed (Hole rest) t u = ap Hole (followed-followed rest t u)

-- one stream more at the end
pub all_followed-more : (streams : List Stream) (s : Stream) → all_followed (streams ++ s ∷ []) ≡ followed (all_followed streams) s
all_followed-more [] s = followed-Ended s
all_followed-more (t ∷ streams) s = ap (followed t) (all_followed-more streams s) ∙ sym (followed-followed t (all_followed streams) s)

-- ---- Holes and parts, of streams after streams

pub holes-followed : (s t : Stream) → holes (followed s t) ≡ holes s + holes t
holes-followed Ended t = let none : holes t ≡ 0 + holes t = omega arith in none
holes-followed (Element name uri namespaces content rest) t =
    let more = holes-followed rest t in
    omega (arith, more)
holes-followed (Nameless content rest) t =
    let more = holes-followed rest t in
    omega (arith, more)
holes-followed (Attribute name uri content rest) t =
    let more = holes-followed rest t in
    omega (arith, more)
holes-followed (Namespace prefix uri rest) t = holes-followed rest t
holes-followed (Text text rest) t = holes-followed rest t
holes-followed (Comment content rest) t =
    let more = holes-followed rest t in
    omega (arith, more)
holes-followed (Instruction target content rest) t =
    let more = holes-followed rest t in
    omega (arith, more)
holes-followed (Message content rest) t =
    let more = holes-followed rest t in
    omega (arith, more)
holes-followed (Hole rest) t =
    let more = holes-followed rest t in
    omega (arith, more)

pub filled-followed : (s t : Stream) (parts : List Stream) → filled (followed s t) parts ≡ followed (filled s parts) (filled t (drop (holes s) parts))
filled-followed Ended t parts = refl
filled-followed (Element name uri namespaces content rest) t parts =
    ap (Element name uri namespaces (filled content parts)) (filled-followed rest t (drop (holes content) parts))
    ∙ ap (λ ps. Element name uri namespaces (filled content parts) (followed (filled rest (drop (holes content) parts)) (filled t ps)))
    (drop-drop (holes rest) (holes content) parts)
filled-followed (Nameless content rest) t parts =
    ap (Nameless (filled content parts)) (filled-followed rest t (drop (holes content) parts))
    ∙ ap (λ ps. Nameless (filled content parts) (followed (filled rest (drop (holes content) parts)) (filled t ps)))
    (drop-drop (holes rest) (holes content) parts)
filled-followed (Attribute name uri content rest) t parts =
    ap (Attribute name uri (filled content parts)) (filled-followed rest t (drop (holes content) parts))
    ∙ ap (λ ps. Attribute name uri (filled content parts) (followed (filled rest (drop (holes content) parts)) (filled t ps)))
    (drop-drop (holes rest) (holes content) parts)
filled-followed (Namespace prefix uri rest) t parts = ap (Namespace prefix uri) (filled-followed rest t parts)
filled-followed (Text text rest) t parts = ap (Text text) (filled-followed rest t parts)
filled-followed (Comment content rest) t parts =
    ap (Comment (filled content parts)) (filled-followed rest t (drop (holes content) parts))
    ∙ ap (λ ps. Comment (filled content parts) (followed (filled rest (drop (holes content) parts)) (filled t ps)))
    (drop-drop (holes rest) (holes content) parts)
filled-followed (Instruction target content rest) t parts =
    ap (Instruction target (filled content parts)) (filled-followed rest t (drop (holes content) parts))
    ∙ ap (λ ps. Instruction target (filled content parts) (followed (filled rest (drop (holes content) parts)) (filled t ps)))
    (drop-drop (holes rest) (holes content) parts)
filled-followed (Message content rest) t parts =
    ap (Message (filled content parts)) (filled-followed rest t (drop (holes content) parts))
    ∙ ap (λ ps. Message (filled content parts) (followed (filled rest (drop (holes content) parts)) (filled t ps)))
    (drop-drop (holes rest) (holes content) parts)
filled-followed (Hole rest) t parts =
    ap (followed (first_of parts)) (filled-followed rest t (drop 1 parts))
    ∙ sym (followed-followed (first_of parts) (filled rest (drop 1 parts)) (filled t (drop (holes rest) (drop 1 parts))))
    ∙ ap (λ ps. followed (followed (first_of parts) (filled rest (drop 1 parts))) (filled t ps)) (drop-drop (holes rest) 1 parts)

-- ---- A stream without holes

neither : (a b : ℕ) → a + b ≡ 0 → (a ≡ 0) × (b ≡ 0)
neither a b h = (omega (arith, h), omega (arith, h))

-- what has a content and a rest
both : (make : Stream → Stream → Stream) (content rest : Stream) (parts : List Stream) → holes content + holes rest ≡ 0
    → (holes content ≡ 0 → (ps : List Stream) → filled content ps ≡ content)
    → (holes rest ≡ 0 → (ps : List Stream) → filled rest ps ≡ rest)
    → make (filled content parts) (filled rest (drop (holes content) parts)) ≡ make content rest
both make content rest parts h below after =
    let none = neither (holes content) (holes rest) h in
    λ i. make (below none.0 parts i) (after none.1 (drop (holes content) parts) i)

pub filled-none : (s : Stream) → holes s ≡ 0 → (parts : List Stream) → filled s parts ≡ s
filled-none Ended h parts = refl
filled-none (Element name uri namespaces content rest) h parts =
    both (Element name uri namespaces) content rest parts h (filled-none content) (filled-none rest)
filled-none (Nameless content rest) h parts = both Nameless content rest parts h (filled-none content) (filled-none rest)
filled-none (Attribute name uri content rest) h parts = both (Attribute name uri) content rest parts h (filled-none content) (filled-none rest)
filled-none (Namespace prefix uri rest) h parts = ap (Namespace prefix uri) (filled-none rest h parts)
filled-none (Text text rest) h parts = ap (Text text) (filled-none rest h parts)
filled-none (Comment content rest) h parts = both Comment content rest parts h (filled-none content) (filled-none rest)
filled-none (Instruction target content rest) h parts = both (Instruction target) content rest parts h (filled-none content) (filled-none rest)
filled-none (Message content rest) h parts = both Message content rest parts h (filled-none content) (filled-none rest)
filled-none (Hole rest) h parts = absurd (omega (arith, h))

-- the first item of several, and the parts for those after it
pub filled_first : (s t : Stream) (next : ℕ) (parts : List (Rc Items Global))
    → filled (followed s t) (streams_of (drop next parts))
    ≡ followed (filled s (streams_of (drop next parts))) (filled t (streams_of (drop (next + holes s) parts)))
filled_first s t next parts =
    filled-followed s t (streams_of (drop next parts))
    ∙ ap (λ ps. followed (filled s (streams_of (drop next parts))) (filled t ps))
    (drop-map (λ p. stream_of p.value) (holes s) (drop next parts) ∙ ap streams_of (drop-drop (holes s) next parts))
