-- What is left out of streams after streams, and parts for all of their holes.
use Rattle.std.proofs.Common.{◌≡◌, ◌∙◌, refl, sym, ap, ℕ, zero, suc, ◌+◌, ◌-◌, ◌<◌, ◌≤◌, Bool, true, false, ◌||◌, List, ◌∷◌, drop, Global, arith}
use Rattle.std.specs.declared.rc.Rc.{Rc}
use Rattle.std.proofs.lemmas.Bool.{or_parts}
use Rattle.std.proofs.lemmas.List.{drop-drop}
use Rattle.spec_meaning.specs.Stream.{Stream, Ended, Element, Nameless, Attribute, Namespace, Text, Comment, Instruction, Message, Hole, followed, holes, first_of, filled}
use Rattle.spec_run.specs.Direct.{quiet}
use Rattle.spec_run.specs.Copy.{without_attributes}
use Rattle.xt_names.specs.declared.namespace.Namespace as names
use Rattle.xt_tree.specs.declared.items.Items.{Items}
use Rattle.xt_tree.specs.declared.items.Item.{Item-F, fold-roll-Item}
use Rattle.xt_tree.specs.declared.items.Item.TheVariants as code
use Rattle.xt_tree.specs.StreamView.{item_step, items_step, single_of, stream_of}
use Rattle.xt_streams.specs.Parts.{as_many, has_message, has_attribute}

-- ---- The items that are left out

pub view_Message : (content : Rc Items Global) → single_of (code.Message content) ≡ Message (stream_of content.value) Ended
view_Message content = ap single_of (sym (code.rolls-Message content)) ∙ fold-roll-Item Stream Stream item_step items_step (Item-F.Message content)

pub view_Attribute : (name uri : List ℕ) (content : Rc Items Global) → single_of (code.Attribute name uri content) ≡ Attribute name uri (stream_of content.value) Ended
view_Attribute name uri content = ap single_of (sym (code.rolls-Attribute name uri content)) ∙ fold-roll-Item Stream Stream item_step items_step (Item-F.Attribute name uri content)

pub view_Namespace : (n : names.Namespace) → single_of (code.Namespace n) ≡ Namespace n.prefix n.uri Ended
view_Namespace n = ap single_of (sym (code.rolls-Namespace n)) ∙ fold-roll-Item Stream Stream item_step items_step (Item-F.Namespace n)

-- ---- Messages

pub quiet_followed : (s t : Stream) → quiet (followed s t) ≡ followed (quiet s) (quiet t)
quiet_followed Ended t = refl
quiet_followed (Element n u ns k r) o = ap (Element n u ns (quiet k)) (quiet_followed r o)
quiet_followed (Nameless k r) o = ap (Nameless (quiet k)) (quiet_followed r o)
quiet_followed (Attribute n u k r) o = ap (Attribute n u (quiet k)) (quiet_followed r o)
quiet_followed (Comment k r) o = ap (Comment (quiet k)) (quiet_followed r o)
quiet_followed (Instruction t k r) o = ap (Instruction t (quiet k)) (quiet_followed r o)
quiet_followed (Message k r) o = quiet_followed r o
quiet_followed (Namespace p u r) o = ap (Namespace p u) (quiet_followed r o)
quiet_followed (Text x r) o = ap (Text x) (quiet_followed r o)
quiet_followed (Hole r) o = ap Hole (quiet_followed r o)

or_more : (a b c d : Bool) → b ≡ (c || d) → (a || b) ≡ ((a || c) || d)
or_more true b c d e = refl
or_more false b c d e = e

pub message_followed : (s t : Stream) → has_message (followed s t) ≡ (has_message s || has_message t)
message_followed Ended t = refl
message_followed (Element n u ns k r) o = or_more (has_message k) (has_message (followed r o)) (has_message r) (has_message o) (message_followed r o)
message_followed (Nameless k r) o = or_more (has_message k) (has_message (followed r o)) (has_message r) (has_message o) (message_followed r o)
message_followed (Attribute n u k r) o = or_more (has_message k) (has_message (followed r o)) (has_message r) (has_message o) (message_followed r o)
message_followed (Comment k r) o = or_more (has_message k) (has_message (followed r o)) (has_message r) (has_message o) (message_followed r o)
message_followed (Instruction t k r) o = or_more (has_message k) (has_message (followed r o)) (has_message r) (has_message o) (message_followed r o)
message_followed (Message k r) o = refl
message_followed (Namespace p u r) o = message_followed r o
message_followed (Text x r) o = message_followed r o
message_followed (Hole r) o = message_followed r o

both_quiet : (make : Stream → Stream → Stream) (k r : Stream) → (has_message k || has_message r) ≡ false
    → (has_message k ≡ false → quiet k ≡ k) → (has_message r ≡ false → quiet r ≡ r) → make (quiet k) (quiet r) ≡ make k r
both_quiet make k r h below after =
    let none = or_parts (has_message k) (has_message r) h in
    λ i. make (below none.0 i) (after none.1 i)

-- where there is none
pub quiet_none : (s : Stream) → has_message s ≡ false → quiet s ≡ s
quiet_none Ended h = refl
quiet_none (Element n u ns k r) h = both_quiet (Element n u ns) k r h (quiet_none k) (quiet_none r)
quiet_none (Nameless k r) h = both_quiet (Nameless) k r h (quiet_none k) (quiet_none r)
quiet_none (Attribute n u k r) h = both_quiet (Attribute n u) k r h (quiet_none k) (quiet_none r)
quiet_none (Comment k r) h = both_quiet (Comment) k r h (quiet_none k) (quiet_none r)
quiet_none (Instruction t k r) h = both_quiet (Instruction t) k r h (quiet_none k) (quiet_none r)
quiet_none (Message k r) h = absurd (cc)
quiet_none (Namespace p u r) h = ap (Namespace p u) (quiet_none r h)
quiet_none (Text x r) h = ap (Text x) (quiet_none r h)
quiet_none (Hole r) h = ap Hole (quiet_none r h)

-- ---- Attributes and namespace nodes

pub nodes_followed : (s t : Stream) → without_attributes (followed s t) ≡ followed (without_attributes s) (without_attributes t)
nodes_followed Ended t = refl
nodes_followed (Element n u ns k r) o = ap (Element n u ns k) (nodes_followed r o)
nodes_followed (Nameless k r) o = ap (Nameless (without_attributes k)) (nodes_followed r o)
nodes_followed (Attribute n u k r) o = nodes_followed r o
nodes_followed (Comment k r) o = ap (Comment k) (nodes_followed r o)
nodes_followed (Instruction t k r) o = ap (Instruction t k) (nodes_followed r o)
nodes_followed (Message k r) o = ap (Message k) (nodes_followed r o)
nodes_followed (Namespace p u r) o = nodes_followed r o
nodes_followed (Text x r) o = ap (Text x) (nodes_followed r o)
nodes_followed (Hole r) o = ap Hole (nodes_followed r o)

pub attribute_followed : (s t : Stream) → has_attribute (followed s t) ≡ (has_attribute s || has_attribute t)
attribute_followed Ended t = refl
attribute_followed (Element n u ns k r) o = attribute_followed r o
attribute_followed (Nameless k r) o = or_more (has_attribute k) (has_attribute (followed r o)) (has_attribute r) (has_attribute o) (attribute_followed r o)
attribute_followed (Attribute n u k r) o = refl
attribute_followed (Comment k r) o = attribute_followed r o
attribute_followed (Instruction t k r) o = attribute_followed r o
attribute_followed (Message k r) o = attribute_followed r o
attribute_followed (Namespace p u r) o = refl
attribute_followed (Text x r) o = attribute_followed r o
attribute_followed (Hole r) o = attribute_followed r o

-- where there is none
pub nodes_none : (s : Stream) → has_attribute s ≡ false → without_attributes s ≡ s
nodes_none Ended h = refl
nodes_none (Element n u ns k r) h = ap (Element n u ns k) (nodes_none r h)
nodes_none (Nameless k r) h =
    let none = or_parts (has_attribute k) (has_attribute r) h in
    λ i. Nameless (nodes_none k none.0 i) (nodes_none r none.1 i)
nodes_none (Attribute n u k r) h = absurd (cc)
nodes_none (Comment k r) h = ap (Comment k) (nodes_none r h)
nodes_none (Instruction t k r) h = ap (Instruction t k) (nodes_none r h)
nodes_none (Message k r) h = ap (Message k) (nodes_none r h)
nodes_none (Namespace p u r) h = absurd (cc)
nodes_none (Text x r) h = ap (Text x) (nodes_none r h)
nodes_none (Hole r) h = ap Hole (nodes_none r h)

-- no hole is made
pub nodes_holes : (s : Stream) → holes (without_attributes s) ≤ holes s
nodes_holes Ended = omega arith
nodes_holes (Element n u ns k r) = let less = nodes_holes r in omega (arith, less)
nodes_holes (Nameless k r) = let inner = nodes_holes k in let less = nodes_holes r in omega (arith, inner, less)
nodes_holes (Attribute n u k r) = let less = nodes_holes r in omega (arith, less)
nodes_holes (Comment k r) = let less = nodes_holes r in omega (arith, less)
nodes_holes (Instruction t k r) = let less = nodes_holes r in omega (arith, less)
nodes_holes (Message k r) = let less = nodes_holes r in omega (arith, less)
nodes_holes (Namespace p u r) = nodes_holes r
nodes_holes (Text x r) = nodes_holes r
nodes_holes (Hole r) = let less = nodes_holes r in omega (arith, less)

-- ---- As many parts as there are holes

drop_many : (k n m : ℕ) (parts : List Stream) → n ≡ k + m → drop k (as_many n parts) ≡ as_many m (drop k parts)
drop_many zero n m parts h = let e : n ≡ m = omega (arith, h) in ap (λ j. as_many j parts) e
drop_many (suc k) zero m parts h = absurd (omega (arith, h))
drop_many (suc k) (suc n) m parts h =
    let e : 1 + k ≡ suc k = omega arith in
    drop_many k n m (drop 1 parts) (omega (arith, h)) ∙ ap (as_many m) (drop-drop k 1 parts ∙ ap (λ j. drop j parts) e)

-- what has a content and a rest
both_filled : (make : Stream → Stream → Stream) (k r : Stream) (n : ℕ) (parts : List Stream) → holes k + holes r ≤ n
    → ((m : ℕ) (ps : List Stream) → holes k ≤ m → filled k (as_many m ps) ≡ filled k ps)
    → ((m : ℕ) (ps : List Stream) → holes r ≤ m → filled r (as_many m ps) ≡ filled r ps)
    → make (filled k (as_many n parts)) (filled r (drop (holes k) (as_many n parts))) ≡ make (filled k parts) (filled r (drop (holes k) parts))
both_filled make k r n parts h below after =
    let m = n - holes k in
    let left = drop_many (holes k) n m parts (omega (arith, h)) in
    λ i. make (below n parts (omega (arith, h)) i) ((ap (filled r) left ∙ after m (drop (holes k) parts) (omega (arith, h))) i)

pub many_next : (count i : ℕ) (parts : List Stream) → i < count → as_many (count - i) (drop i parts) ≡ first_of (drop i parts) ∷ as_many (count - (i + 1)) (drop (i + 1) parts)
many_next count i parts h =
    let e : count - i ≡ suc (count - (i + 1)) = omega (arith, h) in
    ap (λ n. as_many n (drop i parts)) e ∙ ap (λ ps. first_of (drop i parts) ∷ as_many (count - (i + 1)) ps) (drop-drop 1 i parts)

pub filled_many : (s : Stream) (n : ℕ) (parts : List Stream) → holes s ≤ n → filled s (as_many n parts) ≡ filled s parts
filled_many Ended n parts h = refl
filled_many (Element n u ns k r) m parts h = both_filled (Element n u ns) k r m parts h (filled_many k) (filled_many r)
filled_many (Nameless k r) m parts h = both_filled (Nameless) k r m parts h (filled_many k) (filled_many r)
filled_many (Attribute n u k r) m parts h = both_filled (Attribute n u) k r m parts h (filled_many k) (filled_many r)
filled_many (Comment k r) m parts h = both_filled (Comment) k r m parts h (filled_many k) (filled_many r)
filled_many (Instruction t k r) m parts h = both_filled (Instruction t) k r m parts h (filled_many k) (filled_many r)
filled_many (Message k r) m parts h = both_filled (Message) k r m parts h (filled_many k) (filled_many r)
filled_many (Namespace p u r) m parts h = ap (Namespace p u) (filled_many r m parts h)
filled_many (Text x r) m parts h = ap (Text x) (filled_many r m parts h)
filled_many (Hole r) zero parts h = absurd (omega (arith, h))
filled_many (Hole r) (suc m) parts h = ap (followed (first_of parts)) (filled_many r m (drop 1 parts) (omega (arith, h)))
