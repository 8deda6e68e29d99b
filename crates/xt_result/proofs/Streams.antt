-- What is said of a stream, of one stream and another after it.
use Rattle.std.proofs.Common.{◌≡◌, ◌∙◌, refl, sym, ap, ℕ, Bool, true, false, List, [], ◌∷◌, ◌++◌, append_assoc}
use Rattle.std.specs.Prelude.{◌||◌, if◌then◌else◌}
use Rattle.spec_document.specs.Declaration.{is_there}
use Rattle.spec_meaning.specs.Stream.{Stream, Ended, Element, Nameless, Attribute, Namespace, Text, Comment, Instruction, Message, Hole, followed, texts_of}
use Rattle.spec_result.specs.Recovery.{NamespaceNode, Given, Standing, AComment, AnInstruction, has_child, value_of, attributes_of, given_by, namespaces_of, all_added, added_to}
use Rattle.spec_result.specs.Recovery.{text_before, comment_text, instruction_text, standing_before, messages_of}
use Rattle.spec_result.specs.Shape.{Opening, with_nodes, with_node}

pub texts_of-followed : (s t : Stream) → texts_of (followed s t) ≡ texts_of s ++ texts_of t
texts_of-followed Ended t = refl
texts_of-followed (Element name uri namespaces content rest) t =
    ap (λ more. texts_of content ++ more) (texts_of-followed rest t) ∙ sym (append_assoc (texts_of content) (texts_of rest) (texts_of t))
texts_of-followed (Nameless content rest) t =
    ap (λ more. texts_of content ++ more) (texts_of-followed rest t) ∙ sym (append_assoc (texts_of content) (texts_of rest) (texts_of t))
texts_of-followed (Attribute name uri content rest) t = texts_of-followed rest t
texts_of-followed (Namespace prefix uri rest) t = texts_of-followed rest t
texts_of-followed (Text text rest) t =
    ap (λ more. text ++ more) (texts_of-followed rest t) ∙ sym (append_assoc text (texts_of rest) (texts_of t))
texts_of-followed (Comment content rest) t = texts_of-followed rest t
texts_of-followed (Instruction target content rest) t = texts_of-followed rest t
texts_of-followed (Message content rest) t = texts_of-followed rest t
texts_of-followed (Hole rest) t = texts_of-followed rest t

pub value_of-followed : (s t : Stream) → value_of (followed s t) ≡ value_of s ++ value_of t
value_of-followed Ended t = refl
value_of-followed (Element name uri namespaces content rest) t = value_of-followed rest t
value_of-followed (Nameless content rest) t =
    ap (λ more. value_of content ++ more) (value_of-followed rest t) ∙ sym (append_assoc (value_of content) (value_of rest) (value_of t))
value_of-followed (Attribute name uri content rest) t = value_of-followed rest t
value_of-followed (Namespace prefix uri rest) t = value_of-followed rest t
value_of-followed (Text text rest) t =
    ap (λ more. text ++ more) (value_of-followed rest t) ∙ sym (append_assoc text (value_of rest) (value_of t))
value_of-followed (Comment content rest) t = value_of-followed rest t
value_of-followed (Instruction target content rest) t = value_of-followed rest t
value_of-followed (Message content rest) t = value_of-followed rest t
value_of-followed (Hole rest) t = value_of-followed rest t

after : (xs : List (List ℕ)) (rest whole t : List (List ℕ)) → whole ≡ rest ++ t → xs ++ whole ≡ xs ++ rest ++ t
after xs rest whole t e = ap (λ more. xs ++ more) e ∙ sym (append_assoc xs rest t)

pub messages_of-followed : (s t : Stream) → messages_of (followed s t) ≡ messages_of s ++ messages_of t
messages_of-followed Ended t = refl
messages_of-followed (Element name uri namespaces content rest) t =
    after (messages_of content) (messages_of rest) (messages_of (followed rest t)) (messages_of t) (messages_of-followed rest t)
messages_of-followed (Nameless content rest) t =
    after (messages_of content) (messages_of rest) (messages_of (followed rest t)) (messages_of t) (messages_of-followed rest t)
messages_of-followed (Attribute name uri content rest) t =
    after (messages_of content) (messages_of rest) (messages_of (followed rest t)) (messages_of t) (messages_of-followed rest t)
messages_of-followed (Namespace prefix uri rest) t = messages_of-followed rest t
messages_of-followed (Text text rest) t = messages_of-followed rest t
messages_of-followed (Comment content rest) t =
    after (messages_of content) (messages_of rest) (messages_of (followed rest t)) (messages_of t) (messages_of-followed rest t)
messages_of-followed (Instruction target content rest) t =
    after (messages_of content) (messages_of rest) (messages_of (followed rest t)) (messages_of t) (messages_of-followed rest t)
messages_of-followed (Message content rest) t =
    after (messages_of content) (texts_of content ∷ messages_of rest) (texts_of content ∷ messages_of (followed rest t)) (messages_of t)
    (ap (λ more. texts_of content ∷ more) (messages_of-followed rest t))
messages_of-followed (Hole rest) t = messages_of-followed rest t

-- ---- No messages

pub none_first : {X : Type 0} (xs ys : List X) → xs ++ ys ≡ [] → xs ≡ []
none_first [] ys e = refl
none_first (x ∷ xs) ys e = absurd (cc)

-- ---- What a content begins with

or-assoc : (a b c : Bool) → (a || (b || c)) ≡ ((a || b) || c)
or-assoc true b c = refl
or-assoc false b c = refl

pub has_child-followed : (s t : Stream) → has_child (followed s t) ≡ (has_child s || has_child t)
has_child-followed Ended t = refl
has_child-followed (Element name uri namespaces content rest) t = refl
has_child-followed (Nameless content rest) t =
    ap (λ b. has_child content || b) (has_child-followed rest t) ∙ or-assoc (has_child content) (has_child rest) (has_child t)
has_child-followed (Attribute name uri content rest) t = has_child-followed rest t
has_child-followed (Namespace prefix uri rest) t = has_child-followed rest t
has_child-followed (Text text rest) t =
    ap (λ b. is_there text || b) (has_child-followed rest t) ∙ or-assoc (is_there text) (has_child rest) (has_child t)
has_child-followed (Comment content rest) t = refl
has_child-followed (Instruction target content rest) t = refl
has_child-followed (Message content rest) t = has_child-followed rest t
has_child-followed (Hole rest) t = has_child-followed rest t

-- a child of the first ends what is collected; without one it goes on
ended_at : {X : Type 0} (b h : Bool) (xs ys : List X) → (b || h) ≡ true → (h ≡ true → xs ≡ ys) → (if b then [] else xs) ≡ (if b then [] else ys)
ended_at true h xs ys e go = refl
ended_at false h xs ys e go = go e

on_from : {X : Type 0} (b h : Bool) (xs ys zs : List X) → (b || h) ≡ false → (h ≡ false → xs ≡ ys ++ zs) → (if b then [] else xs) ≡ (if b then [] else ys) ++ zs
on_from true h xs ys zs e go = absurd (cc)
on_from false h xs ys zs e go = go e

left_of : (a b : Bool) → (a || b) ≡ false → a ≡ false
left_of true b e = absurd (cc)
left_of false b e = refl

pub attributes_of-child : (s t : Stream) → has_child s ≡ true → attributes_of (followed s t) ≡ attributes_of s
attributes_of-child Ended t e = absurd (cc)
attributes_of-child (Element name uri namespaces content rest) t e = refl
attributes_of-child (Nameless content rest) t e =
    ended_at (has_child content) (has_child rest) (attributes_of (followed rest t)) (attributes_of rest) e (attributes_of-child rest t)
attributes_of-child (Attribute name uri content rest) t e = ap (λ more. given_by name uri (value_of content) ++ more) (attributes_of-child rest t e)
attributes_of-child (Namespace prefix uri rest) t e = attributes_of-child rest t e
attributes_of-child (Text text rest) t e =
    ended_at (is_there text) (has_child rest) (attributes_of (followed rest t)) (attributes_of rest) e (attributes_of-child rest t)
attributes_of-child (Comment content rest) t e = refl
attributes_of-child (Instruction target content rest) t e = refl
attributes_of-child (Message content rest) t e = attributes_of-child rest t e
attributes_of-child (Hole rest) t e = attributes_of-child rest t e

pub attributes_of-more : (s t : Stream) → has_child s ≡ false → attributes_of (followed s t) ≡ attributes_of s ++ attributes_of t
attributes_of-more Ended t e = refl
attributes_of-more (Element name uri namespaces content rest) t e = absurd (cc)
attributes_of-more (Nameless content rest) t e =
    on_from (has_child content) (has_child rest) (attributes_of (followed rest t)) (attributes_of rest) (attributes_of t) e (attributes_of-more rest t)
attributes_of-more (Attribute name uri content rest) t e =
    ap (λ more. given_by name uri (value_of content) ++ more) (attributes_of-more rest t e)
    ∙ sym (append_assoc (given_by name uri (value_of content)) (attributes_of rest) (attributes_of t))
attributes_of-more (Namespace prefix uri rest) t e = attributes_of-more rest t e
attributes_of-more (Text text rest) t e =
    on_from (is_there text) (has_child rest) (attributes_of (followed rest t)) (attributes_of rest) (attributes_of t) e (attributes_of-more rest t)
attributes_of-more (Comment content rest) t e = absurd (cc)
attributes_of-more (Instruction target content rest) t e = absurd (cc)
attributes_of-more (Message content rest) t e = attributes_of-more rest t e
attributes_of-more (Hole rest) t e = attributes_of-more rest t e

pub namespaces_of-child : (s t : Stream) → has_child s ≡ true → namespaces_of (followed s t) ≡ namespaces_of s
namespaces_of-child Ended t e = absurd (cc)
namespaces_of-child (Element name uri namespaces content rest) t e = refl
namespaces_of-child (Nameless content rest) t e =
    ap (λ more. namespaces_of content ++ more)
    (ended_at (has_child content) (has_child rest) (namespaces_of (followed rest t)) (namespaces_of rest) e (namespaces_of-child rest t))
namespaces_of-child (Attribute name uri content rest) t e = namespaces_of-child rest t e
namespaces_of-child (Namespace prefix uri rest) t e = ap (λ more. (prefix, uri) ∷ more) (namespaces_of-child rest t e)
namespaces_of-child (Text text rest) t e =
    ended_at (is_there text) (has_child rest) (namespaces_of (followed rest t)) (namespaces_of rest) e (namespaces_of-child rest t)
namespaces_of-child (Comment content rest) t e = refl
namespaces_of-child (Instruction target content rest) t e = refl
namespaces_of-child (Message content rest) t e = namespaces_of-child rest t e
namespaces_of-child (Hole rest) t e = namespaces_of-child rest t e

pub namespaces_of-more : (s t : Stream) → has_child s ≡ false → namespaces_of (followed s t) ≡ namespaces_of s ++ namespaces_of t
namespaces_of-more Ended t e = refl
namespaces_of-more (Element name uri namespaces content rest) t e = absurd (cc)
namespaces_of-more (Nameless content rest) t e =
    let own = namespaces_of content in
    let later = if has_child content then [] else namespaces_of rest in
    ap (λ more. own ++ more)
    (on_from (has_child content) (has_child rest) (namespaces_of (followed rest t)) (namespaces_of rest) (namespaces_of t) e (namespaces_of-more rest t))
    ∙ sym (append_assoc own later (namespaces_of t))
namespaces_of-more (Attribute name uri content rest) t e = namespaces_of-more rest t e
namespaces_of-more (Namespace prefix uri rest) t e = ap (λ more. (prefix, uri) ∷ more) (namespaces_of-more rest t e)
namespaces_of-more (Text text rest) t e =
    on_from (is_there text) (has_child rest) (namespaces_of (followed rest t)) (namespaces_of rest) (namespaces_of t) e (namespaces_of-more rest t)
namespaces_of-more (Comment content rest) t e = absurd (cc)
namespaces_of-more (Instruction target content rest) t e = absurd (cc)
namespaces_of-more (Message content rest) t e = namespaces_of-more rest t e
namespaces_of-more (Hole rest) t e = namespaces_of-more rest t e

pub all_added-append : (done xs ys : List Given) → all_added done (xs ++ ys) ≡ all_added (all_added done xs) ys
all_added-append done [] ys = refl
all_added-append done (x ∷ xs) ys = all_added-append (added_to done x) xs ys

pub with_nodes-append : (xs ys : List NamespaceNode) (o : Opening) → with_nodes (xs ++ ys) o ≡ with_nodes ys (with_nodes xs o)
with_nodes-append [] ys o = refl
with_nodes-append (x ∷ xs) ys o = with_nodes-append xs ys (with_node x o)

-- ---- The whole

pub standing_before-followed : (s t : Stream) (behind : Standing) → standing_before (followed s t) behind ≡ standing_before s (standing_before t behind)
standing_before-followed Ended t behind = refl
standing_before-followed (Element name uri namespaces content rest) t behind =
    ap (λ o. standing_before (Element name uri namespaces content Ended) o) (standing_before-followed rest t behind)
standing_before-followed (Nameless content rest) t behind = ap (λ o. standing_before content o) (standing_before-followed rest t behind)
standing_before-followed (Attribute name uri content rest) t behind = standing_before-followed rest t behind
standing_before-followed (Namespace prefix uri rest) t behind = standing_before-followed rest t behind
standing_before-followed (Text text rest) t behind = ap (λ o. text_before text o) (standing_before-followed rest t behind)
standing_before-followed (Comment content rest) t behind =
    ap (λ o. AComment (comment_text (value_of content)) o) (standing_before-followed rest t behind)
standing_before-followed (Instruction target content rest) t behind =
    ap (λ o. AnInstruction target (instruction_text (value_of content)) o) (standing_before-followed rest t behind)
standing_before-followed (Message content rest) t behind = standing_before-followed rest t behind
standing_before-followed (Hole rest) t behind = standing_before-followed rest t behind
