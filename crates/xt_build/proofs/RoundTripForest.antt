-- Forests with other labels, and without the texts at the top.
use Rattle.std.proofs.Common.{◌≡◌, ◌≢◌, ℕ, ◌+◌, List, [], ◌∷◌, ◌++◌, map, length, refl, sym, ap, ◌∙◌, subst, arith}
use Rattle.std.proofs.Common.{length-append}
use Rattle.spec_document.specs.declared.event.Event.{Event}
use Rattle.spec_document.specs.declared.event.Event.TheVariants.{Start, End, Data, Instruction as InstructionEvent, Comment as CommentEvent}
use Rattle.spec_document.specs.Forest.{Element, Text, Comment, Instruction, Forest, Empty, Node, Plain, plain, with_text, attribute_event, IsForestOf}
use Rattle.spec_document.specs.Forest.{is_empty, is_element, is_text, is_comment, is_instruction, IsNormal, written, size, labels, numbered}
use Rattle.spec_document.specs.Top.{without_texts}

-- ---- Normal forests

not_empty : {c : ℕ} {cs : List ℕ} → (c ∷ cs) ≢ []
not_empty e = cc

text_normal : (text : List ℕ) (f : Plain) → IsNormal f → IsNormal (with_text text f)
text_normal [] f n = n
text_normal (c ∷ cs) Empty n = (refl, not_empty, tt, tt)
text_normal (c ∷ cs) (Node l (Text t) children siblings) n = (n.0, not_empty, n.2, n.3)
text_normal (c ∷ cs) (Node l (Element name a) children siblings) n = (refl, not_empty, tt, n)
text_normal (c ∷ cs) (Node l (Comment t) children siblings) n = (refl, not_empty, tt, n)
text_normal (c ∷ cs) (Node l (Instruction name t) children siblings) n = (refl, not_empty, tt, n)

pub forest_normal : (events : List (Event (List ℕ))) (f : Plain) → IsForestOf events f → IsNormal f
forest_normal events f is_empty = tt
forest_normal events f (is_element {inner = inner} {rest = rest} {children = children} {siblings = siblings} name attributes split below behind) =
    (forest_normal inner children below, forest_normal rest siblings behind)
forest_normal events f (is_text {rest = rest} {siblings = siblings} text behind is) =
    subst IsNormal (sym is) (text_normal text siblings (forest_normal rest siblings behind))
forest_normal events f (is_comment {rest = rest} {siblings = siblings} text behind) = (refl, forest_normal rest siblings behind)
forest_normal events f (is_instruction {rest = rest} {siblings = siblings} target text behind) = (refl, forest_normal rest siblings behind)

pub kept_normal : (f : Plain) → IsNormal f → IsNormal (without_texts f)
kept_normal Empty n = tt
kept_normal (Node l (Text t) children siblings) n = kept_normal siblings n.3
kept_normal (Node l (Element name a) children siblings) n = (n.0, kept_normal siblings n.1)
kept_normal (Node l (Comment t) children siblings) n = (n.0, kept_normal siblings n.1)
kept_normal (Node l (Instruction name t) children siblings) n = (n.0, kept_normal siblings n.1)

-- ---- Without the texts at the top

pub plain_kept : {L : Type 0} (f : Forest L) → plain (without_texts f) ≡ without_texts (plain f)
plain_kept Empty = refl
plain_kept (Node l (Text t) children siblings) = plain_kept siblings
plain_kept (Node l (Element name a) children siblings) = ap (Node tt (Element name a) (plain children)) (plain_kept siblings)
plain_kept (Node l (Comment t) children siblings) = ap (Node tt (Comment t) (plain children)) (plain_kept siblings)
plain_kept (Node l (Instruction name t) children siblings) = ap (Node tt (Instruction name t) (plain children)) (plain_kept siblings)

pub kept_twice : (f : Plain) → without_texts (without_texts f) ≡ without_texts f
kept_twice Empty = refl
kept_twice (Node l (Text t) children siblings) = kept_twice siblings
kept_twice (Node l (Element name a) children siblings) = ap (Node l (Element name a) children) (kept_twice siblings)
kept_twice (Node l (Comment t) children siblings) = ap (Node l (Comment t) children) (kept_twice siblings)
kept_twice (Node l (Instruction name t) children siblings) = ap (Node l (Instruction name t) children) (kept_twice siblings)

-- ---- Other labels

pub size_plain : {L : Type 0} (f : Forest L) → size (plain f) ≡ size f
size_plain Empty = refl
size_plain (Node l content children siblings) = λ i. 1 + size_plain children i + size_plain siblings i

pub labels_size : {L : Type 0} (f : Forest L) → length (labels f) ≡ size f
labels_size Empty = refl
labels_size (Node l content children siblings) = omega (arith, length-append (labels children) (labels siblings), labels_size children, labels_size siblings)

pub plain_numbered : {L : Type 0} (n : ℕ) (f : Forest L) → plain (numbered n f) ≡ plain f
plain_numbered n Empty = refl
plain_numbered n (Node l content children siblings) =
    λ i. Node tt content (plain_numbered (n + 1) children i) (plain_numbered (n + 1 + size children) siblings i)

pub numbered_plain : {L : Type 0} (n : ℕ) (f : Forest L) → numbered n (plain f) ≡ numbered n f
numbered_plain n Empty = refl
numbered_plain n (Node l content children siblings) =
    ap (λ s. Node n content (numbered (n + 1) (plain children)) (numbered (n + 1 + s) (plain siblings))) (size_plain children)
    ∙ λ i. Node n content (numbered_plain (n + 1) children i) (numbered_plain (n + 1 + size children) siblings i)

pub written_plain : {L : Type 0} (f : Forest L) → written (plain f) ≡ written f
written_plain Empty = refl
written_plain (Node l (Element name a) children siblings) =
    λ i. Start name ∷ map attribute_event a ++ written_plain children i ++ End name ∷ written_plain siblings i
written_plain (Node l (Text t) children siblings) = ap (λ es. Data t ∷ es) (written_plain siblings)
written_plain (Node l (Comment t) children siblings) = ap (λ es. CommentEvent t ∷ es) (written_plain siblings)
written_plain (Node l (Instruction name t) children siblings) = ap (λ es. InstructionEvent name t ∷ es) (written_plain siblings)

pub same_numbered : {L M : Type 0} (n : ℕ) (f : Forest L) (g : Forest M) → plain f ≡ plain g → numbered n f ≡ numbered n g
same_numbered n f g e = sym (numbered_plain n f) ∙ ap (numbered n) e ∙ numbered_plain n g
