-- The lines that are written for a document make it again.
use Rattle.std.proofs.Common.{◌≡◌, ◌≤◌, ℕ, ◌+◌, ◌-◌, ◌==◌, Bool, true, false, not, List, [], ◌∷◌, ◌++◌, map, length, drop, Option, None, Some}
use Rattle.std.proofs.Common.{refl, sym, ap, ◌∙◌}
use Rattle.std.proofs.Common.{subst, arith, eq-eqb}
use Rattle.std.proofs.lemmas.List.{length-map, drop_all}
use Rattle.std.specs.Prelude.{Result, Ok, slice_index, nat_lt}
use Rattle.std.specs.Option.{option_map}
use Rattle.std.specs.List.{enumerate_from, list_any}
use Rattle.spec_document.specs.Scope.{Scope, root_scope}
use Rattle.spec_document.specs.Forest.{Written, Content, Element, Text, Comment, Instruction, Forest, Empty, Node, Document, Plain, plain}
use Rattle.spec_document.specs.Forest.{IsForestOf, IsNormal}
use Rattle.spec_document.specs.Forest.{written, size, labels, numbered}
use Rattle.spec_document.specs.Declaration.{use_of, within}
use Rattle.spec_document.specs.Fault.{Fault, fault_if, answer_of}
use Rattle.spec_document.specs.NodeFaults.{greatest_depth, is_wrong_use, is_wrong_element, is_wrong_target, is_same_attribute}
use Rattle.spec_document.specs.NodeFaults.{attribute_faults, content_faults, node_faults}
use Rattle.spec_document.specs.Body.{events_at, texts_of, not_utf8, no_event, line_faults}
use Rattle.spec_document.specs.Balance.{LineNumbers, alone, forest_of}
use Rattle.spec_document.specs.Top.{elements_at_top, element_faults, text_faults, top_faults, without_texts}
use Rattle.spec_document.specs.Numbering.{number_faults, number_limit}
use Rattle.spec_document.specs.Document.{made_of, document_by, document_of}
use Rattle.spec_document.proofs.Reading.{forest_is_computed}
use Rattle.spec_document.proofs.Written.{written_forest, plain_itself}
use Rattle.spec_edit.specs.Edit.{element_count}
use Rattle.spec_edit.specs.Valid.{IsValid}
use Rattle.spec_edit.proofs.Labels.{plain-elements}
use Rattle.spec_edit.proofs.Numbers.{length-labels, size-plain}
use Rattle.spec_edit.proofs.Shapes.{append_none}
use Rattle.spec_edit.proofs.Faultless.{AreFine, fine-of, fine-of-plain, elements-top}
use Rattle.spec_afresh.specs.Afresh.{body_of, document_from}
use Rattle.spec_afresh.specs.Characters.{HasChars}
use Rattle.spec_afresh.proofs.Writable.{AreWritable, forest-writable, encoded-utf8, encoded-good, encoded-events}

both-none : {A : Type 0} (xs ys : List A) → xs ≡ [] → ys ≡ [] → xs ++ ys ≡ []
both-none xs ys e h = (λ i. e i ++ ys) ∙ h

-- ---- Faults, wherever lines stand

moved : (b : Bool) (n line other : ℕ) → fault_if b n line ≡ [] → fault_if b n other ≡ []
moved true n line other e = absurd (cc)
moved false n line other e = refl

attributes-moved : (scope : Scope) (before : List Written) (lines others : List ℕ) (attributes : List Written)
    → attribute_faults scope before lines attributes ≡ [] → attribute_faults scope before others attributes ≡ []
attributes-moved scope before lines others [] e = refl
attributes-moved scope before lines others (a ∷ attributes) e =
    let wrong = is_wrong_use scope (use_of a.name) a.value in
    let twice = list_any (λ b. is_same_attribute scope b a) before in
    let l = slice_index lines 0 in
    let m = slice_index others 0 in
    let outer = append_none (fault_if wrong 10 l ++ fault_if twice 14 l) (attribute_faults scope (before ++ a ∷ []) (drop 1 lines) attributes) e in
    let inner = append_none (fault_if wrong 10 l) (fault_if twice 14 l) outer.0 in
    both-none (fault_if wrong 10 m ++ fault_if twice 14 m) (attribute_faults scope (before ++ a ∷ []) (drop 1 others) attributes)
    (both-none (fault_if wrong 10 m) (fault_if twice 14 m) (moved wrong 10 l m inner.0) (moved twice 14 l m inner.1))
    (attributes-moved scope (before ++ a ∷ []) (drop 1 lines) (drop 1 others) attributes outer.1)

content-moved : (scope : Scope) (depth : ℕ) (lines others : LineNumbers) (content : Content) → content_faults scope depth lines content ≡ []
    → content_faults scope depth others content ≡ []
content-moved scope depth lines others (Element name attributes) e =
    let wrong = is_wrong_element scope name in
    let deep = nat_lt greatest_depth depth in
    let l = lines.first in
    let m = others.first in
    let outer = append_none (fault_if wrong 10 l ++ fault_if deep 11 l) (attribute_faults scope [] lines.attributes attributes) e in
    let inner = append_none (fault_if wrong 10 l) (fault_if deep 11 l) outer.0 in
    both-none (fault_if wrong 10 m ++ fault_if deep 11 m) (attribute_faults scope [] others.attributes attributes)
    (both-none (fault_if wrong 10 m) (fault_if deep 11 m) (moved wrong 10 l m inner.0) (moved deep 11 l m inner.1))
    (attributes-moved scope [] lines.attributes others.attributes attributes outer.1)
content-moved scope depth lines others (Text text) e = refl
content-moved scope depth lines others (Comment text) e = refl
content-moved scope depth lines others (Instruction target text) e = moved (is_wrong_target target) 10 lines.first others.first e

fine-faults : (scope : Scope) (depth : ℕ) (f : Forest LineNumbers) → AreFine scope depth f → node_faults scope depth f ≡ []
fine-faults scope depth Empty h = refl
fine-faults scope depth (Node lines c f s) h =
    let own = content_faults (within c scope) depth lines c in
    let below = node_faults (within c scope) (depth + 1) f in
    both-none (own ++ below) (node_faults scope depth s)
    (both-none own below (content-moved (within c scope) depth (alone 0) lines c h.0) (fine-faults (within c scope) (depth + 1) f h.1))
    (fine-faults scope depth s h.2)

-- ---- What stands at the top

pub plain-without : {L : Type 0} (f : Forest L) → plain (without_texts f) ≡ without_texts (plain f)
plain-without Empty = refl
plain-without (Node l (Text t) f s) = plain-without s
plain-without (Node l (Element m a) f s) = ap (Node tt (Element m a) (plain f)) (plain-without s)
plain-without (Node l (Comment t) f s) = ap (Node tt (Comment t) (plain f)) (plain-without s)
plain-without (Node l (Instruction m t) f s) = ap (Node tt (Instruction m t) (plain f)) (plain-without s)

fewer : (f : Plain) → size (without_texts f) ≤ size f
fewer Empty = omega arith
fewer (Node l (Text t) f s) = let rest = fewer s in omega arith
fewer (Node l (Element m a) f s) = let rest = fewer s in omega arith
fewer (Node l (Comment t) f s) = let rest = fewer s in omega arith
fewer (Node l (Instruction m t) f s) = let rest = fewer s in omega arith

no-text-faults : (f : Forest LineNumbers) → without_texts (plain f) ≡ plain f → text_faults f ≡ []
no-text-faults Empty e = refl
no-text-faults (Node l (Text t) f s) e = absurd (let less = fewer (plain s) in let same = ap size e in omega arith)
no-text-faults (Node l (Element m a) f s) e = no-text-faults s (cc)
no-text-faults (Node l (Comment t) f s) e = no-text-faults s (cc)
no-text-faults (Node l (Instruction m t) f s) e = no-text-faults s (cc)

one-element : (n line : ℕ) → n ≡ 1 → fault_if (not (n == 1)) 9 line ≡ []
one-element n line e = ap (λ b. fault_if (not b) 9 line) (eq-eqb n 1 e)

-- ---- The numbers

numbered-plain : {L : Type 0} (n : ℕ) (f : Forest L) → numbered n (plain f) ≡ numbered n f
numbered-plain n Empty = refl
numbered-plain n (Node l content f s) =
    ap (λ m. Node n content (numbered (n + 1) (plain f)) (numbered (n + 1 + m) (plain s))) (size-plain f)
    ∙ λ i. Node n content (numbered-plain (n + 1) f i) (numbered-plain (n + 1 + size f) s i)

no-number-faults : (first : ℕ) (lines : List ℕ) → length lines ≤ number_limit - first → number_faults first lines ≡ []
no-number-faults first lines h = ap (λ rest. map (λ line. record { number = 12; line = line }) rest) (drop_all (number_limit - first) lines h)

-- ---- The document

answer : {A : Type 0} (faults : List Fault) (otherwise : Result A Fault) → faults ≡ [] → answer_of faults otherwise ≡ otherwise
answer faults otherwise e = ap (λ fs. answer_of fs otherwise) e

made-without : (first : ℕ) (f : Forest LineNumbers) → top_faults (Some 0) f ≡ [] → node_faults root_scope 1 f ≡ []
    → number_faults first (0 ∷ map (λ l. l.first) (labels (without_texts f))) ≡ []
    → document_by root_scope first f ≡ Ok (document_from first (without_texts f))
made-without first f top nodes numbers =
    let last = number_faults first (0 ∷ map (λ l. l.first) (labels (without_texts f))) in
    answer (top_faults (Some 0) f ++ node_faults root_scope 1 f ++ last) (Ok (document_from first (without_texts f)))
    (both-none (top_faults (Some 0) f ++ node_faults root_scope 1 f) last
    (both-none (top_faults (Some 0) f) (node_faults root_scope 1 f) top nodes) numbers)

made-same : (r : Result (Document ℕ) Fault) (x y : Document ℕ) → r ≡ Ok x → x ≡ y → r ≡ Ok y
made-same r x y e same = e ∙ ap Ok same

from-plain : {L : Type 0} (first : ℕ) (f : Forest L) (tree : Plain) → plain f ≡ tree → document_from first f ≡ document_from first tree
from-plain first f tree e = ap (λ ns. record { root = first; nodes = ns }) (sym (numbered-plain (first + 1) f) ∙ ap (numbered (first + 1)) e)

document-by : (first : ℕ) (tree : Plain) (f : Forest LineNumbers) → plain f ≡ tree → IsValid tree → first + 1 + size tree ≤ number_limit
    → document_by root_scope first f ≡ Ok (document_from first tree)
document-by first tree f is v room =
    let kept = without_texts f in
    let same : plain kept ≡ tree = plain-without f ∙ ap without_texts is ∙ v.no_text in
    let lines = elements_at_top f in
    let count : element_count kept ≡ length lines = elements-top f in
    let plainly : element_count (plain kept) ≡ element_count kept = plain-elements kept in
    let one : element_count (plain kept) ≡ 1 = ap element_count same ∙ v.one_element in
    let top = both-none (element_faults 0 lines) (text_faults f)
    (one-element (0 + length lines) (slice_index (drop (1 - 0) lines) 0) (omega arith))
    (no-text-faults f (ap without_texts is ∙ v.no_text ∙ sym is)) in
    let fine = fine-of-plain root_scope 1 f (subst (AreFine root_scope 1) (sym is) (fine-of root_scope 1 tree v.unfaulted)) in
    let many : length (map (λ (l : LineNumbers). l.first) (labels kept)) ≡ size kept = length-map (labels kept) (λ l. l.first) ∙ length-labels kept in
    let sizes : size kept ≡ size tree = sym (size-plain kept) ∙ ap size same in
    made-same (document_by root_scope first f) (document_from first kept) (document_from first tree)
    (made-without first f top (fine-faults root_scope 1 f fine) (no-number-faults first (0 ∷ map (λ l. l.first) (labels kept)) (omega arith)))
    (from-plain first kept tree same)

pub lines-make : (first : ℕ) (tree : Plain) → IsValid tree → IsNormal tree → HasChars tree → first + 1 + size tree ≤ number_limit
    → document_of root_scope first (body_of tree) ≡ Ok (document_from first tree)
lines-make first tree v n h room =
    answer (line_faults body) (made_of (document_by root_scope first) (events_at body)) none ∙ by (forest_of (events_at body)) refl is
  where
    body : List (List ℕ)
    body = body_of tree

    writable : AreWritable (written tree)
    writable = forest-writable root_scope 1 tree (fine-of root_scope 1 tree v.unfaulted) h

    forest : IsForestOf (written tree) tree
    forest = subst (IsForestOf (written tree)) (plain_itself tree) (written_forest tree n)

    read : map (λ e. e.1) (events_at body) ≡ written tree
    read = encoded-events 1 (written tree) writable

    is : option_map plain (forest_of (events_at body)) ≡ Some tree
    is = forest_is_computed (events_at body) tree (subst (λ es. IsForestOf es tree) (sym read) forest)

    none : line_faults body ≡ []
    none =
        both-none (not_utf8 (enumerate_from 1 body)) (no_event (texts_of body)) (encoded-utf8 1 (written tree) writable)
        (encoded-good 1 (written tree) writable)

    by : (o : Option (Forest LineNumbers)) → forest_of (events_at body) ≡ o → option_map plain o ≡ Some tree
        → made_of (document_by root_scope first) (events_at body) ≡ Ok (document_from first tree)
    by None e same = absurd (cc)
    by (Some f) e same = rw (e, made_of) (document-by first tree f (ap (λ o. elim o [ Some z ↦ z | None ↦ tree ]) same) v room)
