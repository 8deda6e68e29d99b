-- The lines that are written for a document make it again.
use Rattle.std.proofs.Common.{◌≡◌, ◌≤◌, ◌<◌, ℕ, ◌+◌, ◌-◌, List, [], ◌∷◌, ◌++◌, map, length, Option, Some, None, refl}
use Rattle.std.proofs.Common.{sym, ap, ◌∙◌, subst, arith}
use Rattle.std.proofs.lemmas.List.{length-map, drop_all}
use Rattle.std.specs.Prelude.{Result, Ok, Err}
use Rattle.std.specs.Option.{option_map}
use Rattle.std.specs.List.{enumerate_from}
use Rattle.std.specs.Str.{encode_utf8_all}
use Rattle.spec_document.specs.declared.event.Event.{Event}
use Rattle.spec_document.specs.Scope.{Scope}
use Rattle.spec_document.specs.Forest.{Forest, Plain, plain, IsForestOf, Document, written, lines_of, size, labels, numbered}
use Rattle.spec_document.specs.Fault.{Fault, answer_of}
use Rattle.spec_document.specs.Body.{events_at, texts_of, not_utf8, no_event, line_faults}
use Rattle.spec_document.specs.Balance.{LineNumbers, forest_of, unbalanced_line}
use Rattle.spec_document.specs.Top.{elements_at_top, element_faults, text_faults, top_faults, without_texts}
use Rattle.spec_document.specs.NodeFaults.{node_faults}
use Rattle.spec_document.specs.Numbering.{number_faults, number_limit}
use Rattle.spec_document.specs.Document.{made_of, document_by, document_of}
use Rattle.spec_document.proofs.Reading.{computed_is_forest, forest_is_computed}
use Rattle.spec_document.proofs.Written.{written_forest, plain_itself}
use Rattle.xt_build.proofs.RoundTripEvents.{AreWritable, all_read_writable, forest_writable, kept_writable}
use Rattle.xt_build.proofs.RoundTripLines.{encoded, encoded_utf8, encoded_good, encoded_events}
use Rattle.xt_build.proofs.RoundTripForest.{forest_normal, kept_normal, plain_kept, kept_twice, size_plain, labels_size, plain_numbered, written_plain}
use Rattle.xt_build.proofs.RoundTripForest.{same_numbered}
use Rattle.xt_build.proofs.RoundTripFaults.{both_empty, empty_both, top_elements, nodes_moved, kept_nodes, elements_counted, kept_elements, elements_moved}
use Rattle.xt_build.proofs.RoundTripFaults.{kept_no_text, no_text_faults, HasNoText, numbers_moved}

-- ---- What an answer says

ok_same : {A : Type 0} (x y : A) → ◌≡◌ {A = Result A Fault} (Ok x) (Ok y) → x ≡ y
ok_same x y e = ap (λ r. elim r [ Ok z ↦ z | Err f ↦ x ]) e

answered : {A : Type 0} (faults : List Fault) (otherwise : Result A Fault) (x : A) → answer_of faults otherwise ≡ Ok x
    → (faults ≡ []) × (otherwise ≡ Ok x)
answered [] otherwise x e = (refl, e)
answered (fault ∷ faults) otherwise x e = absurd (cc)

answer : {A : Type 0} (faults : List Fault) (otherwise : Result A Fault) → faults ≡ [] → answer_of faults otherwise ≡ otherwise
answer faults otherwise e = ap (λ fs. answer_of fs otherwise) e

-- what is made of a forest, where there is one
abbrev made_by : {A : Type 0} → (Forest LineNumbers → Result A Fault) → ℕ → Option (Forest LineNumbers) → Result A Fault
made_by make line None = Err (record { number = 9; line = line })
made_by make line (Some f) = make f

made_of-made_by : {A : Type 0} (make : Forest LineNumbers → Result A Fault) (events : List (ℕ × Event (List ℕ)))
    → made_of make events ≡ made_by make (unbalanced_line None [] events) (forest_of events)
made_of-made_by make events = same (forest_of events)
  where
    same : (o : Option (Forest LineNumbers))
        → elim o [ None ↦ Err (record { number = 9; line = unbalanced_line None [] events }) | Some forest ↦ make forest ]
        ≡ made_by make (unbalanced_line None [] events) o
    same None = refl
    same (Some f) = refl

found : {A : Type 0} (make : Forest LineNumbers → Result A Fault) (line : ℕ) (x : A) (o : Option (Forest LineNumbers)) → made_by make line o ≡ Ok x
    → (f : Forest LineNumbers) × (o ≡ Some f) × (make f ≡ Ok x)
found make line x None e = absurd (cc)
found make line x (Some f) e = (f, refl, e)

made : {A : Type 0} (make : Forest LineNumbers → Result A Fault) (events : List (ℕ × Event (List ℕ))) (x : A) → made_of make events ≡ Ok x
    → (f : Forest LineNumbers) × (forest_of events ≡ Some f) × (make f ≡ Ok x)
made make events x e = found make (unbalanced_line None [] events) x (forest_of events) (sym (made_of-made_by make events) ∙ e)

make_from : {A : Type 0} (make : Forest LineNumbers → Result A Fault) (events : List (ℕ × Event (List ℕ))) (f : Forest LineNumbers)
    → forest_of events ≡ Some f → made_of make events ≡ make f
make_from make events f is = made_of-made_by make events ∙ ap (made_by make (unbalanced_line None [] events)) is

-- ---- The same forest elsewhere

-- the lines of the root and of the nodes that have numbers
abbrev lines_numbered : Forest LineNumbers → List ℕ
lines_numbered f = 0 ∷ map (λ l. l.first) (labels (without_texts f))

count_numbered : (f : Forest LineNumbers) → length (lines_numbered f) ≡ 1 + size (without_texts (plain f))
count_numbered f =
    let same : length (map (λ l. l.first) (labels (without_texts f))) ≡ size (without_texts (plain f))
    = length-map (labels (without_texts f)) (λ l. l.first) ∙ labels_size (without_texts f) ∙ sym (size_plain (without_texts f))
    ∙ ap size (plain_kept f) in
    omega (arith, same)

-- the siblings of a document, and siblings that are as these without the texts at the top
again_kept : (f g : Forest LineNumbers) → plain g ≡ without_texts (plain f) → without_texts (plain g) ≡ without_texts (plain f)
again_kept f g e = ap without_texts e ∙ kept_twice (plain f)

top_again : (f g : Forest LineNumbers) → plain g ≡ without_texts (plain f) → top_faults (Some 0) f ≡ [] → top_faults (Some 0) g ≡ []
top_again f g e n =
    let parts = both_empty (element_faults 0 (elements_at_top f)) (text_faults f) n in
    let count = elements_counted f ∙ sym (kept_elements (plain f)) ∙ sym (elements_counted g ∙ ap top_elements e) in
    empty_both (element_faults 0 (elements_at_top g)) (text_faults g)
    (elements_moved (elements_at_top f) (elements_at_top g) count parts.0)
    (no_text_faults g (subst HasNoText (sym e) (kept_no_text (plain f))))

nodes_again : (scope : Scope) (f g : Forest LineNumbers) → plain g ≡ without_texts (plain f) → node_faults scope 1 f ≡ []
    → node_faults scope 1 g ≡ []
nodes_again scope f g e n = nodes_moved (without_texts f) g (plain_kept f ∙ sym e) scope 1 (kept_nodes f scope 1 n)

numbers_again : (first : ℕ) (f g : Forest LineNumbers) → plain g ≡ without_texts (plain f) → number_faults first (lines_numbered f) ≡ []
    → number_faults first (lines_numbered g) ≡ []
numbers_again first f g e n =
    numbers_moved first (lines_numbered f) (lines_numbered g)
    (count_numbered f ∙ ap (λ h. 1 + size h) (sym (again_kept f g e)) ∙ sym (count_numbered g)) n

-- the document of a forest, in parts
pub record Made (scope : Scope) (first : ℕ) (f : Forest LineNumbers) (d : Document ℕ) : Type 0 where
  pub top : top_faults (Some 0) f ≡ []
  pub nodes : node_faults scope 1 f ≡ []
  pub numbers : number_faults first (lines_numbered f) ≡ []
  pub is : record { root = first; nodes = numbered (first + 1) (without_texts f) } ≡ d

made_parts : (scope : Scope) (first : ℕ) (f : Forest LineNumbers) (d : Document ℕ) → document_by scope first f ≡ Ok d → Made scope first f d
made_parts scope first f d e =
    let result : Document ℕ = record { root = first; nodes = numbered (first + 1) (without_texts f) } in
    let all = answered (top_faults (Some 0) f ++ node_faults scope 1 f ++ number_faults first (lines_numbered f)) (Ok result) d e in
    let parts = both_empty (top_faults (Some 0) f ++ node_faults scope 1 f) (number_faults first (lines_numbered f)) all.0 in
    let front = both_empty (top_faults (Some 0) f) (node_faults scope 1 f) parts.0 in
    record { top = front.0; nodes = front.1; numbers = parts.1; is = ok_same result d all.1 }

document_again : (scope : Scope) (first : ℕ) (f g : Forest LineNumbers) (d : Document ℕ) → plain g ≡ without_texts (plain f)
    → Made scope first f d → document_by scope first g ≡ Ok d
document_again scope first f g d e m =
    let faults = empty_both (top_faults (Some 0) g ++ node_faults scope 1 g) (number_faults first (lines_numbered g))
    (empty_both (top_faults (Some 0) g) (node_faults scope 1 g) (top_again f g e m.top) (nodes_again scope f g e m.nodes))
    (numbers_again first f g e m.numbers) in
    let same = same_numbered (first + 1) (without_texts g) (without_texts f) (plain_kept g ∙ again_kept f g e ∙ sym (plain_kept f)) in
    answer (top_faults (Some 0) g ++ node_faults scope 1 g ++ number_faults first (lines_numbered g))
    (Ok (record { root = first; nodes = numbered (first + 1) (without_texts g) })) faults
    ∙ ap (λ nodes. Ok (record { root = first; nodes = nodes })) same ∙ ap Ok m.is

no_number_faults : (first : ℕ) (lines : List ℕ) → length lines ≤ number_limit - first → number_faults first lines ≡ []
no_number_faults first lines h = ap (λ rest. map (λ line. record { number = 12; line = line }) rest) (drop_all (number_limit - first) lines h)

-- ---- The lines

-- the events that are written for the siblings of a document
written_again : (first : ℕ) (f : Forest LineNumbers) → written (numbered (first + 1) (without_texts f)) ≡ written (without_texts (plain f))
written_again first f =
    sym (written_plain (numbered (first + 1) (without_texts f))) ∙ ap written (plain_numbered (first + 1) (without_texts f) ∙ plain_kept f)

-- the lines of events that are a forest's make that forest
lines_again : (scope : Scope) (first : ℕ) (events : List (Event (List ℕ))) (f : Plain) (d : Document ℕ) → AreWritable events → IsForestOf events f
    → ((g : Forest LineNumbers) → plain g ≡ f → document_by scope first g ≡ Ok d) → document_of scope first (encoded events) ≡ Ok d
lines_again scope first events f d w forest then =
    let body = encoded events in
    let read : map (λ e. e.1) (events_at body) ≡ events = encoded_events 1 events w in
    let is = forest_is_computed (events_at body) f (subst (λ es. IsForestOf es f) (sym read) forest) in
    let none : line_faults body ≡ [] =
    empty_both (not_utf8 (enumerate_from 1 body)) (no_event (texts_of body)) (encoded_utf8 1 events w) (encoded_good 1 events w) in
    answer (line_faults body) (made_of (document_by scope first) (events_at body)) none ∙ found (forest_of (events_at body)) refl is
  where
    found : (o : Option (Forest LineNumbers)) → forest_of (events_at (encoded events)) ≡ o → option_map plain o ≡ Some f
        → made_of (document_by scope first) (events_at (encoded events)) ≡ Ok d
    found None is e = absurd (cc)
    found (Some g) is e =
        make_from (document_by scope first) (events_at (encoded events)) g is ∙ then g (ap (λ o. elim o [ Some z ↦ z | None ↦ f ]) e)

-- a tree that lines make, whatever its numbers then: what is written for it makes it again with every first number that leaves room
pub same_tree : (nodes : Forest ℕ) (scope : Scope) (first other : ℕ) (body : List (List ℕ)) (made_then : Document ℕ)
    → document_of scope first body ≡ Ok made_then
    → plain made_then.nodes ≡ plain nodes → other + size nodes < number_limit
    → document_of scope other (map encode_utf8_all (lines_of nodes)) ≡ Ok (record { root = other; nodes = numbered (other + 1) nodes })
same_tree nodes scope first other body document e same_plain room =
    let parts = made (document_by scope first) (events_at body) document
    (answered (line_faults body) (made_of (document_by scope first) (events_at body)) document e).1 in
    let f = parts.0 in
    let whole = made_parts scope first f document parts.2 in
    let kept : Plain = without_texts (plain f) in
    let forest = computed_is_forest (events_at body) (plain f) (ap (option_map plain) parts.1) in
    let writable = kept_writable (plain f) (forest_writable (map (λ e. e.1) (events_at body)) (plain f) forest (all_read_writable (texts_of body))) in
    let normal = kept_normal (plain f) (forest_normal (map (λ e. e.1) (events_at body)) (plain f) forest) in
    let again : IsForestOf (written kept) kept = subst (IsForestOf (written kept)) (plain_itself kept) (written_forest kept normal) in
    let tree : plain nodes ≡ kept
    = sym same_plain ∙ sym (ap (λ d. plain d.nodes) whole.is) ∙ plain_numbered (first + 1) (without_texts f) ∙ plain_kept f in
    let events : written nodes ≡ written kept = sym (written_plain nodes) ∙ ap written tree in
    let count : size (without_texts (plain f)) ≡ size nodes = ap size (sym tree) ∙ size_plain nodes in
    let lines = count_numbered f in
    let few : length (lines_numbered f) ≤ number_limit - other = omega (arith, room, lines, count) in
    let numbers : number_faults other (lines_numbered f) ≡ [] = no_number_faults other (lines_numbered f) few in
    let result : Document ℕ = record { root = other; nodes = numbered (other + 1) (without_texts f) } in
    let renumbered : Made scope other f result = record { top = whole.top; nodes = whole.nodes; numbers = numbers; is = refl } in
    let same = same_numbered (other + 1) (without_texts f) nodes (plain_kept f ∙ sym tree) in
    ap (λ es. document_of scope other (encoded es)) events
    ∙ lines_again scope other (written kept) kept result writable again (λ g same. document_again scope other f g result same renumbered)
    ∙ ap (λ n. Ok (record { root = other; nodes = n })) same

pub round_trip : (document : Document ℕ) (scope : Scope) (first : ℕ) (body : List (List ℕ)) → document_of scope first body ≡ Ok document
    → document_of scope first (map encode_utf8_all (lines_of document.nodes)) ≡ Ok document
round_trip document scope first body e =
    let parts = made (document_by scope first) (events_at body) document
    (answered (line_faults body) (made_of (document_by scope first) (events_at body)) document e).1 in
    let f = parts.0 in
    let whole = made_parts scope first f document parts.2 in
    let kept : Plain = without_texts (plain f) in
    let forest = computed_is_forest (events_at body) (plain f) (ap (option_map plain) parts.1) in
    let writable = kept_writable (plain f) (forest_writable (map (λ e. e.1) (events_at body)) (plain f) forest (all_read_writable (texts_of body))) in
    let normal = kept_normal (plain f) (forest_normal (map (λ e. e.1) (events_at body)) (plain f) forest) in
    let again : IsForestOf (written kept) kept = subst (IsForestOf (written kept)) (plain_itself kept) (written_forest kept normal) in
    let events : written document.nodes ≡ written kept = sym (ap (λ d. written d.nodes) whole.is) ∙ written_again first f in
    ap (λ es. document_of scope first (encoded es)) events
    ∙ lines_again scope first (written kept) kept document writable again (λ g same. document_again scope first f g document same whole)
