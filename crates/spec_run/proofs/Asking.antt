-- What asks and needs never looks at the name of a node: strings, truths and names come to the same at related nodes.
use Rattle.std.proofs.Common.{◌≡◌, ℕ, List, [], ◌∷◌, Bool, true, false, cond, not, Option, None, Some, Result, Ok, Err, refl, subst}
use Rattle.std.specs.Prelude.{◌||◌, bytes_eq, codes}
use Rattle.spec_document.specs.Name.{QName, Expanded, is_ncname, qname_of}
use Rattle.spec_document.specs.Scope.{Scope}
use Rattle.spec_document.specs.Declaration.{element_name, attribute_name, is_reserved_target}
use Rattle.spec_expression.specs.Number.{Number, Fault, number_of}
use Rattle.spec_expression.specs.Syntax.{Expr}
use Rattle.spec_stylesheet.specs.ValueTemplate as template
use Rattle.spec_stylesheet.specs.ValueTemplate.{Avt, AvtPart}
use Rattle.spec_stylesheet.specs.Instruction.{MadeName, SortKey}
use Rattle.spec_meaning.specs.Value.{Value}
use Rattle.spec_meaning.specs.Question.{Answer, nodes_in, rule_in, text_in, local_in}
use Rattle.spec_meaning.specs.Program.{Program, Given, current_in, then}
use Rattle.spec_meaning.specs.Context.{Context}
use Rattle.spec_meaning.specs.Convert.{given, first_text, to_text, to_boolean, to_nodes}
use Rattle.spec_meaning.specs.Related.{Each, none, more, Both, neither, Rules, texts, Givens, counted, ruled, valued}
use Rattle.spec_meaning.specs.Related.{Answers, gone, refused, some_nodes, some_text, named, chosen, copied, some_unit, passed}
use Rattle.spec_meaning.specs.Related.{Values, number, text, boolean, nodes, fragment, Contexts, context, Match, gives, refuses, asks}
use Rattle.spec_meaning.proofs.Matching.{Same, then_match, meaning_match}
use Rattle.spec_transform.specs.Expansion.{part_text, joined}
use Rattle.spec_transform.specs.Sorted.{Criterion, second_of, data_type_meant, order_meant, criterion_meant, key_of_text, key_meant}
use Rattle.spec_run.specs.Names.{namespace_meant, element_in, element_called, is_barred, element_meant, attribute_in, has_xmlns, attribute_called, attribute_meant}
use Rattle.spec_run.specs.Names.{instruction_meant}
use Rattle.spec_run.specs.Content.{text_meant, nodes_meant, truth_meant}

-- ---- programs
-- the rest of a program, after what has no nodes in it
pub then_same : {N M A C D : Type 0} {R : N → M → Type 0} {T : C → D → Type 0} {p : Program N A} {q : Program M A} {k : A → Program N C} {l : A → Program M D}
    → Match R Same p q → ((a : A) → Match R T (k a) (l a)) → Match R T (then p k) (then q l)
then_same {R = R} {T = T} {k = k} {l = l} h g = then_match h (λ a b e. subst (λ c. Match R T (k a) (l c)) e (g a))

pub either_match : {N M A B : Type 0} {R : N → M → Type 0} {S : A → B → Type 0} (b : Bool) {p q : Program N A} {x y : Program M B}
    → Match R S p x → Match R S q y → Match R S (cond b p q) (cond b x y)
either_match true h g = h
either_match false h g = g

pub nodes_match : {N M : Type 0} {R : N → M → Type 0} {x : Answer N} {y : Answer M} → Answers R x y → Each R (nodes_in x) (nodes_in y)
nodes_match gone = none
nodes_match refused = none
nodes_match (some_nodes h) = h
nodes_match some_text = none
nodes_match named = none
nodes_match (chosen h) = none
nodes_match copied = none
nodes_match (some_unit h) = none
nodes_match passed = none

pub text_match : {N M : Type 0} {R : N → M → Type 0} {x : Answer N} {y : Answer M} → Answers R x y → text_in x ≡ text_in y
text_match gone = refl
text_match refused = refl
text_match (some_nodes h) = refl
text_match some_text = refl
text_match named = refl
text_match (chosen h) = refl
text_match copied = refl
text_match (some_unit h) = refl
text_match passed = refl

pub local_match : {N M : Type 0} {R : N → M → Type 0} {x : Answer N} {y : Answer M} → Answers R x y → local_in x ≡ local_in y
local_match gone = refl
local_match refused = refl
local_match (some_nodes h) = refl
local_match some_text = refl
local_match named = refl
local_match (chosen h) = refl
local_match copied = refl
local_match (some_unit h) = refl
local_match passed = refl

pub rule_match : {N M : Type 0} {R : N → M → Type 0} {x : Answer N} {y : Answer M} → Answers R x y → Both (Rules R) (rule_in x) (rule_in y)
rule_match gone = neither
rule_match refused = neither
rule_match (some_nodes h) = neither
rule_match some_text = neither
rule_match named = neither
rule_match (chosen h) = h
rule_match copied = neither
rule_match (some_unit h) = neither
rule_match passed = neither

pub current_match : {N M : Type 0} {R : N → M → Type 0} {x : Given N} {y : Given M} → Givens R x y → current_in x ≡ current_in y
current_match counted = refl
current_match ruled = refl
current_match (valued h) = refl

first_text_match : {N M : Type 0} {R : N → M → Type 0} {ns : List N} {ms : List M} → Each R ns ms → Match R Same (first_text ns) (first_text ms)
first_text_match none = gives refl
first_text_match (more h hs) = asks (texts h) (λ x y e. gives (text_match e))

pub to_text_match : {N M : Type 0} {R : N → M → Type 0} {v : Value N} {w : Value M} → Values R v w → Match R Same (to_text v) (to_text w)
to_text_match number = gives refl
to_text_match text = gives refl
to_text_match boolean = gives refl
to_text_match (nodes h) = first_text_match h
to_text_match fragment = gives refl

pub to_boolean_match : {N M : Type 0} {R : N → M → Type 0} {v : Value N} {w : Value M} → Values R v w → to_boolean v ≡ to_boolean w
to_boolean_match number = refl
to_boolean_match text = refl
to_boolean_match boolean = refl
to_boolean_match (nodes none) = refl
to_boolean_match (nodes (more h hs)) = refl
to_boolean_match fragment = refl

to_nodes_match : {N M : Type 0} {R : N → M → Type 0} {v : Value N} {w : Value M} → Values R v w → Match R (Each R) (to_nodes v) (to_nodes w)
to_nodes_match number = refuses
to_nodes_match text = refuses
to_nodes_match boolean = refuses
to_nodes_match (nodes h) = gives h
to_nodes_match fragment = refuses

pub text_meant_match : {N M : Type 0} {R : N → M → Type 0} (e : Expr) {c : Context N} {d : Context M} → Contexts R c d → Match R Same (text_meant e c) (text_meant e d)
text_meant_match e h = then_match (meaning_match e h) (λ v w k. to_text_match k)

pub nodes_meant_match : {N M : Type 0} {R : N → M → Type 0} (e : Expr) {c : Context N} {d : Context M} → Contexts R c d
    → Match R (Each R) (nodes_meant e c) (nodes_meant e d)
nodes_meant_match e h = then_match (meaning_match e h) (λ v w k. to_nodes_match k)

pub truth_meant_match : {N M : Type 0} {R : N → M → Type 0} (e : Expr) {c : Context N} {d : Context M} → Contexts R c d
    → Match R Same (truth_meant e c) (truth_meant e d)
truth_meant_match e h = then_match (meaning_match e h) (λ v w k. gives (to_boolean_match k))

-- ---- strings and names that attribute value templates stand for
part_text_match : {N M : Type 0} {R : N → M → Type 0} (part : AvtPart) {c : Context N} {d : Context M} → Contexts R c d
    → Match R Same (part_text part c) (part_text part d)
part_text_match (template.Text t) h = gives refl
part_text_match (template.Value e) h = text_meant_match e h

pub joined_match : {N M : Type 0} {R : N → M → Type 0} (parts : List AvtPart) {c : Context N} {d : Context M} → Contexts R c d
    → Match R Same (joined parts c) (joined parts d)
unfolding joined
joined_match [] h = gives refl
joined_match (part ∷ parts) h = then_same (part_text_match part h) (λ t. then_same (joined_match parts h) (λ rest. gives refl))

namespace_meant_match : {N M : Type 0} {R : N → M → Type 0} (uri : Option Avt) {c : Context N} {d : Context M} → Contexts R c d
    → Match R Same (namespace_meant uri c) (namespace_meant uri d)
namespace_meant_match None h = gives refl
namespace_meant_match (Some avt) h = then_same (joined_match avt.parts h) (λ uri. gives refl)

element_in_match : {N M : Type 0} {R : N → M → Type 0} (name : List ℕ) (expanded : Option Expanded) → Match R Same (element_in name expanded) (element_in name expanded)
element_in_match name None = refuses
element_in_match name (Some expanded) = gives refl

element_called_match : {N M : Type 0} {R : N → M → Type 0} (scope : Scope) (name : List ℕ) (q : Option QName) (uri : Option (List ℕ))
    → Match R Same (element_called scope name q uri) (element_called scope name q uri)
element_called_match scope name None uri = gives refl
element_called_match scope name (Some q) None = element_in_match name (element_name scope q)
element_called_match scope name (Some q) (Some uri) = gives refl

pub element_meant_match : {N M : Type 0} {R : N → M → Type 0} (name : MadeName) {c : Context N} {d : Context M} → Contexts R c d
    → Match R Same (element_meant name c) (element_meant name d)
element_meant_match made (context {scope = scope} h g bs) =
    then_same (joined_match made.name.parts (context h g bs)) (λ name. then_same (namespace_meant_match made.namespace (context h g bs)) (λ uri.
    either_match (is_barred uri) refuses (element_called_match scope name (qname_of name) uri)))

attribute_in_match : {N M : Type 0} {R : N → M → Type 0} (name : List ℕ) (expanded : Option Expanded)
    → Match R Same (attribute_in name expanded) (attribute_in name expanded)
attribute_in_match name None = refuses
attribute_in_match name (Some expanded) = gives refl

attribute_called_match : {N M : Type 0} {R : N → M → Type 0} (scope : Scope) (name : List ℕ) (q : Option QName) (uri : Option (List ℕ))
    → Match R Same (attribute_called scope name q uri) (attribute_called scope name q uri)
attribute_called_match scope name None (Some uri) = gives refl
attribute_called_match scope name (Some q) (Some uri) = gives refl
attribute_called_match scope name None None = gives refl
attribute_called_match scope name (Some q) None = either_match (has_xmlns q) (gives refl) (attribute_in_match name (attribute_name scope q))

pub attribute_meant_match : {N M : Type 0} {R : N → M → Type 0} (name : MadeName) {c : Context N} {d : Context M} → Contexts R c d
    → Match R Same (attribute_meant name c) (attribute_meant name d)
attribute_meant_match made (context {scope = scope} h g bs) =
    then_same (joined_match made.name.parts (context h g bs)) (λ name. then_same (namespace_meant_match made.namespace (context h g bs)) (λ uri.
    either_match (is_barred uri) refuses (attribute_called_match scope name (qname_of name) uri)))

pub instruction_meant_match : {N M : Type 0} {R : N → M → Type 0} (target : Avt) {c : Context N} {d : Context M} → Contexts R c d
    → Match R Same (instruction_meant target c) (instruction_meant target d)
instruction_meant_match target h =
    then_same (joined_match target.parts h) (λ name. either_match (not (is_ncname name) || is_reserved_target name) refuses (gives refl))

-- ---- sorting
second_match : {N M : Type 0} {R : N → M → Type 0} (first second word : List ℕ) → Match R Same (second_of first second word) (second_of first second word)
second_match first second word = either_match (bytes_eq word first) (gives refl) (either_match (bytes_eq word second) (gives refl) refuses)

data_type_match : {N M : Type 0} {R : N → M → Type 0} (key : SortKey) {c : Context N} {d : Context M} → Contexts R c d
    → Match R Same (data_type_meant key c) (data_type_meant key d)
data_type_match key h = then_same (joined_match key.data_type.parts h) (λ t. second_match (codes "text") (codes "number") t)

order_match : {N M : Type 0} {R : N → M → Type 0} (key : SortKey) {c : Context N} {d : Context M} → Contexts R c d
    → Match R Same (order_meant key c) (order_meant key d)
order_match key h = then_same (joined_match key.order.parts h) (λ t. second_match (codes "ascending") (codes "descending") t)

pub criterion_meant_match : {N M : Type 0} {R : N → M → Type 0} (key : SortKey) {c : Context N} {d : Context M} → Contexts R c d
    → Match R Same (criterion_meant key c) (criterion_meant key d)
criterion_meant_match key h = then_same (data_type_match key h) (λ n. then_same (order_match key h) (λ descends. gives refl))

given_match : {N M : Type 0} {R : N → M → Type 0} (r : Result Number Fault) → Match R Same (given r) (given r)
given_match (Ok n) = gives refl
given_match (Err fault) = refuses

key_text_match : {N M : Type 0} {R : N → M → Type 0} (is_number : Bool) (t : List ℕ) → Match R Same (key_of_text is_number t) (key_of_text is_number t)
key_text_match is_number t = either_match is_number (then_same (given_match (number_of t)) (λ n. gives refl)) (gives refl)

pub key_meant_match : {N M : Type 0} {R : N → M → Type 0} (key : SortKey) (criterion : Criterion) {c : Context N} {d : Context M} → Contexts R c d
    → Match R Same (key_meant key criterion c) (key_meant key criterion d)
key_meant_match key criterion h =
    then_match (meaning_match key.select h) (λ v w k. then_same (to_text_match k) (λ t. key_text_match criterion.is_number t))
