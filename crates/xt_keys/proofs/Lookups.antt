-- Nodes by texts: keys are strings, texts are characters.
use Rattle.std.proofs.Common.{◌≡◌, ℕ, Bool, true, false, cond, List, [], ◌∷◌, Option, None, Some, bytes_eq, string_bytes, refl, sym, ap, ◌∙◌}
use Rattle.std.specs.Prelude.{Vec}
use Rattle.std.proofs.lemmas.Str.{IsUtf8-string_bytes}
use Rattle.std.proofs.lemmas.Slice.Eq.{bytes_eq-Decides}
use Rattle.std.specs.Map.{lookup, set_value}
use Rattle.std.specs.Str.{chars, IsUtf8}
use Rattle.std.specs.String.{string_eq}
use Rattle.std.specs.declared.alloc.Global.{Global}
use Rattle.std.specs.declared.string.String.{String}
use Rattle.indexmap.specs.IndexMap.{insert_entry}
use Rattle.xt_text.proofs.Chars.{same_chars}
use Rattle.spec_node.specs.declared.node_ref.NodeRef.{NodeRef}
use Rattle.xt_keys.specs.View.{has_text, nodes_in, with_node}

equal : (a b : List ℕ) → bytes_eq a b ≡ true → a ≡ b
equal a b e = (bytes_eq-Decides a b).0 e

is_equal : (a b : List ℕ) → a ≡ b → bytes_eq a b ≡ true
is_equal a b e = (bytes_eq-Decides a b).1 e

turned : (a b : List ℕ) → bytes_eq a b ≡ bytes_eq b a
turned a b = by (bytes_eq a b) (bytes_eq b a) refl refl
  where
    by : (x y : Bool) → bytes_eq a b ≡ x → bytes_eq b a ≡ y → x ≡ y
    by true true e f = refl
    by true false e f = let g = is_equal b a (sym (equal a b e)) in absurd (cc)
    by false true e f = let g = is_equal a b (sym (equal b a f)) in absurd (cc)
    by false false e f = refl

-- a key has the bytes of a text where it has its characters
test_is : (text : List ℕ) → IsUtf8 text → (key : String Global) → bytes_eq text (string_bytes key) ≡ has_text (chars text) key
test_is text u key = same_chars text (string_bytes key) u (IsUtf8-string_bytes key) ∙ turned (chars text) (chars (string_bytes key))

pub by_characters : {X : Type 0} (text : List ℕ) → IsUtf8 text → (es : List (String Global × X))
    → lookup (λ key. bytes_eq text (string_bytes key)) es ≡ lookup (has_text (chars text)) es
by_characters text u [] = refl
by_characters text u (e ∷ es) = λ i. cond (test_is text u e.0 i) (Some e.1) (by_characters text u es i)

pub set_by_characters : {X : Type 0} (text : List ℕ) → IsUtf8 text → (es : List (String Global × X)) (w : X)
    → set_value (λ key. bytes_eq text (string_bytes key)) es w ≡ set_value (has_text (chars text)) es w
set_by_characters text u [] w = refl
set_by_characters text u (e ∷ es) w = λ i. cond (test_is text u e.0 i) ((e.0, w) ∷ es) (e ∷ set_by_characters text u es w i)

-- ---- What is found after a value was written, and after a new key

-- which of two values is found, by whether the keys are one and which of them is sought
chosen : {X : Type 0} (one first second : Bool) (v w rest : X) → (one ≡ true → first ≡ second)
    → (first ≡ true → second ≡ true → one ≡ true)
    → cond one (cond second v rest) (cond second w (cond first v rest)) ≡ cond first v (cond second w rest)
chosen true true true v w rest f g = refl
chosen true true false v w rest f g = let e = f refl in absurd (cc)
chosen true false true v w rest f g = let e = f refl in absurd (cc)
chosen true false false v w rest f g = refl
chosen false true true v w rest f g = let e = g refl refl in absurd (cc)
chosen false true false v w rest f g = refl
chosen false false true v w rest f g = refl
chosen false false false v w rest f g = refl

-- a key with these characters is sought by its own characters, and two that are sought by one text have the same
one_text : (text sought : List ℕ) (key : String Global) → has_text text key ≡ true → bytes_eq text sought ≡ has_text sought key
one_text text sought key h = ap (λ t. bytes_eq t sought) (sym (equal (chars (string_bytes key)) text h))

both_sought : (text sought : List ℕ) (key : String Global) → bytes_eq text sought ≡ true → has_text sought key ≡ true → has_text text key ≡ true
both_sought text sought key e f = is_equal (chars (string_bytes key)) text (equal (chars (string_bytes key)) sought f ∙ sym (equal text sought e))

pub lookup-insert : {X : Type 0} (sought : List ℕ) (key : String Global) (value : X) (es : List (String Global × X))
    → lookup (has_text sought) (insert_entry string_eq es key value) ≡ cond (has_text sought key) (Some value) (lookup (has_text sought) es)
lookup-insert sought key value [] = refl
lookup-insert {X} sought key value (e ∷ es) =
    let same : string_eq key e.0 ≡ has_text (chars (string_bytes key)) e.0 = test_is (string_bytes key) (IsUtf8-string_bytes key) e.0 in
    by (string_eq key e.0)
    ∙ ap (λ rest. cond (string_eq key e.0) (cond (has_text sought e.0) (Some value) (lookup (has_text sought) es)) (cond (has_text sought e.0) (Some e.1) rest))
    (lookup-insert sought key value es)
    ∙ chosen (string_eq key e.0) (has_text sought key) (has_text sought e.0) (Some value) (Some e.1) (lookup (has_text sought) es)
    (λ one. one_text (chars (string_bytes key)) sought e.0 (sym same ∙ one))
    (λ first second. same ∙ both_sought (chars (string_bytes key)) sought e.0 first second)
  where
    by : (one : Bool) → lookup (has_text sought) (cond one ((e.0, value) ∷ es) (e ∷ insert_entry string_eq es key value))
        ≡ cond one (cond (has_text sought e.0) (Some value) (lookup (has_text sought) es))
        (cond (has_text sought e.0) (Some e.1) (lookup (has_text sought) (insert_entry string_eq es key value)))
    by true = refl
    by false = refl

set_first : {X : Type 0} (text sought : List ℕ) (e : String Global × X) (es : List (String Global × X)) (old w : X) (b : Bool) → has_text text e.0 ≡ b
    → (lookup (has_text text) es ≡ Some old
    → lookup (has_text sought) (set_value (has_text text) es w) ≡ cond (bytes_eq text sought) (Some w) (lookup (has_text sought) es))
    → cond b (Some e.1) (lookup (has_text text) es) ≡ Some old
    → lookup (has_text sought) (cond b ((e.0, w) ∷ es) (e ∷ set_value (has_text text) es w))
    ≡ cond (bytes_eq text sought) (Some w) (cond (has_text sought e.0) (Some e.1) (lookup (has_text sought) es))
set_first text sought e es old w true h later some =
    chosen true (bytes_eq text sought) (has_text sought e.0) (Some w) (Some e.1) (lookup (has_text sought) es)
    (λ one. one_text text sought e.0 h) (λ first second. refl)
set_first text sought e es old w false h later some =
    ap (λ rest. cond (has_text sought e.0) (Some e.1) rest) (later some)
    ∙ chosen false (bytes_eq text sought) (has_text sought e.0) (Some w) (Some e.1) (lookup (has_text sought) es)
    (λ one. absurd (cc)) (λ first second. sym h ∙ both_sought text sought e.0 first second)

pub lookup-set : {X : Type 0} (text sought : List ℕ) (es : List (String Global × X)) (old w : X) → lookup (has_text text) es ≡ Some old
    → lookup (has_text sought) (set_value (has_text text) es w) ≡ cond (bytes_eq text sought) (Some w) (lookup (has_text sought) es)
lookup-set text sought [] old w some = absurd (cc)
lookup-set text sought (e ∷ es) old w some = set_first text sought e es old w (has_text text e.0) refl (lookup-set text sought es old w) some

-- ---- The nodes that are found

pub began : (b : Bool) (v : Vec NodeRef Global) (o : Option (Vec NodeRef Global)) (nodes : List NodeRef) → v.items ≡ nodes
    → nodes_in (cond b (Some v) o) ≡ cond b nodes (nodes_in o)
began true v o nodes h = h
began false v o nodes h = refl

-- a text that is sought has the nodes of the text that is equal to it
same_nodes : (text sought : List ℕ) (es : List (String Global × Vec NodeRef Global)) (o : Option (Vec NodeRef Global)) → lookup (has_text text) es ≡ o
    → bytes_eq text sought ≡ true → nodes_in (lookup (has_text sought) es) ≡ nodes_in o
same_nodes text sought es o found e = ap nodes_in (ap (λ t. lookup (has_text t) es) (sym (equal text sought e)) ∙ found)

-- where the text had these nodes, and where it had none
pub went_on : (text sought : List ℕ) (node : NodeRef) (es : List (String Global × Vec NodeRef Global)) (old w : Vec NodeRef Global)
    → lookup (has_text text) es ≡ Some old → w.items ≡ with_node node old.items
    → nodes_in (lookup (has_text sought) (set_value (has_text text) es w))
    ≡ cond (bytes_eq text sought) (with_node node (nodes_in (lookup (has_text sought) es))) (nodes_in (lookup (has_text sought) es))
went_on text sought node es old w found added = ap nodes_in (lookup-set text sought es old w found) ∙ by (bytes_eq text sought) refl
  where
    by : (b : Bool) → bytes_eq text sought ≡ b → nodes_in (cond b (Some w) (lookup (has_text sought) es))
        ≡ cond b (with_node node (nodes_in (lookup (has_text sought) es))) (nodes_in (lookup (has_text sought) es))
    by true e = added ∙ ap (with_node node) (sym (same_nodes text sought es (Some old) found e))
    by false e = refl

pub was_new : (text sought : List ℕ) (node : NodeRef) (es : List (String Global × Vec NodeRef Global)) → lookup (has_text text) es ≡ None
    → cond (bytes_eq text sought) (node ∷ []) (nodes_in (lookup (has_text sought) es))
    ≡ cond (bytes_eq text sought) (with_node node (nodes_in (lookup (has_text sought) es))) (nodes_in (lookup (has_text sought) es))
was_new text sought node es found = by (bytes_eq text sought) refl
  where
    by : (b : Bool) → bytes_eq text sought ≡ b → cond b (node ∷ []) (nodes_in (lookup (has_text sought) es))
        ≡ cond b (with_node node (nodes_in (lookup (has_text sought) es))) (nodes_in (lookup (has_text sought) es))
    by true e = ap (with_node node) (sym (same_nodes text sought es None found e))
    by false e = refl
