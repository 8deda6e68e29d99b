-- Documents without faults, through an edit.
use Rattle.std.proofs.Common.{◌≡◌, ◌≤◌, arith, ℕ, ◌+◌, ◌-◌, ◌==◌, Bool, true, false, cond, not, List, [], ◌∷◌, ◌++◌, Option, None, Some, refl}
use Rattle.std.proofs.Common.{sym, ap, ◌∙◌, subst, length, map, drop}
use Rattle.std.specs.Prelude.{Ok, nat_lt, bytes_eq, codes, slice_index, ◌&&◌}
use Rattle.std.specs.List.{list_any}
use Rattle.std.proofs.lemmas.Bool.{eqb-true}
use Rattle.std.proofs.lemmas.Slice.Eq.{bytes_eq-Decides}
use Rattle.spec_document.specs.declared.parent.Parent.{Parent}
use Rattle.spec_document.specs.declared.parent.Parent.TheVariants as parents
use Rattle.spec_document.specs.declared.usage.AttributeUse.TheVariants.{Declares, Names, NoName}
use Rattle.spec_document.specs.Scope.{Scope, root_scope, bound}
use Rattle.spec_document.specs.Forest.{Written, Content, Element, Text, Comment, Instruction, Forest, Empty, Node, Document, plain, size, numbered, followed}
use Rattle.spec_document.specs.Declaration.{PlainUse, use_of, within, declared, declared_all, scope_of}
use Rattle.spec_document.specs.Fault.{fault_if}
use Rattle.spec_document.specs.NodeFaults.{greatest_depth, is_wrong_use, is_wrong_element, is_wrong_target, is_same_attribute}
use Rattle.spec_document.specs.NodeFaults.{attribute_faults, content_faults, node_faults}
use Rattle.spec_document.specs.Top.{kept, without_texts, elements_at_top, element_faults, text_faults}
use Rattle.spec_document.specs.Balance.{LineNumbers, alone}
use Rattle.spec_document.specs.Document.{depth_of, elements_beside}
use Rattle.spec_edit.specs.Splice.{text_before, last_before, met}
use Rattle.spec_edit.specs.Edit.{Edit, Edited, edited_nodes, is_element, element_count, without_lines, makes_anew, is_named, set_in, without_attribute}
use Rattle.spec_edit.specs.Valid.{IsValid}
use Rattle.spec_edit.proofs.Labels.{plain-numbered}
use Rattle.spec_edit.specs.Judged.{path_of}
use Rattle.spec_edit.proofs.Around.{Around, Here, Below, filled, above_in, content_in}
use Rattle.spec_edit.proofs.Shapes.{Shape, is_insertion, is_deletion, is_change, is_renewal, shape, scope_in, levels_in, parent_in, append_none, anew}
use Rattle.spec_edit.proofs.Shapes.{Changes, text_changes, comment_changes, instruction_changes, element_changes, Renews, element_renews, instruction_renews}
use Rattle.spec_edit.proofs.Shapes.{AreSet, is_set, is_removed}
use Rattle.spec_edit.proofs.Numbers.{IsRead, read_nodes}
use Rattle.spec_edit.proofs.Depths.{steps, levels-steps, none-above, some_parent}

-- ---- Nodes without faults, wherever their lines are

abbrev pub ContentIsFine : Scope → ℕ → Content → Type 0
ContentIsFine scope depth content = content_faults (within content scope) depth (alone 0) content ≡ []

abbrev pub AreFine : {L : Type 0} → Scope → ℕ → Forest L → Type 0
AreFine scope depth Empty = Unit {0}
AreFine scope depth (Node label content children siblings) =
    ContentIsFine scope depth content × AreFine (within content scope) (depth + 1) children × AreFine scope depth siblings

moved : (b : Bool) (n line other : ℕ) → fault_if b n line ≡ [] → fault_if b n other ≡ []
moved true n line other e = absurd (cc)
moved false n line other e = refl

both-none : {A : Type 0} (xs ys : List A) → xs ≡ [] → ys ≡ [] → xs ++ ys ≡ []
both-none xs ys e h = (λ i. e i ++ ys) ∙ h

attributes-moved : (scope : Scope) (before : List Written) (lines others : List ℕ) (attributes : List Written)
    → attribute_faults scope before lines attributes ≡ [] → attribute_faults scope before others attributes ≡ []
attributes-moved scope before lines others [] e = refl
attributes-moved scope before lines others (a ∷ attributes) e =
    let wrong = is_wrong_use scope (use_of a.name) a.value in
    let twice = list_any (λ b. is_same_attribute scope b a) before in
    let l = slice_index lines 0 in
    let m = slice_index others 0 in
    let outer = append_none (fault_if wrong 10 l ++ fault_if twice 14 l) (attribute_faults scope (before ++ a ∷ []) (drop 1 lines) attributes) e in
    let inner = append_none (fault_if wrong 10 l) (fault_if twice 14 l) outer.0 in
    both-none (fault_if wrong 10 m ++ fault_if twice 14 m) (attribute_faults scope (before ++ a ∷ []) (drop 1 others) attributes)
    (both-none (fault_if wrong 10 m) (fault_if twice 14 m) (moved wrong 10 l m inner.0) (moved twice 14 l m inner.1))
    (attributes-moved scope (before ++ a ∷ []) (drop 1 lines) (drop 1 others) attributes outer.1)

content-moved : (scope : Scope) (depth : ℕ) (lines others : LineNumbers) (content : Content) → content_faults scope depth lines content ≡ []
    → content_faults scope depth others content ≡ []
content-moved scope depth lines others (Element name attributes) e =
    let wrong = is_wrong_element scope name in
    let deep = nat_lt greatest_depth depth in
    let l = lines.first in
    let m = others.first in
    let outer = append_none (fault_if wrong 10 l ++ fault_if deep 11 l) (attribute_faults scope [] lines.attributes attributes) e in
    let inner = append_none (fault_if wrong 10 l) (fault_if deep 11 l) outer.0 in
    both-none (fault_if wrong 10 m ++ fault_if deep 11 m) (attribute_faults scope [] others.attributes attributes)
    (both-none (fault_if wrong 10 m) (fault_if deep 11 m) (moved wrong 10 l m inner.0) (moved deep 11 l m inner.1))
    (attributes-moved scope [] lines.attributes others.attributes attributes outer.1)
content-moved scope depth lines others (Text text) e = refl
content-moved scope depth lines others (Comment text) e = refl
content-moved scope depth lines others (Instruction target text) e = moved (is_wrong_target target) 10 lines.first others.first e

pub fine-lines : (scope : Scope) (depth : ℕ) (f : Forest LineNumbers) → node_faults scope depth f ≡ [] → AreFine scope depth f
fine-lines scope depth Empty e = tt
fine-lines scope depth (Node lines c f s) e =
    let own = content_faults (within c scope) depth lines c in
    let below = node_faults (within c scope) (depth + 1) f in
    let outer = append_none (own ++ below) (node_faults scope depth s) e in
    let inner = append_none own below outer.0 in
    (content-moved (within c scope) depth lines (alone 0) c inner.0, fine-lines (within c scope) (depth + 1) f inner.1, fine-lines scope depth s outer.1)

pub fine-of : {L : Type 0} (scope : Scope) (depth : ℕ) (f : Forest L) → node_faults scope depth (without_lines f) ≡ [] → AreFine scope depth f
fine-of scope depth Empty e = tt
fine-of scope depth (Node l c f s) e =
    let own = content_faults (within c scope) depth (alone 0) c in
    let below = node_faults (within c scope) (depth + 1) (without_lines f) in
    let outer = append_none (own ++ below) (node_faults scope depth (without_lines s)) e in
    let inner = append_none own below outer.0 in
    (inner.0, fine-of (within c scope) (depth + 1) f inner.1, fine-of scope depth s outer.1)

pub fine-to : {L : Type 0} (scope : Scope) (depth : ℕ) (f : Forest L) → AreFine scope depth f → node_faults scope depth (without_lines f) ≡ []
fine-to scope depth Empty h = refl
fine-to scope depth (Node l c f s) h =
    let own = content_faults (within c scope) depth (alone 0) c in
    let below = node_faults (within c scope) (depth + 1) (without_lines f) in
    both-none (own ++ below) (node_faults scope depth (without_lines s))
    (both-none own below h.0 (fine-to (within c scope) (depth + 1) f h.1)) (fine-to scope depth s h.2)

pub fine-at : {L : Type 0} (scope : Scope) (d e : ℕ) (f : Forest L) → d ≡ e → AreFine scope d f → AreFine scope e f
fine-at scope d e f same h = subst (λ n. AreFine scope n f) same h

pub fine-plain : {L : Type 0} (scope : Scope) (d : ℕ) (f : Forest L) → AreFine scope d f → AreFine scope d (plain f)
fine-plain scope d Empty h = tt
fine-plain scope d (Node l c f s) h = (h.0, fine-plain (within c scope) (d + 1) f h.1, fine-plain scope d s h.2)

pub fine-of-plain : {L : Type 0} (scope : Scope) (d : ℕ) (f : Forest L) → AreFine scope d (plain f) → AreFine scope d f
fine-of-plain scope d Empty h = tt
fine-of-plain scope d (Node l c f s) h = (h.0, fine-of-plain (within c scope) (d + 1) f h.1, fine-of-plain scope d s h.2)

pub fine-numbered : {L : Type 0} (scope : Scope) (d n : ℕ) (f : Forest L) → AreFine scope d f → AreFine scope d (numbered n f)
fine-numbered scope d n f h =
    fine-of-plain scope d (numbered n f) (subst (AreFine scope d) (sym (plain-numbered n f)) (fine-plain scope d f h))

pub fine-without : {L : Type 0} (scope : Scope) (d : ℕ) (f : Forest L) → AreFine scope d f → AreFine scope d (without_texts f)
fine-without scope d Empty h = tt
fine-without scope d (Node l (Element m a) f s) h = (h.0, h.1, fine-without scope d s h.2)
fine-without scope d (Node l (Text t) f s) h = fine-without scope d s h.2
fine-without scope d (Node l (Comment t) f s) h = (h.0, h.1, fine-without scope d s h.2)
fine-without scope d (Node l (Instruction m t) f s) h = (h.0, h.1, fine-without scope d s h.2)

fine-kept : {L : Type 0} (scope : Scope) (d : ℕ) (others : Option ℕ) (f : Forest L) → AreFine scope d f → AreFine scope d (kept others f)
fine-kept scope d None f h = h
fine-kept scope d (Some n) f h = fine-without scope d f h

-- ---- Siblings and others after them

pub fine-followed : {L : Type 0} (scope : Scope) (d : ℕ) (f g : Forest L) → AreFine scope d f → AreFine scope d g → AreFine scope d (followed f g)
fine-followed scope d Empty g h k = k
fine-followed scope d (Node l c f s) g h k = (h.0, h.1, fine-followed scope d s g h.2 k)

pub fine-parts : {L : Type 0} (scope : Scope) (d : ℕ) (f g : Forest L) → AreFine scope d (followed f g) → AreFine scope d f × AreFine scope d g
fine-parts scope d Empty g h = (tt, h)
fine-parts scope d (Node l c f s) g h = let rest = fine-parts scope d s g h.2 in ((h.0, h.1, rest.0), rest.1)

fine-text : {L : Type 0} (scope : Scope) (d : ℕ) (l : L) (text : List ℕ) (children others : Forest L) → AreFine scope (d + 1) children
    → AreFine scope d others → AreFine scope d (text_before l text children others)
fine-text scope d l text children Empty h k = (refl, h, tt)
fine-text scope d l text children (Node m (Element n a) f s) h k = (refl, h, k)
fine-text scope d l text children (Node m (Text t) f s) h k = (refl, h, k.2)
fine-text scope d l text children (Node m (Comment t) f s) h k = (refl, h, k)
fine-text scope d l text children (Node m (Instruction n t) f s) h k = (refl, h, k)

fine-last : {L : Type 0} (scope : Scope) (d : ℕ) (l : L) (c : Content) (children others : Forest L) → ContentIsFine scope d c
    → AreFine (within c scope) (d + 1) children → AreFine scope d others
    → AreFine scope d (last_before l c children others)
fine-last scope d l (Element n a) children others own h k = (own, h, k)
fine-last scope d l (Text t) children others own h k = fine-text scope d l t children others h k
fine-last scope d l (Comment t) children others own h k = (own, h, k)
fine-last scope d l (Instruction n t) children others own h k = (own, h, k)

pub fine-met : {L : Type 0} (scope : Scope) (d : ℕ) (f g : Forest L) → AreFine scope d f → AreFine scope d g → AreFine scope d (met f g)
fine-met scope d Empty g h k = k
fine-met scope d (Node l c f Empty) g h k = fine-last scope d l c f g h.0 h.1 k
fine-met scope d (Node l c f (Node m e r s)) g h k = (h.0, h.1, fine-met scope d (Node m e r s) g h.2 k)

-- ---- Siblings in a forest

pub fine-in : {L : Type 0} (above : List Content) (d : ℕ) (around : Around L) (f : Forest L) → AreFine (scope_of root_scope above) d (filled around f)
    → AreFine (scope_of root_scope (above_in above around)) (d + steps around) f
fine-in above d Here f h = fine-at (scope_of root_scope above) d (d + 0) f (omega arith) h
fine-in above d (Below before l c inner after) f h =
    let parts = fine-parts (scope_of root_scope above) d before (Node l c (filled inner f) after) h in
    fine-at (scope_of root_scope (above_in (c ∷ above) inner)) (d + 1 + steps inner) (d + (1 + steps inner)) f (omega arith)
    (fine-in (c ∷ above) (d + 1) inner f parts.1.1)

pub fine-whole : {L : Type 0} (above : List Content) (d : ℕ) (around : Around L) (f g : Forest L)
    → AreFine (scope_of root_scope above) d (filled around f)
    → AreFine (scope_of root_scope (above_in above around)) (d + steps around) g
    → AreFine (scope_of root_scope above) d (filled around g)
fine-whole above d Here f g h k = fine-at (scope_of root_scope above) (d + 0) d g (omega arith) k
fine-whole above d (Below before l c inner after) f g h k =
    let scope = scope_of root_scope above in
    let parts = fine-parts scope d before (Node l c (filled inner f) after) h in
    let own = fine-at (scope_of root_scope (above_in (c ∷ above) inner)) (d + (1 + steps inner)) (d + 1 + steps inner) g (omega arith) k in
    let below = fine-whole (c ∷ above) (d + 1) inner f g parts.1.1 own in
    fine-followed scope d before (Node l c (filled inner g) after) parts.0 (parts.1.0, below, parts.1.2)

-- ---- Attributes that declare nothing

bytes_eq-true : (xs ys : List ℕ) → bytes_eq xs ys ≡ true → xs ≡ ys
bytes_eq-true xs ys e = (bytes_eq-Decides xs ys).0 e

no-declaration : (name : List ℕ) (a : Written) (scope : Scope) → a.name ≡ name → makes_anew name ≡ false → declared a scope ≡ scope
no-declaration name a scope same apart = ap (λ n. declared (record { name = n; value = a.value }) scope) same ∙ by (use_of name) refl
  where
    space : PlainUse → Bool
    space u = elim u [ Declares prefix ↦ true | Names read ↦ bytes_eq name (codes "xml:space") | NoName ↦ false ]

    by : (u : PlainUse) → use_of name ≡ u
        → elim (use_of name) as (λ _. Scope) [ Declares prefix ↦ bound scope prefix a.value | Names read ↦ scope | NoName ↦ scope ] ≡ scope
    by (Declares prefix) e = absurd (let f : true ≡ false = sym (ap space e) ∙ apart in cc)
    by (Names read) e = ap (λ u. elim u as (λ _. Scope) [ Declares prefix ↦ bound scope prefix a.value | Names read ↦ scope | NoName ↦ scope ]) e
    by NoName e = ap (λ u. elim u as (λ _. Scope) [ Declares prefix ↦ bound scope prefix a.value | Names read ↦ scope | NoName ↦ scope ]) e

set-declares : (name value : List ℕ) (a : Written) (scope : Scope) → makes_anew name ≡ false → declared (set_in name value a) scope ≡ declared a scope
set-declares name value a scope apart = by (is_named name a) refl
  where
    by : (b : Bool) → is_named name a ≡ b → declared (cond b (record { name = name; value = value }) a) scope ≡ declared a scope
    by true e =
        no-declaration name (record { name = name; value = value }) scope refl apart
        ∙ sym (no-declaration name a scope (bytes_eq-true a.name name e) apart)
    by false e = refl

map-declares : (name value : List ℕ) (attributes : List Written) (scope : Scope) → makes_anew name ≡ false
    → declared_all (map (set_in name value) attributes) scope ≡ declared_all attributes scope
map-declares name value [] scope apart = refl
map-declares name value (a ∷ attributes) scope apart =
    ap (declared_all (map (set_in name value) attributes)) (set-declares name value a scope apart)
    ∙ map-declares name value attributes (declared a scope) apart

append-declares : (name value : List ℕ) (attributes : List Written) (scope : Scope) → makes_anew name ≡ false
    → declared_all (attributes ++ record { name = name; value = value } ∷ []) scope ≡ declared_all attributes scope
append-declares name value [] scope apart = no-declaration name (record { name = name; value = value }) scope refl apart
append-declares name value (a ∷ attributes) scope apart = append-declares name value attributes (declared a scope) apart

without-declares : (name : List ℕ) (attributes : List Written) (scope : Scope) → makes_anew name ≡ false
    → declared_all (without_attribute name attributes) scope ≡ declared_all attributes scope
without-declares name [] scope apart = refl
without-declares name (a ∷ attributes) scope apart =
    by (is_named name a) refl (without-declares name attributes scope apart) (without-declares name attributes (declared a scope) apart)
  where
    rest : List Written
    rest = without_attribute name attributes

    by : (b : Bool) → is_named name a ≡ b → declared_all rest scope ≡ declared_all attributes scope
        → declared_all rest (declared a scope) ≡ declared_all attributes (declared a scope)
        → declared_all (cond (not b) (a ∷ rest) rest) scope ≡ declared_all attributes (declared a scope)
    by true e here more = here ∙ ap (declared_all attributes) (sym (no-declaration name a scope (bytes_eq-true a.name name e) apart))
    by false e here more = more

pub same-scope : (own name : List ℕ) (old new : List Written) (scope : Scope) → makes_anew name ≡ false → AreSet name old new
    → within (Element own new) scope ≡ within (Element own old) scope
same-scope own name old _ scope apart (is_set value) = by (list_any (is_named name) old)
  where
    by : (b : Bool) → declared_all (cond b (map (set_in name value) old) (old ++ record { name = name; value = value } ∷ [])) scope ≡ declared_all old scope
    by true = map-declares name value old scope apart
    by false = append-declares name value old scope apart
same-scope own name old _ scope apart (is_removed there) = without-declares name old scope apart

-- ---- What stands directly under a root

abbrev AreNoTexts : {L : Type 0} → Forest L → Type 0
AreNoTexts Empty = Unit {0}
AreNoTexts (Node l (Element m a) f s) = AreNoTexts s
AreNoTexts (Node l (Text t) f s) = ⊥
AreNoTexts (Node l (Comment t) f s) = AreNoTexts s
AreNoTexts (Node l (Instruction m t) f s) = AreNoTexts s

size-texts : {L : Type 0} (f : Forest L) → size (without_texts f) ≤ size f
size-texts Empty = omega arith
size-texts (Node l (Element m a) f s) = let rest = size-texts s in omega arith
size-texts (Node l (Text t) f s) = let rest = size-texts s in omega arith
size-texts (Node l (Comment t) f s) = let rest = size-texts s in omega arith
size-texts (Node l (Instruction m t) f s) = let rest = size-texts s in omega arith

no-texts-of : {L : Type 0} (f : Forest L) → without_texts f ≡ f → AreNoTexts f
no-texts-of Empty e = tt
no-texts-of (Node l (Element m a) f s) e = no-texts-of s (cc)
no-texts-of (Node l (Text t) f s) e = let less = size-texts s in let same = ap size e in omega arith
no-texts-of (Node l (Comment t) f s) e = no-texts-of s (cc)
no-texts-of (Node l (Instruction m t) f s) e = no-texts-of s (cc)

pub no-texts-to : {L : Type 0} (f : Forest L) → AreNoTexts f → without_texts f ≡ f
no-texts-to Empty h = refl
no-texts-to (Node l (Element m a) f s) h = ap (Node l (Element m a) f) (no-texts-to s h)
no-texts-to (Node l (Text t) f s) h = absurd h
no-texts-to (Node l (Comment t) f s) h = ap (Node l (Comment t) f) (no-texts-to s h)
no-texts-to (Node l (Instruction m t) f s) h = ap (Node l (Instruction m t) f) (no-texts-to s h)

pub no-texts-without : {L : Type 0} (f : Forest L) → AreNoTexts (without_texts f)
no-texts-without Empty = tt
no-texts-without (Node l (Element m a) f s) = no-texts-without s
no-texts-without (Node l (Text t) f s) = no-texts-without s
no-texts-without (Node l (Comment t) f s) = no-texts-without s
no-texts-without (Node l (Instruction m t) f s) = no-texts-without s

pub no-texts-numbered : {L : Type 0} (n : ℕ) (f : Forest L) → AreNoTexts f → AreNoTexts (numbered n f)
no-texts-numbered n Empty h = tt
no-texts-numbered n (Node l (Element m a) f s) h = no-texts-numbered (n + 1 + size f) s h
no-texts-numbered n (Node l (Text t) f s) h = h
no-texts-numbered n (Node l (Comment t) f s) h = no-texts-numbered (n + 1 + size f) s h
no-texts-numbered n (Node l (Instruction m t) f s) h = no-texts-numbered (n + 1 + size f) s h

-- one node with other siblings behind it
no-texts-more : {L : Type 0} (l : L) (c : Content) (f s r : Forest L) → AreNoTexts (Node l c f s) → AreNoTexts r → AreNoTexts (Node l c f r)
no-texts-more l (Element m a) f s r h k = k
no-texts-more l (Text t) f s r h k = h
no-texts-more l (Comment t) f s r h k = k
no-texts-more l (Instruction m t) f s r h k = k

no-texts-behind : {L : Type 0} (l : L) (c : Content) (f s : Forest L) → AreNoTexts (Node l c f s) → AreNoTexts s
no-texts-behind l (Element m a) f s h = h
no-texts-behind l (Text t) f s h = absurd h
no-texts-behind l (Comment t) f s h = h
no-texts-behind l (Instruction m t) f s h = h

no-texts-followed : {L : Type 0} (f g : Forest L) → AreNoTexts f → AreNoTexts g → AreNoTexts (followed f g)
no-texts-followed Empty g h k = k
no-texts-followed (Node l c f s) g h k =
    no-texts-more l c f s (followed s g) h (no-texts-followed s g (no-texts-behind l c f s h) k)

no-texts-parts : {L : Type 0} (f g : Forest L) → AreNoTexts (followed f g) → AreNoTexts f × AreNoTexts g
no-texts-parts Empty g h = (tt, h)
no-texts-parts (Node l c f s) g h =
    let rest = no-texts-parts s g (no-texts-behind l c f (followed s g) h) in (no-texts-more l c f (followed s g) s h rest.0, rest.1)

no-texts-last : {L : Type 0} (l : L) (c : Content) (f g : Forest L) → AreNoTexts (Node l c f Empty) → AreNoTexts g → AreNoTexts (last_before l c f g)
no-texts-last l (Element m a) f g h k = k
no-texts-last l (Text t) f g h k = absurd h
no-texts-last l (Comment t) f g h k = k
no-texts-last l (Instruction m t) f g h k = k

no-texts-met : {L : Type 0} (f g : Forest L) → AreNoTexts f → AreNoTexts g → AreNoTexts (met f g)
no-texts-met Empty g h k = k
no-texts-met (Node l c f Empty) g h k = no-texts-last l c f g h k
no-texts-met (Node l c f (Node m d e s)) g h k =
    no-texts-more l c f (Node m d e s) (met (Node m d e s) g) h (no-texts-met (Node m d e s) g (no-texts-behind l c f (Node m d e s) h) k)

-- elements, counted
abbrev pub one_of : Content → ℕ
one_of content = cond (is_element content) 1 0

pub elements-followed : {L : Type 0} (f g : Forest L) → element_count (followed f g) ≡ element_count f + element_count g
elements-followed Empty g = omega arith
elements-followed (Node l c f s) g = let rest = elements-followed s g in omega arith

elements-text : {L : Type 0} (l : L) (text : List ℕ) (f g : Forest L) → element_count (text_before l text f g) ≡ element_count g
elements-text l text f Empty = omega arith
elements-text l text f (Node m (Element n a) h s) = omega arith
elements-text l text f (Node m (Text t) h s) = omega arith
elements-text l text f (Node m (Comment t) h s) = omega arith
elements-text l text f (Node m (Instruction n t) h s) = omega arith

elements-last : {L : Type 0} (l : L) (c : Content) (f g : Forest L) → element_count (last_before l c f g) ≡ one_of c + element_count g
elements-last l (Element m a) f g = refl
elements-last l (Text t) f g = let is = elements-text l t f g in omega arith
elements-last l (Comment t) f g = refl
elements-last l (Instruction m t) f g = refl

pub elements-met : {L : Type 0} (f g : Forest L) → element_count (met f g) ≡ element_count f + element_count g
elements-met Empty g = omega arith
elements-met (Node l c f Empty) g = let last = elements-last l c f g in omega arith
elements-met (Node l c f (Node m d e s)) g = let rest = elements-met (Node m d e s) g in omega arith

pub elements-numbered : {L : Type 0} (n : ℕ) (f : Forest L) → element_count (numbered n f) ≡ element_count f
elements-numbered n Empty = refl
elements-numbered n (Node l c f s) = ap (λ m. one_of c + m) (elements-numbered (n + 1 + size f) s)

pub elements-top : (f : Forest LineNumbers) → element_count (without_texts f) ≡ length (elements_at_top f)
elements-top Empty = refl
elements-top (Node l (Element m a) f s) = let rest = elements-top s in omega arith
elements-top (Node l (Text t) f s) = elements-top s
elements-top (Node l (Comment t) f s) = let rest = elements-top s in omega arith
elements-top (Node l (Instruction m t) f s) = let rest = elements-top s in omega arith

pub record IsTop {L : Type 0} (f : Forest L) : Type 0 where
  pub one : element_count f ≡ 1
  pub no_texts : AreNoTexts f

-- below the top nothing is asked
top-below : {L : Type 0} (before : Forest L) (l : L) (c : Content) (f g after : Forest L) → IsTop (followed before (Node l c f after))
    → IsTop (followed before (Node l c g after))
top-below before l c f g after t =
    let parts = no-texts-parts before (Node l c f after) t.no_texts in
    let was = elements-followed before (Node l c f after) in
    let now = elements-followed before (Node l c g after) in
    let one = t.one in
    record { one = omega arith; no_texts = no-texts-followed before (Node l c g after) parts.0 (by c parts.1) }
  where
    by : (d : Content) → AreNoTexts (Node l d f after) → AreNoTexts (Node l d g after)
    by (Element m a) h = h
    by (Text t) h = h
    by (Comment t) h = h
    by (Instruction m t) h = h

pub one-there : (n line : ℕ) → fault_if (not (n == 1)) 9 line ≡ [] → n ≡ 1
one-there n line e = by (n == 1) refl e
  where
    by : (b : Bool) → (n == 1) ≡ b → fault_if (not b) 9 line ≡ [] → n ≡ 1
    by true is e = eqb-true n 1 is
    by false is e = absurd (cc)

-- the nodes of a body under a root
top-read : (scope : Scope) (first elements : ℕ) (body : List (List ℕ)) (nodes : Forest ℕ) → IsRead scope first (parents.Root elements) body nodes
    → (elements + element_count nodes ≡ 1) × AreNoTexts nodes
top-read scope first elements body nodes r =
    let lines = elements_at_top r.forest in
    let faults = append_none (element_faults elements lines) (text_faults r.forest) r.top in
    let one : elements + length lines ≡ 1 = one-there (elements + length lines) (slice_index (drop (1 - elements) lines) 0) faults.0 in
    let many : element_count nodes ≡ length lines =
    ap element_count (sym r.nodes_are) ∙ elements-numbered first (without_texts r.forest) ∙ elements-top r.forest in (
      omega arith,
      subst AreNoTexts r.nodes_are (no-texts-numbered first (without_texts r.forest) (no-texts-without r.forest)),
    )

-- ---- Edits at the top or below

root-parent : (n elements : ℕ) (parent : Parent) → parent_in None n elements ≡ Some parent → parents.Root elements ≡ parent
root-parent n elements parent e = ap (λ o. elim o [ Some p ↦ p | None ↦ parent ]) e

top-inserted : (scope : Scope) (first : ℕ) (around : Around ℕ) (before nodes after : Forest ℕ) (parent : Parent) (body : List (List ℕ))
    → parent_in (content_in None around) (levels_in around) (element_count (followed before after)) ≡ Some parent
    → IsRead scope first parent body nodes → IsTop (filled around (followed before after)) → IsTop (filled around (met before (met nodes after)))
top-inserted scope first Here before nodes after parent body e r t =
    let elements = element_count (followed before after) in
    let is = root-parent 0 elements parent e in
    let own = top-read scope first elements body nodes (subst (λ p. IsRead scope first p body nodes) (sym is) r) in
    let parts = no-texts-parts before after t.no_texts in
    let was = elements-followed before after in
    let outer = elements-met before (met nodes after) in
    let inner = elements-met nodes after in
    let one = own.0 in
    record { one = omega arith; no_texts = no-texts-met before (met nodes after) parts.0 (no-texts-met nodes after own.1 parts.1) }
top-inserted scope first (Below front l c inner behind) before nodes after parent body e r t =
    top-below front l c (filled inner (followed before after)) (filled inner (met before (met nodes after))) behind t

top-deleted : (around : Around ℕ) (before : Forest ℕ) (l : ℕ) (c : Content) (f after : Forest ℕ) → ((levels_in around + 1 == 1) && is_element c) ≡ false
    → IsTop (filled around (followed before (Node l c f after))) → IsTop (filled around (met before after))
top-deleted Here before l c f after stays t =
    let parts = no-texts-parts before (Node l c f after) t.no_texts in
    let was = elements-followed before (Node l c f after) in
    let now = elements-met before after in
    let none : one_of c ≡ 0 = ap (λ b. cond b 1 0) stays in
    let one = t.one in
    record { one = omega arith; no_texts = no-texts-met before after parts.0 (no-texts-behind l c f after parts.1) }
top-deleted (Below front k d inner behind) before l c f after stays t =
    top-below front k d (filled inner (followed before (Node l c f after))) (filled inner (met before after)) behind t

-- a content in place of one of its kind
abbrev SameKind : Content → Content → Type 0
SameKind old new = (is_element new ≡ is_element old) × ((l m : ℕ) (f g s : Forest ℕ) → AreNoTexts (Node l old f s) → AreNoTexts (Node m new g s))

changes-kind : (scope : Scope) (depth : ℕ) (old new : Content) → Changes scope depth old new → SameKind old new
changes-kind scope depth _ _ (text_changes text c cs) = (refl, λ l m f g s h. h)
changes-kind scope depth _ _ (comment_changes text value) = (refl, λ l m f g s h. h)
changes-kind scope depth _ _ (instruction_changes target text value) = (refl, λ l m f g s h. h)
changes-kind scope depth _ _ (element_changes own name old new apart set e) = (refl, λ l m f g s h. h)

renews-kind : (old new : Content) → Renews old new → SameKind old new
renews-kind _ _ (element_renews own other old new) = (refl, λ l m f g s h. h)
renews-kind _ _ (instruction_renews target other text) = (refl, λ l m f g s h. h)

top-same : (around : Around ℕ) (before : Forest ℕ) (l m : ℕ) (old new : Content) (f g after : Forest ℕ) → SameKind old new
    → IsTop (filled around (followed before (Node l old f after))) → IsTop (filled around (followed before (Node m new g after)))
top-same Here before l m old new f g after kind t =
    let parts = no-texts-parts before (Node l old f after) t.no_texts in
    let was = elements-followed before (Node l old f after) in
    let now = elements-followed before (Node m new g after) in
    let same : one_of new ≡ one_of old = ap (λ b. cond b 1 0) kind.0 in
    let one = t.one in
    record { one = omega arith; no_texts = no-texts-followed before (Node m new g after) parts.0 (kind.1 l m f g after parts.1) }
top-same (Below front k d inner behind) before l m old new f g after kind t =
    top-below front k d (filled inner (followed before (Node l old f after))) (filled inner (followed before (Node m new g after))) behind t

-- ---- Edits

pub parent-depth : (o : Option Content) (levels elements : ℕ) (parent : Parent) → parent_in o levels elements ≡ Some parent → (o ≡ None → levels ≡ 0)
    → depth_of parent ≡ levels
parent-depth None levels elements parent e none = ap depth_of (sym (root-parent levels elements parent e)) ∙ sym (none refl)
parent-depth (Some (Element name attributes)) levels elements parent e none = ap depth_of (sym (some_parent (parents.Element levels) parent e))
parent-depth (Some (Text text)) levels elements parent e none = absurd (cc)
parent-depth (Some (Comment text)) levels elements parent e none = absurd (cc)
parent-depth (Some (Instruction target text)) levels elements parent e none = absurd (cc)

pub record IsFaultless (f : Forest ℕ) : Type 0 where
  pub fine : AreFine root_scope 1 f
  pub top : IsTop f

changed-fine : (scope : Scope) (d : ℕ) (old new : Content) (f : Forest ℕ) → Changes scope d old new → ContentIsFine scope d old
    → AreFine (within old scope) (d + 1) f → ContentIsFine scope d new × AreFine (within new scope) (d + 1) f
changed-fine scope d _ _ f (text_changes text c cs) own h = (refl, h)
changed-fine scope d _ _ f (comment_changes text value) own h = (refl, h)
changed-fine scope d _ _ f (instruction_changes target text value) own h = (own, h)
changed-fine scope d _ _ f (element_changes own name old new apart set e) _ h =
    (e, subst (λ s. AreFine s (d + 1) f) (sym (same-scope own name old new scope apart set)) h)

faultless : (first : ℕ) (path : List ℕ) (document : Document ℕ) (new : Edited ℕ) → Shape first path document new
    → IsFaultless document.nodes → IsFaultless new.nodes
faultless first path document new (is_insertion s) old =
    let was = subst IsFaultless s.whole old in
    let scope = scope_in s.around in
    let d = 1 + steps s.around in
    let f = followed s.before s.after in
    let g = met s.before (met s.nodes s.after) in
    let r = read_nodes scope first s.parent s.body s.nodes s.read in
    let others = elements_beside s.parent in
    let levels = levels-steps s.around in
    let depth : depth_of s.parent ≡ levels_in s.around =
    parent-depth (content_in None s.around) (levels_in s.around) (element_count f) s.parent s.stands (λ e. levels ∙ none-above s.around e) in
    let own = subst (AreFine scope (depth_of s.parent + 1)) r.nodes_are (fine-numbered scope (depth_of s.parent + 1) first (kept others r.forest)
    (fine-kept scope (depth_of s.parent + 1) others r.forest (fine-lines scope (depth_of s.parent + 1) r.forest r.unfaulted))) in
    let there = fine-at scope (depth_of s.parent + 1) d s.nodes (omega arith) own in
    let parts = fine-parts scope d s.before s.after (fine-in [] 1 s.around f was.fine) in
    subst IsFaultless (sym s.nodes_are) (record {
      fine = fine-whole [] 1 s.around f g was.fine
          (fine-met scope d s.before (met s.nodes s.after) parts.0 (fine-met scope d s.nodes s.after there parts.1));
      top = top-inserted scope first s.around s.before s.nodes s.after s.parent s.body s.stands r was.top;
    })
faultless first path document new (is_deletion s) old =
    let was = subst IsFaultless s.whole old in
    let scope = scope_in s.around in
    let d = 1 + steps s.around in
    let node = Node s.label s.content s.children s.after in
    let f = followed s.before node in
    let parts = fine-parts scope d s.before node (fine-in [] 1 s.around f was.fine) in
    subst IsFaultless (sym s.nodes_are) (record {
      fine = fine-whole [] 1 s.around f (met s.before s.after) was.fine (fine-met scope d s.before s.after parts.0 parts.1.2);
      top = top-deleted s.around s.before s.label s.content s.children s.after s.stays was.top;
    })
faultless first path document new (is_change s) old =
    let was = subst IsFaultless s.whole old in
    let scope = scope_in s.around in
    let d = 1 + steps s.around in
    let node = Node s.label s.old_content s.children s.after in
    let other = Node s.label s.content s.children s.after in
    let f = followed s.before node in
    let parts = fine-parts scope d s.before node (fine-in [] 1 s.around f was.fine) in
    let levels = levels-steps s.around in
    let same : levels_in s.around + 1 ≡ d = omega arith in
    let changes = subst (λ n. Changes scope n s.old_content s.content) same s.changes in
    let now = changed-fine scope d s.old_content s.content s.children changes parts.1.0 parts.1.1 in
    subst IsFaultless (sym s.nodes_are) (record {
      fine = fine-whole [] 1 s.around f (followed s.before other) was.fine
          (fine-followed scope d s.before other parts.0 (now.0, now.1, parts.1.2));
      top = top-same s.around s.before s.label s.label s.old_content s.content s.children s.children s.after
          (changes-kind _ _ s.old_content s.content s.changes) was.top;
    })
faultless first path document new (is_renewal s) old =
    let was = subst IsFaultless s.whole old in
    let scope = scope_in s.around in
    let d = 1 + steps s.around in
    let node = Node s.label s.old_content s.children s.after in
    let below = numbered (first + 1) (plain s.children) in
    let other = Node first s.content below s.after in
    let f = followed s.before node in
    let parts = fine-parts scope d s.before node (fine-in [] 1 s.around f was.fine) in
    let levels = levels-steps s.around in
    let same : levels_in s.around + 1 ≡ d = omega arith in
    let tree = fine-at scope (levels_in s.around + 1) d (anew s.content s.children) same
    (fine-of scope (levels_in s.around + 1) (anew s.content s.children) s.unfaulted) in
    subst IsFaultless (sym s.nodes_are) (record {
      fine = fine-whole [] 1 s.around f (followed s.before other) was.fine
          (fine-followed scope d s.before other parts.0
          (tree.0, fine-numbered (within s.content scope) (d + 1) (first + 1) (plain s.children) tree.1, parts.1.2));
      top = top-same s.around s.before s.label first s.old_content s.content s.children below s.after (renews-kind s.old_content s.content s.renews) was.top;
    })

faultless-of : (f : Forest ℕ) → IsValid f → IsFaultless f
faultless-of f v = record { fine = fine-of root_scope 1 f v.unfaulted; top = record { one = v.one_element; no_texts = no-texts-of f v.no_text } }

faultless-to : (f : Forest ℕ) → IsFaultless f → IsValid f
faultless-to f v = record { unfaulted = fine-to root_scope 1 f v.fine; one_element = v.top.one; no_text = no-texts-to f v.top.no_texts }

pub edit_valid : (first : ℕ) (edit : Edit) (document : Document ℕ) (new : Edited ℕ) → edited_nodes first edit document ≡ Ok new
    → IsValid document.nodes → IsValid new.nodes
edit_valid first edit document new e v =
    faultless-to new.nodes (faultless first (path_of edit) document new (shape first document new edit e) (faultless-of document.nodes v))
