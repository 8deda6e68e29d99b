-- How deep elements and forests are, through an edit.
use Rattle.std.proofs.Common.{◌≡◌, ◌≤◌, arith, ℕ, ◌+◌, ◌-◌, Bool, true, false, List, [], ◌∷◌, ◌++◌, Option, None, Some, refl}
use Rattle.std.proofs.Common.{sym, ap, ◌∙◌, subst, length}
use Rattle.std.specs.Prelude.{Ok, IsTrue, max, nat_lt}
use Rattle.std.proofs.lemmas.Bool.{ltb-false}
use Rattle.spec_document.specs.declared.parent.Parent.{Parent}
use Rattle.spec_document.specs.declared.parent.Parent.TheVariants as parents
use Rattle.spec_document.specs.Scope.{Scope}
use Rattle.spec_document.specs.Forest.{Content, Element, Text, Comment, Instruction, Forest, Empty, Node, Document, plain, numbered, followed, height, IsNormal}
use Rattle.spec_document.specs.Declaration.{within}
use Rattle.spec_document.specs.Fault.{fault_if}
use Rattle.spec_document.specs.NodeFaults.{greatest_depth, is_wrong_element, attribute_faults, content_faults, node_faults}
use Rattle.spec_document.specs.Top.{kept, without_texts}
use Rattle.spec_document.specs.Balance.{LineNumbers}
use Rattle.spec_document.specs.Body.{events_at}
use Rattle.spec_document.specs.Document.{depth_of, elements_beside}
use Rattle.spec_edit.specs.Splice.{text_before, last_before, met}
use Rattle.spec_edit.specs.Edit.{Edit, Edited, edited_nodes, is_element, element_count}
use Rattle.spec_edit.specs.Depth.{ElementsFit}
use Rattle.spec_edit.proofs.Labels.{plain-numbered}
use Rattle.spec_edit.proofs.Normal.{read-normal}
use Rattle.spec_edit.specs.Judged.{path_of}
use Rattle.spec_edit.proofs.Around.{Around, Here, Below, filled, above_in, content_in}
use Rattle.spec_edit.proofs.Shapes.{Shape, is_insertion, is_deletion, is_change, is_renewal, shape, levels_in, parent_in, append_none}
use Rattle.spec_edit.proofs.Shapes.{Changes, text_changes, comment_changes, instruction_changes, element_changes, Renews, element_renews, instruction_renews}
use Rattle.spec_edit.proofs.Numbers.{IsRead, read_nodes}

-- how many levels are around
abbrev pub steps : {L : Type 0} → Around L → ℕ
steps Here = 0
steps (Below before label content inner after) = 1 + steps inner

pub length-above : {L : Type 0} (above : List Content) (around : Around L) → length (above_in above around) ≡ length above + steps around
length-above above Here = omega arith
length-above above (Below before l c inner after) = let rest = length-above (c ∷ above) inner in omega arith

pub levels-steps : {L : Type 0} (around : Around L) → levels_in around ≡ steps around
levels-steps around = let all = length-above [] around in omega arith

-- ---- Heights

pub height-followed : {L : Type 0} (f g : Forest L) → height (followed f g) ≡ max (height f) (height g)
height-followed Empty g = omega arith
height-followed (Node l c f s) g = let rest = height-followed s g in omega arith

height-text : {L : Type 0} (l : L) (text : List ℕ) (children others : Forest L)
    → height (text_before l text children others) ≤ max (1 + height children) (height others)
height-text l text children Empty = omega arith
height-text l text children (Node k (Element n a) f s) = omega arith
height-text l text children (Node k (Text t) f s) = omega arith
height-text l text children (Node k (Comment t) f s) = omega arith
height-text l text children (Node k (Instruction n t) f s) = omega arith

height-last : {L : Type 0} (l : L) (c : Content) (children others : Forest L)
    → height (last_before l c children others) ≤ max (1 + height children) (height others)
height-last l (Element n a) children others = omega arith
height-last l (Text t) children others = height-text l t children others
height-last l (Comment t) children others = omega arith
height-last l (Instruction n t) children others = omega arith

pub height-met : {L : Type 0} (f g : Forest L) → height (met f g) ≤ max (height f) (height g)
height-met Empty g = omega arith
height-met (Node l c f Empty) g = let last = height-last l c f g in omega arith
height-met (Node l c f (Node k d h s)) g = let rest = height-met (Node k d h s) g in omega arith

-- siblings in a forest, and others in their place
pub height-in : {L : Type 0} (limit : ℕ) (around : Around L) (f : Forest L) → height (filled around f) ≤ limit → steps around + height f ≤ limit
height-in limit Here f h = omega arith
height-in limit (Below before l c inner after) f h =
    let all = height-followed before (Node l c (filled inner f) after) in
    let some : 1 ≤ limit = omega arith in
    let below = height-in (limit - 1) inner f (omega arith) in
    omega arith

pub height-whole : {L : Type 0} (limit : ℕ) (around : Around L) (f g : Forest L) → height (filled around f) ≤ limit → steps around + height g ≤ limit
    → height (filled around g) ≤ limit
height-whole limit Here f g h k = omega arith
height-whole limit (Below before l c inner after) f g h k =
    let old = height-followed before (Node l c (filled inner f) after) in
    let now = height-followed before (Node l c (filled inner g) after) in
    let some : 1 ≤ limit = omega arith in
    let below = height-whole (limit - 1) inner f g (omega arith) (omega arith) in
    omega arith

pub height-plain : {L : Type 0} (f : Forest L) → height (plain f) ≡ height f
height-plain Empty = refl
height-plain (Node l c f s) = λ i. max (1 + height-plain f i) (height-plain s i)

pub height-numbered : {L : Type 0} (n : ℕ) (f : Forest L) → height (numbered n f) ≡ height f
height-numbered n f = sym (height-plain (numbered n f)) ∙ ap height (plain-numbered n f) ∙ height-plain f

pub height-without : {L : Type 0} (f : Forest L) → height (without_texts f) ≤ height f
height-without Empty = omega arith
height-without (Node l (Element n a) f s) = let rest = height-without s in omega arith
height-without (Node l (Text t) f s) = let rest = height-without s in omega arith
height-without (Node l (Comment t) f s) = let rest = height-without s in omega arith
height-without (Node l (Instruction n t) f s) = let rest = height-without s in omega arith

height-kept : {L : Type 0} (others : Option ℕ) (f : Forest L) → height (kept others f) ≤ height f
height-kept None f = omega arith
height-kept (Some n) f = height-without f

-- ---- Depths of elements

abbrev ElementFits : ℕ → Content → Type 0
ElementFits depth content = IsTrue (is_element content) → depth ≤ greatest_depth

pub fit-at : {L : Type 0} (d e : ℕ) (f : Forest L) → d ≡ e → ElementsFit d f → ElementsFit e f
fit-at d e f same h = subst (λ n. ElementsFit n f) same h

pub fit-followed : {L : Type 0} (d : ℕ) (f g : Forest L) → ElementsFit d f → ElementsFit d g → ElementsFit d (followed f g)
fit-followed d Empty g h k = k
fit-followed d (Node l c f s) g h k = (h.0, h.1, fit-followed d s g h.2 k)

pub fit-parts : {L : Type 0} (d : ℕ) (f g : Forest L) → ElementsFit d (followed f g) → ElementsFit d f × ElementsFit d g
fit-parts d Empty g h = (tt, h)
fit-parts d (Node l c f s) g h = let rest = fit-parts d s g h.2 in ((h.0, h.1, rest.0), rest.1)

fit-text : {L : Type 0} (d : ℕ) (l : L) (text : List ℕ) (children others : Forest L) → ElementsFit (d + 1) children → ElementsFit d others
    → ElementsFit d (text_before l text children others)
fit-text d l text children Empty h k = (λ e. absurd (cc), h, tt)
fit-text d l text children (Node m (Element n a) f s) h k = (λ e. absurd (cc), h, k)
fit-text d l text children (Node m (Text t) f s) h k = (λ e. absurd (cc), h, k.2)
fit-text d l text children (Node m (Comment t) f s) h k = (λ e. absurd (cc), h, k)
fit-text d l text children (Node m (Instruction n t) f s) h k = (λ e. absurd (cc), h, k)

fit-last : {L : Type 0} (d : ℕ) (l : L) (c : Content) (children others : Forest L) → ElementFits d c → ElementsFit (d + 1) children → ElementsFit d others
    → ElementsFit d (last_before l c children others)
fit-last d l (Element n a) children others own h k = (own, h, k)
fit-last d l (Text t) children others own h k = fit-text d l t children others h k
fit-last d l (Comment t) children others own h k = (own, h, k)
fit-last d l (Instruction n t) children others own h k = (own, h, k)

pub fit-met : {L : Type 0} (d : ℕ) (f g : Forest L) → ElementsFit d f → ElementsFit d g → ElementsFit d (met f g)
fit-met d Empty g h k = k
fit-met d (Node l c f Empty) g h k = fit-last d l c f g h.0 h.1 k
fit-met d (Node l c f (Node m e r s)) g h k = (h.0, h.1, fit-met d (Node m e r s) g h.2 k)

pub fit-in : {L : Type 0} (d : ℕ) (around : Around L) (f : Forest L) → ElementsFit d (filled around f) → ElementsFit (d + steps around) f
fit-in d Here f h = fit-at d (d + 0) f (omega arith) h
fit-in d (Below before l c inner after) f h =
    let parts = fit-parts d before (Node l c (filled inner f) after) h in
    fit-at (d + 1 + steps inner) (d + (1 + steps inner)) f (omega arith) (fit-in (d + 1) inner f parts.1.1)

pub fit-whole : {L : Type 0} (d : ℕ) (around : Around L) (f g : Forest L) → ElementsFit d (filled around f) → ElementsFit (d + steps around) g
    → ElementsFit d (filled around g)
fit-whole d Here f g h k = fit-at (d + 0) d g (omega arith) k
fit-whole d (Below before l c inner after) f g h k =
    let parts = fit-parts d before (Node l c (filled inner f) after) h in
    let below = fit-whole (d + 1) inner f g parts.1.1 (fit-at (d + (1 + steps inner)) (d + 1 + steps inner) g (omega arith) k) in
    fit-followed d before (Node l c (filled inner g) after) parts.0 (parts.1.0, below, parts.1.2)

-- the element directly above the siblings
abbrev ContentFits : ℕ → Option Content → Type 0
ContentFits depth None = Unit {0}
ContentFits depth (Some content) = ElementFits depth content

pub fit-above : {L : Type 0} (d : ℕ) (own : Option Content) (around : Around L) (f : Forest L) → ContentFits d own → ElementsFit (d + 1) (filled around f)
    → ContentFits (d + steps around) (content_in own around)
fit-above d own Here f o h = let same : d ≡ d + 0 = omega arith in subst (λ n. ContentFits n own) same o
fit-above d own (Below before l c inner after) f o h =
    let parts = fit-parts (d + 1) before (Node l c (filled inner f) after) h in
    let same : d + 1 + steps inner ≡ d + (1 + steps inner) = omega arith in
    subst (λ n. ContentFits n (content_in (Some c) inner)) same (fit-above (d + 1) (Some c) inner f parts.1.0 parts.1.1)

pub fit-plain : {L : Type 0} (d : ℕ) (f : Forest L) → ElementsFit d f → ElementsFit d (plain f)
fit-plain d Empty h = tt
fit-plain d (Node l c f s) h = (h.0, fit-plain (d + 1) f h.1, fit-plain d s h.2)

pub fit-of-plain : {L : Type 0} (d : ℕ) (f : Forest L) → ElementsFit d (plain f) → ElementsFit d f
fit-of-plain d Empty h = tt
fit-of-plain d (Node l c f s) h = (h.0, fit-of-plain (d + 1) f h.1, fit-of-plain d s h.2)

pub fit-numbered : {L : Type 0} (d n : ℕ) (f : Forest L) → ElementsFit d f → ElementsFit d (numbered n f)
fit-numbered d n f h = fit-of-plain d (numbered n f) (subst (ElementsFit d) (sym (plain-numbered n f)) (fit-plain d f h))

pub fit-without : {L : Type 0} (d : ℕ) (f : Forest L) → ElementsFit d f → ElementsFit d (without_texts f)
fit-without d Empty h = tt
fit-without d (Node l (Element n a) f s) h = (h.0, h.1, fit-without d s h.2)
fit-without d (Node l (Text t) f s) h = fit-without d s h.2
fit-without d (Node l (Comment t) f s) h = (h.0, h.1, fit-without d s h.2)
fit-without d (Node l (Instruction n t) f s) h = (h.0, h.1, fit-without d s h.2)

fit-kept : {L : Type 0} (d : ℕ) (others : Option ℕ) (f : Forest L) → ElementsFit d f → ElementsFit d (kept others f)
fit-kept d None f h = h
fit-kept d (Some n) f h = fit-without d f h

-- ---- Where no element is too deep

no-fault : (b : Bool) (n line : ℕ) → fault_if b n line ≡ [] → b ≡ false
no-fault true n line e = absurd (cc)
no-fault false n line e = refl

element-fits : (scope : Scope) (d : ℕ) (lines : LineNumbers) (c : Content) → content_faults scope d lines c ≡ [] → ElementFits d c
element-fits scope d lines (Element name attributes) e is =
    let outer = append_none (fault_if (is_wrong_element scope name) 10 lines.first ++ fault_if (nat_lt greatest_depth d) 11 lines.first)
    (attribute_faults scope [] lines.attributes attributes) e in
    let inner = append_none (fault_if (is_wrong_element scope name) 10 lines.first) (fault_if (nat_lt greatest_depth d) 11 lines.first) outer.0 in
    ltb-false greatest_depth d (no-fault (nat_lt greatest_depth d) 11 lines.first inner.1)
element-fits scope d lines (Text text) e is = absurd (cc)
element-fits scope d lines (Comment text) e is = absurd (cc)
element-fits scope d lines (Instruction target text) e is = absurd (cc)

pub unfaulted-fit : (scope : Scope) (d : ℕ) (f : Forest LineNumbers) → node_faults scope d f ≡ [] → ElementsFit d f
unfaulted-fit scope d Empty e = tt
unfaulted-fit scope d (Node lines c f s) e =
    let own = content_faults (within c scope) d lines c in
    let below = node_faults (within c scope) (d + 1) f in
    let outer = append_none (own ++ below) (node_faults scope d s) e in
    let inner = append_none own below outer.0 in
    (element-fits (within c scope) d lines c inner.0, unfaulted-fit (within c scope) (d + 1) f inner.1, unfaulted-fit scope d s outer.1)

-- only elements have something below them
pub height-fits : {L : Type 0} (d : ℕ) (f : Forest L) → IsNormal f → ElementsFit d f → d ≤ greatest_depth + 1 → d + height f ≤ greatest_depth + 2
height-fits d Empty n h k = omega arith
height-fits d (Node l (Element m a) f s) n h k =
    let own = h.0 refl in
    let below = height-fits (d + 1) f n.0 h.1 (omega arith) in
    let behind = height-fits d s n.1 h.2 k in
    omega arith
height-fits d (Node l (Text t) f s) n h k = let none = ap height n.0 in let behind = height-fits d s n.3 h.2 k in omega arith
height-fits d (Node l (Comment t) f s) n h k = let none = ap height n.0 in let behind = height-fits d s n.1 h.2 k in omega arith
height-fits d (Node l (Instruction m t) f s) n h k = let none = ap height n.0 in let behind = height-fits d s n.1 h.2 k in omega arith

-- ---- The nodes of a body

pub record Fits (scope : Scope) (parent : Parent) (nodes : Forest ℕ) : Type 0 where
  pub elements : ElementsFit (depth_of parent + 1) nodes
  pub levels : depth_of parent ≤ greatest_depth → depth_of parent + height nodes ≤ greatest_depth + 1

pub read-fits : (scope : Scope) (first : ℕ) (parent : Parent) (body : List (List ℕ)) (nodes : Forest ℕ) → IsRead scope first parent body nodes
    → Fits scope parent nodes
read-fits scope first parent body nodes r =
    let others = elements_beside parent in
    let d = depth_of parent + 1 in
    let fit = unfaulted-fit scope d r.forest r.unfaulted in
    record {
      elements = subst (ElementsFit d) r.nodes_are (fit-numbered d first (kept others r.forest) (fit-kept d others r.forest fit));
      levels = λ h. (
          let most = height-fits d r.forest (read-normal (events_at body) r.forest r.balanced) fit (omega arith) in
          let some = height-kept others r.forest in
          let is : height nodes ≡ height (kept others r.forest) = ap height (sym r.nodes_are) ∙ height-numbered first (kept others r.forest) in
          omega arith
          );
    }

-- ---- Edits

some-above : {L : Type 0} (c : Content) (around : Around L) → content_in (Some c) around ≡ None → ⊥
some-above c Here e = cc
some-above c (Below before l d inner after) e = some-above d inner e

pub none-above : {L : Type 0} (around : Around L) → content_in None around ≡ None → steps around ≡ 0
none-above Here e = refl
none-above (Below before l c inner after) e = absurd (some-above c inner e)

pub record IsParent (levels : ℕ) (parent : Parent) : Type 0 where
  pub depth : depth_of parent ≡ levels
  pub most : depth_of parent ≤ greatest_depth

pub some_parent : (p q : Parent) → Some p ≡ Some q → p ≡ q
some_parent p q e = ap (λ o. elim o [ Some r ↦ r | None ↦ p ]) e

parent-fits : (o : Option Content) (levels elements : ℕ) (parent : Parent) → parent_in o levels elements ≡ Some parent → (o ≡ None → levels ≡ 0)
    → ContentFits levels o → IsParent levels parent
parent-fits None levels elements parent e none h =
    let is = some_parent (parents.Root elements) parent e in
    let zero : 0 ≡ levels = sym (none refl) in
    let depth : depth_of parent ≡ 0 = ap depth_of (sym is) in
    record { depth = depth ∙ zero; most = omega arith }
parent-fits (Some (Element name attributes)) levels elements parent e none h =
    let is = some_parent (parents.Element levels) parent e in
    let depth : depth_of parent ≡ levels = ap depth_of (sym is) in
    let own = h refl in
    record { depth = depth; most = omega arith }
parent-fits (Some (Text text)) levels elements parent e none h = absurd (cc)
parent-fits (Some (Comment text)) levels elements parent e none h = absurd (cc)
parent-fits (Some (Instruction target text)) levels elements parent e none h = absurd (cc)

pub parent-at : {L : Type 0} (around : Around L) (f : Forest L) (elements : ℕ) (parent : Parent)
    → parent_in (content_in None around) (levels_in around) elements ≡ Some parent → ElementsFit 1 (filled around f) → IsParent (steps around) parent
parent-at around f elements parent e h =
    let one : 1 ≡ 0 + 1 = omega arith in
    let own = fit-above 0 None around f tt (fit-at 1 (0 + 1) (filled around f) one h) in
    let levels : 0 + steps around ≡ steps around = omega arith in
    parent-fits (content_in None around) (steps around) elements parent
    (ap (λ n. parent_in (content_in None around) n elements) (sym (levels-steps around)) ∙ e)
    (none-above around) (subst (λ n. ContentFits n (content_in None around)) levels own)

pub record IsShallow (f : Forest ℕ) : Type 0 where
  pub levels : height f ≤ greatest_depth + 1
  pub elements : ElementsFit 1 f

alike-changes : (scope : Scope) (depth : ℕ) (old new : Content) → Changes scope depth old new → is_element new ≡ is_element old
alike-changes scope depth _ _ (text_changes text c cs) = refl
alike-changes scope depth _ _ (comment_changes text value) = refl
alike-changes scope depth _ _ (instruction_changes target text value) = refl
alike-changes scope depth _ _ (element_changes own name old new apart set e) = refl

alike-renews : (old new : Content) → Renews old new → is_element new ≡ is_element old
alike-renews _ _ (element_renews own other old new) = refl
alike-renews _ _ (instruction_renews target other text) = refl

-- another node in place of one, with children that are as deep
stays-shallow : (around : Around ℕ) (before : Forest ℕ) (label new_label : ℕ) (old new : Content) (children other after : Forest ℕ)
    → is_element new ≡ is_element old
    → height other ≡ height children → ((d : ℕ) → ElementsFit d children → ElementsFit d other)
    → IsShallow (filled around (followed before (Node label old children after)))
    → IsShallow (filled around (followed before (Node new_label new other after)))
stays-shallow around before label new_label old new children other after kind same fit s =
    let f = followed before (Node label old children after) in
    let g = followed before (Node new_label new other after) in
    let limit = greatest_depth + 1 in
    let levels = height-in limit around f s.levels in
    let was = height-followed before (Node label old children after) in
    let now = height-followed before (Node new_label new other after) in
    let parts = fit-parts (1 + steps around) before (Node label old children after) (fit-in 1 around f s.elements) in
    record {
      levels = height-whole limit around f g s.levels (omega arith);
      elements = fit-whole 1 around f g s.elements (fit-followed (1 + steps around) before (Node new_label new other after) parts.0
          (λ e. parts.1.0 (sym kind ∙ e), fit (1 + steps around + 1) parts.1.1, parts.1.2));
    }

pub shallow : (first : ℕ) (path : List ℕ) (document : Document ℕ) (new : Edited ℕ) → Shape first path document new
    → IsShallow document.nodes → IsShallow new.nodes
shallow first path document new (is_insertion s) old =
    let was = subst IsShallow s.whole old in
    let f = followed s.before s.after in
    let g = met s.before (met s.nodes s.after) in
    let limit = greatest_depth + 1 in
    let parent = parent-at s.around f (element_count f) s.parent s.stands was.elements in
    let fits = read-fits _ first s.parent s.body s.nodes (read_nodes _ first s.parent s.body s.nodes s.read) in
    let depth = parent.depth in
    let most = fits.levels parent.most in
    let levels = height-in limit s.around f was.levels in
    let all = height-followed s.before s.after in
    let outer = height-met s.before (met s.nodes s.after) in
    let inner = height-met s.nodes s.after in
    let parts = fit-parts (1 + steps s.around) s.before s.after (fit-in 1 s.around f was.elements) in
    let own = fit-at (depth_of s.parent + 1) (1 + steps s.around) s.nodes (omega arith) fits.elements in
    subst IsShallow (sym s.nodes_are) (record {
      levels = height-whole limit s.around f g was.levels (omega arith);
      elements = fit-whole 1 s.around f g was.elements
          (fit-met (1 + steps s.around) s.before (met s.nodes s.after) parts.0 (fit-met (1 + steps s.around) s.nodes s.after own parts.1));
    })
shallow first path document new (is_deletion s) old =
    let was = subst IsShallow s.whole old in
    let f = followed s.before (Node s.label s.content s.children s.after) in
    let g = met s.before s.after in
    let limit = greatest_depth + 1 in
    let levels = height-in limit s.around f was.levels in
    let all = height-followed s.before (Node s.label s.content s.children s.after) in
    let outer = height-met s.before s.after in
    let parts = fit-parts (1 + steps s.around) s.before (Node s.label s.content s.children s.after) (fit-in 1 s.around f was.elements) in
    subst IsShallow (sym s.nodes_are) (record {
      levels = height-whole limit s.around f g was.levels (omega arith);
      elements = fit-whole 1 s.around f g was.elements (fit-met (1 + steps s.around) s.before s.after parts.0 parts.1.2);
    })
shallow first path document new (is_change s) old =
    subst IsShallow (sym s.nodes_are) (stays-shallow s.around s.before s.label s.label s.old_content s.content s.children s.children s.after
    (alike-changes _ _ s.old_content s.content s.changes) refl (λ d h. h) (subst IsShallow s.whole old))
shallow first path document new (is_renewal s) old =
    let other = numbered (first + 1) (plain s.children) in
    subst IsShallow (sym s.nodes_are) (stays-shallow s.around s.before s.label first s.old_content s.content s.children other s.after
    (alike-renews s.old_content s.content s.renews) (height-numbered (first + 1) (plain s.children) ∙ height-plain s.children)
    (λ d h. fit-numbered d (first + 1) (plain s.children) (fit-plain d s.children h)) (subst IsShallow s.whole old))

pub edit_shallow : (first : ℕ) (edit : Edit) (document : Document ℕ) (new : Edited ℕ) → edited_nodes first edit document ≡ Ok new
    → IsShallow document.nodes → IsShallow new.nodes
edit_shallow first edit document new e = shallow first (path_of edit) document new (shape first document new edit e)
