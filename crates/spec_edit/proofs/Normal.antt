-- Forests that events make: only elements have something below them, no text is empty and no two stand side by side.
use Rattle.std.proofs.Common.{◌≡◌, ◌≢◌, ℕ, ◌+◌, List, [], ◌∷◌, ◌++◌, refl, sym, ap, subst, map, Option, None, Some}
use Rattle.std.specs.Prelude.{Ok, IsTrue}
use Rattle.spec_document.specs.declared.parent.Parent.{Parent}
use Rattle.spec_document.specs.Scope.{Scope}
use Rattle.spec_document.specs.Top.{without_texts, kept}
use Rattle.spec_document.specs.Body.{events_at}
use Rattle.spec_document.specs.Document.{elements_beside}
use Rattle.spec_edit.specs.Splice.{text_before, last_before, met}
use Rattle.spec_edit.specs.Edit.{Edit, Edited, edited_nodes, is_element, element_count}
use Rattle.spec_edit.proofs.Labels.{plain-numbered}
use Rattle.spec_edit.specs.Judged.{path_of}
use Rattle.spec_edit.proofs.Around.{Around, Here, Below, filled, content_in}
use Rattle.spec_edit.proofs.Shapes.{Shape, is_insertion, is_deletion, is_change, is_renewal, shape, levels_in, parent_in}
use Rattle.spec_edit.proofs.Shapes.{Changes, text_changes, comment_changes, instruction_changes, element_changes, Renews, element_renews, instruction_renews}
use Rattle.spec_edit.proofs.Numbers.{IsRead, read_nodes}
use Rattle.std.specs.Option.{option_map}
use Rattle.spec_document.specs.Balance.{LineNumbers, forest_of}
use Rattle.spec_document.proofs.Reading.{computed_is_forest}
use Rattle.spec_document.specs.declared.event.Event.{Event}
use Rattle.spec_document.specs.Forest.{Content, Element, Text, Comment, Instruction, Forest, Empty, Node, Plain, plain, with_text, IsForestOf, is_empty}
use Rattle.spec_document.specs.Forest.{is_element as an_element, is_text, is_comment, is_instruction, IsNoText, IsNormal, numbered, followed, Document}

joined-normal : (text : List ℕ) (f : Plain) → IsNormal f → IsNormal (with_text text f)
joined-normal [] f n = n
joined-normal (c ∷ cs) Empty n = (refl, λ e. cc, tt, tt)
joined-normal (c ∷ cs) (Node l (Text t) children siblings) n = (n.0, λ e. cc, n.2, n.3)
joined-normal (c ∷ cs) (Node l (Element m a) children siblings) n = (refl, λ e. cc, tt, n)
joined-normal (c ∷ cs) (Node l (Comment t) children siblings) n = (refl, λ e. cc, tt, n)
joined-normal (c ∷ cs) (Node l (Instruction m t) children siblings) n = (refl, λ e. cc, tt, n)

pub forest-normal : (events : List (Event (List ℕ))) (f : Plain) → IsForestOf events f → IsNormal f
forest-normal _ _ is_empty = tt
forest-normal _ _ (an_element {inner} {rest} {children} {siblings} name attributes e below behind) =
    (forest-normal inner children below, forest-normal rest siblings behind)
forest-normal _ forest (is_text {rest} {siblings} text behind e) =
    subst IsNormal (sym e) (joined-normal text siblings (forest-normal rest siblings behind))
forest-normal _ _ (is_comment {rest} {siblings} text behind) = (refl, forest-normal rest siblings behind)
forest-normal _ _ (is_instruction {rest} {siblings} target text behind) = (refl, forest-normal rest siblings behind)

-- ---- Labels do not matter

plain-empty : {L : Type 0} (f : Forest L) → plain f ≡ Empty → f ≡ Empty
plain-empty Empty e = refl
plain-empty (Node l c f s) e = absurd (cc)

pub no-text-plain : {L : Type 0} (f : Forest L) → IsNoText f → IsNoText (plain f)
no-text-plain Empty n = tt
no-text-plain (Node l (Element m a) f s) n = tt
no-text-plain (Node l (Text t) f s) n = n
no-text-plain (Node l (Comment t) f s) n = tt
no-text-plain (Node l (Instruction m t) f s) n = tt

no-text-of-plain : {L : Type 0} (f : Forest L) → IsNoText (plain f) → IsNoText f
no-text-of-plain Empty n = tt
no-text-of-plain (Node l (Element m a) f s) n = tt
no-text-of-plain (Node l (Text t) f s) n = n
no-text-of-plain (Node l (Comment t) f s) n = tt
no-text-of-plain (Node l (Instruction m t) f s) n = tt

pub plain-normal : {L : Type 0} (f : Forest L) → IsNormal f → IsNormal (plain f)
plain-normal Empty n = tt
plain-normal (Node l (Element m a) f s) n = (plain-normal f n.0, plain-normal s n.1)
plain-normal (Node l (Text t) f s) n = (ap plain n.0, n.1, no-text-plain s n.2, plain-normal s n.3)
plain-normal (Node l (Comment t) f s) n = (ap plain n.0, plain-normal s n.1)
plain-normal (Node l (Instruction m t) f s) n = (ap plain n.0, plain-normal s n.1)

pub normal-of-plain : {L : Type 0} (f : Forest L) → IsNormal (plain f) → IsNormal f
normal-of-plain Empty n = tt
normal-of-plain (Node l (Element m a) f s) n = (normal-of-plain f n.0, normal-of-plain s n.1)
normal-of-plain (Node l (Text t) f s) n = (plain-empty f n.0, n.1, no-text-of-plain s n.2, normal-of-plain s n.3)
normal-of-plain (Node l (Comment t) f s) n = (plain-empty f n.0, normal-of-plain s n.1)
normal-of-plain (Node l (Instruction m t) f s) n = (plain-empty f n.0, normal-of-plain s n.1)

-- of one plain forest each is as the other
pub normal-alike : {L M : Type 0} (f : Forest L) (g : Forest M) → plain f ≡ plain g → IsNormal f → IsNormal g
normal-alike f g e n = normal-of-plain g (subst IsNormal e (plain-normal f n))

-- the forest of a body's events
pub read-normal : (events : List (ℕ × Event (List ℕ))) (f : Forest LineNumbers) → forest_of events ≡ Some f → IsNormal f
read-normal events f e =
    normal-of-plain f (forest-normal (map (λ e. e.1) events) (plain f) (computed_is_forest events (plain f) (ap (option_map plain) e)))

-- ---- Siblings and others after them

pub normal-behind : {L : Type 0} (l : L) (c : Content) (f s : Forest L) → IsNormal (Node l c f s) → IsNormal s
normal-behind l (Element m a) f s n = n.1
normal-behind l (Text t) f s n = n.3
normal-behind l (Comment t) f s n = n.1
normal-behind l (Instruction m t) f s n = n.1

no-text-met : {L : Type 0} (l : L) (c : Content) (f s g : Forest L) → IsNoText (Node l c f s) → IsNoText (met (Node l c f s) g)
no-text-met l (Element m a) f Empty g n = tt
no-text-met l (Element m a) f (Node k d h r) g n = tt
no-text-met l (Text t) f s g n = absurd n
no-text-met l (Comment t) f Empty g n = tt
no-text-met l (Comment t) f (Node k d h r) g n = tt
no-text-met l (Instruction m t) f Empty g n = tt
no-text-met l (Instruction m t) f (Node k d h r) g n = tt

some-append : (xs ys : List ℕ) → xs ≢ [] → xs ++ ys ≢ []
some-append [] ys some e = some refl
some-append (x ∷ xs) ys some e = cc

normal-text : {L : Type 0} (l : L) (text : List ℕ) (f g : Forest L) → f ≡ Empty → text ≢ [] → IsNormal g → IsNormal (text_before l text f g)
normal-text l text f Empty none some n = (none, some, tt, tt)
normal-text l text f (Node k (Element m a) h s) none some n = (none, some, tt, n)
normal-text l text f (Node k (Text t) h s) none some n = (none, some-append text t some, n.2, n.3)
normal-text l text f (Node k (Comment t) h s) none some n = (none, some, tt, n)
normal-text l text f (Node k (Instruction m t) h s) none some n = (none, some, tt, n)

normal-last : {L : Type 0} (l : L) (c : Content) (f g : Forest L) → IsNormal (Node l c f Empty) → IsNormal g → IsNormal (last_before l c f g)
normal-last l (Element m a) f g n k = (n.0, k)
normal-last l (Text t) f g n k = normal-text l t f g n.0 n.1 k
normal-last l (Comment t) f g n k = (n.0, k)
normal-last l (Instruction m t) f g n k = (n.0, k)

-- others behind the first of some siblings
normal-more : {L : Type 0} (l : L) (c : Content) (f s r : Forest L) → IsNormal (Node l c f s) → (IsNoText s → IsNoText r) → IsNormal r
    → IsNormal (Node l c f r)
normal-more l (Element m a) f s r n apart k = (n.0, k)
normal-more l (Text t) f s r n apart k = (n.0, n.1, apart n.2, k)
normal-more l (Comment t) f s r n apart k = (n.0, k)
normal-more l (Instruction m t) f s r n apart k = (n.0, k)

pub normal-met : {L : Type 0} (f g : Forest L) → IsNormal f → IsNormal g → IsNormal (met f g)
normal-met Empty g n k = k
normal-met (Node l c f Empty) g n k = normal-last l c f g n k
normal-met (Node l c f (Node m d h s)) g n k =
    normal-more l c f (Node m d h s) (met (Node m d h s) g) n (no-text-met m d h s g)
    (normal-met (Node m d h s) g (normal-behind l c f (Node m d h s) n) k)

no-text-first : {L : Type 0} (f g : Forest L) → IsNoText (followed f g) → IsNoText f
no-text-first Empty g n = tt
no-text-first (Node l (Element m a) f s) g n = tt
no-text-first (Node l (Text t) f s) g n = n
no-text-first (Node l (Comment t) f s) g n = tt
no-text-first (Node l (Instruction m t) f s) g n = tt

no-text-others : {L : Type 0} (f g h : Forest L) → (IsNoText g → IsNoText h) → IsNoText (followed f g) → IsNoText (followed f h)
no-text-others Empty g h apart n = apart n
no-text-others (Node l (Element m a) f s) g h apart n = tt
no-text-others (Node l (Text t) f s) g h apart n = n
no-text-others (Node l (Comment t) f s) g h apart n = tt
no-text-others (Node l (Instruction m t) f s) g h apart n = tt

-- each part of siblings, and that others may stand in place of the later ones if they begin with no text where those do not
pub normal-parts : {L : Type 0} (f g : Forest L) → IsNormal (followed f g) → IsNormal f × IsNormal g
normal-parts Empty g n = (tt, n)
normal-parts (Node l c f s) g n =
    let rest = normal-parts s g (normal-behind l c f (followed s g) n) in
    (normal-more l c f (followed s g) s n (no-text-first s g) rest.0, rest.1)

pub normal-others : {L : Type 0} (f g h : Forest L) → IsNormal (followed f g) → (IsNoText g → IsNoText h) → IsNormal h → IsNormal (followed f h)
normal-others Empty g h n apart k = k
normal-others (Node l c f s) g h n apart k =
    normal-more l c f (followed s g) (followed s h) n (no-text-others s g h apart)
    (normal-others s g h (normal-behind l c f (followed s g) n) apart k)

-- ---- Siblings in a forest

abbrev pub IsAbove : Option Content → Type 0
IsAbove None = Unit {0}
IsAbove (Some content) = IsTrue (is_element content)

normal-below : {L : Type 0} (l : L) (c : Content) (f s : Forest L) → IsTrue (is_element c) → IsNormal (Node l c f s) → IsNormal f
normal-below l (Element m a) f s is n = n.0
normal-below l (Text t) f s is n = absurd (cc)
normal-below l (Comment t) f s is n = absurd (cc)
normal-below l (Instruction m t) f s is n = absurd (cc)

normal-with : {L : Type 0} (l : L) (c : Content) (f g s : Forest L) → IsTrue (is_element c) → IsNormal (Node l c f s) → IsNormal g
    → IsNormal (Node l c g s)
normal-with l (Element m a) f g s is n k = (k, n.1)
normal-with l (Text t) f g s is n k = absurd (cc)
normal-with l (Comment t) f g s is n k = absurd (cc)
normal-with l (Instruction m t) f g s is n k = absurd (cc)

no-text-with : {L : Type 0} (l : L) (c : Content) (f g s : Forest L) → IsNoText (Node l c f s) → IsNoText (Node l c g s)
no-text-with l (Element m a) f g s n = tt
no-text-with l (Text t) f g s n = n
no-text-with l (Comment t) f g s n = tt
no-text-with l (Instruction m t) f g s n = tt

-- what has something below it is an element
pub some-below : {L : Type 0} (l : L) (c : Content) (f s : Forest L) → f ≢ Empty → IsNormal (Node l c f s) → IsTrue (is_element c)
some-below l (Element m a) f s some n = refl
some-below l (Text t) f s some n = absurd (some n.0)
some-below l (Comment t) f s some n = absurd (some n.0)
some-below l (Instruction m t) f s some n = absurd (some n.0)

pub some-followed : {L : Type 0} (f : Forest L) (l : L) (c : Content) (g s : Forest L) → followed f (Node l c g s) ≢ Empty
some-followed Empty l c g s e = cc
some-followed (Node k d h r) l c g s e = cc

pub some-filled : {L : Type 0} (around : Around L) (f : Forest L) → f ≢ Empty → filled around f ≢ Empty
some-filled Here f some = some
some-filled (Below before l c inner after) f some = some-followed before l c (filled inner f) after

pub above-some : {L : Type 0} (own : Option Content) (around : Around L) (f : Forest L) → IsAbove own → f ≢ Empty → IsNormal (filled around f)
    → IsAbove (content_in own around)
above-some own Here f o some n = o
above-some own (Below before l c inner after) f o some n =
    let parts = normal-parts before (Node l c (filled inner f) after) n in
    let is = some-below l c (filled inner f) after (some-filled inner f some) parts.1 in
    above-some (Some c) inner f is some (normal-below l c (filled inner f) after is parts.1)

element-around : {L : Type 0} (l : L) (c : Content) (around : Around L) (f after : Forest L) → IsAbove (content_in (Some c) around)
    → IsNormal (Node l c (filled around f) after) → IsTrue (is_element c)
element-around l c Here f after above n = above
element-around l c (Below before k d inner behind) f after above n =
    some-below l c (followed before (Node k d (filled inner f) behind)) after (some-followed before k d (filled inner f) behind) n

pub normal-in : {L : Type 0} (own : Option Content) (around : Around L) (f : Forest L) → IsAbove (content_in own around) → IsNormal (filled around f)
    → IsNormal f
normal-in own Here f above n = n
normal-in own (Below before l c inner after) f above n =
    let parts = normal-parts before (Node l c (filled inner f) after) n in
    let is = element-around l c inner f after above parts.1 in
    normal-in (Some c) inner f above (normal-below l c (filled inner f) after is parts.1)

pub normal-whole : {L : Type 0} (own : Option Content) (around : Around L) (f g : Forest L) → IsAbove (content_in own around)
    → IsNormal (filled around f) → IsNormal g → IsNormal (filled around g)
normal-whole own Here f g above n k = k
normal-whole own (Below before l c inner after) f g above n k =
    let parts = normal-parts before (Node l c (filled inner f) after) n in
    let is = element-around l c inner f after above parts.1 in
    let below = normal-whole (Some c) inner f g above (normal-below l c (filled inner f) after is parts.1) k in
    normal-others before (Node l c (filled inner f) after) (Node l c (filled inner g) after) n
    (no-text-with l c (filled inner f) (filled inner g) after) (normal-with l c (filled inner f) (filled inner g) after is parts.1 below)

-- ---- The nodes of a body

pub without-normal : {L : Type 0} (f : Forest L) → IsNormal f → IsNormal (without_texts f)
without-normal Empty n = tt
without-normal (Node l (Element m a) f s) n = (n.0, without-normal s n.1)
without-normal (Node l (Text t) f s) n = without-normal s n.3
without-normal (Node l (Comment t) f s) n = (n.0, without-normal s n.1)
without-normal (Node l (Instruction m t) f s) n = (n.0, without-normal s n.1)

pub kept-normal : {L : Type 0} (others : Option ℕ) (f : Forest L) → IsNormal f → IsNormal (kept others f)
kept-normal None f n = n
kept-normal (Some k) f n = without-normal f n

pub numbered-normal : {L : Type 0} (k : ℕ) (f : Forest L) → IsNormal f → IsNormal (numbered k f)
numbered-normal k f n = normal-alike f (numbered k f) (sym (plain-numbered k f)) n

pub read-nodes-normal : (scope : Scope) (first : ℕ) (parent : Parent) (body : List (List ℕ)) (nodes : Forest ℕ) → IsRead scope first parent body nodes
    → IsNormal nodes
read-nodes-normal scope first parent body nodes r =
    let others = elements_beside parent in
    subst IsNormal r.nodes_are
    (numbered-normal first (kept others r.forest) (kept-normal others r.forest (read-normal (events_at body) r.forest r.balanced)))

-- ---- Edits

pub parent-above : (o : Option Content) (levels elements : ℕ) (parent : Parent) → parent_in o levels elements ≡ Some parent → IsAbove o
parent-above None levels elements parent e = tt
parent-above (Some (Element m a)) levels elements parent e = refl
parent-above (Some (Text t)) levels elements parent e = absurd (cc)
parent-above (Some (Comment t)) levels elements parent e = absurd (cc)
parent-above (Some (Instruction m t)) levels elements parent e = absurd (cc)

changed-normal : (scope : Scope) (depth : ℕ) (old new : Content) (l : ℕ) (f s : Forest ℕ) → Changes scope depth old new → IsNormal (Node l old f s)
    → IsNormal (Node l new f s) × (IsNoText (Node l old f s) → IsNoText (Node l new f s))
changed-normal scope depth _ _ l f s (text_changes text c cs) n = ((n.0, λ e. cc, n.2, n.3), λ h. h)
changed-normal scope depth _ _ l f s (comment_changes text value) n = (n, λ h. h)
changed-normal scope depth _ _ l f s (instruction_changes target text value) n = (n, λ h. h)
changed-normal scope depth _ _ l f s (element_changes own name old new apart set e) n = (n, λ h. h)

renewed-normal : (old new : Content) (l k m : ℕ) (f s : Forest ℕ) → Renews old new → IsNormal (Node l old f s)
    → IsNormal (Node k new (numbered m (plain f)) s) × (IsNoText (Node l old f s) → IsNoText (Node k new (numbered m (plain f)) s))
renewed-normal _ _ l k m f s (element_renews own other old new) n = ((numbered-normal m (plain f) (plain-normal f n.0), n.1), λ h. tt)
renewed-normal _ _ l k m f s (instruction_renews target other text) n = ((ap (λ g. numbered m (plain g)) n.0, n.1), λ h. tt)

pub normal : (first : ℕ) (path : List ℕ) (document : Document ℕ) (new : Edited ℕ) → Shape first path document new → IsNormal document.nodes → IsNormal new.nodes
normal first path document new (is_insertion s) old =
    let was = subst IsNormal s.whole old in
    let f = followed s.before s.after in
    let g = met s.before (met s.nodes s.after) in
    let above = parent-above (content_in None s.around) (levels_in s.around) (element_count f) s.parent s.stands in
    let parts = normal-parts s.before s.after (normal-in None s.around f above was) in
    let own = read-nodes-normal _ first s.parent s.body s.nodes (read_nodes _ first s.parent s.body s.nodes s.read) in
    subst IsNormal (sym s.nodes_are) (normal-whole None s.around f g above was
    (normal-met s.before (met s.nodes s.after) parts.0 (normal-met s.nodes s.after own parts.1)))
normal first path document new (is_deletion s) old =
    let was = subst IsNormal s.whole old in
    let node = Node s.label s.content s.children s.after in
    let f = followed s.before node in
    let above = above-some None s.around f tt (some-followed s.before s.label s.content s.children s.after) was in
    let parts = normal-parts s.before node (normal-in None s.around f above was) in
    subst IsNormal (sym s.nodes_are) (normal-whole None s.around f (met s.before s.after) above was
    (normal-met s.before s.after parts.0 (normal-behind s.label s.content s.children s.after parts.1)))
normal first path document new (is_change s) old =
    let was = subst IsNormal s.whole old in
    let node = Node s.label s.old_content s.children s.after in
    let other = Node s.label s.content s.children s.after in
    let f = followed s.before node in
    let above = above-some None s.around f tt (some-followed s.before s.label s.old_content s.children s.after) was in
    let within = normal-in None s.around f above was in
    let parts = normal-parts s.before node within in
    let now = changed-normal _ _ s.old_content s.content s.label s.children s.after s.changes parts.1 in
    subst IsNormal (sym s.nodes_are) (normal-whole None s.around f (followed s.before other) above was (normal-others s.before node other within now.1 now.0))
normal first path document new (is_renewal s) old =
    let was = subst IsNormal s.whole old in
    let node = Node s.label s.old_content s.children s.after in
    let other = Node first s.content (numbered (first + 1) (plain s.children)) s.after in
    let f = followed s.before node in
    let above = above-some None s.around f tt (some-followed s.before s.label s.old_content s.children s.after) was in
    let within = normal-in None s.around f above was in
    let parts = normal-parts s.before node within in
    let now = renewed-normal s.old_content s.content s.label first (first + 1) s.children s.after s.renews parts.1 in
    subst IsNormal (sym s.nodes_are) (normal-whole None s.around f (followed s.before other) above was (normal-others s.before node other within now.1 now.0))

pub edit_normal : (first : ℕ) (edit : Edit) (document : Document ℕ) (new : Edited ℕ) → edited_nodes first edit document ≡ Ok new
    → IsNormal document.nodes → IsNormal new.nodes
edit_normal first edit document new e = normal first (path_of edit) document new (shape first document new edit e)
