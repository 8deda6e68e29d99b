-- A number that a node has before and after an edit is that of one node.
use Rattle.std.proofs.Common.{◌≡◌, ◌≤◌, ◌<◌, ◌⊎◌, inl, inr, arith, ℕ, ◌+◌, ◌==◌, Bool, true, false, List, [], ◌∷◌, ◌++◌, Option, None, Some, refl}
use Rattle.std.proofs.Common.{sym, ap, ◌∙◌, subst, eq-eqb}
use Rattle.std.specs.Prelude.{Ok, nat_lt}
use Rattle.std.proofs.lemmas.Bool.{ltb-true, ltb-false}
use Rattle.spec_document.specs.Scope.{Scope, root_scope}
use Rattle.spec_document.specs.Forest.{Content, Element, Text, Comment, Instruction, Forest, Empty, Node, Document, plain, labels, numbered, followed}
use Rattle.spec_document.specs.Declaration.{within, scope_of}
use Rattle.spec_document.specs.Place.{Found, root_of, found_in, node_at, scope_at, kind_by, name_by}
use Rattle.spec_edit.specs.Splice.{text_before, last_before, met}
use Rattle.spec_edit.specs.Edit.{Edit, Edited, edited_nodes}
use Rattle.spec_edit.specs.Judged.{path_of}
use Rattle.spec_edit.specs.Kept.{is_same, is_spoken_of, is_joined, Keeps}
use Rattle.spec_edit.proofs.Around.{Around, Here, Below, filled, above_in, site, some_same}
use Rattle.spec_edit.proofs.Shapes.{Shape, is_insertion, is_deletion, is_change, is_renewal, shape}
use Rattle.spec_edit.proofs.Shapes.{Changes, text_changes, comment_changes, instruction_changes, element_changes}
use Rattle.spec_edit.proofs.Numbers.{one_if, stands, stands-outside, occurs-labels, unlike, AreOnce, AreBelow}
use Rattle.spec_edit.proofs.Numbers.{read_nodes, read_numbers, edit_numbers, numbered-again}
use Rattle.spec_edit.proofs.Faultless.{same-scope}

-- ---- Nodes in a forest

abbrev pub StandsIn : List Content → Forest ℕ → Found ℕ → Type 0
StandsIn above Empty x = ⊥
StandsIn above (Node label content children siblings) x =
    (x ≡ found_in above label content children) ⊎ (StandsIn (content ∷ above) children x ⊎ StandsIn above siblings x)

-- its label stands there
pub labelled : (above : List Content) (f : Forest ℕ) (x : Found ℕ) → StandsIn above f x → 1 ≤ stands (λ m. m == x.label) f
labelled above Empty x h = absurd h
labelled above (Node l c f s) x (inl e) =
    let own : one_if (l == x.label) ≡ 1 = ap one_if (eq-eqb l x.label (sym (ap (λ n. n.label) e))) in omega arith
labelled above (Node l c f s) x (inr (inl h)) = let below = labelled (c ∷ above) f x h in omega arith
labelled above (Node l c f s) x (inr (inr h)) = let behind = labelled above s x h in omega arith

-- where labels stand once, no two nodes have one
pub only : (above : List Content) (f : Forest ℕ) (x y : Found ℕ) → StandsIn above f x → StandsIn above f y → x.label ≡ y.label
    → stands (λ m. m == x.label) f ≤ 1 → x ≡ y
only above Empty x y h k same one = absurd h
only above (Node l c f s) x y (inl d) (inl e) same one = d ∙ sym e
only above (Node l c f s) x y (inl d) (inr (inl k)) same one =
    let own : one_if (l == x.label) ≡ 1 = ap one_if (eq-eqb l x.label (sym (ap (λ n. n.label) d))) in
    let other : stands (λ m. m == x.label) f ≡ stands (λ m. m == y.label) f = ap (λ n. stands (λ m. m == n) f) same in
    let below = labelled (c ∷ above) f y k in
    absurd (omega arith)
only above (Node l c f s) x y (inl d) (inr (inr k)) same one =
    let own : one_if (l == x.label) ≡ 1 = ap one_if (eq-eqb l x.label (sym (ap (λ n. n.label) d))) in
    let other : stands (λ m. m == x.label) s ≡ stands (λ m. m == y.label) s = ap (λ n. stands (λ m. m == n) s) same in
    let behind = labelled above s y k in
    absurd (omega arith)
only above (Node l c f s) x y (inr (inl h)) (inl e) same one =
    let own : one_if (l == x.label) ≡ 1 = ap one_if (eq-eqb l x.label (sym (ap (λ n. n.label) e) ∙ sym same)) in
    let below = labelled (c ∷ above) f x h in
    absurd (omega arith)
only above (Node l c f s) x y (inr (inr h)) (inl e) same one =
    let own : one_if (l == x.label) ≡ 1 = ap one_if (eq-eqb l x.label (sym (ap (λ n. n.label) e) ∙ sym same)) in
    let behind = labelled above s x h in
    absurd (omega arith)
only above (Node l c f s) x y (inr (inl h)) (inr (inl k)) same one = only (c ∷ above) f x y h k same (omega arith)
only above (Node l c f s) x y (inr (inr h)) (inr (inr k)) same one = only above s x y h k same (omega arith)
only above (Node l c f s) x y (inr (inl h)) (inr (inr k)) same one =
    let below = labelled (c ∷ above) f x h in
    let other : stands (λ m. m == x.label) s ≡ stands (λ m. m == y.label) s = ap (λ n. stands (λ m. m == n) s) same in
    let behind = labelled above s y k in
    absurd (omega arith)
only above (Node l c f s) x y (inr (inr h)) (inr (inl k)) same one =
    let behind = labelled above s x h in
    let other : stands (λ m. m == x.label) f ≡ stands (λ m. m == y.label) f = ap (λ n. stands (λ m. m == n) f) same in
    let below = labelled (c ∷ above) f y k in
    absurd (omega arith)

in-first : (above : List Content) (f g : Forest ℕ) (x : Found ℕ) → StandsIn above f x → StandsIn above (followed f g) x
in-first above Empty g x h = absurd h
in-first above (Node l c f s) g x (inl e) = inl e
in-first above (Node l c f s) g x (inr (inl h)) = inr (inl h)
in-first above (Node l c f s) g x (inr (inr h)) = inr (inr (in-first above s g x h))

in-second : (above : List Content) (f g : Forest ℕ) (x : Found ℕ) → StandsIn above g x → StandsIn above (followed f g) x
in-second above Empty g x h = h
in-second above (Node l c f s) g x h = inr (inr (in-second above s g x h))

in-either : (above : List Content) (f g : Forest ℕ) (x : Found ℕ) → StandsIn above (followed f g) x → StandsIn above f x ⊎ StandsIn above g x
in-either above Empty g x h = inr h
in-either above (Node l c f s) g x (inl e) = inl (inl e)
in-either above (Node l c f s) g x (inr (inl h)) = inl (inr (inl h))
in-either above (Node l c f s) g x (inr (inr h)) = later (in-either above s g x h)
  where
    later : StandsIn above s x ⊎ StandsIn above g x → StandsIn above (Node l c f s) x ⊎ StandsIn above g x
    later (inl k) = inl (inr (inr k))
    later (inr k) = inr k

pub in-filled : (above : List Content) (around : Around ℕ) (f : Forest ℕ) (x : Found ℕ) → StandsIn (above_in above around) f x
    → StandsIn above (filled around f) x
in-filled above Here f x h = h
in-filled above (Below before l c inner after) f x h =
    in-second above before (Node l c (filled inner f) after) x (inr (inl (in-filled (c ∷ above) inner f x h)))

-- the node at a path that is not that of the root
pub at_path : (document : Document ℕ) (p : ℕ) (ps : List ℕ) (x : Found ℕ) → node_at document (p ∷ ps) ≡ Some x → StandsIn [] document.nodes x
at_path document p ps x e =
    let s = site document p ps x e in
    subst (λ f. StandsIn [] f x) (sym s.whole)
    (in-filled [] s.around (followed s.before (Node s.label s.content s.children s.after)) x
    (in-second (above_in [] s.around) s.before (Node s.label s.content s.children s.after) x (inl s.is)))

-- ---- The node before for one afterwards

pub data AreAlike (spoken : Option ℕ) (label : ℕ) : Option Content → Option Content → Type 0 where
  alike : (content : Option Content) → AreAlike spoken label content content
  text_joined : (text more : List ℕ) → AreAlike spoken label (Some (Text text)) (Some (Text (text ++ more)))
  spoken_of : (scope : Scope) → (depth : ℕ) → (old new : Content) → spoken ≡ Some label → Changes scope depth old new
      → AreAlike spoken label (Some old) (Some new)

pub record Origin (spoken : Option ℕ) (above : List Content) (f : Forest ℕ) (y : Found ℕ) : Type 0 where
  pub node : Found ℕ
  pub there : StandsIn above f node
  pub label : node.label ≡ y.label
  pub scope : scope_at node ≡ scope_at y
  pub content : AreAlike spoken y.label node.content y.content

carried : (spoken : Option ℕ) (above other : List Content) (f g : Forest ℕ) (y : Found ℕ) → ((x : Found ℕ) → StandsIn above f x → StandsIn other g x)
    → Origin spoken above f y → Origin spoken other g y
carried spoken above other f g y go o = record { node = o.node; there = go o.node o.there; label = o.label; scope = o.scope; content = o.content }

itself : (spoken : Option ℕ) (above : List Content) (f : Forest ℕ) (y : Found ℕ) → StandsIn above f y → Origin spoken above f y
itself spoken above f y h = record { node = y; there = h; label = refl; scope = refl; content = alike y.content }

-- the same below other contents with the same scope inside
re-above : (spoken : Option ℕ) (old new : List Content) (f : Forest ℕ) (y : Found ℕ) → scope_of root_scope old ≡ scope_of root_scope new
    → StandsIn new f y → Origin spoken old f y
re-above spoken old new Empty y same h = absurd h
re-above spoken old new (Node l c f s) y same (inl e) =
    record {
      node = found_in old l c f;
      there = inl refl;
      label = sym (ap (λ n. n.label) e);
      scope = ap (within c) same ∙ sym (ap scope_at e);
      content = subst (λ o. AreAlike spoken y.label (Some c) o) (sym (ap (λ n. n.content) e)) (alike (Some c));
    }
re-above spoken old new (Node l c f s) y same (inr (inl h)) =
    carried spoken (c ∷ old) old f (Node l c f s) y (λ x k. inr (inl k)) (re-above spoken (c ∷ old) (c ∷ new) f y (ap (within c) same) h)
re-above spoken old new (Node l c f s) y same (inr (inr h)) =
    carried spoken old old s (Node l c f s) y (λ x k. inr (inr k)) (re-above spoken old new s y same h)

-- a node with the same content and label, but others below it
other-below : (spoken : Option ℕ) (above : List Content) (l : ℕ) (c : Content) (f g s : Forest ℕ) (y : Found ℕ) → y ≡ found_in above l c g
    → Origin spoken above (Node l c f s) y
other-below spoken above l c f g s y e =
    record {
      node = found_in above l c f;
      there = inl refl;
      label = sym (ap (λ n. n.label) e);
      scope = sym (ap scope_at e);
      content = subst (λ o. AreAlike spoken y.label (Some c) o) (sym (ap (λ n. n.content) e)) (alike (Some c));
    }

-- in a forest around other siblings: around them, or among them
origin-filled : (spoken : Option ℕ) (above : List Content) (around : Around ℕ) (f g : Forest ℕ) (y : Found ℕ) → StandsIn above (filled around g) y
    → Origin spoken above (filled around f) y ⊎ StandsIn (above_in above around) g y
origin-filled spoken above Here f g y h = inr h
origin-filled spoken above (Below before l c inner after) f g y h =
    by (in-either above before (Node l c (filled inner g) after) y h) (λ k. origin-filled spoken (c ∷ above) inner f g y k)
  where
    whole : Forest ℕ
    whole = Node l c (filled inner f) after

    lower : Origin spoken (c ∷ above) (filled inner f) y ⊎ StandsIn (above_in (c ∷ above) inner) g y
        → Origin spoken above (followed before whole) y ⊎ StandsIn (above_in (c ∷ above) inner) g y
    lower (inl o) = inl (carried spoken (c ∷ above) above (filled inner f) (followed before whole) y (λ x k. in-second above before whole x (inr (inl k))) o)
    lower (inr k) = inr k

    by : StandsIn above before y ⊎ StandsIn above (Node l c (filled inner g) after) y
        → (StandsIn (c ∷ above) (filled inner g) y → Origin spoken (c ∷ above) (filled inner f) y ⊎ StandsIn (above_in (c ∷ above) inner) g y)
        → Origin spoken above (followed before whole) y ⊎ StandsIn (above_in (c ∷ above) inner) g y
    by (inl k) go = inl (itself spoken above (followed before whole) y (in-first above before whole y k))
    by (inr (inl e)) go =
        inl (carried spoken above above whole (followed before whole) y (in-second above before whole)
        (other-below spoken above l c (filled inner f) (filled inner g) after y e))
    by (inr (inr (inl k))) go = lower (go k)
    by (inr (inr (inr k))) go = inl (itself spoken above (followed before whole) y (in-second above before whole y (inr (inr k))))

-- where a text meets another, the first has the second's text at its end
origin-text : (spoken : Option ℕ) (above : List Content) (l : ℕ) (text : List ℕ) (f g : Forest ℕ) (y : Found ℕ)
    → StandsIn above (text_before l text f g) y → Origin spoken above (Node l (Text text) f Empty) y ⊎ StandsIn above g y
origin-text spoken above l text f Empty y h = inl (itself spoken above (Node l (Text text) f Empty) y h)
origin-text spoken above l text f (Node k (Element m a) r s) y (inl e) = inl (itself spoken above (Node l (Text text) f Empty) y (inl e))
origin-text spoken above l text f (Node k (Element m a) r s) y (inr (inl h)) = inl (itself spoken above (Node l (Text text) f Empty) y (inr (inl h)))
origin-text spoken above l text f (Node k (Element m a) r s) y (inr (inr h)) = inr h
origin-text spoken above l text f (Node k (Comment t) r s) y (inl e) = inl (itself spoken above (Node l (Text text) f Empty) y (inl e))
origin-text spoken above l text f (Node k (Comment t) r s) y (inr (inl h)) = inl (itself spoken above (Node l (Text text) f Empty) y (inr (inl h)))
origin-text spoken above l text f (Node k (Comment t) r s) y (inr (inr h)) = inr h
origin-text spoken above l text f (Node k (Instruction m t) r s) y (inl e) = inl (itself spoken above (Node l (Text text) f Empty) y (inl e))
origin-text spoken above l text f (Node k (Instruction m t) r s) y (inr (inl h)) = inl (itself spoken above (Node l (Text text) f Empty) y (inr (inl h)))
origin-text spoken above l text f (Node k (Instruction m t) r s) y (inr (inr h)) = inr h
origin-text spoken above l text f (Node k (Text more) r s) y (inl e) =
    inl (record {
      node = found_in above l (Text text) f;
      there = inl refl;
      label = sym (ap (λ n. n.label) e);
      scope = sym (ap scope_at e);
      content = subst (λ o. AreAlike spoken y.label (Some (Text text)) o) (sym (ap (λ n. n.content) e)) (text_joined text more);
    })
origin-text spoken above l text f (Node k (Text more) r s) y (inr (inl h)) =
    inl (carried spoken (Text text ∷ above) above f (Node l (Text text) f Empty) y (λ x j. inr (inl j))
    (re-above spoken (Text text ∷ above) (Text (text ++ more) ∷ above) f y refl h))
origin-text spoken above l text f (Node k (Text more) r s) y (inr (inr h)) = inr (inr (inr h))

origin-last : (spoken : Option ℕ) (above : List Content) (l : ℕ) (c : Content) (f g : Forest ℕ) (y : Found ℕ) → StandsIn above (last_before l c f g) y
    → Origin spoken above (Node l c f Empty) y ⊎ StandsIn above g y
origin-last spoken above l (Text t) f g y h = origin-text spoken above l t f g y h
origin-last spoken above l (Element m a) f g y (inl e) = inl (itself spoken above (Node l (Element m a) f Empty) y (inl e))
origin-last spoken above l (Element m a) f g y (inr (inl h)) = inl (itself spoken above (Node l (Element m a) f Empty) y (inr (inl h)))
origin-last spoken above l (Element m a) f g y (inr (inr h)) = inr h
origin-last spoken above l (Comment t) f g y (inl e) = inl (itself spoken above (Node l (Comment t) f Empty) y (inl e))
origin-last spoken above l (Comment t) f g y (inr (inl h)) = inl (itself spoken above (Node l (Comment t) f Empty) y (inr (inl h)))
origin-last spoken above l (Comment t) f g y (inr (inr h)) = inr h
origin-last spoken above l (Instruction m t) f g y (inl e) = inl (itself spoken above (Node l (Instruction m t) f Empty) y (inl e))
origin-last spoken above l (Instruction m t) f g y (inr (inl h)) = inl (itself spoken above (Node l (Instruction m t) f Empty) y (inr (inl h)))
origin-last spoken above l (Instruction m t) f g y (inr (inr h)) = inr h

pub origin-met : (spoken : Option ℕ) (above : List Content) (f g : Forest ℕ) (y : Found ℕ) → StandsIn above (met f g) y
    → Origin spoken above f y ⊎ StandsIn above g y
origin-met spoken above Empty g y h = inr h
origin-met spoken above (Node l c f Empty) g y h = origin-last spoken above l c f g y h
origin-met spoken above (Node l c f (Node k d r s)) g y (inl e) = inl (itself spoken above (Node l c f (Node k d r s)) y (inl e))
origin-met spoken above (Node l c f (Node k d r s)) g y (inr (inl h)) = inl (itself spoken above (Node l c f (Node k d r s)) y (inr (inl h)))
origin-met spoken above (Node l c f (Node k d r s)) g y (inr (inr h)) = later (origin-met spoken above (Node k d r s) g y h)
  where
    later : Origin spoken above (Node k d r s) y ⊎ StandsIn above g y → Origin spoken above (Node l c f (Node k d r s)) y ⊎ StandsIn above g y
    later (inl o) = inl (carried spoken above above (Node k d r s) (Node l c f (Node k d r s)) y (λ x j. inr (inr j)) o)
    later (inr j) = inr j

-- ---- Where each node of a document comes from that is not new

-- numbers of new nodes are not below the first that was free
not_new : (above : List Content) (first : ℕ) (f : Forest ℕ) (y : Found ℕ) → numbered first f ≡ f → y.label < first → StandsIn above f y → ⊥
not_new above first f y fresh low h =
    let some = labelled above f y h in
    let none : stands (λ m. m == y.label) f ≡ 0 =
    ap (stands (λ m. m == y.label)) (sym fresh) ∙ stands-outside (λ m. m == y.label) first f (λ m j k. unlike m y.label (λ same. omega arith)) in
    omega arith

origin-inserted : (first : ℕ) (above : List Content) (before nodes after : Forest ℕ) (y : Found ℕ) → numbered first nodes ≡ nodes → y.label < first
    → StandsIn above (met before (met nodes after)) y → Origin None above (followed before after) y
origin-inserted first above before nodes after y fresh low h = outer (origin-met None above before (met nodes after) y h)
  where
    inner : Origin None above nodes y ⊎ StandsIn above after y → Origin None above (followed before after) y
    inner (inl o) = absurd (not_new above first nodes o.node fresh (let same = o.label in omega arith) o.there)
    inner (inr k) = itself None above (followed before after) y (in-second above before after y k)

    outer : Origin None above before y ⊎ StandsIn above (met nodes after) y → Origin None above (followed before after) y
    outer (inl o) = carried None above above before (followed before after) y (in-first above before after) o
    outer (inr k) = inner (origin-met None above nodes after y k)

origin-deleted : (above : List Content) (before : Forest ℕ) (l : ℕ) (c : Content) (f after : Forest ℕ) (y : Found ℕ) → StandsIn above (met before after) y
    → Origin None above (followed before (Node l c f after)) y
origin-deleted above before l c f after y h = by (origin-met None above before after y h)
  where
    all : Forest ℕ
    all = followed before (Node l c f after)

    by : Origin None above before y ⊎ StandsIn above after y → Origin None above all y
    by (inl o) = carried None above above before all y (in-first above before (Node l c f after)) o
    by (inr k) = itself None above all y (in-second above before (Node l c f after) y (inr (inr k)))

changed-scope : (scope : Scope) (depth : ℕ) (old new : Content) → Changes scope depth old new → (outer : Scope) → within old outer ≡ within new outer
changed-scope scope depth _ _ (text_changes text c cs) outer = refl
changed-scope scope depth _ _ (comment_changes text value) outer = refl
changed-scope scope depth _ _ (instruction_changes target text value) outer = refl
changed-scope scope depth _ _ (element_changes own name old new apart set e) outer = sym (same-scope own name old new outer apart set)

origin-changed : (above : List Content) (before : Forest ℕ) (l : ℕ) (old new : Content) (f after : Forest ℕ) (scope : Scope) (depth : ℕ) (y : Found ℕ)
    → Changes scope depth old new
    → StandsIn above (followed before (Node l new f after)) y → Origin (Some l) above (followed before (Node l old f after)) y
origin-changed above before l old new f after scope depth y changes h = by (in-either above before (Node l new f after) y h)
  where
    all : Forest ℕ
    all = followed before (Node l old f after)

    by : StandsIn above before y ⊎ StandsIn above (Node l new f after) y → Origin (Some l) above all y
    by (inl k) = itself (Some l) above all y (in-first above before (Node l old f after) y k)
    by (inr (inl e)) =
        let label : l ≡ y.label = sym (ap (λ n. n.label) e) in
        record {
          node = found_in above l old f;
          there = in-second above before (Node l old f after) (found_in above l old f) (inl refl);
          label = label;
          scope = changed-scope scope depth old new changes (scope_of root_scope above) ∙ sym (ap scope_at e);
          content = subst (λ o. AreAlike (Some l) y.label (Some old) o) (sym (ap (λ n. n.content) e))
              (spoken_of scope depth old new (ap Some label) changes);
        }
    by (inr (inr (inl k))) =
        carried (Some l) (old ∷ above) above f all y (λ x j. in-second above before (Node l old f after) x (inr (inl j)))
        (re-above (Some l) (old ∷ above) (new ∷ above) f y (changed-scope scope depth old new changes (scope_of root_scope above)) k)
    by (inr (inr (inr k))) = itself (Some l) above all y (in-second above before (Node l old f after) y (inr (inr k)))

origin-renewed : (first : ℕ) (above : List Content) (before : Forest ℕ) (l : ℕ) (old new : Content) (f after : Forest ℕ) (y : Found ℕ) → y.label < first
    → StandsIn above (followed before (Node first new (numbered (first + 1) (plain f)) after)) y
    → Origin None above (followed before (Node l old f after)) y
origin-renewed first above before l old new f after y low h = by (in-either above before (Node first new below after) y h)
  where
    below : Forest ℕ
    below = numbered (first + 1) (plain f)

    all : Forest ℕ
    all = followed before (Node l old f after)

    by : StandsIn above before y ⊎ StandsIn above (Node first new below after) y → Origin None above all y
    by (inl k) = itself None above all y (in-first above before (Node l old f after) y k)
    by (inr (inl e)) = absurd (let label : y.label ≡ first = ap (λ n. n.label) e in omega arith)
    by (inr (inr (inl k))) =
        absurd (not_new (new ∷ above) (first + 1) below y (numbered-again (first + 1) (first + 1) (plain f)) (omega arith) k)
    by (inr (inr (inr k))) = itself None above all y (in-second above before (Node l old f after) y (inr (inr k)))

-- through what is around
origin-around : (spoken : Option ℕ) (around : Around ℕ) (f g : Forest ℕ) (y : Found ℕ)
    → (StandsIn (above_in [] around) g y → Origin spoken (above_in [] around) f y)
    → StandsIn [] (filled around g) y → Origin spoken [] (filled around f) y
origin-around spoken around f g y go h = by (origin-filled spoken [] around f g y h)
  where
    by : Origin spoken [] (filled around f) y ⊎ StandsIn (above_in [] around) g y → Origin spoken [] (filled around f) y
    by (inl o) = o
    by (inr k) = carried spoken (above_in [] around) [] f (filled around f) y (in-filled [] around f) (go k)

-- whom the edit speaks of
pub record IsSpoken (path : List ℕ) (document : Document ℕ) (label : ℕ) : Type 0 where
  pub found : Found ℕ
  pub at : node_at document path ≡ Some found
  pub label_is : found.label ≡ label

abbrev pub AreSpoken : List ℕ → Document ℕ → Option ℕ → Type 0
AreSpoken path document None = Unit {0}
AreSpoken path document (Some label) = IsSpoken path document label

pub record Comes (path : List ℕ) (document : Document ℕ) (y : Found ℕ) : Type 0 where
  pub spoken : Option ℕ
  pub who : AreSpoken path document spoken
  pub origin : Origin spoken [] document.nodes y

pub comes : (first : ℕ) (path : List ℕ) (document : Document ℕ) (new : Edited ℕ) → Shape first path document new → (y : Found ℕ) → y.label < first
    → StandsIn [] new.nodes y → Comes path document y
comes first path document new (is_insertion s) y low h =
    let numbers = read_numbers _ first s.parent s.body s.nodes (read_nodes _ first s.parent s.body s.nodes s.read) in
    let there = subst (λ f. StandsIn [] f y) s.nodes_are h in
    record {
      spoken = None;
      who = tt;
      origin = subst (λ f. Origin None [] f y) (sym s.whole)
          (origin-around None s.around (followed s.before s.after) (met s.before (met s.nodes s.after)) y
          (origin-inserted first (above_in [] s.around) s.before s.nodes s.after y numbers.0 low) there);
    }
comes first path document new (is_deletion s) y low h =
    let there = subst (λ f. StandsIn [] f y) s.nodes_are h in
    record {
      spoken = None;
      who = tt;
      origin = subst (λ f. Origin None [] f y) (sym s.whole)
          (origin-around None s.around (followed s.before (Node s.label s.content s.children s.after)) (met s.before s.after) y
          (origin-deleted (above_in [] s.around) s.before s.label s.content s.children s.after y) there);
    }
comes first path document new (is_change s) y low h =
    let there = subst (λ f. StandsIn [] f y) s.nodes_are h in
    record {
      spoken = Some s.label;
      who = record { found = s.found; at = s.at; label_is = s.label_is };
      origin = subst (λ f. Origin (Some s.label) [] f y) (sym s.whole)
          (origin-around (Some s.label) s.around (followed s.before (Node s.label s.old_content s.children s.after))
          (followed s.before (Node s.label s.content s.children s.after)) y
          (origin-changed (above_in [] s.around) s.before s.label s.old_content s.content s.children s.after _ _ y s.changes) there);
    }
comes first path document new (is_renewal s) y low h =
    let there = subst (λ f. StandsIn [] f y) s.nodes_are h in
    record {
      spoken = None;
      who = tt;
      origin = subst (λ f. Origin None [] f y) (sym s.whole)
          (origin-around None s.around (followed s.before (Node s.label s.old_content s.children s.after))
          (followed s.before (Node first s.content (numbered (first + 1) (plain s.children)) s.after)) y
          (origin-renewed first (above_in [] s.around) s.before s.label s.old_content s.content s.children s.after y low) there);
    }

kinds : (scope : Scope) (depth : ℕ) (old new : Content) → Changes scope depth old new → kind_by (Some new) ≡ kind_by (Some old)
kinds scope depth _ _ (text_changes text c cs) = refl
kinds scope depth _ _ (comment_changes text value) = refl
kinds scope depth _ _ (instruction_changes target text value) = refl
kinds scope depth _ _ (element_changes own name old new apart set e) = refl

names : (scope : Scope) (depth : ℕ) (old new : Content) → Changes scope depth old new → (inside : Scope) → name_by (Some new) inside ≡ name_by (Some old) inside
names scope depth _ _ (text_changes text c cs) inside = refl
names scope depth _ _ (comment_changes text value) inside = refl
names scope depth _ _ (instruction_changes target text value) inside = refl
names scope depth _ _ (element_changes own name old new apart set e) inside = refl

-- ---- One number, one node

module _ (document : Document ℕ) (once : AreOnce (document.root ∷ labels document.nodes)) where
  single : (x : Found ℕ) → stands (λ m. m == x.label) document.nodes ≤ 1
  single x = let most = once.at x.label in let is = occurs-labels (λ m. m == x.label) document.nodes in omega arith

  -- the root is none of the nodes below it
  not_root : (p : ℕ) (ps : List ℕ) (x : Found ℕ) → node_at document (p ∷ ps) ≡ Some x → document.root ≡ x.label → ⊥
  not_root p ps x e same =
      let some = labelled [] document.nodes x (at_path document p ps x e) in
      let most = once.at x.label in
      let is = occurs-labels (λ m. m == x.label) document.nodes in
      let own : one_if (document.root == x.label) ≡ 1 = ap one_if (eq-eqb document.root x.label same) in
      omega arith

  one_node : (p q : List ℕ) (x y : Found ℕ) → node_at document p ≡ Some x → node_at document q ≡ Some y → x.label ≡ y.label → x ≡ y
  one_node [] [] x y d e same = sym (some_same (root_of document) x d) ∙ some_same (root_of document) y e
  one_node [] (q ∷ qs) x y d e same = absurd (not_root q qs y e (ap (λ n. n.label) (some_same (root_of document) x d) ∙ same))
  one_node (p ∷ ps) [] x y d e same = absurd (not_root p ps x d (ap (λ n. n.label) (some_same (root_of document) y e) ∙ sym same))
  one_node (p ∷ ps) (q ∷ qs) x y d e same =
      only [] document.nodes x y (at_path document p ps x d) (at_path document q qs y e) same (single x)

  -- ---- What is kept

  speaks_of : (edit : Edit) (l : ℕ) (p : List ℕ) (x : Found ℕ) → node_at document p ≡ Some x → IsSpoken (path_of edit) document l → l ≡ x.label
      → node_at document (path_of edit) ≡ Some x
  speaks_of edit l p x d s same =
      s.at ∙ ap Some (one_node (path_of edit) p s.found x s.at d (s.label_is ∙ same))

  spoken_there : (edit : Edit) (spoken : Option ℕ) (l : ℕ) (p : List ℕ) (x : Found ℕ) → node_at document p ≡ Some x → AreSpoken (path_of edit) document spoken
      → spoken ≡ Some l → l ≡ x.label
      → node_at document (path_of edit) ≡ Some x
  spoken_there edit None l p x d s e same = absurd (cc)
  spoken_there edit (Some m) l p x d s e same = speaks_of edit m p x d s (some_same m l e ∙ same)

  keeps-content : (edit : Edit) (spoken : Option ℕ) (p : List ℕ) (x y : Found ℕ) → node_at document p ≡ Some x → AreSpoken (path_of edit) document spoken
      → x.label ≡ y.label → scope_at x ≡ scope_at y → (old new : Option Content) → x.content ≡ old → y.content ≡ new → AreAlike spoken y.label old new
      → Keeps document edit x y
  keeps-content edit spoken p x y d who same scope _ _ was is (alike content) =
      let e = is ∙ sym was in
      record { kind = ap kind_by e; name = λ i. name_by (e i) (sym scope i); content = is_same e }
  keeps-content edit spoken p x y d who same scope _ _ was is (text_joined text more) =
      record {
        kind = ap kind_by is ∙ sym (ap kind_by was);
        name = ap (λ c. name_by c (scope_at y)) is ∙ sym (ap (λ c. name_by c (scope_at x)) was);
        content = is_joined text more was is;
      }
  keeps-content edit spoken p x y d who same scope _ _ was is (spoken_of around depth old new e changes) =
      record {
        kind = ap kind_by is ∙ kinds around depth old new changes ∙ sym (ap kind_by was);
        name = (λ i. name_by (is i) (sym scope i)) ∙ names around depth old new changes (scope_at x) ∙ sym (ap (λ c. name_by c (scope_at x)) was);
        content = is_spoken_of (spoken_there edit spoken y.label p x d who e (sym same));
      }

  kept : (edit : Edit) (p : ℕ) (ps : List ℕ) (x y : Found ℕ) → node_at document (p ∷ ps) ≡ Some x → x.label ≡ y.label → Comes (path_of edit) document y
      → Keeps document edit x y
  kept edit p ps x y d same c =
      let o = c.origin in
      let is : o.node ≡ x = sym (only [] document.nodes x o.node (at_path document p ps x d) o.there (same ∙ sym o.label) (single x)) in
      keeps-content edit c.spoken (p ∷ ps) x y d c.who same (ap scope_at (sym is) ∙ o.scope) x.content y.content refl refl
      (subst (λ n. AreAlike c.spoken y.label n.content y.content) is o.content)

  below_first : (first p : ℕ) (ps : List ℕ) (x : Found ℕ) → AreBelow first (document.root ∷ labels document.nodes) → node_at document (p ∷ ps) ≡ Some x
      → x.label < first
  below_first first p ps x low d = by (nat_lt x.label first) refl
    where
      by : (b : Bool) → nat_lt x.label first ≡ b → x.label < first
      by true e = ltb-true x.label first e
      by false e =
          let some = labelled [] document.nodes x (at_path document p ps x d) in
          let is = occurs-labels (λ m. m == x.label) document.nodes in
          let none = low.at x.label (ltb-false x.label first e) in
          absurd (omega arith)

pub keeps : (first : ℕ) (edit : Edit) (document : Document ℕ) (new : Edited ℕ) → edited_nodes first edit document ≡ Ok new
    → AreOnce (document.root ∷ labels document.nodes) → AreBelow first (document.root ∷ labels document.nodes)
    → (p q : List ℕ) (x y : Found ℕ) → node_at document p ≡ Some x → node_at (record { root = document.root; nodes = new.nodes }) q ≡ Some y
    → x.label ≡ y.label → Keeps document edit x y
keeps first edit document new e once low [] [] x y d h same =
    let after : Document ℕ = record { root = document.root; nodes = new.nodes } in
    let is = some_same (root_of after) y h in
    let was = some_same (root_of document) x d in
    let content : y.content ≡ x.content = sym (ap (λ n. n.content) is) ∙ ap (λ n. n.content) was in
    let scope : scope_at y ≡ scope_at x = sym (ap scope_at is) ∙ ap scope_at was in
    record { kind = ap kind_by content; name = λ i. name_by (content i) (scope i); content = is_same content }
keeps first edit document new e once low [] (q ∷ qs) x y d h same =
    let after : Document ℕ = record { root = document.root; nodes = new.nodes } in
    let now = (edit_numbers first edit document new e once low).once in
    absurd (not_root after now q qs y h (ap (λ n. n.label) (some_same (root_of document) x d) ∙ same))
keeps first edit document new e once low (p ∷ ps) [] x y d h same =
    let after : Document ℕ = record { root = document.root; nodes = new.nodes } in
    absurd (not_root document once p ps x d (ap (λ n. n.label) (some_same (root_of after) y h) ∙ sym same))
keeps first edit document new e once low (p ∷ ps) (q ∷ qs) x y d h same =
    let after : Document ℕ = record { root = document.root; nodes = new.nodes } in
    let less = below_first document once first p ps x low d in
    kept document once edit p ps x y d same
    (comes first (path_of edit) document new (shape first document new edit e) y (omega arith) (at_path after q qs y h))
