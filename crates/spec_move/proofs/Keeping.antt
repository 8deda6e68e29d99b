-- A number that a node has before and after a move is that of one node.
use Rattle.std.proofs.Common.{◌≡◌, ◌≤◌, ◌<◌, ◌⊎◌, inl, inr, arith, ℕ, ◌-◌, ◌==◌, Bool, true, false, List, [], ◌∷◌, ◌++◌, Option, None, Some, refl}
use Rattle.std.proofs.Common.{sym, ap, ◌∙◌, subst, eq-eqb, append_assoc}
use Rattle.std.specs.Prelude.{Ok, nat_lt, bytes_eq, ◌&&◌}
use Rattle.std.specs.FinMap.{entries, same_entries_map}
use Rattle.std.proofs.lemmas.Bool.{ltb-true, ltb-false, and_parts}
use Rattle.std.proofs.lemmas.Slice.Eq.{bytes_eq-Decides}
use Rattle.spec_document.specs.Scope.{root_scope}
use Rattle.spec_document.specs.Forest.{Content, Element, Text, Comment, Instruction, Forest, Empty, Node, Document, plain, labels, numbered, followed, IsNormal}
use Rattle.spec_document.specs.Declaration.{within, scope_of}
use Rattle.spec_document.specs.Place.{Found, root_of, found_in, node_at, scope_at, kind_by, name_by}
use Rattle.spec_document.specs.Top.{without_texts, kept}
use Rattle.spec_document.specs.Document.{elements_beside}
use Rattle.spec_edit.specs.Splice.{Spot, first_siblings, later_siblings, text_before, last_before, met, inserted}
use Rattle.spec_edit.specs.Edit.{Edited}
use Rattle.spec_edit.proofs.Around.{Around, Here, Below, filled, above_in, some_same, first-later}
use Rattle.spec_edit.proofs.Shapes.{same_nodes}
use Rattle.spec_edit.proofs.Numbers.{one_if, stands, stands-outside, occurs-labels, unlike, numbered-again, AreOnce, AreBelow}
use Rattle.spec_edit.proofs.Keeping.{StandsIn, labelled, only, in-filled, at_path}
use Rattle.spec_move.specs.Move.{preserves, preserves_inside, same_truth, same_entries, same_scope, keeps_labels, placed, moved_nodes}
use Rattle.spec_move.specs.Kept.{is_same, is_joined, Keeps}
use Rattle.spec_move.proofs.Moving.{Place, tree, Rearranged, is_later, is_earlier, Between, Move, is_still, is_within, is_between, move}

in-first : (above : List Content) (f g : Forest ℕ) (x : Found ℕ) → StandsIn above f x → StandsIn above (followed f g) x
in-first above Empty g x h = absurd h
in-first above (Node l c f s) g x (inl e) = inl e
in-first above (Node l c f s) g x (inr (inl h)) = inr (inl h)
in-first above (Node l c f s) g x (inr (inr h)) = inr (inr (in-first above s g x h))

in-second : (above : List Content) (f g : Forest ℕ) (x : Found ℕ) → StandsIn above g x → StandsIn above (followed f g) x
in-second above Empty g x h = h
in-second above (Node l c f s) g x h = inr (inr (in-second above s g x h))

in-either : (above : List Content) (f g : Forest ℕ) (x : Found ℕ) → StandsIn above (followed f g) x → StandsIn above f x ⊎ StandsIn above g x
in-either above Empty g x h = inr h
in-either above (Node l c f s) g x (inl e) = inl (inl e)
in-either above (Node l c f s) g x (inr (inl h)) = inl (inr (inl h))
in-either above (Node l c f s) g x (inr (inr h)) = later (in-either above s g x h)
  where
    later : StandsIn above s x ⊎ StandsIn above g x → StandsIn above (Node l c f s) x ⊎ StandsIn above g x
    later (inl k) = inl (inr (inr k))
    later (inr k) = inr k

in-without : (above : List Content) (f : Forest ℕ) (x : Found ℕ) → StandsIn above (without_texts f) x → StandsIn above f x
in-without above Empty x h = h
in-without above (Node l (Element m a) f s) x (inl e) = inl e
in-without above (Node l (Element m a) f s) x (inr (inl h)) = inr (inl h)
in-without above (Node l (Element m a) f s) x (inr (inr h)) = inr (inr (in-without above s x h))
in-without above (Node l (Text t) f s) x h = inr (inr (in-without above s x h))
in-without above (Node l (Comment t) f s) x (inl e) = inl e
in-without above (Node l (Comment t) f s) x (inr (inl h)) = inr (inl h)
in-without above (Node l (Comment t) f s) x (inr (inr h)) = inr (inr (in-without above s x h))
in-without above (Node l (Instruction m t) f s) x (inl e) = inl e
in-without above (Node l (Instruction m t) f s) x (inr (inl h)) = inr (inl h)
in-without above (Node l (Instruction m t) f s) x (inr (inr h)) = inr (inr (in-without above s x h))

-- ---- The node before for one afterwards

pub data AreAlike : Option Content → Option Content → Type 0 where
  alike : (content : Option Content) → AreAlike content content
  text_joined : (text more : List ℕ) → AreAlike (Some (Text text)) (Some (Text (text ++ more)))

pub record Origin (above : List Content) (f : Forest ℕ) (y : Found ℕ) : Type 0 where
  pub node : Found ℕ
  pub there : StandsIn above f node
  pub label : node.label ≡ y.label
  pub scope : scope_at node ≡ scope_at y
  pub space : preserves node.above ≡ preserves y.above
  pub content : AreAlike node.content y.content

alike-text : (text more : List ℕ) (new : Option Content) (old : Option Content) → old ≡ Some (Text (text ++ more)) → AreAlike old new
    → AreAlike (Some (Text text)) new
alike-text text more _ _ e (alike content) = subst (AreAlike (Some (Text text))) (sym e) (text_joined text more)
alike-text text more _ _ e (text_joined t u) =
    let same : t ≡ text ++ more = ap text_in e in
    subst (λ s. AreAlike (Some (Text text)) (Some (Text s))) (sym (ap (λ s. s ++ u) same ∙ append_assoc text more u)) (text_joined text (more ++ u))
  where
    text_in : Option Content → List ℕ
    text_in None = []
    text_in (Some (Element m a)) = []
    text_in (Some (Text s)) = s
    text_in (Some (Comment s)) = []
    text_in (Some (Instruction m s)) = []

alike-both : (old middle new : Option Content) → AreAlike old middle → AreAlike middle new → AreAlike old new
alike-both _ _ new (alike content) b = b
alike-both _ _ new (text_joined text more) b = alike-text text more new (Some (Text (text ++ more))) refl b

-- from one forest on to another
onward : (above other : List Content) (f g : Forest ℕ) (y : Found ℕ) (o : Origin above f y) → Origin other g o.node → Origin other g y
onward above other f g y o n =
    record {
      node = n.node;
      there = n.there;
      label = n.label ∙ o.label;
      scope = n.scope ∙ o.scope;
      space = n.space ∙ o.space;
      content = alike-both n.node.content o.node.content y.content n.content o.content;
    }

further : (above other : List Content) (f g : Forest ℕ) (y : Found ℕ) → ((x : Found ℕ) → StandsIn above f x → StandsIn other g x)
    → Origin above f y → Origin other g y
further above other f g y go o =
    record { node = o.node; there = go o.node o.there; label = o.label; scope = o.scope; space = o.space; content = o.content }

itself : (above : List Content) (f : Forest ℕ) (y : Found ℕ) → StandsIn above f y → Origin above f y
itself above f y h = record { node = y; there = h; label = refl; scope = refl; space = refl; content = alike y.content }

-- a node with others below it
other-below : (old new : List Content) (l : ℕ) (c : Content) (f g s : Forest ℕ) (y : Found ℕ) → scope_of root_scope old ≡ scope_of root_scope new
    → preserves old ≡ preserves new → y ≡ found_in new l c g → Origin old (Node l c f s) y
other-below old new l c f g s y scope space e =
    record {
      node = found_in old l c f;
      there = inl refl;
      label = sym (ap (λ n. n.label) e);
      scope = ap (within c) scope ∙ sym (ap scope_at e);
      space = ap (λ b. preserves_inside b c) space ∙ sym (ap (λ n. preserves n.above) e);
      content = subst (AreAlike (Some c)) (sym (ap (λ n. n.content) e)) (alike (Some c));
    }

-- the same below other contents with the same scope inside
re-above : (old new : List Content) (f : Forest ℕ) (y : Found ℕ) → scope_of root_scope old ≡ scope_of root_scope new → preserves old ≡ preserves new
    → StandsIn new f y → Origin old f y
re-above old new Empty y scope space h = absurd h
re-above old new (Node l c f s) y scope space (inl e) = other-below old new l c f f s y scope space e
re-above old new (Node l c f s) y scope space (inr (inl h)) =
    further (c ∷ old) old f (Node l c f s) y (λ x k. inr (inl k))
    (re-above (c ∷ old) (c ∷ new) f y (ap (within c) scope) (ap (λ b. preserves_inside b c) space) h)
re-above old new (Node l c f s) y scope space (inr (inr h)) =
    further old old s (Node l c f s) y (λ x k. inr (inr k)) (re-above old new s y scope space h)

-- in a forest around other siblings: around them, or among them
origin-filled : (above : List Content) (around : Around ℕ) (f g : Forest ℕ) (y : Found ℕ) → StandsIn above (filled around g) y
    → Origin above (filled around f) y ⊎ StandsIn (above_in above around) g y
origin-filled above Here f g y h = inr h
origin-filled above (Below before l c inner after) f g y h =
    by (in-either above before (Node l c (filled inner g) after) y h) (λ k. origin-filled (c ∷ above) inner f g y k)
  where
    whole : Forest ℕ
    whole = Node l c (filled inner f) after

    lower : Origin (c ∷ above) (filled inner f) y ⊎ StandsIn (above_in (c ∷ above) inner) g y
        → Origin above (followed before whole) y ⊎ StandsIn (above_in (c ∷ above) inner) g y
    lower (inl o) = inl (further (c ∷ above) above (filled inner f) (followed before whole) y (λ x k. in-second above before whole x (inr (inl k))) o)
    lower (inr k) = inr k

    by : StandsIn above before y ⊎ StandsIn above (Node l c (filled inner g) after) y
        → (StandsIn (c ∷ above) (filled inner g) y → Origin (c ∷ above) (filled inner f) y ⊎ StandsIn (above_in (c ∷ above) inner) g y)
        → Origin above (followed before whole) y ⊎ StandsIn (above_in (c ∷ above) inner) g y
    by (inl k) go = inl (itself above (followed before whole) y (in-first above before whole y k))
    by (inr (inl e)) go =
        inl (further above above whole (followed before whole) y (in-second above before whole)
        (other-below above above l c (filled inner f) (filled inner g) after y refl refl e))
    by (inr (inr (inl k))) go = lower (go k)
    by (inr (inr (inr k))) go = inl (itself above (followed before whole) y (in-second above before whole y (inr (inr k))))

-- where a text meets another, the first has the second's text at its end
origin-text : (above : List Content) (l : ℕ) (text : List ℕ) (f g : Forest ℕ) (y : Found ℕ) → StandsIn above (text_before l text f g) y
    → Origin above (Node l (Text text) f Empty) y ⊎ StandsIn above g y
origin-text above l text f Empty y h = inl (itself above (Node l (Text text) f Empty) y h)
origin-text above l text f (Node k (Element m a) r s) y (inl e) = inl (itself above (Node l (Text text) f Empty) y (inl e))
origin-text above l text f (Node k (Element m a) r s) y (inr (inl h)) = inl (itself above (Node l (Text text) f Empty) y (inr (inl h)))
origin-text above l text f (Node k (Element m a) r s) y (inr (inr h)) = inr h
origin-text above l text f (Node k (Comment t) r s) y (inl e) = inl (itself above (Node l (Text text) f Empty) y (inl e))
origin-text above l text f (Node k (Comment t) r s) y (inr (inl h)) = inl (itself above (Node l (Text text) f Empty) y (inr (inl h)))
origin-text above l text f (Node k (Comment t) r s) y (inr (inr h)) = inr h
origin-text above l text f (Node k (Instruction m t) r s) y (inl e) = inl (itself above (Node l (Text text) f Empty) y (inl e))
origin-text above l text f (Node k (Instruction m t) r s) y (inr (inl h)) = inl (itself above (Node l (Text text) f Empty) y (inr (inl h)))
origin-text above l text f (Node k (Instruction m t) r s) y (inr (inr h)) = inr h
origin-text above l text f (Node k (Text more) r s) y (inl e) =
    inl (record {
      node = found_in above l (Text text) f;
      there = inl refl;
      label = sym (ap (λ n. n.label) e);
      scope = sym (ap scope_at e);
      space = sym (ap (λ n. preserves n.above) e);
      content = subst (AreAlike (Some (Text text))) (sym (ap (λ n. n.content) e)) (text_joined text more);
    })
origin-text above l text f (Node k (Text more) r s) y (inr (inl h)) =
    inl (further (Text text ∷ above) above f (Node l (Text text) f Empty) y (λ x j. inr (inl j))
    (re-above (Text text ∷ above) (Text (text ++ more) ∷ above) f y refl refl h))
origin-text above l text f (Node k (Text more) r s) y (inr (inr h)) = inr (inr (inr h))

origin-last : (above : List Content) (l : ℕ) (c : Content) (f g : Forest ℕ) (y : Found ℕ) → StandsIn above (last_before l c f g) y
    → Origin above (Node l c f Empty) y ⊎ StandsIn above g y
origin-last above l (Text t) f g y h = origin-text above l t f g y h
origin-last above l (Element m a) f g y (inl e) = inl (itself above (Node l (Element m a) f Empty) y (inl e))
origin-last above l (Element m a) f g y (inr (inl h)) = inl (itself above (Node l (Element m a) f Empty) y (inr (inl h)))
origin-last above l (Element m a) f g y (inr (inr h)) = inr h
origin-last above l (Comment t) f g y (inl e) = inl (itself above (Node l (Comment t) f Empty) y (inl e))
origin-last above l (Comment t) f g y (inr (inl h)) = inl (itself above (Node l (Comment t) f Empty) y (inr (inl h)))
origin-last above l (Comment t) f g y (inr (inr h)) = inr h
origin-last above l (Instruction m t) f g y (inl e) = inl (itself above (Node l (Instruction m t) f Empty) y (inl e))
origin-last above l (Instruction m t) f g y (inr (inl h)) = inl (itself above (Node l (Instruction m t) f Empty) y (inr (inl h)))
origin-last above l (Instruction m t) f g y (inr (inr h)) = inr h

origin-met : (above : List Content) (f g : Forest ℕ) (y : Found ℕ) → StandsIn above (met f g) y → Origin above f y ⊎ StandsIn above g y
origin-met above Empty g y h = inr h
origin-met above (Node l c f Empty) g y h = origin-last above l c f g y h
origin-met above (Node l c f (Node k d r s)) g y (inl e) = inl (itself above (Node l c f (Node k d r s)) y (inl e))
origin-met above (Node l c f (Node k d r s)) g y (inr (inl h)) = inl (itself above (Node l c f (Node k d r s)) y (inr (inl h)))
origin-met above (Node l c f (Node k d r s)) g y (inr (inr h)) = later (origin-met above (Node k d r s) g y h)
  where
    later : Origin above (Node k d r s) y ⊎ StandsIn above g y → Origin above (Node l c f (Node k d r s)) y ⊎ StandsIn above g y
    later (inl o) = inl (further above above (Node k d r s) (Node l c f (Node k d r s)) y (λ x j. inr (inr j)) o)
    later (inr j) = inr j

-- ---- Where each node comes from that is not new

module _ (first : ℕ) (document : Document ℕ) where
  -- each of these that is not new stood in the document
  abbrev Comes : List Content → Forest ℕ → Type 0
  Comes above f = (x : Found ℕ) → x.label < first → StandsIn above f x → Origin [] document.nodes x

  comes-by : (above : List Content) (f : Forest ℕ) (y : Found ℕ) → Comes above f → y.label < first → Origin above f y → Origin [] document.nodes y
  comes-by above f y go low o = onward above [] f document.nodes y o (go o.node (let same = o.label in omega arith) o.there)

  comes-met : (above : List Content) (f g : Forest ℕ) → Comes above f → Comes above g → Comes above (met f g)
  comes-met above f g a b y low h = by (origin-met above f g y h)
    where
      by : Origin above f y ⊎ StandsIn above g y → Origin [] document.nodes y
      by (inl o) = comes-by above f y a low o
      by (inr k) = b y low k

  comes-first : (above : List Content) (f g : Forest ℕ) → Comes above (followed f g) → Comes above f
  comes-first above f g a y low h = a y low (in-first above f g y h)

  comes-second : (above : List Content) (f g : Forest ℕ) → Comes above (followed f g) → Comes above g
  comes-second above f g a y low h = a y low (in-second above f g y h)

  comes-in : (around : Around ℕ) (f : Forest ℕ) → Comes [] (filled around f) → Comes (above_in [] around) f
  comes-in around f a y low h = a y low (in-filled [] around f y h)

  comes-whole : (around : Around ℕ) (f g : Forest ℕ) → Comes [] (filled around f) → Comes (above_in [] around) g → Comes [] (filled around g)
  comes-whole around f g a b y low h = by (origin-filled [] around f g y h)
    where
      by : Origin [] (filled around f) y ⊎ StandsIn (above_in [] around) g y → Origin [] document.nodes y
      by (inl o) = comes-by [] (filled around f) y a low o
      by (inr k) = b y low k

  comes-kept : (above : List Content) (beside : Option ℕ) (f : Forest ℕ) → Comes above f → Comes above (kept beside f)
  comes-kept above None f a = a
  comes-kept above (Some n) f a = λ y low h. a y low (in-without above f y h)

  comes-rearranged : (above : List Content) (before nodes after whole : Forest ℕ) → Rearranged before nodes after whole → Comes above before
      → Comes above nodes → Comes above after → Comes above whole
  comes-rearranged above before nodes after whole (is_later between rest e is) b n a =
      let later = subst (Comes above) e a in
      subst (Comes above) (sym is) (comes-met above before (met (met between nodes) rest) b
      (comes-met above (met between nodes) rest (comes-met above between nodes (comes-first above between rest later) n)
      (comes-second above between rest later)))
  comes-rearranged above before nodes after whole (is_earlier front between e is) b n a =
      let earlier = subst (Comes above) e b in
      subst (Comes above) (sym is) (comes-met above front (met (met nodes between) after) (comes-first above front between earlier)
      (comes-met above (met nodes between) after (comes-met above nodes between n (comes-second above front between earlier)) a))

  -- numbers of new nodes are not below the first that was free
  not-new : (above : List Content) (f : Forest ℕ) → numbered first f ≡ f → Comes above f
  not-new above f fresh y low h =
      let some = labelled above f y h in
      let none : stands (λ m. m == y.label) f ≡ 0 =
      ap (stands (λ m. m == y.label)) (sym fresh) ∙ stands-outside (λ m. m == y.label) first f (λ m j k. unlike m y.label (λ same. omega arith)) in
      absurd (omega arith)

  comes-placed : (above other : List Content) (keeps : Bool) (f : Forest ℕ) → Comes above f
      → (keeps ≡ true → (scope_of root_scope above ≡ scope_of root_scope other) × (preserves above ≡ preserves other))
      → Comes other (placed same_nodes keeps first f).nodes
  comes-placed above other true f a same =
      let both = same refl in λ y low h. comes-by above f y a low (re-above above other f y both.0 both.1 h)
  comes-placed above other false f a same = not-new other (numbered first (plain f)) (numbered-again first first (plain f))

-- ---- The same scope, and the same white space

same-entries : (one other : List (List ℕ × List ℕ)) → same_entries one other ≡ true → one ≡ other
same-entries [] [] e = refl
same-entries [] (b ∷ other) e = absurd (cc)
same-entries (a ∷ one) [] e = absurd (cc)
same-entries (a ∷ one) (b ∷ other) e =
    let all = and_parts (bytes_eq a.0 b.0 && bytes_eq a.1 b.1) (same_entries one other) e in
    let both = and_parts (bytes_eq a.0 b.0) (bytes_eq a.1 b.1) all.0 in
    let prefix = (bytes_eq-Decides a.0 b.0).0 both.0 in
    let uri = (bytes_eq-Decides a.1 b.1).0 both.1 in
    λ i. (prefix i, uri i) ∷ same-entries one other all.1 i

same-truth : (a b : Bool) → same_truth a b ≡ true → a ≡ b
same-truth true true e = refl
same-truth true false e = absurd (cc)
same-truth false true e = absurd (cc)
same-truth false false e = refl

keeps-same : (old next : Found ℕ) → keeps_labels old next ≡ true → (scope_at old ≡ scope_at next) × (preserves old.above ≡ preserves next.above)
keeps-same old next e =
    let both = and_parts (same_scope (scope_at old) (scope_at next)) (same_truth (preserves old.above) (preserves next.above)) e in (
      same_entries_map (scope_at old) (scope_at next) (same-entries (entries (scope_at old)) (entries (scope_at next)) both.0),
      same-truth (preserves old.above) (preserves next.above) both.1,
    )

-- ---- Moves

module _ (first : ℕ) (document : Document ℕ) where
  comes-place : (spot : Spot) (old node : Found ℕ) (at : Place document spot old node)
      → Comes first document [] (filled at.around (followed at.before (Node at.label at.content at.children at.after)))
  comes-place spot old node at =
      subst (Comes first document []) (at.whole ∙ ap (filled at.around) at.siblings) (λ y low h. itself [] document.nodes y h)

  comes-between : (new : Edited ℕ) → Between first document new → Comes first document [] new.nodes
  comes-between new b =
      let at = b.at in
      let c = b.carrying in
      let keeps = keeps_labels b.old b.next in
      let f = kept (elements_beside b.parent) (tree at) in
      let nodes = (placed same_nodes keeps first f).nodes in
      let i = b.to.position - 1 in
      let above = above_in [] at.around in
      let inside = above_in [] c.into in
      let node = Node at.label at.content at.children at.after in
      let whole = followed at.before node in
      let before = first_siblings i c.siblings in
      let after = later_siblings i c.siblings in
      let all = comes-place b.from b.old b.node at in
      let here = comes-in first document at.around whole all in
      let parts = comes-second first document above at.before node here in
      let tree-comes : Comes first document b.old.above f = subst (λ above. Comes first document above f) (sym at.above)
      (comes-kept first document above (elements_beside b.parent) (tree at) (comes-first first document above (tree at) at.after parts)) in
      let left = subst (Comes first document []) c.left (comes-whole first document at.around whole (met at.before at.after) all
      (comes-met first document above at.before at.after (comes-first first document above at.before node here)
      (comes-second first document above (tree at) at.after parts))) in
      let siblings = subst (Comes first document inside) (sym (first-later i c.siblings)) (comes-in first document c.into c.siblings left) in
      let own = subst (λ above. Comes first document above nodes) c.above
      (comes-placed first document b.old.above b.next.above keeps f tree-comes (keeps-same b.old b.next)) in
      subst (Comes first document []) (sym (b.nodes_are ∙ c.carried_is nodes))
      (comes-whole first document c.into c.siblings (inserted i nodes c.siblings) left
      (comes-met first document inside before (met nodes after) (comes-first first document inside before after siblings)
      (comes-met first document inside nodes after own (comes-second first document inside before after siblings))))

  comes : (new : Edited ℕ) → Move first document new → Comes first document [] new.nodes
  comes new (is_still e made) = subst (Comes first document []) (sym e) (λ y low h. itself [] document.nodes y h)
  comes new (is_within w) =
      let at = w.at in
      let above = above_in [] at.around in
      let node = Node at.label at.content at.children at.after in
      let whole = followed at.before node in
      let all = comes-place w.spot w.old w.node at in
      let here = comes-in first document at.around whole all in
      let parts = comes-second first document above at.before node here in
      subst (Comes first document []) (sym w.nodes_are) (comes-whole first document at.around whole w.siblings all
      (comes-rearranged first document above at.before (tree at) at.after w.siblings w.order (comes-first first document above at.before node here)
      (comes-first first document above (tree at) at.after parts) (comes-second first document above (tree at) at.after parts)))
  comes new (is_between b) = comes-between new b

-- ---- One number, one node

keeps-by : (x y : Found ℕ) (old new : Option Content) → x.content ≡ old → y.content ≡ new → scope_at x ≡ scope_at y
    → preserves x.above ≡ preserves y.above → AreAlike old new → Keeps x y
keeps-by x y _ _ was is scope space (alike content) =
    let e = is ∙ sym was in
    record { kind = ap kind_by e; name = λ i. name_by (e i) (sym scope i); scope = sym scope; space = sym space; content = is_same e }
keeps-by x y _ _ was is scope space (text_joined text more) =
    record {
      kind = ap kind_by is ∙ sym (ap kind_by was);
      name = ap (λ c. name_by c (scope_at y)) is ∙ sym (ap (λ c. name_by c (scope_at x)) was);
      scope = sym scope;
      space = sym space;
      content = is_joined text more was is;
    }

module _ (first : ℕ) (document : Document ℕ) (once : AreOnce (document.root ∷ labels document.nodes))
    (low : AreBelow first (document.root ∷ labels document.nodes)) where
  single : (x : Found ℕ) → stands (λ m. m == x.label) document.nodes ≤ 1
  single x = let most = once.at x.label in let is = occurs-labels (λ m. m == x.label) document.nodes in omega arith

  -- the root is none of the nodes below it
  not-root : (x : Found ℕ) → StandsIn [] document.nodes x → document.root ≡ x.label → ⊥
  not-root x h same =
      let some = labelled [] document.nodes x h in
      let most = once.at x.label in
      let is = occurs-labels (λ m. m == x.label) document.nodes in
      let own : one_if (document.root == x.label) ≡ 1 = ap one_if (eq-eqb document.root x.label same) in
      omega arith

  below-first : (x : Found ℕ) → StandsIn [] document.nodes x → x.label < first
  below-first x h = by (nat_lt x.label first) refl
    where
      by : (b : Bool) → nat_lt x.label first ≡ b → x.label < first
      by true e = ltb-true x.label first e
      by false e =
          let some = labelled [] document.nodes x h in
          let is = occurs-labels (λ m. m == x.label) document.nodes in
          let none = low.at x.label (ltb-false x.label first e) in
          absurd (omega arith)

  root-first : document.root < first
  root-first = by (nat_lt document.root first) refl
    where
      by : (b : Bool) → nat_lt document.root first ≡ b → document.root < first
      by true e = ltb-true document.root first e
      by false e =
          let own : one_if (document.root == document.root) ≡ 1 = ap one_if (eq-eqb document.root document.root refl) in
          let none = low.at document.root (ltb-false document.root first e) in
          absurd (omega arith)

  keeps-origin : (x y : Found ℕ) → StandsIn [] document.nodes x → x.label ≡ y.label → Origin [] document.nodes y → Keeps x y
  keeps-origin x y h same o =
      let is : o.node ≡ x = sym (only [] document.nodes x o.node h o.there (same ∙ sym o.label) (single x)) in
      subst (λ n. Keeps n y) is (keeps-by o.node y o.node.content y.content refl refl o.scope o.space o.content)

  pub keeps-node : (new : Edited ℕ) → Move first document new → (p q : List ℕ) (x y : Found ℕ) → node_at document p ≡ Some x
      → node_at (record { root = document.root; nodes = new.nodes }) q ≡ Some y → x.label ≡ y.label → Keeps x y
  keeps-node new m [] [] x y d h same =
      let after : Document ℕ = record { root = document.root; nodes = new.nodes } in
      let is = some_same (root_of after) y h in
      let was = some_same (root_of document) x d in
      let content : x.content ≡ y.content = sym (ap (λ n. n.content) was) ∙ ap (λ n. n.content) is in
      let scope : scope_at x ≡ scope_at y = sym (ap scope_at was) ∙ ap scope_at is in
      let space : preserves x.above ≡ preserves y.above = sym (ap (λ n. preserves n.above) was) ∙ ap (λ n. preserves n.above) is in
      keeps-by x y x.content y.content refl refl scope space (subst (AreAlike x.content) content (alike x.content))
  keeps-node new m [] (q ∷ qs) x y d h same =
      let after : Document ℕ = record { root = document.root; nodes = new.nodes } in
      let label : document.root ≡ y.label = ap (λ n. n.label) (some_same (root_of document) x d) ∙ same in
      let less = root-first in
      let o = comes first document new m y (omega arith) (at_path after q qs y h) in
      absurd (not-root o.node o.there (label ∙ sym o.label))
  keeps-node new m (p ∷ ps) [] x y d h same =
      let after : Document ℕ = record { root = document.root; nodes = new.nodes } in
      absurd (not-root x (at_path document p ps x d) (ap (λ n. n.label) (some_same (root_of after) y h) ∙ sym same))
  keeps-node new m (p ∷ ps) (q ∷ qs) x y d h same =
      let after : Document ℕ = record { root = document.root; nodes = new.nodes } in
      let there = at_path document p ps x d in
      let less = below-first x there in
      keeps-origin x y there same (comes first document new m y (omega arith) (at_path after q qs y h))

pub moved_keeps : (first : ℕ) (path other : List ℕ) (document : Document ℕ) (new : Edited ℕ) → moved_nodes first path other document ≡ Ok new
    → IsNormal document.nodes → AreOnce (document.root ∷ labels document.nodes) → AreBelow first (document.root ∷ labels document.nodes)
    → (p q : List ℕ) (x y : Found ℕ) → node_at document p ≡ Some x → node_at (record { root = document.root; nodes = new.nodes }) q ≡ Some y
    → x.label ≡ y.label → Keeps x y
moved_keeps first path other document new e n once low = keeps-node first document once low new (move first document new n path other e)
