-- An element whose attributes change, as it is seen: where xml:space says what it said, the same is seen below it.
use Rattle.std.proofs.Common.{◌≡◌, ◌≤◌, arith, ℕ, ◌-◌, ◌==◌, Bool, true, false, cond, List, [], ◌∷◌, Some}
use Rattle.std.proofs.Common.{sym, ap, ◌∙◌, subst}
use Rattle.std.specs.Prelude.{◌&&◌}
use Rattle.std.specs.List.{filter}
use Rattle.std.specs.Option.{option_and_then}
use Rattle.spec_document.specs.Scope.{root_scope}
use Rattle.spec_document.specs.Forest.{Written, Content, Element, Text, Comment, Instruction, Forest, Empty, Node, IsNormal}
use Rattle.spec_document.specs.Declaration.{is_declaration, declared_all, within, scope_of}
use Rattle.spec_document.specs.Place.{Found, found_in, child_at, node_from, scope_at}
use Rattle.spec_stylesheet.specs.Sheet.{SpaceRule}
use Rattle.spec_structure.specs.Inside.{is_white, value_of, space_name, space_by}
use Rattle.spec_seen.specs.Seen.{Around, around_by, around_in, seen_among}
use Rattle.spec_edit.specs.Splice.{spot_from, content_replaced, below_changed, children_changed}
use Rattle.spec_edit.proofs.Around.{some_same}
use Rattle.spec_edit.proofs.Numbers.{stands}
use Rattle.spec_change.specs.Change.{Change, passed, passed_below}
use Rattle.spec_touch.specs.Leads.{AttributesChange, ChangesIn, attributes, inside, further}
use Rattle.spec_touch.proofs.Scopes.{same-declarations}
use Rattle.spec_touch.proofs.Seeing.{text-leads, normal-rest, nothing-below}

module _ (rules : List SpaceRule) (x : Found ℕ) (name : List ℕ) (old more : List Written) (element : x.content ≡ Some (Element name old))
    (declarations : filter is_declaration more ≡ filter is_declaration old)
    (space : value_of (scope_at x) space_name more ≡ value_of (scope_at x) space_name old) where
  pub record SeenElement (outer : Around) (f g : Forest ℕ) (numbers : List ℕ) : Type 0 where
    pub around : Around
    pub leads : (change : Change) → AttributesChange change x.label old more (seen_among rules around x.children)
        → ChangesIn change numbers (seen_among rules outer f) (seen_among rules outer g)
    pub inner : (p : ℕ → Bool) → stands p (seen_among rules around x.children) ≤ stands p (seen_among rules outer f)

  -- the same is in force inside
  around-same : (outer : Around) → scope_at x ≡ declared_all old outer.scope
      → around_in rules outer name old ≡ around_in rules outer name more
  around-same outer e =
      let scope : declared_all old outer.scope ≡ declared_all more outer.scope = same-declarations old more declarations outer.scope in
      let said : value_of (declared_all old outer.scope) space_name old ≡ value_of (declared_all more outer.scope) space_name more =
      sym (ap (λ s. value_of s space_name old) e) ∙ sym space ∙ ap (λ s. value_of s space_name more) (e ∙ scope) in
      λ i. around_by rules (scope i) (space_by outer.preserves (said i)) name

  here-element : (outer : Around) (above : List Content) (l : ℕ) (c : Content) (f s : Forest ℕ) → outer.scope ≡ scope_of root_scope above
      → found_in above l c f ≡ x → SeenElement outer (Node l c f s) (Node l (Element name more) f s) []
  here-element outer above l c f s e is =
      let own : c ≡ Element name old = some_same c (Element name old) (ap (λ y. y.content) is ∙ element) in
      let scope : scope_at x ≡ declared_all old outer.scope =
      sym (ap (λ y. scope_at y) is) ∙ ap (λ k. within k (scope_of root_scope above)) own ∙ sym (ap (declared_all old) e) in
      let inside_old = around_in rules outer name old in
      let rest = seen_among rules outer s in
      let label : x.label ≡ l = sym (ap (λ y. y.label) is) in
      let below : x.children ≡ f = sym (ap (λ y. y.children) is) in
      let seen_f : seen_among rules inside_old x.children ≡ seen_among rules inside_old f = ap (seen_among rules inside_old) below in
      record {
        around = inside_old;
        leads = λ change d.
            subst (λ k. ChangesIn change [] (seen_among rules outer (Node l k f s))
            (Node l (Element name more) (seen_among rules (around_in rules outer name more) f) rest)) (sym own)
            (subst (λ a. ChangesIn change [] (Node l (Element name old) (seen_among rules inside_old f) rest)
            (Node l (Element name more) (seen_among rules a f) rest)) (around-same outer scope)
            (attributes (subst (λ k. AttributesChange change k old more (seen_among rules inside_old f)) label
            (subst (λ k. AttributesChange change x.label old more k) seen_f d))));
        inner = λ p.
            subst (λ k. stands p (seen_among rules inside_old x.children) ≤ stands p (seen_among rules outer (Node l k f s))) (sym own)
            (let same = ap (stands p) seen_f in omega arith);
      }

  -- with one more sibling before
  text-inner : (p : ℕ → Bool) (b : Bool) (n l : ℕ) (t : List ℕ) (below f : Forest ℕ) → n ≤ stands p f
      → n ≤ stands p (cond b f (Node l (Text t) below f))
  text-inner p true n l t below f h = h
  text-inner p false n l t below f h = omega arith

  element-before : (outer : Around) (l : ℕ) (c : Content) (below f g : Forest ℕ) (numbers : List ℕ) → SeenElement outer f g numbers
      → SeenElement outer (Node l c below f) (Node l c below g) numbers
  element-before outer l (Text t) below f g numbers r =
      let b = outer.strips && is_white t in
      record {
        around = r.around;
        leads = λ change d. text-leads rules change b l t below (seen_among rules outer f) (seen_among rules outer g) numbers
            (r.leads change d);
        inner = λ p. text-inner p b (stands p (seen_among rules r.around x.children)) l t below (seen_among rules outer f) (r.inner p);
      }
  element-before outer l (Element n w) below f g numbers r =
      record { around = r.around; leads = λ change d. further (r.leads change d); inner = λ p. (let a = r.inner p in omega arith) }
  element-before outer l (Comment t) below f g numbers r =
      record { around = r.around; leads = λ change d. further (r.leads change d); inner = λ p. (let a = r.inner p in omega arith) }
  element-before outer l (Instruction n t) below f g numbers r =
      record { around = r.around; leads = λ change d. further (r.leads change d); inner = λ p. (let a = r.inner p in omega arith) }

  inside-element : (outer : Around) (l : ℕ) (n : List ℕ) (w : List Written) (f g s : Forest ℕ) (numbers : List ℕ)
      → SeenElement (around_in rules outer n w) f g numbers → SeenElement outer (Node l (Element n w) f s)
      (Node l (Element n w) g s) (l ∷ numbers)
  inside-element outer l n w f g s numbers r =
      record { around = r.around; leads = λ change d. inside (r.leads change d); inner = λ p. (let a = r.inner p in omega arith) }

  abbrev changed : (p : ℕ) (ps : List ℕ) → Forest ℕ → Forest ℕ
  changed p ps f = children_changed (content_replaced (spot_from p ps).position (Element name more)) (spot_from p ps).above f

  pub way-element : (outer : Around) (p : ℕ) (ps : List ℕ) (above : List Content) (f : Forest ℕ) → outer.scope ≡ scope_of root_scope above
      → IsNormal f → option_and_then (node_from ps) (child_at above f p) ≡ Some x
      → SeenElement outer f (children_changed (content_replaced (spot_from p ps).position (Element name more)) (spot_from p ps).above f)
      (passed_below (passed ps) (child_at above f p))
  way-element outer p [] above Empty e normal h = absurd (cc)
  way-element outer p (q ∷ qs) above Empty e normal h = absurd (cc)
  way-element outer p [] above (Node l c f s) e normal h =
      elim (p == 1) as (λ b. option_and_then (node_from []) (cond b (Some (found_in above l c f)) (child_at above s (p - 1))) ≡ Some x
      → SeenElement outer (Node l c f s) (cond b (Node l (Element name more) f s)
      (Node l c f (content_replaced (p - 1) (Element name more) s)))
      (passed_below (passed []) (cond b (Some (found_in above l c f)) (child_at above s (p - 1))))) [
        | true ↦ λ k. here-element outer above l c f s e (some_same (found_in above l c f) x k)
        | false ↦ λ k. element-before outer l c f s (content_replaced (p - 1) (Element name more) s) _
            (way-element outer (p - 1) [] above s e (normal-rest rules l c f s normal) k)
      ] h
  way-element outer p (q ∷ qs) above (Node l (Element n w) f s) e normal h =
      elim (p == 1) as (λ b. option_and_then (node_from (q ∷ qs)) (cond b (Some (found_in above l (Element n w) f))
      (child_at above s (p - 1))) ≡ Some x
      → SeenElement outer (Node l (Element n w) f s) (cond b (Node l (Element n w) (changed q qs f) s)
      (Node l (Element n w) f (below_changed (changed q qs) (p - 1) s)))
      (passed_below (passed (q ∷ qs)) (cond b (Some (found_in above l (Element n w) f)) (child_at above s (p - 1))))) [
        | true ↦ λ k. inside-element outer l n w f (changed q qs f) s _
            (way-element (around_in rules outer n w) q qs (Element n w ∷ above) f (ap (declared_all w) e) normal.0 k)
        | false ↦ λ k. element-before outer l (Element n w) f s (below_changed (changed q qs) (p - 1) s) _
            (way-element outer (p - 1) (q ∷ qs) above s e normal.1 k)
      ] h
  way-element outer p (q ∷ qs) above (Node l (Text t) f s) e normal h =
      elim (p == 1) as (λ b. option_and_then (node_from (q ∷ qs)) (cond b (Some (found_in above l (Text t) f))
      (child_at above s (p - 1))) ≡ Some x
      → SeenElement outer (Node l (Text t) f s) (cond b (Node l (Text t) (changed q qs f) s)
      (Node l (Text t) f (below_changed (changed q qs) (p - 1) s)))
      (passed_below (passed (q ∷ qs)) (cond b (Some (found_in above l (Text t) f)) (child_at above s (p - 1))))) [
        | true ↦ λ k. nothing-below rules x (Text t ∷ above) q qs f normal.0 k
        | false ↦ λ k. element-before outer l (Text t) f s (below_changed (changed q qs) (p - 1) s) _
            (way-element outer (p - 1) (q ∷ qs) above s e (normal-rest rules l (Text t) f s normal) k)
      ] h
  way-element outer p (q ∷ qs) above (Node l (Comment t) f s) e normal h =
      elim (p == 1) as (λ b. option_and_then (node_from (q ∷ qs)) (cond b (Some (found_in above l (Comment t) f))
      (child_at above s (p - 1))) ≡ Some x
      → SeenElement outer (Node l (Comment t) f s) (cond b (Node l (Comment t) (changed q qs f) s)
      (Node l (Comment t) f (below_changed (changed q qs) (p - 1) s)))
      (passed_below (passed (q ∷ qs)) (cond b (Some (found_in above l (Comment t) f)) (child_at above s (p - 1))))) [
        | true ↦ λ k. nothing-below rules x (Comment t ∷ above) q qs f normal.0 k
        | false ↦ λ k. element-before outer l (Comment t) f s (below_changed (changed q qs) (p - 1) s) _
            (way-element outer (p - 1) (q ∷ qs) above s e normal.1 k)
      ] h
  way-element outer p (q ∷ qs) above (Node l (Instruction n t) f s) e normal h =
      elim (p == 1) as (λ b. option_and_then (node_from (q ∷ qs)) (cond b (Some (found_in above l (Instruction n t) f))
      (child_at above s (p - 1))) ≡ Some x
      → SeenElement outer (Node l (Instruction n t) f s) (cond b (Node l (Instruction n t) (changed q qs f) s)
      (Node l (Instruction n t) f (below_changed (changed q qs) (p - 1) s)))
      (passed_below (passed (q ∷ qs)) (cond b (Some (found_in above l (Instruction n t) f)) (child_at above s (p - 1))))) [
        | true ↦ λ k. nothing-below rules x (Instruction n t ∷ above) q qs f normal.0 k
        | false ↦ λ k. element-before outer l (Instruction n t) f s (below_changed (changed q qs) (p - 1) s) _
            (way-element outer (p - 1) (q ∷ qs) above s e normal.1 k)
      ] h
