-- What an edit changes of a document as it is seen, where texts of white space are stripped.
use Rattle.std.proofs.Common.{◌≡◌, ◌≤◌, arith, ℕ, ◌+◌, ◌-◌, ◌==◌, Bool, true, false, cond, List, [], ◌∷◌, None, Some}
use Rattle.std.proofs.Common.{sym, ap, ◌∙◌, subst}
use Rattle.std.specs.Prelude.{◌&&◌}
use Rattle.std.specs.Option.{option_and_then}
use Rattle.spec_document.specs.Forest.{Written, Content, Element, Text, Comment, Instruction, Forest, Empty, Node, IsNormal}
use Rattle.spec_document.specs.Place.{Found, found_in, child_at, node_from}
use Rattle.spec_stylesheet.specs.Sheet.{SpaceRule}
use Rattle.spec_structure.specs.Inside.{is_white}
use Rattle.spec_seen.specs.Seen.{Around, around_in, seen_among}
use Rattle.spec_edit.specs.Splice.{below_changed, children_changed}
use Rattle.spec_edit.proofs.Around.{some_same}
use Rattle.spec_edit.proofs.Numbers.{one_if, stands}
use Rattle.spec_change.specs.Change.{Change, passed, passed_below}
use Rattle.spec_touch.specs.Leads.{Rewrites, text_rewritten, comment_rewritten, instruction_rewritten, ChildrenChange}
use Rattle.spec_touch.specs.Leads.{ChangesIn, children, inside, further}
use Rattle.spec_touch.proofs.Parting.{IsUnder, Split, split_end, split_stays, split_rewritten, split_goes, split_comes}
use Rattle.spec_touch.proofs.Parting.{kept_count, gone_count, brought_count}
use Rattle.spec_touch.proofs.Parting.{Holds, is_root, is_element, has_children}

-- ---- Siblings as they are seen

-- siblings before and after, of which others are seen: each that goes, comes or stays was counted before
pub record Sees {Used : ℕ → Type 0} {old new : Forest ℕ} (r : Split Used old new) (f g : Forest ℕ) : Type 0 where
  pub split : Split (IsUnder 0) f g
  pub olds_fewer : (p : ℕ → Bool) → gone_count p split + kept_count p split ≤ gone_count p r + kept_count p r
  pub all_fewer : (p : ℕ → Bool)
      → gone_count p split + brought_count p split + kept_count p split ≤ gone_count p r + brought_count p r + kept_count p r

IsFewer : Forest ℕ → Forest ℕ → Type 0
IsFewer f g = (p : ℕ → Bool) → stands p f ≤ stands p g

module _ {Used : ℕ → Type 0} {old new : Forest ℕ} (r : Split Used old new) (f g : Forest ℕ) (h : Sees r f g) (l : ℕ) (below seen_below : Forest ℕ)
    (fewer : (p : ℕ → Bool) → stands p seen_below ≤ stands p below) where
  stays-seen : (c : Content) → Sees (split_stays {label = l} {content = c} {children = below} r) (Node l c seen_below f)
      (Node l c seen_below g)
  stays-seen c =
      record {
        split = split_stays {label = l} {content = c} {children = seen_below} h.split;
        olds_fewer = λ p. (let a = h.olds_fewer p in let b = fewer p in omega arith);
        all_fewer = λ p. (let a = h.all_fewer p in let b = fewer p in omega arith);
      }

  rewritten-seen : (c d : Content) (w : Rewrites c d)
      → Sees (split_rewritten {label = l} {content = c} {other = d} {children = below} w r) (Node l c seen_below f) (Node l d seen_below g)
  rewritten-seen c d w =
      record {
        split = split_rewritten {label = l} {content = c} {other = d} {children = seen_below} w h.split;
        olds_fewer = λ p. (let a = h.olds_fewer p in let b = fewer p in omega arith);
        all_fewer = λ p. (let a = h.all_fewer p in let b = fewer p in omega arith);
      }

  goes-seen : (c : Content) → Sees (split_goes {label = l} {content = c} {children = below} r) (Node l c seen_below f) g
  goes-seen c =
      record {
        split = split_goes {label = l} {content = c} {children = seen_below} h.split;
        olds_fewer = λ p. (let a = h.olds_fewer p in let b = fewer p in omega arith);
        all_fewer = λ p. (let a = h.all_fewer p in let b = fewer p in omega arith);
      }

  comes-seen : (c : Content) (fresh : (k : ℕ) → Used k → one_if (l == k) + stands (λ m. m == k) below ≡ 0)
      → Sees (split_comes {label = l} {content = c} {children = below} fresh r) f (Node l c seen_below g)
  comes-seen c fresh =
      record {
        split = split_comes {label = l} {content = c} {children = seen_below} (λ k low. absurd (omega arith)) h.split;
        olds_fewer = λ p. (let a = h.olds_fewer p in let b = fewer p in omega arith);
        all_fewer = λ p. (let a = h.all_fewer p in let b = fewer p in omega arith);
      }

module _ {Used : ℕ → Type 0} {old new : Forest ℕ} (r : Split Used old new) (f g : Forest ℕ) (h : Sees r f g) (l : ℕ) (below : Forest ℕ) where
  -- those that are not seen
  stays-hidden : (c : Content) → Sees (split_stays {label = l} {content = c} {children = below} r) f g
  stays-hidden c =
      record {
        split = h.split;
        olds_fewer = λ p. (let a = h.olds_fewer p in omega arith);
        all_fewer = λ p. (let a = h.all_fewer p in omega arith);
      }

  goes-hidden : (c : Content) → Sees (split_goes {label = l} {content = c} {children = below} r) f g
  goes-hidden c =
      record {
        split = h.split;
        olds_fewer = λ p. (let a = h.olds_fewer p in omega arith);
        all_fewer = λ p. (let a = h.all_fewer p in omega arith);
      }

  comes-hidden : (c : Content) (fresh : (k : ℕ) → Used k → one_if (l == k) + stands (λ m. m == k) below ≡ 0)
      → Sees (split_comes {label = l} {content = c} {children = below} fresh r) f g
  comes-hidden c fresh =
      record {
        split = h.split;
        olds_fewer = λ p. (let a = h.olds_fewer p in omega arith);
        all_fewer = λ p. (let a = h.all_fewer p in omega arith);
      }

  text-stays : (b : Bool) (t : List ℕ) → Sees (split_stays {label = l} {content = Text t} {children = below} r)
      (cond b f (Node l (Text t) below f)) (cond b g (Node l (Text t) below g))
  text-stays true t = stays-hidden (Text t)
  text-stays false t = stays-seen r f g h l below below (λ p. omega arith) (Text t)

  text-goes : (b : Bool) (t : List ℕ) → Sees (split_goes {label = l} {content = Text t} {children = below} r)
      (cond b f (Node l (Text t) below f)) g
  text-goes true t = goes-hidden (Text t)
  text-goes false t = goes-seen r f g h l below below (λ p. omega arith) (Text t)

  text-comes : (b : Bool) (t : List ℕ) (fresh : (k : ℕ) → Used k → one_if (l == k) + stands (λ m. m == k) below ≡ 0)
      → Sees (split_comes {label = l} {content = Text t} {children = below} fresh r) f (cond b g (Node l (Text t) below g))
  text-comes true t fresh = comes-hidden (Text t) fresh
  text-comes false t fresh = comes-seen r f g h l below below (λ p. omega arith) (Text t) fresh

  text-rewritten : (b d : Bool) (t u : List ℕ)
      → Sees (split_rewritten {label = l} {content = Text t} {other = Text u} {children = below} text_rewritten r)
      (cond b f (Node l (Text t) below f)) (cond d g (Node l (Text u) below g))
  text-rewritten true true t u =
      record {
        split = h.split;
        olds_fewer = λ p. (let a = h.olds_fewer p in omega arith);
        all_fewer = λ p. (let a = h.all_fewer p in omega arith);
      }
  text-rewritten true false t u =
      record {
        split = split_comes {label = l} {content = Text u} {children = below} (λ k low. absurd (omega arith)) h.split;
        olds_fewer = λ p. (let a = h.olds_fewer p in omega arith);
        all_fewer = λ p. (let a = h.all_fewer p in omega arith);
      }
  text-rewritten false true t u =
      record {
        split = split_goes {label = l} {content = Text t} {children = below} h.split;
        olds_fewer = λ p. (let a = h.olds_fewer p in omega arith);
        all_fewer = λ p. (let a = h.all_fewer p in omega arith);
      }
  text-rewritten false false t u = rewritten-seen r f g h l below below (λ p. omega arith) (Text t) (Text u) text_rewritten

-- ---- What is seen of siblings before and after

module _ (rules : List SpaceRule) where
  text-fewer : (p : ℕ → Bool) (b : Bool) (l : ℕ) (t : List ℕ) (below s rest : Forest ℕ) → stands p rest ≤ stands p s
      → stands p (cond b rest (Node l (Text t) below rest)) ≤ one_if (p l) + stands p below + stands p s
  text-fewer p true l t below s rest h = omega arith
  text-fewer p false l t below s rest h = omega arith

  pub fewer-seen : (p : ℕ → Bool) (around : Around) (f : Forest ℕ) → stands p (seen_among rules around f) ≤ stands p f
  fewer-seen p around Empty = omega arith
  fewer-seen p around (Node l (Text t) c s) =
      text-fewer p (around.strips && is_white t) l t c s (seen_among rules around s) (fewer-seen p around s)
  fewer-seen p around (Node l (Element n w) c s) =
      let a = fewer-seen p (around_in rules around n w) c in let b = fewer-seen p around s in omega arith
  fewer-seen p around (Node l (Comment t) c s) = let b = fewer-seen p around s in omega arith
  fewer-seen p around (Node l (Instruction n t) c s) = let b = fewer-seen p around s in omega arith

  pub sees : (around : Around) {Used : ℕ → Type 0} {old new : Forest ℕ} (r : Split Used old new)
      → Sees r (seen_among rules around old) (seen_among rules around new)
  sees around split_end = record { split = split_end; olds_fewer = λ p. omega arith; all_fewer = λ p. omega arith }
  sees around (split_stays {label = l} {content = Text t} {children = c} r) =
      text-stays r _ _ (sees around r) l c (around.strips && is_white t) t
  sees around (split_stays {label = l} {content = Element n w} {children = c} r) =
      stays-seen r _ _ (sees around r) l c (seen_among rules (around_in rules around n w) c)
      (λ p. fewer-seen p (around_in rules around n w) c) (Element n w)
  sees around (split_stays {label = l} {content = Comment t} {children = c} r) = stays-seen r _ _ (sees around r) l c c
      (λ p. omega arith) (Comment t)
  sees around (split_stays {label = l} {content = Instruction n t} {children = c} r) =
      stays-seen r _ _ (sees around r) l c c (λ p. omega arith) (Instruction n t)
  sees around (split_rewritten {label = l} {children = c} (text_rewritten {old = t} {new = u}) r) =
      text-rewritten r _ _ (sees around r) l c (around.strips && is_white t) (around.strips && is_white u) t u
  sees around (split_rewritten {label = l} {children = c} (comment_rewritten {old = t} {new = u}) r) =
      rewritten-seen r _ _ (sees around r) l c c (λ p. omega arith) (Comment t) (Comment u) comment_rewritten
  sees around (split_rewritten {label = l} {children = c} (instruction_rewritten {target = n} {old = t} {new = u}) r) =
      rewritten-seen r _ _ (sees around r) l c c (λ p. omega arith) (Instruction n t) (Instruction n u) instruction_rewritten
  sees around (split_goes {label = l} {content = Text t} {children = c} r) =
      text-goes r _ _ (sees around r) l c (around.strips && is_white t) t
  sees around (split_goes {label = l} {content = Element n w} {children = c} r) =
      goes-seen r _ _ (sees around r) l c (seen_among rules (around_in rules around n w) c)
      (λ p. fewer-seen p (around_in rules around n w) c) (Element n w)
  sees around (split_goes {label = l} {content = Comment t} {children = c} r) = goes-seen r _ _ (sees around r) l c c
      (λ p. omega arith) (Comment t)
  sees around (split_goes {label = l} {content = Instruction n t} {children = c} r) =
      goes-seen r _ _ (sees around r) l c c (λ p. omega arith) (Instruction n t)
  sees around (split_comes {label = l} {content = Text t} {children = c} fresh r) =
      text-comes r _ _ (sees around r) l c (around.strips && is_white t) t fresh
  sees around (split_comes {label = l} {content = Element n w} {children = c} fresh r) =
      comes-seen r _ _ (sees around r) l c (seen_among rules (around_in rules around n w) c)
      (λ p. fewer-seen p (around_in rules around n w) c) (Element n w) fresh
  sees around (split_comes {label = l} {content = Comment t} {children = c} fresh r) =
      comes-seen r _ _ (sees around r) l c c (λ p. omega arith) (Comment t) fresh
  sees around (split_comes {label = l} {content = Instruction n t} {children = c} fresh r) =
      comes-seen r _ _ (sees around r) l c c (λ p. omega arith) (Instruction n t) fresh

  -- ---- The way to the node of the change, as it is seen

  -- what is seen of siblings before and after, by what is seen of the children of a node below them
  pub record SeenAt (outer : Around) (f g : Forest ℕ) (x : Found ℕ) (xs : Forest ℕ) (numbers : List ℕ) : Type 0 where
    pub around : Around
    pub leads : (change : Change) → ChildrenChange change x.label (seen_among rules around x.children) (seen_among rules around xs)
        → ChangesIn change numbers (seen_among rules outer f) (seen_among rules outer g)
    pub outside : (ℕ → Bool) → ℕ
    pub outside_all : (ℕ → Bool) → ℕ
    pub outside_fewer : (p : ℕ → Bool) → outside p ≤ outside_all p
    pub old_seen : (p : ℕ → Bool) → stands p (seen_among rules outer f) ≡ outside p + stands p (seen_among rules around x.children)
    pub new_seen : (p : ℕ → Bool) → stands p (seen_among rules outer g) ≡ outside p + stands p (seen_among rules around xs)
    pub old_all : (p : ℕ → Bool) → stands p f ≡ outside_all p + stands p x.children

  here-seen : (outer : Around) (above : List Content) (l : ℕ) (n : List ℕ) (w : List Written) (f xs s : Forest ℕ)
      → SeenAt outer (Node l (Element n w) f s) (Node l (Element n w) xs s) (found_in above l (Element n w) f) xs []
  here-seen outer above l n w f xs s =
      record {
        around = around_in rules outer n w;
        leads = λ change d. children d;
        outside = λ p. one_if (p l) + stands p (seen_among rules outer s);
        outside_all = λ p. one_if (p l) + stands p s;
        outside_fewer = λ p. (let a = fewer-seen p outer s in omega arith);
        old_seen = λ p. omega arith;
        new_seen = λ p. omega arith;
        old_all = λ p. omega arith;
      }

  inside-seen : (outer : Around) (l : ℕ) (n : List ℕ) (w : List Written) (f g s : Forest ℕ) (x : Found ℕ) (xs : Forest ℕ) (numbers : List ℕ)
      → SeenAt (around_in rules outer n w) f g x xs numbers
      → SeenAt outer (Node l (Element n w) f s) (Node l (Element n w) g s) x xs (l ∷ numbers)
  inside-seen outer l n w f g s x xs numbers r =
      record {
        around = r.around;
        leads = λ change d. inside (r.leads change d);
        outside = λ p. one_if (p l) + r.outside p + stands p (seen_among rules outer s);
        outside_all = λ p. one_if (p l) + r.outside_all p + stands p s;
        outside_fewer = λ p. (let a = fewer-seen p outer s in let b = r.outside_fewer p in omega arith);
        old_seen = λ p. (let a = r.old_seen p in omega arith);
        new_seen = λ p. (let a = r.new_seen p in omega arith);
        old_all = λ p. (let a = r.old_all p in omega arith);
      }

  -- with one more sibling before
  pub text-leads : (change : Change) (b : Bool) (l : ℕ) (t : List ℕ) (below f g : Forest ℕ) (numbers : List ℕ)
      → ChangesIn change numbers f g
      → ChangesIn change numbers (cond b f (Node l (Text t) below f)) (cond b g (Node l (Text t) below g))
  text-leads change true l t below f g numbers h = h
  text-leads change false l t below f g numbers h = further h

  text-stands : (p : ℕ → Bool) (b : Bool) (l : ℕ) (t : List ℕ) (below f : Forest ℕ) (n m : ℕ) → stands p f ≡ n + m
      → stands p (cond b f (Node l (Text t) below f)) ≡ cond b 0 (one_if (p l) + stands p below) + n + m
  text-stands p true l t below f n m h = omega arith
  text-stands p false l t below f n m h = omega arith

  none-or : (b : Bool) (n m k : ℕ) → m ≤ k → cond b 0 n + m ≤ n + k
  none-or true n m k h = omega arith
  none-or false n m k h = omega arith

  text-before : (outer : Around) (l : ℕ) (t : List ℕ) (below f g : Forest ℕ) (x : Found ℕ) (xs : Forest ℕ) (numbers : List ℕ)
      → SeenAt outer f g x xs numbers → SeenAt outer (Node l (Text t) below f) (Node l (Text t) below g) x xs numbers
  text-before outer l t below f g x xs numbers r =
      let b = outer.strips && is_white t in
      record {
        around = r.around;
        leads = λ change d. text-leads change b l t below (seen_among rules outer f) (seen_among rules outer g) numbers (r.leads change d);
        outside = λ p. cond b 0 (one_if (p l) + stands p below) + r.outside p;
        outside_all = λ p. one_if (p l) + stands p below + r.outside_all p;
        outside_fewer = λ p. none-or b (one_if (p l) + stands p below) (r.outside p) (r.outside_all p) (r.outside_fewer p);
        old_seen = λ p. text-stands p b l t below (seen_among rules outer f) (r.outside p)
            (stands p (seen_among rules r.around x.children)) (r.old_seen p);
        new_seen = λ p. text-stands p b l t below (seen_among rules outer g) (r.outside p)
            (stands p (seen_among rules r.around xs)) (r.new_seen p);
        old_all = λ p. (let a = r.old_all p in omega arith);
      }

  node-before : (outer : Around) (l : ℕ) (c : Content) (below f g : Forest ℕ) (x : Found ℕ) (xs : Forest ℕ) (numbers : List ℕ)
      → SeenAt outer f g x xs numbers → SeenAt outer (Node l c below f) (Node l c below g) x xs numbers
  node-before outer l (Text t) below f g x xs numbers r = text-before outer l t below f g x xs numbers r
  node-before outer l (Element n w) below f g x xs numbers r =
      record {
        around = r.around;
        leads = λ change d. further (r.leads change d);
        outside = λ p. one_if (p l) + stands p (seen_among rules (around_in rules outer n w) below) + r.outside p;
        outside_all = λ p. one_if (p l) + stands p below + r.outside_all p;
        outside_fewer = λ p. (let a = fewer-seen p (around_in rules outer n w) below in let b = r.outside_fewer p in omega arith);
        old_seen = λ p. (let a = r.old_seen p in omega arith);
        new_seen = λ p. (let a = r.new_seen p in omega arith);
        old_all = λ p. (let a = r.old_all p in omega arith);
      }
  node-before outer l (Comment t) below f g x xs numbers r =
      record {
        around = r.around;
        leads = λ change d. further (r.leads change d);
        outside = λ p. one_if (p l) + stands p below + r.outside p;
        outside_all = λ p. one_if (p l) + stands p below + r.outside_all p;
        outside_fewer = λ p. (let b = r.outside_fewer p in omega arith);
        old_seen = λ p. (let a = r.old_seen p in omega arith);
        new_seen = λ p. (let a = r.new_seen p in omega arith);
        old_all = λ p. (let a = r.old_all p in omega arith);
      }
  node-before outer l (Instruction n t) below f g x xs numbers r =
      record {
        around = r.around;
        leads = λ change d. further (r.leads change d);
        outside = λ p. one_if (p l) + stands p below + r.outside p;
        outside_all = λ p. one_if (p l) + stands p below + r.outside_all p;
        outside_fewer = λ p. (let b = r.outside_fewer p in omega arith);
        old_seen = λ p. (let a = r.old_seen p in omega arith);
        new_seen = λ p. (let a = r.new_seen p in omega arith);
        old_all = λ p. (let a = r.old_all p in omega arith);
      }

  pub normal-rest : (l : ℕ) (c : Content) (f s : Forest ℕ) → IsNormal (Node l c f s) → IsNormal s
  normal-rest l (Element n w) f s h = h.1
  normal-rest l (Text t) f s h = h.3
  normal-rest l (Comment t) f s h = h.1
  normal-rest l (Instruction n t) f s h = h.1

  pub nothing-below : {A : Type 0} (x : Found ℕ) (above : List Content) (q : ℕ) (qs : List ℕ) (f : Forest ℕ) → f ≡ Empty
      → option_and_then (node_from qs) (child_at above f q) ≡ Some x → A
  nothing-below x above q qs f e h =
      absurd (let g : None ≡ Some x = ap (λ k. option_and_then (node_from qs) (child_at above k q)) (sym e) ∙ h in cc)

  module _ (x : Found ℕ) (holds : Holds x) (g : Forest ℕ → Forest ℕ) where
    no-holder : {A : Type 0} (above : List Content) (l : ℕ) (c : Content) (f : Forest ℕ) → found_in above l c f ≡ x → f ≡ Empty
        → ((n : List ℕ) (w : List Written) → c ≡ Element n w → ⊥) → A
    no-holder {A} above l c f e none other = by holds
      where
        by : Holds x → A
        by (is_root h) = absurd (let k : Some c ≡ None = ap (λ y. y.content) e ∙ h in cc)
        by (is_element n w h) = absurd (other n w (some_same c (Element n w) (ap (λ y. y.content) e ∙ h)))
        by (has_children h) = absurd (h (ap (λ y. y.children) (sym e) ∙ none))

    here-any : (outer : Around) (above : List Content) (l : ℕ) (c : Content) (f s : Forest ℕ) → IsNormal (Node l c f s)
        → found_in above l c f ≡ x
        → SeenAt outer (Node l c f s) (Node l c (g f) s) x (g x.children) []
    here-any outer above l (Element n w) f s normal e =
        subst (λ y. SeenAt outer (Node l (Element n w) f s) (Node l (Element n w) (g f) s) y (g y.children) []) e
        (here-seen outer above l n w f (g f) s)
    here-any outer above l (Text t) f s normal e = no-holder above l (Text t) f e normal.0 (λ n w h. absurd (cc))
    here-any outer above l (Comment t) f s normal e = no-holder above l (Comment t) f e normal.0 (λ n w h. absurd (cc))
    here-any outer above l (Instruction m t) f s normal e = no-holder above l (Instruction m t) f e normal.0 (λ n w h. absurd (cc))

    pub way-seen : (outer : Around) (p : ℕ) (ps : List ℕ) (above : List Content) (f : Forest ℕ) → IsNormal f
        → option_and_then (node_from ps) (child_at above f p) ≡ Some x
        → SeenAt outer f (below_changed (children_changed g ps) p f) x (g x.children) (passed_below (passed ps) (child_at above f p))
    way-seen outer p ps above Empty normal e = absurd (cc)
    way-seen outer p [] above (Node l c f s) normal e =
        elim (p == 1) as (λ b. option_and_then (node_from []) (cond b (Some (found_in above l c f)) (child_at above s (p - 1))) ≡ Some x
        → SeenAt outer (Node l c f s) (cond b (Node l c (g f) s) (Node l c f
        (below_changed (children_changed g []) (p - 1) s))) x (g x.children)
        (passed_below (passed []) (cond b (Some (found_in above l c f)) (child_at above s (p - 1))))) [
          | true ↦ λ h. here-any outer above l c f s normal (some_same (found_in above l c f) x h)
          | false ↦ λ h. node-before outer l c f s (below_changed (children_changed g []) (p - 1) s) x (g x.children) _
              (way-seen outer (p - 1) [] above s (normal-rest l c f s normal) h)
        ] e
    way-seen outer p (q ∷ qs) above (Node l (Element n w) f s) normal e =
        elim (p == 1) as (λ b. option_and_then (node_from (q ∷ qs)) (cond b (Some (found_in above l (Element n w) f))
        (child_at above s (p - 1))) ≡ Some x
        → SeenAt outer (Node l (Element n w) f s) (cond b (Node l (Element n w) (children_changed g (q ∷ qs) f) s)
        (Node l (Element n w) f (below_changed (children_changed g (q ∷ qs)) (p - 1) s))) x (g x.children)
        (passed_below (passed (q ∷ qs)) (cond b (Some (found_in above l (Element n w) f)) (child_at above s (p - 1))))) [
          | true ↦ λ h. inside-seen outer l n w f (children_changed g (q ∷ qs) f) s x (g x.children) _
              (way-seen (around_in rules outer n w) q qs (Element n w ∷ above) f normal.0 h)
          | false ↦ λ h. node-before outer l (Element n w) f s (below_changed (children_changed g (q ∷ qs)) (p - 1) s) x (g x.children) _
              (way-seen outer (p - 1) (q ∷ qs) above s normal.1 h)
        ] e
    way-seen outer p (q ∷ qs) above (Node l (Text t) f s) normal e =
        elim (p == 1) as (λ b. option_and_then (node_from (q ∷ qs)) (cond b (Some (found_in above l (Text t) f))
        (child_at above s (p - 1))) ≡ Some x
        → SeenAt outer (Node l (Text t) f s) (cond b (Node l (Text t) (children_changed g (q ∷ qs) f) s)
        (Node l (Text t) f (below_changed (children_changed g (q ∷ qs)) (p - 1) s))) x (g x.children)
        (passed_below (passed (q ∷ qs)) (cond b (Some (found_in above l (Text t) f)) (child_at above s (p - 1))))) [
          | true ↦ λ h. nothing-below x (Text t ∷ above) q qs f normal.0 h
          | false ↦ λ h. node-before outer l (Text t) f s (below_changed (children_changed g (q ∷ qs)) (p - 1) s) x (g x.children) _
              (way-seen outer (p - 1) (q ∷ qs) above s (normal-rest l (Text t) f s normal) h)
        ] e
    way-seen outer p (q ∷ qs) above (Node l (Comment t) f s) normal e =
        elim (p == 1) as (λ b. option_and_then (node_from (q ∷ qs)) (cond b (Some (found_in above l (Comment t) f))
        (child_at above s (p - 1))) ≡ Some x
        → SeenAt outer (Node l (Comment t) f s) (cond b (Node l (Comment t) (children_changed g (q ∷ qs) f) s)
        (Node l (Comment t) f (below_changed (children_changed g (q ∷ qs)) (p - 1) s))) x (g x.children)
        (passed_below (passed (q ∷ qs)) (cond b (Some (found_in above l (Comment t) f)) (child_at above s (p - 1))))) [
          | true ↦ λ h. nothing-below x (Comment t ∷ above) q qs f normal.0 h
          | false ↦ λ h. node-before outer l (Comment t) f s (below_changed (children_changed g (q ∷ qs)) (p - 1) s) x (g x.children) _
              (way-seen outer (p - 1) (q ∷ qs) above s normal.1 h)
        ] e
    way-seen outer p (q ∷ qs) above (Node l (Instruction n t) f s) normal e =
        elim (p == 1) as (λ b. option_and_then (node_from (q ∷ qs)) (cond b (Some (found_in above l (Instruction n t) f))
        (child_at above s (p - 1))) ≡ Some x
        → SeenAt outer (Node l (Instruction n t) f s) (cond b (Node l (Instruction n t) (children_changed g (q ∷ qs) f) s)
        (Node l (Instruction n t) f (below_changed (children_changed g (q ∷ qs)) (p - 1) s))) x (g x.children)
        (passed_below (passed (q ∷ qs)) (cond b (Some (found_in above l (Instruction n t) f)) (child_at above s (p - 1))))) [
          | true ↦ λ h. nothing-below x (Instruction n t ∷ above) q qs f normal.0 h
          | false ↦ λ h. node-before outer l (Instruction n t) f s (below_changed (children_changed g (q ∷ qs)) (p - 1) s) x
              (g x.children) _
              (way-seen outer (p - 1) (q ∷ qs) above s normal.1 h)
        ] e
