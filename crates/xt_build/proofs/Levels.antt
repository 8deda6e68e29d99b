-- Where a walk over pieces stands: the forests that are open, counted from the inside, and the one that is open below so
-- many elements. An element whose end is missing is open to the end of the pieces, so there are at most as many forests.
use Rattle.std.proofs.Common.{◌≡◌, ℕ, suc, zero, ◌+◌, ◌-◌, ◌<◌, ◌≤◌, List, [], ◌∷◌, drop, length, get_or, map, refl, sym, ap}
use Rattle.std.proofs.Common.{◌∙◌, subst, arith}
use Rattle.std.proofs.lemmas.List.{at_drop_more}
use Rattle.std.specs.declared.vec.Vec.{Vec}
use Rattle.std.specs.declared.alloc.Global.{Global}
use Rattle.spec_document.specs.Forest.{Forest, Empty, Node, Content, Element, Text, Comment, Instruction}
use Rattle.spec_document.specs.Balance.{LineNumbers}
use Rattle.xt_tree.specs.View.{content_of, written_of}
use Rattle.xt_tree.specs.declared.node.Written.{Written}
use Rattle.xt_tree.specs.declared.node.Content.{Content as Held}
use Rattle.xt_tree.specs.declared.node.Content.TheVariants as held
use Rattle.xt_build.specs.declared.piece.Piece.{Piece as Code}
use Rattle.xt_build.specs.declared.piece.Piece.TheVariants as code
use Rattle.xt_build.specs.Piece.{Piece, Begins, Ends, element_before, leaf_before, node_before, piece_before, open_in}
use Rattle.xt_build.specs.View.{piece_of, pieces_of}

-- the forest that is open below so many elements; none where fewer are open
abbrev pub at_level : ℕ → List (Forest LineNumbers) → Forest LineNumbers
at_level level stack = get_or stack level Empty

-- the forests that are open behind so many pieces
abbrev pub left : List Code → ℕ → List (Forest LineNumbers)
left ps n = open_in (pieces_of (drop n ps))

-- ---- One more piece in front

element-some : (l : LineNumbers) (c : Content) (s : List (Forest LineNumbers)) → 1 ≤ length (element_before l c s)
element-some l c [] = omega arith
element-some l c (f ∷ []) = omega arith
element-some l c (f ∷ g ∷ s) = omega arith

leaf-some : (l : LineNumbers) (c : Content) (s : List (Forest LineNumbers)) → 1 ≤ length (leaf_before l c s)
leaf-some l c [] = omega arith
leaf-some l c (f ∷ s) = omega arith

-- some forest is always open
pub open-some : (ps : List Piece) → 1 ≤ length (open_in ps)
open-some [] = omega arith
open-some (Ends ∷ ps) = omega arith
open-some (Begins l (Element n a) ∷ ps) = element-some l (Element n a) (open_in ps)
open-some (Begins l (Text t) ∷ ps) = leaf-some l (Text t) (open_in ps)
open-some (Begins l (Comment t) ∷ ps) = leaf-some l (Comment t) (open_in ps)
open-some (Begins l (Instruction n t) ∷ ps) = leaf-some l (Instruction n t) (open_in ps)

element-within : (l : LineNumbers) (c : Content) (s : List (Forest LineNumbers)) (level : ℕ) → length (element_before l c s) ≤ level + 1
    → length s ≤ level + 1 + 1
element-within l c [] level h = omega arith
element-within l c (f ∷ []) level h = omega arith
element-within l c (f ∷ g ∷ s) level h = omega arith

leaf-within : (l : LineNumbers) (c : Content) (s : List (Forest LineNumbers)) (level : ℕ) → length (leaf_before l c s) ≤ level + 1
    → length s ≤ level + 1
leaf-within l c [] level h = omega arith
leaf-within l c (f ∷ s) level h = omega arith

element-top : (l : LineNumbers) (c : Content) (s : List (Forest LineNumbers))
    → at_level 0 (element_before l c s) ≡ Node l c (at_level 0 s) (at_level 1 s)
element-top l c [] = refl
element-top l c (f ∷ []) = refl
element-top l c (f ∷ g ∷ s) = refl

element-below : (l : LineNumbers) (c : Content) (s : List (Forest LineNumbers)) (level : ℕ) → 0 < level
    → at_level level (element_before l c s) ≡ at_level (level + 1) s
element-below l c [] (suc n) h = refl
element-below l c (f ∷ []) (suc n) h = let e : suc n + 1 ≡ suc (suc n) = omega arith in ap (λ k. at_level k (f ∷ [])) (sym e)
element-below l c (f ∷ g ∷ s) (suc n) h = let e : suc n + 1 ≡ suc (suc n) = omega arith in ap (λ k. at_level k (f ∷ g ∷ s)) (sym e)
element-below l c s zero h = absurd (omega arith)

leaf-top : (l : LineNumbers) (c : Content) (s : List (Forest LineNumbers)) → at_level 0 (leaf_before l c s) ≡ Node l c Empty (at_level 0 s)
leaf-top l c [] = refl
leaf-top l c (f ∷ s) = refl

leaf-below : (l : LineNumbers) (c : Content) (s : List (Forest LineNumbers)) (level : ℕ) → 0 < level
    → at_level level (leaf_before l c s) ≡ at_level level s
leaf-below l c [] (suc n) h = refl
leaf-below l c (f ∷ s) (suc n) h = refl
leaf-below l c s zero h = absurd (omega arith)

ends-below : (s : List (Forest LineNumbers)) (level : ℕ) → 0 < level → at_level level (Empty ∷ s) ≡ at_level (level - 1) s
ends-below s (suc n) h = let e : suc n - 1 ≡ n = omega arith in ap (λ k. at_level k s) (sym e)
ends-below s zero h = absurd (omega arith)

-- ---- One turn of a walk

abbrev lines_at : ℕ → Vec ℕ Global → LineNumbers
lines_at line attributes = record { first = line; attributes = attributes.items }

turn : (ps : List Code) (n : ℕ) (p : Code) → n < length ps → p ≡ get_or ps n p → left ps n ≡ piece_before (piece_of p) (left ps (n + 1))
turn ps n p h e = at_drop_more (λ rest. open_in (pieces_of rest)) ps n p h ∙ ap (λ q. piece_before (piece_of q) (left ps (n + 1))) (sym e)

-- an end: one element fewer is open
pub record Closes (ps : List Code) (n level : ℕ) : Type 0 where
  pub stack : left ps n ≡ Empty ∷ left ps (n + 1)
  pub some : 1 ≤ level
  pub within : length (left ps (n + 1)) ≤ level - 1 + 1
  pub below : at_level level (left ps n) ≡ at_level (level - 1) (left ps (n + 1))

pub closes : (ps : List Code) (n : ℕ) (p : Code) (level : ℕ) → n < length ps → p ≡ get_or ps n p → p ≡ code.Ends
    → length (left ps n) ≤ level + 1 → Closes ps n level
closes ps n p level h e is within =
    let stack = turn ps n p h e ∙ ap (λ q. piece_before (piece_of q) (left ps (n + 1))) is in
    let some = open-some (pieces_of (drop (n + 1) ps)) in
    let most = subst (λ (s : List (Forest LineNumbers)). length s ≤ level + 1) stack within in
    let here : 1 ≤ level = omega (arith, some, most) in
    record {
      stack = stack;
      some = here;
      within = omega (arith, most);
      below = ap (at_level level) stack ∙ ends-below (left ps (n + 1)) level here;
    }

-- the start of an element
pub record Opens (ps : List Code) (n level : ℕ) (l : LineNumbers) (c : Content) : Type 0 where
  pub stack : left ps n ≡ element_before l c (left ps (n + 1))
  pub within : length (left ps (n + 1)) ≤ level + 1 + 1
  pub top : at_level 0 (left ps n) ≡ Node l c (at_level 0 (left ps (n + 1))) (at_level 1 (left ps (n + 1)))
  pub below : 0 < level → at_level level (left ps n) ≡ at_level (level + 1) (left ps (n + 1))

pub opens : (ps : List Code) (n : ℕ) (p : Code) (level line : ℕ) (al : Vec ℕ Global) (content : Held) (name : List ℕ)
    (attributes : Vec Written Global)
    → n < length ps → p ≡ get_or ps n p → p ≡ code.Begins line al content → content ≡ held.Element name attributes
    → length (left ps n) ≤ level + 1
    → Opens ps n level (lines_at line al) (Element name (map written_of attributes.items))
opens ps n p level line al content name attributes h e is what within =
    let l = lines_at line al in let c = Element name (map written_of attributes.items) in
    let stack = turn ps n p h e ∙ ap (λ q. piece_before (piece_of q) (left ps (n + 1))) is
    ∙ ap (λ k. node_before l (content_of k) (left ps (n + 1))) what in
    record {
      stack = stack;
      within = element-within l c (left ps (n + 1)) level (subst (λ (s : List (Forest LineNumbers)). length s ≤ level + 1) stack within);
      top = ap (at_level 0) stack ∙ element-top l c (left ps (n + 1));
      below = λ more. ap (at_level level) stack ∙ element-below l c (left ps (n + 1)) level more;
    }

-- a node that is no element
pub record Stands (ps : List Code) (n level : ℕ) (l : LineNumbers) (c : Content) : Type 0 where
  pub stack : left ps n ≡ leaf_before l c (left ps (n + 1))
  pub within : length (left ps (n + 1)) ≤ level + 1
  pub top : at_level 0 (left ps n) ≡ Node l c Empty (at_level 0 (left ps (n + 1)))
  pub below : 0 < level → at_level level (left ps n) ≡ at_level level (left ps (n + 1))

abbrev pub IsNoElement : Held → Type 0
IsNoElement content = (name : List ℕ) → (attributes : Vec Written Global) → content ≡ held.Element name attributes → ⊥

leaf-is : (l : LineNumbers) (content : Held) (s : List (Forest LineNumbers)) → IsNoElement content
    → node_before l (content_of content) s ≡ leaf_before l (content_of content) s
leaf-is l (held.Element name attributes) s other = absurd (other name attributes refl)
leaf-is l (held.Text text) s other = refl
leaf-is l (held.Comment text) s other = refl
leaf-is l (held.Instruction target text) s other = refl

pub stands : (ps : List Code) (n : ℕ) (p : Code) (level line : ℕ) (al : Vec ℕ Global) (content : Held)
    → n < length ps → p ≡ get_or ps n p → p ≡ code.Begins line al content → IsNoElement content → length (left ps n) ≤ level + 1
    → Stands ps n level (lines_at line al) (content_of content)
stands ps n p level line al content h e is other within =
    let l = lines_at line al in let c = content_of content in
    let stack = turn ps n p h e ∙ ap (λ q. piece_before (piece_of q) (left ps (n + 1))) is ∙ leaf-is l content (left ps (n + 1)) other in
    record {
      stack = stack;
      within = leaf-within l c (left ps (n + 1)) level (subst (λ (s : List (Forest LineNumbers)). length s ≤ level + 1) stack within);
      top = ap (at_level 0) stack ∙ leaf-top l c (left ps (n + 1));
      below = λ more. ap (at_level level) stack ∙ leaf-below l c (left ps (n + 1)) level more;
    }

pub text-other : (text : List ℕ) → IsNoElement (held.Text text)
text-other text name attributes e = absurd (cc)
