-- The faults of open forests, one node more in front.
use Rattle.std.proofs.Common.{◌≡◌, ℕ, ◌+◌, ◌-◌, suc, List, [], ◌∷◌, ◌++◌, drop, length, reverse, get_or, Option, Some, None}
use Rattle.std.proofs.Common.{unwrap_or, Bor, refl, sym, ap, ◌∙◌, arith, append-nil, append_assoc}
use Rattle.std.specs.Prelude.{nat_lt}
use Rattle.std.specs.Option.{option_map}
use Rattle.std.proofs.lemmas.List.{get_or-reverse}
use Rattle.spec_document.specs.Scope.{Scope}
use Rattle.spec_document.specs.Forest.{Written, Content, Element, Text, Comment, Instruction, Forest}
use Rattle.spec_document.specs.Declaration.{declared_all}
use Rattle.spec_document.specs.Fault.{Fault, least, fault_if}
use Rattle.spec_document.specs.Balance.{LineNumbers}
use Rattle.spec_document.specs.NodeFaults.{greatest_depth, is_wrong_element, is_wrong_target, attribute_faults, content_faults, node_faults}
use Rattle.xt_build.specs.Least.{merged}
use Rattle.xt_build.proofs.Attributes.{kept_one}
use Rattle.xt_build.specs.Left.{innermost, open_faults}
use Rattle.xt_build.specs.Piece.{first_of, element_before, leaf_before}

-- ---- Lists of faults

alone : (xs : List Fault) → ((xs ++ []) ++ []) ++ [] ≡ xs ++ []
alone xs = append-nil ((xs ++ []) ++ []) ∙ append-nil (xs ++ [])

in_front : (xs ys zs : List Fault) → ((xs ++ []) ++ ys) ++ zs ≡ xs ++ (ys ++ zs)
in_front xs ys zs = ap (λ l. (l ++ ys) ++ zs) (append-nil xs) ∙ append_assoc xs ys zs

around : (xs ys : List Fault) → ((xs ++ ys) ++ []) ++ [] ≡ xs ++ (ys ++ [])
around xs ys = ap (λ l. l ++ []) (append-nil (xs ++ ys)) ∙ append_assoc xs ys []

between : (ws xs ys zs : List Fault) → ((ws ++ xs) ++ ys) ++ zs ≡ ws ++ (xs ++ (ys ++ zs))
between ws xs ys zs = append_assoc (ws ++ xs) ys zs ∙ append_assoc ws xs (ys ++ zs)

-- ---- Nodes in front

instruction_faults : (outside : Scope) (depth : ℕ) (scopes : List Scope) (lines : LineNumbers) (target text : List ℕ)
    (behind : List (Forest LineNumbers))
    → open_faults outside depth scopes (leaf_before lines (Instruction target text) behind)
    ≡ fault_if (is_wrong_target target) 10 lines.first ++ open_faults outside depth scopes behind
instruction_faults outside depth scopes lines target text [] = alone (fault_if (is_wrong_target target) 10 lines.first)
instruction_faults outside depth scopes lines target text (f ∷ fs) =
    in_front (fault_if (is_wrong_target target) 10 lines.first) (node_faults (innermost outside scopes) (depth + length scopes) f)
    (open_faults outside depth (drop 1 scopes) fs)

deeper : (depth n : ℕ) → depth + n + 1 ≡ depth + suc n
deeper depth n = omega arith

element_faults : (outside : Scope) (depth : ℕ) (scopes : List Scope) (lines : LineNumbers) (name : List ℕ) (attributes : List Written)
    (behind : List (Forest LineNumbers))
    → open_faults outside depth scopes (element_before lines (Element name attributes) behind)
    ≡ content_faults (declared_all attributes (innermost outside scopes)) (depth + length scopes) lines (Element name attributes)
    ++ open_faults outside depth (declared_all attributes (innermost outside scopes) ∷ scopes) behind
element_faults outside depth scopes lines name attributes [] =
    alone (content_faults (declared_all attributes (innermost outside scopes)) (depth + length scopes) lines (Element name attributes))
element_faults outside depth scopes lines name attributes (f ∷ []) =
    let inside = declared_all attributes (innermost outside scopes) in
    let own = content_faults inside (depth + length scopes) lines (Element name attributes) in
    around own (node_faults inside (depth + length scopes + 1) f) ∙ ap (λ d. own ++ (node_faults inside d f ++ [])) (deeper depth (length scopes))
element_faults outside depth scopes lines name attributes (f ∷ g ∷ fs) =
    let inside = declared_all attributes (innermost outside scopes) in
    let own = content_faults inside (depth + length scopes) lines (Element name attributes) in
    let rest = node_faults (innermost outside scopes) (depth + length scopes) g ++ open_faults outside depth (drop 1 scopes) fs in
    between own (node_faults inside (depth + length scopes + 1) f) (node_faults (innermost outside scopes) (depth + length scopes) g)
    (open_faults outside depth (drop 1 scopes) fs)
    ∙ ap (λ d. own ++ (node_faults inside d f ++ rest)) (deeper depth (length scopes))

-- a node that stands too deep has the same faults at each depth that is too great
pub same_depth : (scope : Scope) (depth other : ℕ) (lines : LineNumbers) (content : Content)
    → nat_lt greatest_depth depth ≡ nat_lt greatest_depth other
    → content_faults scope depth lines content ≡ content_faults scope other lines content
same_depth scope depth other lines (Element name attributes) e =
    ap (λ b. fault_if (is_wrong_element scope name) 10 lines.first ++ fault_if b 11 lines.first
    ++ attribute_faults scope [] lines.attributes attributes) e
same_depth scope depth other lines (Text text) e = refl
same_depth scope depth other lines (Comment text) e = refl
same_depth scope depth other lines (Instruction target text) e = refl

-- what was found at an element, with the faults inside it and behind it, is what was found with the faults from the element on
pub entered : (outside : Scope) (depth : ℕ) (scopes : List Scope) (lines : LineNumbers) (name : List ℕ) (attributes : List Written)
    (behind : List (Forest LineNumbers)) (found now : Option Fault)
    → now ≡ merged found (least (content_faults (declared_all attributes (innermost outside scopes)) (depth + length scopes) lines
    (Element name attributes)))
    → merged now (least (open_faults outside depth (declared_all attributes (innermost outside scopes) ∷ scopes) behind))
    ≡ merged found (least (open_faults outside depth scopes (element_before lines (Element name attributes) behind)))
entered outside depth scopes lines name attributes behind found now e =
    kept_one found now _ _ e ∙ ap (λ fs. merged found (least fs)) (sym (element_faults outside depth scopes lines name attributes behind))

pub instructed : (outside : Scope) (depth : ℕ) (scopes : List Scope) (lines : LineNumbers) (target text : List ℕ) (behind : List (Forest LineNumbers))
    (found now : Option Fault)
    → now ≡ merged found (least (fault_if (is_wrong_target target) 10 lines.first))
    → merged now (least (open_faults outside depth scopes behind))
    ≡ merged found (least (open_faults outside depth scopes (leaf_before lines (Instruction target text) behind)))
instructed outside depth scopes lines target text behind found now e =
    kept_one found now _ _ e ∙ ap (λ fs. merged found (least fs)) (sym (instruction_faults outside depth scopes lines target text behind))

-- ---- Scopes

first_or : (outside : Scope) (scopes : List Scope) → innermost outside scopes ≡ get_or scopes 0 outside
first_or outside [] = refl
first_or outside (scope ∷ scopes) = refl

innermost_kept : (xs : List Scope) (outside : Scope) → innermost outside (reverse xs) ≡ get_or xs (length xs - 1) outside
innermost_kept [] outside = refl
innermost_kept (x ∷ xs) outside =
    first_or outside (reverse (x ∷ xs)) ∙ get_or-reverse (x ∷ xs) 0 outside (omega arith) ∙ ap (λ n. get_or (x ∷ xs) n outside) (omega arith)

behind_ref : (o : Option (Bor Scope)) (outside : Bor Scope) → (unwrap_or o outside).now ≡ unwrap_or (option_map (λ x. x.now) o) outside.now
behind_ref None outside = refl
behind_ref (Some s) outside = refl

-- the last of the scopes that are kept is the innermost
pub last_innermost : (xs : List Scope) (o : Option (Bor Scope)) (outside : Bor Scope)
    → unwrap_or (option_map (λ x. x.now) o) outside.now ≡ get_or xs (length xs - 1) outside.now
    → (unwrap_or o outside).now ≡ innermost outside.now (reverse xs)
last_innermost xs o outside e = behind_ref o outside ∙ e ∙ sym (innermost_kept xs outside.now)

-- ---- Where one forest is open

level : (depth : ℕ) → depth + 0 ≡ depth
level depth = omega arith

pub whole_faults : (outside : Scope) (depth : ℕ) (forests : List (Forest LineNumbers)) → length forests ≡ 1
    → open_faults outside depth [] forests ≡ node_faults outside depth (first_of forests)
whole_faults outside depth [] e = absurd (omega arith)
whole_faults outside depth (f ∷ []) e = append-nil (node_faults outside (depth + 0) f) ∙ ap (λ d. node_faults outside d f) (level depth)
whole_faults outside depth (f ∷ g ∷ fs) e = absurd (omega arith)
