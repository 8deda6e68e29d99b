-- The nodes that are still to be numbered, and the faults of those without a number.
use Rattle.std.proofs.Common.{◌≡◌, ℕ, suc, zero, ◌+◌, ◌-◌, ◌≤◌, Bool, true, false, List, [], ◌∷◌, ◌++◌, map, drop, Option}
use Rattle.std.proofs.Common.{Some, None, refl, sym, ap, ◌∙◌, append_assoc, arith, true≢false, eqb-true}
use Rattle.std.proofs.Math.Seq.{drop-nil}
use Rattle.std.specs.Prelude.{min, ◌==◌, ◌&&◌, is_some}
use Rattle.spec_document.specs.Forest.{Written, Forest, Empty, Node, Content, Element, Text, Comment, Instruction, labels}
use Rattle.spec_document.specs.Fault.{Fault, least}
use Rattle.spec_document.specs.Balance.{LineNumbers}
use Rattle.spec_document.specs.Top.{kept}
use Rattle.spec_document.specs.Numbering.{number_limit, number_faults}
use Rattle.xt_build.specs.Least.{merged}
use Rattle.xt_build.specs.Left.{is_text, open_lines}
use Rattle.xt_build.specs.Piece.{element_before, leaf_before}
use Rattle.xt_build.proofs.AtTop.{both-found}

abbrev pub lines_in : Forest LineNumbers → List ℕ
lines_in f = map (λ l. l.first) (labels f)

-- the lines where the nodes of open forests begin, without the texts at the top of a root; the top is open below so many elements
abbrev pub lines_at : Option ℕ → ℕ → List (Forest LineNumbers) → List ℕ
lines_at others level [] = []
lines_at others zero (f ∷ fs) = lines_in (kept others f) ++ open_lines fs
lines_at others (suc level) (f ∷ fs) = lines_in f ++ lines_at others level fs

-- ---- What one more piece adds

map-append : {X Y : Type 0} (f : X → Y) (xs ys : List X) → map f (xs ++ ys) ≡ map f xs ++ map f ys
map-append f [] ys = refl
map-append f (x ∷ xs) ys = ap (◌∷◌ (f x)) (map-append f xs ys)

-- lines of two forests, and others behind them
two-lines : (f g : Forest LineNumbers) (rest : List ℕ)
    → map (λ (l : LineNumbers). l.first) (labels f ++ labels g) ++ rest ≡ lines_in f ++ (lines_in g ++ rest)
two-lines f g rest =
    ap (λ xs. xs ++ rest) (map-append (λ (l : LineNumbers). l.first) (labels f) (labels g)) ∙ append_assoc (lines_in f) (lines_in g) rest

kept-Empty : (others : Option ℕ) → kept {L = LineNumbers} others Empty ≡ Empty
kept-Empty None = refl
kept-Empty (Some n) = refl

kept-Element : (others : Option ℕ) (l : LineNumbers) (name : List ℕ) (a : List Written) (f g : Forest LineNumbers)
    → kept others (Node l (Element name a) f g) ≡ Node l (Element name a) f (kept others g)
kept-Element None l name a f g = refl
kept-Element (Some n) l name a f g = refl

pub lines-ends : (others : Option ℕ) (level : ℕ) (s : List (Forest LineNumbers)) → 1 ≤ level
    → lines_at others level (Empty ∷ s) ≡ lines_at others (level - 1) s
lines-ends others zero s h = absurd (omega arith)
lines-ends others (suc k) s h = let e : suc k - 1 ≡ k = omega arith in ap (λ n. lines_at others n s) (sym e)

lines-more : (others : Option ℕ) (level : ℕ) (s : List (Forest LineNumbers)) → lines_at others (level + 1) s ≡ lines_at others (suc level) s
lines-more others level s = let e : level + 1 ≡ suc level = omega arith in ap (λ n. lines_at others n s) e

element-lines : (others : Option ℕ) (level : ℕ) (l : LineNumbers) (name : List ℕ) (a : List Written) (s : List (Forest LineNumbers))
    → lines_at others level (element_before l (Element name a) s) ≡ l.first ∷ lines_at others (suc level) s
element-lines others zero l name a [] =
    ap (λ f. lines_in f ++ []) (kept-Element others l name a Empty Empty) ∙ ap (λ f. l.first ∷ lines_in f ++ []) (kept-Empty others)
element-lines others (suc k) l name a [] = refl
element-lines others zero l name a (f ∷ []) =
    ap (λ g. lines_in g ++ []) (kept-Element others l name a f Empty)
    ∙ ap (λ g. l.first ∷ map (λ l. l.first) (labels f ++ labels g) ++ []) (kept-Empty others)
    ∙ ap (◌∷◌ l.first) (two-lines f Empty [])
element-lines others (suc k) l name a (f ∷ []) = ap (◌∷◌ l.first) (two-lines f Empty [])
element-lines others zero l name a (f ∷ g ∷ s) =
    ap (λ h. lines_in h ++ open_lines s) (kept-Element others l name a f g) ∙ ap (◌∷◌ l.first) (two-lines f (kept others g) (open_lines s))
element-lines others (suc k) l name a (f ∷ g ∷ s) = ap (◌∷◌ l.first) (two-lines f g (lines_at others k s))

pub lines-opens : (others : Option ℕ) (level : ℕ) (l : LineNumbers) (name : List ℕ) (a : List Written) (s : List (Forest LineNumbers))
    → lines_at others level (element_before l (Element name a) s) ≡ l.first ∷ lines_at others (level + 1) s
lines-opens others level l name a s = element-lines others level l name a s ∙ ap (◌∷◌ l.first) (sym (lines-more others level s))

-- whether a node is a text at the top of a root
abbrev pub is_left_out : Option ℕ → ℕ → Content → Bool
is_left_out others level c = is_text c && (level == 0) && is_some others

kept-other : (others : Option ℕ) (l : LineNumbers) (c : Content) (g : Forest LineNumbers) → is_left_out others 0 c ≡ false
    → kept others (Node l c Empty g) ≡ Node l c Empty (kept others g)
kept-other None l c g h = refl
kept-other (Some n) l (Element name a) g h = refl
kept-other (Some n) l (Text t) g h = absurd (cc)
kept-other (Some n) l (Comment t) g h = refl
kept-other (Some n) l (Instruction t u) g h = refl

kept-left_out : (others : Option ℕ) (l : LineNumbers) (c : Content) (g : Forest LineNumbers) → is_left_out others 0 c ≡ true
    → kept others (Node l c Empty g) ≡ kept others g
kept-left_out None l (Element name a) g h = absurd (cc)
kept-left_out None l (Text t) g h = absurd (cc)
kept-left_out None l (Comment t) g h = absurd (cc)
kept-left_out None l (Instruction t u) g h = absurd (cc)
kept-left_out (Some n) l (Element name a) g h = absurd (cc)
kept-left_out (Some n) l (Text t) g h = refl
kept-left_out (Some n) l (Comment t) g h = absurd (cc)
kept-left_out (Some n) l (Instruction t u) g h = absurd (cc)

pub lines-stands : (others : Option ℕ) (level : ℕ) (l : LineNumbers) (c : Content) (s : List (Forest LineNumbers))
    → is_left_out others level c ≡ false
    → lines_at others level (leaf_before l c s) ≡ l.first ∷ lines_at others level s
lines-stands others zero l c [] h =
    ap (λ f. lines_in f ++ []) (kept-other others l c Empty h) ∙ ap (λ f. l.first ∷ lines_in f ++ []) (kept-Empty others)
lines-stands others (suc k) l c [] h = refl
lines-stands others zero l c (f ∷ s) h = ap (λ g. lines_in g ++ open_lines s) (kept-other others l c f h)
lines-stands others (suc k) l c (f ∷ s) h = refl

top-only : (b d : Bool) (k : ℕ) → (b && (suc k == 0) && d) ≡ true → ⊥
top-only false d k h = true≢false (sym h)
top-only true d k h =
    elim (suc k == 0) as (λ t. (suc k == 0) ≡ t → (t && d) ≡ true → ⊥) [
      | true ↦ λ e _. absurd (let is : suc k ≡ 0 = eqb-true (suc k) 0 e in omega arith)
      | false ↦ λ _ h. true≢false (sym h)
    ] refl h

pub lines-left_out : (others : Option ℕ) (level : ℕ) (l : LineNumbers) (c : Content) (s : List (Forest LineNumbers))
    → is_left_out others level c ≡ true
    → lines_at others level (leaf_before l c s) ≡ lines_at others level s
lines-left_out others zero l c [] h = ap (λ f. lines_in f ++ []) (kept-left_out others l c Empty h) ∙ ap (λ f. lines_in f ++ []) (kept-Empty others)
lines-left_out others zero l c (f ∷ s) h = ap (λ g. lines_in g ++ open_lines s) (kept-left_out others l c f h)
lines-left_out others (suc k) l c s h = absurd (top-only (is_text c) (is_some others) k h)

-- ---- Numbers

abbrev faults_from : ℕ → ℕ → List ℕ → List Fault
faults_from limit n lines = map (λ line. record { number = 12; line = line }) (drop (limit - n) lines)

one-more : (k j line : ℕ) (lines : List ℕ) → j ≡ k - 1 → drop k (line ∷ lines) ≡ drop k (line ∷ []) ++ drop j lines
one-more zero j line lines h = let e : j ≡ 0 = omega arith in ap (λ i. line ∷ drop i lines) (sym e)
one-more (suc i) j line lines h = let e : j ≡ i = omega arith in
    ap (λ xs. xs ++ drop i lines) (sym (drop-nil i)) ∙ ap (λ k. drop i [] ++ drop k lines) (sym e)

faults-more : (limit n m line : ℕ) (lines : List ℕ) → limit - m ≡ limit - n - 1
    → faults_from limit n (line ∷ lines) ≡ faults_from limit n (line ∷ []) ++ faults_from limit m lines
faults-more limit n m line lines h =
    ap (map (λ line. record { number = 12; line = line })) (one-more (limit - n) (limit - m) line lines h)
    ∙ map-append (λ line. record { number = 12; line = line }) (drop (limit - n) (line ∷ [])) (drop (limit - m) lines)

-- one node is numbered, then the others. A number from the limit on may as well stay
pub number-more : (found : Option Fault) (n m line : ℕ) (lines : List ℕ) → number_limit - m ≡ number_limit - n - 1
    → merged (merged found (least (number_faults n (line ∷ [])))) (least (number_faults m lines))
    ≡ merged found (least (number_faults n (line ∷ lines)))
number-more found n m line lines h =
    both-found found (number_faults n (line ∷ [])) (number_faults m lines)
    ∙ sym (ap (λ faults. merged found (least faults)) (faults-more number_limit n m line lines h))

pub next-limit : (n m : ℕ) → m ≡ min (n + 1) 18446744073709551615 → number_limit - m ≡ number_limit - n - 1
next-limit n m h = omega arith
