-- Elements that are open: what they make of the nodes that are done and of those that are still to come.
use Rattle.std.proofs.Common.{◌≡◌, ℕ, suc, ◌+◌, ◌-◌, List, [], ◌∷◌, ◌++◌, length, Option, refl, ap, arith}
use Rattle.spec_document.specs.Forest.{Forest, Empty, Node, followed, size}
use Rattle.spec_document.specs.Balance.{LineNumbers}
use Rattle.xt_tree.specs.View.{content_of}
use Rattle.xt_build.specs.Left.{kept_open, open_numbered}
use Rattle.xt_build.specs.declared.make.Open.{Open}

-- an element is closed: the innermost forest is below it, and the next one follows it
abbrev pub close : Open → List (Forest ℕ) → List (Forest ℕ)
close element [] = []
close element (children ∷ []) = []
close element (children ∷ siblings ∷ behind) = followed element.before (Node element.number (content_of element.content) children siblings) ∷ behind

abbrev pub close_all : List Open → List (Forest ℕ) → List (Forest ℕ)
close_all [] stack = stack
close_all (element ∷ elements) stack = close element (close_all elements stack)

-- nodes in front of the innermost forest
abbrev pub behind : Forest ℕ → List (Forest ℕ) → List (Forest ℕ)
behind done [] = []
behind done (siblings ∷ stack) = followed done siblings ∷ stack

-- the nodes that are still to come
abbrev pub coming : ℕ → Option ℕ → List (Forest LineNumbers) → List (Forest ℕ)
coming next others stack = open_numbered next (kept_open others stack)

-- the nodes of all forests
abbrev pub whole : List Open → Forest ℕ → List (Forest ℕ) → List (Forest ℕ)
whole elements done stack = close_all elements (behind done stack)

pub followed-empty : (f : Forest ℕ) → followed f Empty ≡ f
followed-empty Empty = refl
followed-empty (Node l c f g) = ap (Node l c f) (followed-empty g)

pub followed-assoc : (f g h : Forest ℕ) → followed (followed f g) h ≡ followed f (followed g h)
followed-assoc Empty g h = refl
followed-assoc (Node l c f k) g h = ap (Node l c f) (followed-assoc k g h)

pub close_all-append : (os : List Open) (o : Open) (fs : List (Forest ℕ)) → close_all (os ++ (o ∷ [])) fs ≡ close_all os (close o fs)
close_all-append [] o fs = refl
close_all-append (p ∷ os) o fs = ap (close p) (close_all-append os o fs)

length-close : (o : Open) (fs : List (Forest ℕ)) → length (close o fs) ≡ length fs - 1
length-close o [] = refl
length-close o (f ∷ []) = refl
length-close o (f ∷ g ∷ fs) = omega arith

length-close_all : (os : List Open) (fs : List (Forest ℕ)) → length (close_all os fs) ≡ length fs - length os
length-close_all [] fs = omega arith
length-close_all (o ∷ os) fs =
    let one = length-close o (close_all os fs) in
    let more = length-close_all os fs in
    omega (arith, one, more)

length-behind : (f : Forest ℕ) (fs : List (Forest ℕ)) → length (behind f fs) ≡ length fs
length-behind f [] = refl
length-behind f (g ∷ fs) = refl

length-numbered : (n : ℕ) (s : List (Forest LineNumbers)) → length (open_numbered n s) ≡ length s
length-numbered n [] = refl
length-numbered n (f ∷ s) = ap suc (length-numbered (n + size f) s)

length-kept : (others : Option ℕ) (s : List (Forest LineNumbers)) → length (kept_open others s) ≡ length s
length-kept others [] = refl
length-kept others (f ∷ []) = refl
length-kept others (f ∷ g ∷ s) = ap suc (length-kept others (g ∷ s))

-- as many forests are open as elements, and the outermost one
pub level : (os : List Open) (done : Forest ℕ) (n : ℕ) (others : Option ℕ) (s : List (Forest LineNumbers)) (f : Forest ℕ)
    → whole os done (coming n others s) ≡ f ∷ [] → length s ≡ length os + 1
level os done n others s f e =
    let one : length (whole os done (coming n others s)) ≡ 1 = ap length e in
    let all = length-close_all os (behind done (coming n others s)) in
    let front = length-behind done (coming n others s) in
    let number = length-numbered n (kept_open others s) in
    let keep = length-kept others s in
    omega (arith, one, all, front, number, keep)
