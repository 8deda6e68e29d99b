-- Nodes made of pieces: each piece leaves what all is made of as it is.
use Rattle.std.proofs.Common.{◌≡◌, ℕ, ◌+◌, ◌<◌, Bool, true, false, List, [], ◌∷◌, ◌++◌, length, Option, Some, None, refl, sym, ap}
use Rattle.std.proofs.Common.{◌∙◌, arith}
use Rattle.std.specs.Prelude.{◌&&◌, ◌==◌, is_some}
use Rattle.std.proofs.lemmas.Bool.{eqb-true}
use denote.Enum.Bare.{sameb}
use Rattle.spec_document.specs.contracts.kind.Kind.{the_type}
use Rattle.spec_document.specs.declared.kind.Kind.TheVariants as kind
use Rattle.spec_document.specs.Place.{kind_by}
use Rattle.spec_document.specs.Forest.{Forest, Empty, Node, Written, Content, Element, Text, Comment, Instruction, followed, numbered, size}
use Rattle.spec_document.specs.Balance.{LineNumbers}
use Rattle.spec_document.specs.Top.{kept}
use Rattle.xt_tree.specs.View.{content_of}
use Rattle.xt_build.specs.Piece.{node_before}
use Rattle.xt_build.proofs.OpenNodes.{close, close_all, behind, coming, whole, followed-empty, followed-assoc, close_all-append, level}
use Rattle.xt_build.proofs.Stacks.{is_element}
use Rattle.xt_build.specs.Left.{kept_open, open_size, open_numbered, is_text}
use Rattle.xt_build.specs.declared.make.Open.{Open}

-- an end
kept-empty : (others : Option ℕ) → kept {L = LineNumbers} others Empty ≡ Empty
kept-empty None = refl
kept-empty (Some n) = refl

kept-ends : (others : Option ℕ) (s : List (Forest LineNumbers)) → kept_open others (Empty ∷ s) ≡ Empty ∷ kept_open others s
kept-ends others [] = ap (λ f. f ∷ []) (kept-empty others)
kept-ends others (f ∷ s) = refl

coming-ends : (n : ℕ) (others : Option ℕ) (s : List (Forest LineNumbers)) → coming n others (Empty ∷ s) ≡ Empty ∷ coming n others s
coming-ends n others s =
    let zero : n + 0 ≡ n = omega arith in
    ap (open_numbered n) (kept-ends others s) ∙ ap (λ m. Empty ∷ open_numbered m (kept_open others s)) zero

close-ends : (o : Open) (done : Forest ℕ) (fs : List (Forest ℕ))
    → close o (behind done (Empty ∷ fs)) ≡ behind (followed o.before (Node o.number (content_of o.content) done Empty)) fs
close-ends o done [] = refl
close-ends o done (f ∷ fs) =
    ap (λ g. followed o.before (Node o.number (content_of o.content) g f) ∷ fs) (followed-empty done)
    ∙ ap (λ g. g ∷ fs) (sym (followed-assoc o.before (Node o.number (content_of o.content) done Empty) f))

pub whole-ends : (os : List Open) (o : Open) (done : Forest ℕ) (n : ℕ) (others : Option ℕ) (s : List (Forest LineNumbers))
    → whole (os ++ (o ∷ [])) done (coming n others (Empty ∷ s))
    ≡ whole os (followed o.before (Node o.number (content_of o.content) done Empty)) (coming n others s)
whole-ends os o done n others s =
    close_all-append os o (behind done (coming n others (Empty ∷ s)))
    ∙ ap (λ fs. close_all os (close o (behind done fs))) (coming-ends n others s)
    ∙ ap (close_all os) (close-ends o done (coming n others s))

pub size-ends : (others : Option ℕ) (s : List (Forest LineNumbers)) → open_size (kept_open others (Empty ∷ s)) ≡ open_size (kept_open others s)
size-ends others s = let e = ap open_size (kept-ends others s) in omega (arith, e)

-- nothing is left after the last piece
pub size-end : (others : Option ℕ) → open_size (kept_open others (Empty ∷ [])) ≡ 0
size-end None = refl
size-end (Some n) = refl

-- a node that is no element. It is kept unless it is a text at the top of a root
kept-leaf : (others : Option ℕ) (l : LineNumbers) (c : Content) (f g : Forest LineNumbers) → (is_text c && is_some others) ≡ false
    → kept others (Node l c f g) ≡ Node l c f (kept others g)
kept-leaf None l c f g h = refl
kept-leaf (Some n) l (Element m a) f g h = refl
kept-leaf (Some n) l (Text t) f g h = absurd (cc)
kept-leaf (Some n) l (Comment t) f g h = refl
kept-leaf (Some n) l (Instruction m t) f g h = refl

-- whether it is dropped where so many forests are open
abbrev pub drops : Option ℕ → Content → List (Forest LineNumbers) → Bool
drops others c [] = false
drops others c (f ∷ []) = is_text c && is_some others
drops others c (f ∷ g ∷ s) = false

sizes : (n a b : ℕ) → n + (1 + a + b) ≡ n + 1 + a + b
sizes n a b = omega arith

coming-leaf : (n : ℕ) (others : Option ℕ) (l : LineNumbers) (c : Content) (f : Forest LineNumbers) (s : List (Forest LineNumbers))
    → drops others c (f ∷ s) ≡ false
    → (done : Forest ℕ) → behind done (coming n others (Node l c Empty f ∷ s))
    ≡ behind (followed done (Node n c Empty Empty)) (coming (n + 1) others (f ∷ s))
coming-leaf n others l c f [] h done =
    let zero : n + 1 + 0 ≡ n + 1 = omega arith in
    ap (λ g. followed done (numbered n g) ∷ []) (kept-leaf others l c Empty f h)
    ∙ ap (λ m. followed done (Node n c Empty (numbered m (kept others f))) ∷ []) zero
    ∙ ap (λ g. g ∷ []) (sym (followed-assoc done (Node n c Empty Empty) (numbered (n + 1) (kept others f))))
coming-leaf n others l c f (g ∷ s) h done =
    let zero : n + 1 + 0 ≡ n + 1 = omega arith in
    let more : n + (1 + 0 + size f) ≡ n + 1 + size f = omega arith in
    ap (λ m. followed done (Node n c Empty (numbered m f)) ∷ open_numbered (n + (1 + 0 + size f)) (kept_open others (g ∷ s))) zero
    ∙ ap (λ m. followed done (Node n c Empty (numbered (n + 1) f)) ∷ open_numbered m (kept_open others (g ∷ s))) more
    ∙ ap (λ k. k ∷ open_numbered (n + 1 + size f) (kept_open others (g ∷ s))) (sym (followed-assoc done (Node n c Empty Empty) (numbered (n + 1) f)))

size-leaf : (others : Option ℕ) (l : LineNumbers) (c : Content) (f : Forest LineNumbers) (s : List (Forest LineNumbers))
    → drops others c (f ∷ s) ≡ false
    → open_size (kept_open others (Node l c Empty f ∷ s)) ≡ open_size (kept_open others (f ∷ s)) + 1
size-leaf others l c f [] h =
    let is : size (Node l c Empty (kept others f)) ≡ size (kept others f) + 1 = omega arith in
    let e = ap size (kept-leaf others l c Empty f h) ∙ is in
    omega (arith, e)
size-leaf others l c f (g ∷ s) h = omega arith

-- an element
coming-element : (n : ℕ) (others : Option ℕ) (l : LineNumbers) (name : List ℕ) (a : List Written) (f g : Forest LineNumbers)
    (s : List (Forest LineNumbers)) (o : Open)
    → o.number ≡ n → content_of o.content ≡ Element name a
    → behind o.before (coming n others (Node l (Element name a) f g ∷ s)) ≡ close o (behind Empty (coming (n + 1) others (f ∷ g ∷ s)))
coming-element n others l name a f g [] o en ec =
    ap (λ h. followed o.before (numbered n h) ∷ []) (kept-leaf others l (Element name a) f g refl)
    ∙ ap (λ m. followed o.before (Node m (Element name a) (numbered (n + 1) f) (numbered (n + 1 + size f) (kept others g))) ∷ []) (sym en)
    ∙ ap (λ c. followed o.before (Node o.number c (numbered (n + 1) f) (numbered (n + 1 + size f) (kept others g))) ∷ []) (sym ec)
coming-element n others l name a f g (h ∷ s) o en ec =
    ap (λ m. followed o.before (Node n (Element name a) (numbered (n + 1) f) (numbered (n + 1 + size f) g)) ∷ open_numbered m
    (kept_open others (h ∷ s))) (sizes n (size f) (size g))
    ∙ ap (λ m. followed o.before (Node m (Element name a) (numbered (n + 1) f) (numbered (n + 1 + size f) g)) ∷ open_numbered (n + 1 + size f + size g)
    (kept_open others (h ∷ s))) (sym en)
    ∙ ap (λ c. followed o.before (Node o.number c (numbered (n + 1) f) (numbered (n + 1 + size f) g)) ∷ open_numbered (n + 1 + size f + size g)
    (kept_open others (h ∷ s))) (sym ec)

size-element : (others : Option ℕ) (l : LineNumbers) (name : List ℕ) (a : List Written) (f g : Forest LineNumbers) (s : List (Forest LineNumbers))
    → open_size (kept_open others (Node l (Element name a) f g ∷ s)) ≡ open_size (kept_open others (f ∷ g ∷ s)) + 1
size-element others l name a f g [] =
    let is : size (Node l (Element name a) f (kept others g)) ≡ size f + size (kept others g) + 1 = omega arith in
    let e = ap size (kept-leaf others l (Element name a) f g refl) ∙ is in
    omega (arith, e)
size-element others l name a f g (h ∷ s) = omega arith

pub kind-element : (c : Content) → sameb the_type (kind_by (Some c)) kind.Element ≡ is_element c
kind-element (Element name a) = refl
kind-element (Text t) = refl
kind-element (Comment t) = refl
kind-element (Instruction m t) = refl

pub text-no_element : (c : Content) → is_text c ≡ true → is_element c ≡ false
text-no_element (Element name a) h = absurd (cc)
text-no_element (Text t) h = refl
text-no_element (Comment t) h = refl
text-no_element (Instruction m t) h = refl

pub length-leaf : (l : LineNumbers) (c : Content) (s : List (Forest LineNumbers)) → is_element c ≡ false → 0 < length s
    → length (node_before l c s) ≡ length s
length-leaf l c [] w h = absurd (omega arith)
length-leaf l (Element m a) (f ∷ s) w h = absurd (cc)
length-leaf l (Text t) (f ∷ s) w h = refl
length-leaf l (Comment t) (f ∷ s) w h = refl
length-leaf l (Instruction m t) (f ∷ s) w h = refl

-- what the code tests before it drops
test-zero : (x : Bool) → ((true && x) && true) ≡ true → x ≡ true
test-zero true h = refl
test-zero false h = absurd (cc)

test-never : (x : Bool) → ((true && x) && false) ≡ true → ⊥
test-never true h = cc
test-never false h = cc

pub test-dropped : (a b : Bool) (level : ℕ) → ((a && (level == 0)) && b) ≡ true → record { text : a ≡ true; top : level ≡ 0; root : b ≡ true }
test-dropped true true level h = record { text = refl; top = eqb-true level 0 (test-zero (level == 0) h); root = refl }
test-dropped true false level h = absurd (test-never (level == 0) h)
test-dropped false b level h = absurd (cc)

test-top : (a b : Bool) (level : ℕ) → level ≡ 0 → ((a && (level == 0)) && b) ≡ false → (a && b) ≡ false
test-top a b level e h = elim a as (λ a. ((a && (0 == 0)) && b) ≡ false → (a && b) ≡ false) [ true ↦ λ g. g | false ↦ λ g. g ] (rw e at h)

pub test-kept : (others : Option ℕ) (c : Content) (s : List (Forest LineNumbers)) (level : ℕ) → length s ≡ level + 1
    → ((is_text c && (level == 0)) && is_some others) ≡ false → drops others c s ≡ false
test-kept others c [] level e h = refl
test-kept others c (f ∷ []) level e h = let top : level ≡ 0 = omega arith in test-top (is_text c) (is_some others) level top h
test-kept others c (f ∷ g ∷ s) level e h = refl

-- the step of a loop over pieces. Of the stack behind the piece some forest is open
pub whole-leaf : (os : List Open) (done : Forest ℕ) (n : ℕ) (others : Option ℕ) (l : LineNumbers) (c : Content) (s : List (Forest LineNumbers))
    → is_element c ≡ false → 0 < length s → drops others c s ≡ false
    → whole os done (coming n others (node_before l c s)) ≡ whole os (followed done (Node n c Empty Empty)) (coming (n + 1) others s)
whole-leaf os done n others l c [] w h d = absurd (omega arith)
whole-leaf os done n others l (Element m a) (f ∷ s) w h d = absurd (cc)
whole-leaf os done n others l (Text t) (f ∷ s) w h d = ap (close_all os) (coming-leaf n others l (Text t) f s d done)
whole-leaf os done n others l (Comment t) (f ∷ s) w h d = ap (close_all os) (coming-leaf n others l (Comment t) f s d done)
whole-leaf os done n others l (Instruction m t) (f ∷ s) w h d = ap (close_all os) (coming-leaf n others l (Instruction m t) f s d done)

pub open_size-leaf : (others : Option ℕ) (l : LineNumbers) (c : Content) (s : List (Forest LineNumbers)) → is_element c ≡ false → 0 < length s
    → drops others c s ≡ false
    → open_size (kept_open others (node_before l c s)) ≡ open_size (kept_open others s) + 1
open_size-leaf others l c [] w h d = absurd (omega arith)
open_size-leaf others l (Element m a) (f ∷ s) w h d = absurd (cc)
open_size-leaf others l (Text t) (f ∷ s) w h d = size-leaf others l (Text t) f s d
open_size-leaf others l (Comment t) (f ∷ s) w h d = size-leaf others l (Comment t) f s d
open_size-leaf others l (Instruction m t) (f ∷ s) w h d = size-leaf others l (Instruction m t) f s d

pub whole-element : (os : List Open) (o : Open) (n : ℕ) (others : Option ℕ) (l : LineNumbers) (c : Content) (s : List (Forest LineNumbers))
    → is_element c ≡ true → o.number ≡ n → content_of o.content ≡ c → 1 < length s
    → whole os o.before (coming n others (node_before l c s)) ≡ whole (os ++ (o ∷ [])) Empty (coming (n + 1) others s)
whole-element os o n others l c [] w en ec h = absurd (omega arith)
whole-element os o n others l c (f ∷ []) w en ec h = absurd (omega arith)
whole-element os o n others l (Element name a) (f ∷ g ∷ s) w en ec h =
    ap (close_all os) (coming-element n others l name a f g s o en ec) ∙ sym (close_all-append os o (behind Empty (coming (n + 1) others (f ∷ g ∷ s))))
whole-element os o n others l (Text t) (f ∷ g ∷ s) w en ec h = absurd (cc)
whole-element os o n others l (Comment t) (f ∷ g ∷ s) w en ec h = absurd (cc)
whole-element os o n others l (Instruction m t) (f ∷ g ∷ s) w en ec h = absurd (cc)

pub open_size-element : (others : Option ℕ) (l : LineNumbers) (c : Content) (s : List (Forest LineNumbers)) → is_element c ≡ true → 1 < length s
    → open_size (kept_open others (node_before l c s)) ≡ open_size (kept_open others s) + 1
open_size-element others l c [] w h = absurd (omega arith)
open_size-element others l c (f ∷ []) w h = absurd (omega arith)
open_size-element others l (Element name a) (f ∷ g ∷ s) w h = size-element others l name a f g s
open_size-element others l (Text t) (f ∷ g ∷ s) w h = absurd (cc)
open_size-element others l (Comment t) (f ∷ g ∷ s) w h = absurd (cc)
open_size-element others l (Instruction m t) (f ∷ g ∷ s) w h = absurd (cc)

-- a text at the top of a root is dropped
pub kept-dropped : (others : Option ℕ) (l : LineNumbers) (c : Content) (s : List (Forest LineNumbers)) → is_text c ≡ true → is_some others ≡ true
    → length s ≡ 1
    → kept_open others (node_before l c s) ≡ kept_open others s
kept-dropped None l c s h g e = absurd (cc)
kept-dropped (Some n) l (Element m a) s h g e = absurd (cc)
kept-dropped (Some n) l (Comment t) s h g e = absurd (cc)
kept-dropped (Some n) l (Instruction m t) s h g e = absurd (cc)
kept-dropped (Some n) l (Text t) [] h g e = absurd (omega arith)
kept-dropped (Some n) l (Text t) (f ∷ []) h g e = refl
kept-dropped (Some n) l (Text t) (f ∷ k ∷ s) h g e = absurd (omega arith)

abbrev head_or : Forest ℕ → List (Forest ℕ) → Forest ℕ
head_or f [] = f
head_or f (g ∷ gs) = g

-- behind the last piece nothing is open, and all is done
pub whole-end : (os : List Open) (done : Forest ℕ) (n : ℕ) (others : Option ℕ) (f : Forest ℕ)
    → whole os done (coming n others (Empty ∷ [])) ≡ f ∷ [] → done ≡ f
whole-end [] done n others f e =
    sym (followed-empty done) ∙ ap (λ k. followed done (numbered n k)) (sym (kept-empty others)) ∙ ap (λ fs. head_or Empty fs) e
whole-end (o ∷ os) done n others f e = absurd (let deep = level (o ∷ os) done n others (Empty ∷ []) f e in omega arith)
