-- The elements at the top of a module are the same where labels are forgotten.
use Rattle.std.proofs.Common.{◌≡◌, ℕ, ◌+◌, List, [], ◌∷◌, ◌++◌, Result, Ok, Err, IfOk, refl, ap, ◌∙◌}
use Rattle.spec_document.specs.Forest.{Element, Text, Comment, Instruction, Forest, Empty, Node, plain}
use Rattle.spec_structure.specs.Inside.{Inside, outside, inside_of, Role, OfXslt, OfExtension, OfOther, role_of}
use Rattle.spec_structure.specs.Modules.{top_level_of, top_levels_among, top_levels_below, top_levels_of}

among-plain : {L : Type 0} (inside : Inside) (path : List ℕ) (position : ℕ) (f : Forest L)
    → top_levels_among inside path position (plain f) ≡ top_levels_among inside path position f
among-plain inside path position Empty = refl
among-plain inside path position (Node label (Text text) children siblings) = among-plain inside path (position + 1) siblings
among-plain inside path position (Node label (Comment text) children siblings) = among-plain inside path (position + 1) siblings
among-plain inside path position (Node label (Instruction target text) children siblings) = among-plain inside path (position + 1) siblings
among-plain inside path position (Node label (Element name attributes) children siblings) =
    let inner = inside_of inside name attributes in
    ap (λ ts. top_level_of inner (path ++ position ∷ []) attributes (role_of inner name) ∷ ts) (among-plain inside path (position + 1) siblings)

below-plain : {L : Type 0} (inside : Inside) (path : List ℕ) (role : Role) (f : Forest L)
    → top_levels_below inside path role (plain f) ≡ top_levels_below inside path role f
below-plain inside path (OfXslt element) f = among-plain inside path 1 f
below-plain inside path OfExtension f = refl
below-plain inside path (OfOther uri) f = refl

pub of-plain : {L : Type 0} (position : ℕ) (f : Forest L) → top_levels_of position (plain f) ≡ top_levels_of position f
of-plain position Empty = refl
of-plain position (Node label (Text text) children siblings) = of-plain (position + 1) siblings
of-plain position (Node label (Comment text) children siblings) = of-plain (position + 1) siblings
of-plain position (Node label (Instruction target text) children siblings) = of-plain (position + 1) siblings
of-plain position (Node label (Element name attributes) children siblings) =
    let inner = inside_of outside name attributes in below-plain inner (position ∷ []) (role_of inner name) children

-- an equation of what a call gives, led on
pub if_ok_on : {A E X : Type 0} (f : A → X) (r : Result A E) (x y : X) → IfOk r (λ a. f a ≡ x) → x ≡ y → IfOk r (λ a. f a ≡ y)
if_ok_on f (Ok a) x y h e = h ∙ e
if_ok_on f (Err why) x y h e = tt
