-- The faults of a node that comes to another parent, found part by part.
use Rattle.std.proofs.Common.{◌≡◌, ℕ, ◌-◌, Bool, true, false, cond, List, [], ◌++◌, map, refl, sym, ap, ◌∙◌, append-nil, Option, None, Some}
use Rattle.std.proofs.Math.Seq.{drop-nil}
use Rattle.spec_document.specs.Balance.{LineNumbers, alone}
use Rattle.spec_document.specs.Fault.{Fault, least}
use Rattle.spec_document.specs.Forest.{Content, Element, Text, Comment, Instruction, Forest, Empty, Node, labels, plain}
use Rattle.spec_document.specs.NodeFaults.{node_faults}
use Rattle.spec_document.specs.Numbering.{number_limit, number_faults}
use Rattle.spec_document.specs.Scope.{Scope}
use Rattle.spec_document.specs.Top.{kept, top_faults}
use Rattle.spec_edit.specs.Edit.{without_lines}
use Rattle.xt_build.specs.Least.{merged}
use Rattle.xt_build.proofs.Least.{least-append, merged-assoc, merged-comm}
use Rattle.xt_edit.proofs.Faults.{without_plain}
use Rattle.xt_edit.specs.Placing.{gets_numbers, leaf}

-- a node without lines of a body, with what is below it
abbrev tree : Content → Forest ℕ → Forest LineNumbers
tree content children = without_lines (Node 0 content children Empty)

abbrev lines_in : Forest LineNumbers → List ℕ
lines_in f = map (λ l. l.first) (labels f)

abbrev numbers : (keeps : Bool) → ℕ → Option ℕ → Forest LineNumbers → List Fault
numbers keeps first beside f = cond keeps [] (number_faults first (lines_in (kept beside f)))

no-numbers : (first : ℕ) → number_faults first [] ≡ []
no-numbers first = ap (map (λ line. record { number = 12; line = line })) (drop-nil (number_limit - first))

unnumbered : (keeps : Bool) (first : ℕ) (beside : Option ℕ) (content : Content) (children : Forest ℕ) → gets_numbers keeps beside content ≡ false
    → numbers keeps first beside (tree content children) ≡ []
unnumbered true first beside content children e = refl
unnumbered false first None content children e = absurd (cc)
unnumbered false first (Some others) (Element name attributes) children e = absurd (cc)
unnumbered false first (Some others) (Text text) children e = no-numbers first
unnumbered false first (Some others) (Comment text) children e = absurd (cc)
unnumbered false first (Some others) (Instruction target text) children e = absurd (cc)

numbered : (keeps : Bool) (first : ℕ) (beside : Option ℕ) (content : Content) (children : Forest ℕ) → gets_numbers keeps beside content ≡ true
    → number_faults first (lines_in (tree content children)) ≡ numbers keeps first beside (tree content children)
numbered true first beside content children e = absurd (cc)
numbered false first None content children e = refl
numbered false first (Some others) (Element name attributes) children e = refl
numbered false first (Some others) (Text text) children e = absurd (cc)
numbered false first (Some others) (Comment text) children e = refl
numbered false first (Some others) (Instruction target text) children e = refl

-- where it gets no numbers, its faults are those of the nodes themselves
pub kept_least : (keeps : Bool) (first : ℕ) (beside : Option ℕ) (scope : Scope) (depth : ℕ) (content : Content) (children : Forest ℕ)
    → gets_numbers keeps beside content ≡ false
    → least (node_faults scope depth (tree content children))
    ≡ least (node_faults scope depth (tree content children) ++ numbers keeps first beside (tree content children))
kept_least keeps first beside scope depth content children e =
    let own = node_faults scope depth (tree content children) in
    ap least (sym (append-nil own) ∙ ap (λ ns. own ++ ns) (sym (unnumbered keeps first beside content children e)))

-- and else they are those of a tree that is made anew
pub made_least : (keeps : Bool) (first : ℕ) (beside : Option ℕ) (scope : Scope) (depth : ℕ) (content : Content) (children : Forest ℕ)
    → gets_numbers keeps beside content ≡ true
    → (let made = without_lines (Node tt content (plain children) Empty) in least (node_faults scope depth made ++ number_faults first (lines_in made)))
    ≡ least (node_faults scope depth (tree content children) ++ numbers keeps first beside (tree content children))
made_least keeps first beside scope depth content children e =
    (λ i. let made = Node (alone 0) content (without_plain children i) Empty in least (node_faults scope depth made ++ number_faults first (lines_in made)))
    ∙ ap (λ ns. least (node_faults scope depth (tree content children) ++ ns)) (numbered keeps first beside content children e)

-- what stands below a node is no matter of the root
pub top_leaf : (beside : Option ℕ) (content : Content) (children : Forest ℕ) → top_faults beside (leaf content) ≡ top_faults beside (tree content children)
top_leaf None content children = refl
top_leaf (Some others) (Element name attributes) children = refl
top_leaf (Some others) (Text text) children = refl
top_leaf (Some others) (Comment text) children = refl
top_leaf (Some others) (Instruction target text) children = refl

-- all of them, found in any order
pub all_least : (top own high more : List Fault) → merged (least top) (merged (least (own ++ more)) (least high)) ≡ least (top ++ own ++ high ++ more)
all_least top own high more =
    let t = least top in
    let o = least own in
    let h = least high in
    let m = least more in
    ap (λ x. merged t (merged x h)) (least-append own more)
    ∙ ap (merged t) (merged-assoc o m h ∙ ap (merged o) (merged-comm m h) ∙ sym (merged-assoc o h m))
    ∙ sym (merged-assoc t (merged o h) m) ∙ ap (λ x. merged x m) (sym (merged-assoc t o h))
    ∙ sym (least-append (top ++ own ++ high) more ∙ ap (λ x. merged x m) (least-append (top ++ own) high ∙ ap (λ x. merged x h) (least-append top own)))
