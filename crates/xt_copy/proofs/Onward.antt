-- One step further among siblings, among attributes, and on the way to a node.
use Rattle.std.proofs.Common.{◌≡◌, ◌∙◌, refl, sym, ap, ℕ, suc, zero, ◌+◌, ◌<◌, ◌≤◌, List, [], ◌∷◌, length, get_or, take, drop, Some, None, arith}
use Rattle.std.specs.Option.{option_and_then}
use Rattle.std.specs.declared.rc.Rc.{Rc}
use Rattle.std.specs.declared.alloc.Global.{Global}
use Rattle.spec_document.specs.Scope.{Scope}
use Rattle.spec_document.specs.Declaration.{within}
use Rattle.spec_document.specs.Forest as spec
use Rattle.spec_document.specs.Forest.{Content, Forest, size}
use Rattle.spec_meaning.specs.Stream.{Stream, Ended, followed}
use Rattle.xt_tree.specs.declared.node.Node.{Node}
use Rattle.xt_tree.specs.View.{Tree, tree_at, tree_of, forest_of}
use Rattle.xt_tree.proofs.Streams.{followed-Ended, followed-followed}
use Rattle.xt_copy.specs.Copied.{begun, around, copied_in, copied_from}

-- the copy of a node, by its parts
pub one_copy : (scope inner : Scope) (t : Tree) (content : Content) (children : Forest ℕ) (begin inside copy : Stream)
    → content ≡ t.content → children ≡ t.children → inner ≡ within content scope → begin ≡ begun inner content
    → inside ≡ followed begin (copied_in inner children) → copy ≡ around inner content inside
    → copy ≡ copied_in scope (spec.Node t.number t.content t.children spec.Empty)
one_copy scope inner t content children begin inside copy content_is children_is inner_is begin_is inside_is copy_is =
    copy_is ∙ ap (around inner content) (inside_is ∙ ap (λ s. followed s (copied_in inner children)) begin_is)
    ∙ (λ i. around (inner_is i) content (followed (begun (inner_is i) content) (copied_in (inner_is i) children)))
    ∙ (λ i. around (within (content_is i) scope) (content_is i) (followed (begun (within (content_is i) scope) (content_is i)) (copied_in (within (content_is i) scope) (children_is i))))
    ∙ sym (followed-Ended (around (within t.content scope) t.content (followed (begun (within t.content scope) t.content) (copied_in (within t.content scope) t.children))))

-- the copy of a sibling more
pub next_copy : (scope : Scope) (t : Tree) (rest : Forest ℕ) (old new : Stream)
    → new ≡ followed old (copied_in scope (spec.Node t.number t.content t.children spec.Empty))
    → followed new (copied_in scope rest) ≡ followed old (copied_in scope (spec.Node t.number t.content t.children rest))
next_copy scope t rest old new is =
    let inner = within t.content scope in
    let own = around inner t.content (followed (begun inner t.content) (copied_in inner t.children)) in
    ap (λ s. followed s (copied_in scope rest)) is ∙ followed-followed old (followed own Ended) (copied_in scope rest)
    ∙ ap (followed old) (followed-followed own Ended (copied_in scope rest))

-- one step on the way
pub step_down : (p : ℕ) (ps : List ℕ) (copy : Stream) (scope : Scope) (below : Forest ℕ) (t : Tree) → tree_at below p ≡ Some t
    → copied_from (p ∷ ps) copy scope below ≡ copied_from ps (copied_in scope (spec.Node t.number t.content t.children spec.Empty)) (within t.content scope) t.children
step_down p ps copy scope below t e =
    ap (option_and_then (λ tree. copied_from ps (copied_in scope (spec.Node tree.number tree.content tree.children spec.Empty)) (within tree.content scope) tree.children)) e

pub no_step : (p : ℕ) (ps : List ℕ) (copy : Stream) (scope : Scope) (below : Forest ℕ) → tree_at below p ≡ None → copied_from (p ∷ ps) copy scope below ≡ None
no_step p ps copy scope below e =
    ap (option_and_then (λ tree. copied_from ps (copied_in scope (spec.Node tree.number tree.content tree.children spec.Empty)) (within tree.content scope) tree.children)) e

-- a slice of one sibling
pub one_of : (xs : List (Rc Node Global)) (i : ℕ) (d : Rc Node Global) → i < length xs
    → forest_of (take 1 (drop i xs)) ≡ spec.Node (tree_of (get_or xs i d).value).number (tree_of (get_or xs i d).value).content (tree_of (get_or xs i d).value).children spec.Empty
one_of [] i d h = absurd (omega arith)
one_of (x ∷ xs) zero d h = refl
one_of (x ∷ xs) (suc i) d h = one_of xs i d (omega arith)

-- what is below a sibling is smaller than all of the siblings
pub within_siblings : (xs : List (Rc Node Global)) (i : ℕ) (d : Rc Node Global) → i < length xs
    → 1 + size (tree_of (get_or xs i d).value).children ≤ size (forest_of xs)
within_siblings [] i d h = absurd (omega arith)
within_siblings (x ∷ xs) zero d h = omega arith
within_siblings (x ∷ xs) (suc i) d h = let less = within_siblings xs i d (omega arith) in omega arith
