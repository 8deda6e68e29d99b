-- Nodes that are numbered anew in document order.
use Rattle.std.proofs.Common.{◌≡◌, ℕ, ◌+◌, ◌∷◌, List, refl, ap, ◌∙◌}
use Rattle.spec_document.specs.Forest as spec
use Rattle.spec_document.specs.Forest.{Forest, Content, followed, numbered, plain, size}
use Rattle.xt_tree.specs.View.{Tree, forest}

pub followed-Empty : (f : Forest ℕ) → followed f spec.Empty ≡ f
followed-Empty spec.Empty = refl
followed-Empty (spec.Node l c f g) = ap (spec.Node l c f) (followed-Empty g)

pub followed-assoc : (f g h : Forest ℕ) → followed (followed f g) h ≡ followed f (followed g h)
followed-assoc spec.Empty g h = refl
followed-assoc (spec.Node l c below f) g h = ap (spec.Node l c below) (followed-assoc f g h)

size-plain : (f : Forest ℕ) → size (plain f) ≡ size f
size-plain spec.Empty = refl
size-plain (spec.Node l c f g) = λ i. 1 + size-plain f i + size-plain g i

pub numbered-plain : (n : ℕ) (f : Forest ℕ) → numbered n (plain f) ≡ numbered n f
numbered-plain n spec.Empty = refl
numbered-plain n (spec.Node l c f g) =
    ap (λ h. spec.Node n c h (numbered (n + 1 + size (plain f)) (plain g))) (numbered-plain (n + 1) f)
    ∙ ap (λ m. spec.Node n c (numbered (n + 1) f) (numbered (n + 1 + m) (plain g))) (size-plain f)
    ∙ ap (spec.Node n c (numbered (n + 1) f)) (numbered-plain (n + 1 + size f) g)

-- one sibling more
pub next_numbered : (next after : ℕ) (t : Tree) (more : List Tree) (nodes added : Forest ℕ) → after ≡ next + 1 + size t.children
    → added ≡ followed nodes (spec.Node next t.content (numbered (next + 1) t.children) spec.Empty)
    → followed added (numbered after (forest more)) ≡ followed nodes (numbered next (forest (t ∷ more)))
next_numbered next after t more nodes added ends is =
    let own = spec.Node next t.content (numbered (next + 1) t.children) spec.Empty in
    ap (λ f. followed f (numbered after (forest more))) is ∙ followed-assoc nodes own (numbered after (forest more))
    ∙ ap (λ m. followed nodes (spec.Node next t.content (numbered (next + 1) t.children) (numbered m (forest more)))) ends
