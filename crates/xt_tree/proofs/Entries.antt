-- The nodes of a forest in document order, with what stands above them, and their names.
use Rattle.std.proofs.Common.{◌≡◌, ℕ, ◌==◌, true, false, cond, List, [], ◌∷◌, ◌++◌, map, Option, Some, None, is_some, not, refl, sym, ap, ◌∙◌}
use Rattle.std.proofs.Common.{eq-eqb, append_assoc}
use Rattle.std.specs.Prelude.{◌&&◌}
use Rattle.std.specs.Option.{option_or}
use Rattle.std.proofs.lemmas.List.{map-append}
use Rattle.std.proofs.lemmas.Bool.{eqb-true, and_parts}
use Rattle.spec_document.specs.Declaration.{scope_of}
use Rattle.spec_document.specs.Forest as spec
use Rattle.spec_document.specs.Forest.{Content, Document, Forest, followed, labels}
use Rattle.spec_document.specs.Place.{Found, found_in, first_in, root_of, scope_at}
use Rattle.spec_document.specs.Scope.{Scope, root_scope}
use Rattle.xt_tree.specs.Keys.{AreApart, has_number}
use Rattle.xt_tree.specs.declared.names.Called.{Called}
use Rattle.xt_tree.specs.Kept.{AreNames, called_by}
use Rattle.xt_tree.specs.Room.{all_suit, is_nameless, is_nothing, suits}
use Rattle.xt_tree.proofs.Apart.{has-among}
use Rattle.xt_tree.proofs.Bools.{not_true}
use Rattle.xt_tree.proofs.Distinct.{none_some, not_found, some_same}
use Rattle.xt_tree.proofs.Named.{split}

-- the contents of the node and of those above it, its own first
pub record Entry : Type 0 where
  pub number : ℕ
  pub content : Content
  pub above : List Content

abbrev pub entry : List Content → ℕ → Content → Entry
entry above number content = record { number = number; content = content; above = content ∷ above }

abbrev pub entries : List Content → Forest ℕ → List Entry
entries above spec.Empty = []
entries above (spec.Node l c f g) = entry above l c ∷ entries (c ∷ above) f ++ entries above g

abbrev pub numbers : List Entry → List ℕ
numbers es = map (λ e. e.number) es

pub numbers-entries : (above : List Content) (f : Forest ℕ) → numbers (entries above f) ≡ labels f
numbers-entries above spec.Empty = refl
numbers-entries above (spec.Node l c f g) =
    ap (λ ns. l ∷ ns) (map-append (λ e. e.number) (entries (c ∷ above) f) (entries above g))
    ∙ ap (λ ns. l ∷ ns ++ numbers (entries above g)) (numbers-entries (c ∷ above) f) ∙ ap (λ ns. l ∷ labels f ++ ns) (numbers-entries above g)

pub entries-followed : (above : List Content) (f g : Forest ℕ) → entries above (followed f g) ≡ entries above f ++ entries above g
entries-followed above spec.Empty g = refl
entries-followed above (spec.Node l c f h) g =
    ap (λ es. entry above l c ∷ entries (c ∷ above) f ++ es) (entries-followed above h g)
    ∙ ap (λ es. entry above l c ∷ es) (sym (append_assoc (entries (c ∷ above) f) (entries above h) (entries above g)))

-- ---- Names

abbrev pub Kept : Type 0
Kept = ℕ → Option Called

abbrev pub IsNamed : Kept → Entry → Type 0
IsNamed kept e = (name : Called) → kept e.number ≡ Some name → name ≡ called_by (Some e.content) (scope_of root_scope e.above)

abbrev pub AllNamed : Kept → List Entry → Type 0
AllNamed kept [] = Unit {0}
AllNamed kept (e ∷ es) = IsNamed kept e × AllNamed kept es

pub named-append : (kept : Kept) (xs ys : List Entry) → AllNamed kept xs → AllNamed kept ys → AllNamed kept (xs ++ ys)
named-append kept [] ys h k = k
named-append kept (x ∷ xs) ys h k = (h.0, named-append kept xs ys h.1 k)

pub named-parts : (kept : Kept) (xs ys : List Entry) → AllNamed kept (xs ++ ys) → AllNamed kept xs × AllNamed kept ys
named-parts kept [] ys h = (tt, h)
named-parts kept (x ∷ xs) ys h = let rest = named-parts kept xs ys h.1 in ((h.0, rest.0), rest.1)

-- what is kept of a text or a comment in any scope
abbrev nothing : Called
nothing = record { name = None; scope = None }

no_more : {A : Type 0} (o : Option A) → not (is_some o) ≡ true → o ≡ None
no_more None h = refl
no_more (Some x) h = absurd (cc)

is-nothing : (called : Called) → is_nothing called ≡ true → called ≡ nothing
is-nothing called h =
    let parts = and_parts (not (is_some called.name)) (not (is_some called.scope)) h in
    let name = no_more called.name parts.0 in
    let scope = no_more called.scope parts.1 in
    λ i. record { name = name i; scope = scope i }

nameless : (c : Content) (scope : Scope) → is_nameless c ≡ true → nothing ≡ called_by (Some c) scope
nameless (spec.Element n attributes) scope h = absurd (cc)
nameless (spec.Text t) scope h = refl
nameless (spec.Comment t) scope h = refl
nameless (spec.Instruction n t) scope h = absurd (cc)

-- what is kept for a node that suits it is right in any scope
suited : (c : Content) (o : Option Called) (name : Called) (scope : Scope) → suits c o ≡ true → o ≡ Some name → name ≡ called_by (Some c) scope
suited c None name scope h e = absurd (none_some name e)
suited c (Some own) name scope h e =
    let parts = and_parts (is_nameless c) (is_nothing own) h in
    sym (some_same own name e) ∙ is-nothing own parts.1 ∙ nameless c scope parts.0

pub suit-named : (kept : Kept) (above : List Content) (f : Forest ℕ) → all_suit kept f ≡ true → AllNamed kept (entries above f)
suit-named kept above spec.Empty h = tt
suit-named kept above (spec.Node l c f g) h =
    let both = and_parts (suits c (kept l) && all_suit kept f) (all_suit kept g) h in
    let own = and_parts (suits c (kept l)) (all_suit kept f) both.0 in (
      λ name e. suited c (kept l) name (scope_of root_scope (c ∷ above)) own.0 e,
      named-append kept (entries (c ∷ above) f) (entries above g) (suit-named kept (c ∷ above) f own.1) (suit-named kept above g both.1),
    )

-- the names of the nodes that numbers lead to
abbrev pub FindsNames : Kept → List Content → Forest ℕ → Type 0
FindsNames kept above f =
    (number : ℕ) (x : Found ℕ) (name : Called) → first_in (λ l. l == number) above f ≡ Some x → kept number ≡ Some name
    → name ≡ called_by x.content (scope_at x)

pub found-named : (kept : Kept) (above : List Content) (f : Forest ℕ) → AllNamed kept (entries above f) → FindsNames kept above f
found-named kept above spec.Empty h number x name there e = absurd (none_some x there)
found-named kept above (spec.Node l c f g) h number x name there e =
    let both = named-parts kept (entries (c ∷ above) f) (entries above g) h.1 in
    elim (l == number) as (λ b. (l == number) ≡ b
    → cond b (Some (found_in above l c f)) (option_or (first_in (λ l. l == number) (c ∷ above) f) (first_in (λ l. l == number) above g)) ≡ Some x
    → name ≡ called_by x.content (scope_at x)) [
      | true ↦ λ own there.
          let is : found_in above l c f ≡ x = some_same (found_in above l c f) x there in
          h.0 name (ap kept (eqb-true l number own) ∙ e) ∙ ap (λ y. called_by y.content (scope_at y)) is
      | false ↦ λ _ there. split (first_in (λ l. l == number) (c ∷ above) f) (first_in (λ l. l == number) above g) x there
          (λ there. found-named kept (c ∷ above) f both.0 number x name there e)
          (λ there. found-named kept above g both.1 number x name there e)
    ] refl there

absent : (n : ℕ) (f : Forest ℕ) (above : List Content) → has_number n f ≡ false → first_in (λ l. l == n) above f ≡ None
absent n f above h = not_found n f above (sym (has-among n f) ∙ h)

-- a number that leads to a node is not that of one that has it not
other_number : (l n : ℕ) (f : Forest ℕ) (above : List Content) (x : Found ℕ) → has_number l f ≡ false → first_in (λ l. l == n) above f ≡ Some x
    → (l == n) ≡ false
other_number l n f above x h e =
    not_true (l == n) (λ is. none_some x (sym (absent n f above (ap (λ m. has_number m f) (sym (eqb-true l n is)) ∙ h)) ∙ e))

not_there : (n : ℕ) (f : Forest ℕ) (above : List Content) (x : Found ℕ) → first_in (λ l. l == n) above f ≡ Some x → has_number n f ≡ false → ⊥
not_there n f above x e h = none_some x (sym (absent n f above h) ∙ e)

pub named-found : (kept : Kept) (above : List Content) (f : Forest ℕ) → AreApart f → FindsNames kept above f → AllNamed kept (entries above f)
named-found kept above spec.Empty a h = tt
named-found kept above (spec.Node l c f g) a h = (
  λ name e. h l (found_in above l c f) name (ap (λ b. cond b (Some (found_in above l c f)) (others l)) (eq-eqb l l refl)) e,
  named-append kept (entries (c ∷ above) f) (entries above g) (named-found kept (c ∷ above) f a.3 below) (named-found kept above g a.4 behind),
)
  where
    others : ℕ → Option (Found ℕ)
    others n = option_or (first_in (λ k. k == n) (c ∷ above) f) (first_in (λ k. k == n) above g)

    below : FindsNames kept (c ∷ above) f
    below number x name there e =
        let other = other_number l number f (c ∷ above) x a.0 there in
        h number x name
        (ap (λ b. cond b (Some (found_in above l c f)) (others number)) other
        ∙ ap (λ o. option_or o (first_in (λ k. k == number) above g)) there) e

    behind : FindsNames kept above g
    behind number x name there e =
        let other = other_number l number g above x a.1 there in
        let none = absent number f (c ∷ above) (not_true (has_number number f) (λ in_f. not_there number g above x there (a.2 number in_f))) in
        h number x name
        (ap (λ b. cond b (Some (found_in above l c f)) (others number)) other
        ∙ ap (λ o. option_or o (first_in (λ k. k == number) above g)) none ∙ there) e

-- ---- The names of a document

pub names-below : (kept : Kept) (root : ℕ) (f : Forest ℕ) → has_number root f ≡ false → AreNames kept (record { root = root; nodes = f })
    → FindsNames kept [] f
names-below kept root f h names number x name there e =
    let other = other_number root number f [] x h there in
    names number name e x
    (ap (λ b. cond b (Some (root_of (record { root = root; nodes = f }))) (first_in (λ k. k == number) [] f)) other ∙ there)

-- what is kept of the root
root-name : (kept : Kept) (root : ℕ) (f : Forest ℕ) (name : Called) → AreNames kept (record { root = root; nodes = f })
    → kept root ≡ Some name → name ≡ nothing
root-name kept root f name names e =
    let document : Document ℕ = record { root = root; nodes = f } in
    names root name e (root_of document) (ap (λ b. cond b (Some (root_of document)) (first_in (λ k. k == root) [] f)) (eq-eqb root root refl))

pub names-of : (kept : Kept) (root : ℕ) (old f : Forest ℕ) → AreNames kept (record { root = root; nodes = old }) → FindsNames kept [] f
    → AreNames kept (record { root = root; nodes = f })
names-of kept root old f names below number name e x there =
    let document : Document ℕ = record { root = root; nodes = f } in
    elim (root == number) as (λ b. (root == number) ≡ b → cond b (Some (root_of document)) (first_in (λ k. k == number) [] f) ≡ Some x
    → name ≡ called_by x.content (scope_at x)) [
      | true ↦ λ own there.
          let is : root_of document ≡ x = some_same (root_of document) x there in
          root-name kept root old name names (ap kept (eqb-true root number own) ∙ e) ∙ ap (λ y. called_by y.content (scope_at y)) is
      | false ↦ λ _ there. below number x name there e
    ] refl there
