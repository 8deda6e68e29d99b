-- What is kept of nodes that are numbered in document order, by their numbers.
use Rattle.std.proofs.Common.{◌≡◌, ℕ, zero, suc, ◌+◌, ◌-◌, ◌<◌, ◌≤◌, ◌==◌, true, false, cond, List, [], ◌∷◌, ◌++◌, length, Option, Some, None, refl, sym, ap, ◌∙◌, arith}
use Rattle.std.proofs.Common.{length-append, append_assoc}
use Rattle.std.specs.declared.rc.Rc.{Rc}
use Rattle.std.specs.declared.alloc.Global.{Global}
use Rattle.std.specs.Prelude.{nat_lt}
use Rattle.std.specs.List.{slice_get}
use Rattle.std.specs.Option.{ForSome, option_and_then, option_or}
use Rattle.std.proofs.lemmas.Bool.{eqb-true, ltb-false}
use Rattle.spec_document.specs.Declaration.{scope_of, within}
use Rattle.spec_document.specs.Forest as spec
use Rattle.spec_document.specs.Forest.{Document, Forest, Content, numbered, size}
use Rattle.spec_document.specs.Place.{Found, found_in, first_in, root_of, scope_at}
use Rattle.spec_document.specs.Scope.{Scope, root_scope}
use Rattle.xt_tree.specs.declared.node.Node.{Node, out-Node}
use Rattle.xt_tree.specs.declared.names.Called.{Called}
use Rattle.xt_tree.specs.declared.names.Names.{Names}
use Rattle.xt_tree.specs.Kept.{AreNames, called_by, kept_at, names_in, scope_by, scope_kept}
use Rattle.xt_tree.specs.View.{Tree, tree_of, content_of, forest, forest_of, numbered_node}
use Rattle.xt_tree.proofs.Fresh.{parts}
use Rattle.xt_tree.proofs.Distinct.{some_same, none_some}
use Rattle.xt_tree.proofs.Views.{view-Node}

-- the name of a sibling, those below it, and those behind it
pub name_first : (scope : Scope) (n : Node) (more : List Tree) → names_in scope (forest (tree_of n ∷ more))
    ≡ called_by (Some (content_of (out-Node n).content.value)) (within (content_of (out-Node n).content.value) scope)
    ∷ names_in (within (content_of (out-Node n).content.value) scope) (forest_of (out-Node n).children.items) ++ names_in scope (forest more)
name_first scope n more = rw (view-Node n) refl

-- one sibling more
pub next_names : (scope inner : Scope) (n : Node) (more : List Tree) (list pushed after : List Called) (name : Called)
    (children : List (Rc Node Global))
    → inner ≡ within (content_of (out-Node n).content.value) scope → name ≡ called_by (Some (content_of (out-Node n).content.value)) inner
    → children ≡ (out-Node n).children.items → pushed ≡ list ++ name ∷ [] → after ≡ pushed ++ names_in inner (forest_of children)
    → after ++ names_in scope (forest more) ≡ list ++ names_in scope (forest (tree_of n ∷ more))
next_names scope inner n more list pushed after name children inner_is name_is children_is pushed_is after_is =
    let c = content_of (out-Node n).content.value in
    let rest = names_in scope (forest more) in
    let below = names_in inner (forest_of children) in
    ap (λ xs. xs ++ rest) after_is ∙ ap (λ xs. (xs ++ below) ++ rest) pushed_is ∙ append_assoc (list ++ name ∷ []) below rest
    ∙ append_assoc list (name ∷ []) (below ++ rest)
    ∙ ap (λ m. list ++ m ∷ (below ++ rest)) name_is
    ∙ ap (λ s. list ++ called_by (Some c) s ∷ (names_in s (forest_of children) ++ rest)) inner_is
    ∙ ap (λ xs. list ++ called_by (Some c) (within c scope) ∷ (names_in (within c scope) (forest_of xs) ++ rest)) children_is
    ∙ ap (λ xs. list ++ xs) (sym (name_first scope n more))

pub length-names_in : (scope : Scope) (f : Forest ℕ) → length (names_in scope f) ≡ size f
length-names_in scope spec.Empty = refl
length-names_in scope (spec.Node l c f g) =
    let below = length-names_in (within c scope) f in
    let behind = length-names_in scope g in
    omega (arith, length-append (names_in (within c scope) f) (names_in scope g))

pub get_first : {A : Type 0} (xs ys : List A) (i : ℕ) → i < length xs → slice_get (xs ++ ys) i ≡ slice_get xs i
get_first [] ys i h = absurd (omega arith)
get_first (x ∷ xs) ys zero h = refl
get_first (x ∷ xs) ys (suc i) h = get_first xs ys i (omega arith)

pub get_behind : {A : Type 0} (xs ys : List A) (i : ℕ) → slice_get (xs ++ ys) (length xs + i) ≡ slice_get ys i
get_behind [] ys i = let none : 0 + i ≡ i = omega arith in ap (slice_get ys) none
get_behind (x ∷ xs) ys i = let more : suc (length xs) + i ≡ suc (length xs + i) = omega arith in ap (slice_get (x ∷ xs ++ ys)) more ∙ get_behind xs ys i

-- the node of a number, and its name among those from a first number on
pub record IsAmong (first number : ℕ) (names : List Called) (node : Found ℕ) : Type 0 where
  pub index : ℕ
  pub is : number ≡ first + index
  pub within : index < length names
  pub name : slice_get names index ≡ Some (called_by node.content (scope_at node))

pub split : (a b : Option (Found ℕ)) (x : Found ℕ) {P : Type 0} → option_or a b ≡ Some x → (a ≡ Some x → P) → (b ≡ Some x → P) → P
split None b x e h k = k e
split (Some y) b x e h k = h e

pub named : (first number : ℕ) (above : List Content) (f : Forest ℕ) (x : Found ℕ) → numbered first f ≡ f
    → first_in (λ l. l == number) above f ≡ Some x → IsAmong first number (names_in (scope_of root_scope above) f) x
named first number above spec.Empty x h e = absurd (cc)
named first number above (spec.Node l c f g) x h e =
    let s = parts first l c f g h in
    let scope = scope_of root_scope above in
    let inner = within c scope in
    elim (l == number) as (λ b. (l == number) ≡ b
    → cond b (Some (found_in above l c f)) (option_or (first_in (λ l. l == number) (c ∷ above) f) (first_in (λ l. l == number) above g)) ≡ Some x
    → IsAmong first number (names_in scope (spec.Node l c f g)) x) [
      | true ↦ λ own e. record {
        index = 0;
        is = omega (arith, s.own, eqb-true l number own);
        within = omega arith;
        name = ap (λ y. Some (called_by y.content (scope_at y))) (some_same (found_in above l c f) x e);
      }
      | false ↦ λ _ e. split (first_in (λ l. l == number) (c ∷ above) f) (first_in (λ l. l == number) above g) x e
          (λ e. let a = named (first + 1) number (c ∷ above) f x s.below e in
          record {
            index = suc a.index;
            is = omega (arith, a.is);
            within = omega (arith, a.within, length-append (names_in inner f) (names_in scope g));
            name = get_first (names_in inner f) (names_in scope g) a.index a.within ∙ a.name;
          })
          (λ e. let a = named (first + 1 + size f) number above g x s.behind e in
          let long = length-names_in inner f in
          record {
            index = suc (length (names_in inner f) + a.index);
            is = omega (arith, a.is, long);
            within = omega (arith, a.within, length-append (names_in inner f) (names_in scope g));
            name = get_behind (names_in inner f) (names_in scope g) a.index ∙ a.name;
          })
    ] refl e

-- the names of a document whose nodes are numbered in document order
pub document_names : (names : Names) (root : ℕ) (f : Forest ℕ) → names.first ≡ root + 1 → names.list.items ≡ names_in root_scope f
    → numbered (root + 1) f ≡ f → AreNames (kept_at names) (record { root = root; nodes = f })
document_names names root f first_is names_are order number name kept x there =
    let within_list : names.first ≤ number → slice_get names.list.items (number - names.first) ≡ Some name → name ≡ called_by x.content (scope_at x) =
    λ from here.
    elim (root == number) as (λ b. (root == number) ≡ b
    → cond b (Some (root_of (record { root = root; nodes = f }))) (first_in (λ l. l == number) [] f) ≡ Some x → name ≡ called_by x.content (scope_at x)) [
      | true ↦ λ own e. absurd (let is : root ≡ number = eqb-true root number own in omega (arith, first_is))
      | false ↦ λ _ e.
          let a = named (root + 1) number [] f x order e in
          let index : number - names.first ≡ a.index = omega (arith, a.is, first_is) in
          some_same name (called_by x.content (scope_at x))
          (sym here ∙ ap (slice_get names.list.items) index ∙ ap (λ xs. slice_get xs a.index) names_are ∙ a.name)
    ] refl there in
    elim (nat_lt number names.first) as (λ b. (nat_lt number names.first) ≡ b
    → cond b None (slice_get names.list.items (number - names.first)) ≡ Some name → name ≡ called_by x.content (scope_at x)) [
      | true ↦ λ _ e. absurd (none_some name e)
      | false ↦ λ e. within_list (ltb-false number names.first e)
    ] refl kept

-- where no name is kept
pub no_names : (kept : ℕ → Option Called) (document : Document ℕ) → ((number : ℕ) → kept number ≡ None) → AreNames kept document
no_names kept document none number name e = absurd (none_some name (sym (none number) ∙ e))

-- ---- A scope that is kept

scope_within : (content : Option Content) (inner scope : Scope) → scope_by content inner ≡ Some scope → scope ≡ inner
scope_within None inner scope e = absurd (none_some scope e)
scope_within (Some (spec.Element name attributes)) inner scope e = sym (some_same inner scope e)
scope_within (Some (spec.Text text)) inner scope e = absurd (none_some scope e)
scope_within (Some (spec.Comment text)) inner scope e = absurd (none_some scope e)
scope_within (Some (spec.Instruction target text)) inner scope e = absurd (none_some scope e)

kept_within : (kept : Option Called) (scope : Scope) (x : Found ℕ) → option_and_then (λ called. called.scope) kept ≡ Some scope
    → ForSome kept (λ called. called ≡ called_by x.content (scope_at x)) → scope ≡ scope_at x
kept_within None scope x e h = absurd (none_some scope e)
kept_within (Some called) scope x e h =
    scope_within x.content (scope_at x) scope (sym (ap (λ called. called.scope) (h called refl)) ∙ e)

-- it is the scope at the node of its number
pub scope_is : (names : Names) (document : Document ℕ) → AreNames (kept_at names) document → (number : ℕ) (scope : Scope)
    → scope_kept names number ≡ Some scope → (x : Found ℕ) → numbered_node document number ≡ Some x → scope ≡ scope_at x
scope_is names document are number scope kept x there =
    kept_within (kept_at names number) scope x kept (λ called e. are number called e x there)
