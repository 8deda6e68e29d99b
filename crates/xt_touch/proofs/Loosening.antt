-- Where all children of a node that are no elements are told, they are told wherever the node stands, since it stands once.
use Rattle.std.proofs.Common.{◌≡◌, ℕ, Bool, true, false, not, List, [], ◌∷◌, ◌++◌, Option, None, Some, is_some, refl, sym, ap, subst, ◌∙◌, eq-eqb}
use Rattle.std.specs.Prelude.{◌==◌, nat_lt, if◌then◌else◌}
use Rattle.std.specs.List.{list_all}
use Rattle.std.specs.Option.{option_or}
use Rattle.std.proofs.lemmas.Bool.{and_parts, eqb-true}
use Rattle.spec_document.specs.Forest.{Document, Forest, Empty, Node, labels}
use Rattle.spec_document.specs.Numbering.{number_limit}
use Rattle.spec_change.specs.Change.{is_among}
use Rattle.spec_touch.specs.Leads.{AreLoose, AreLooseBelow, AreLooseIn}
use Rattle.xt_tree.specs.Numbers.{are_distinct, IsNumbered}
use Rattle.xt_tree.specs.View.{Tree, first_tree}
use Rattle.xt_tree.proofs.Distinct.{apart, distinct_parts, not_before, not_false, or_left, or_neither, or_right}
use Rattle.xt_touch.specs.Loose.{loose_among, loose_tree}
use Rattle.xt_touch.specs.Missing.{below, children_of}
use Rattle.xt_touch.proofs.Members.{among_append}
use Rattle.xt_touch.proofs.Missing.{found-among}

-- ---- Those that are gathered are all

more_loose : (first rest : List ℕ) (f : Forest ℕ) → AreLoose rest f → AreLoose (first ++ rest) f
more_loose first rest Empty h = tt
more_loose first rest (Node l c f g) h =
    (λ is. among_append first rest l ∙ or_right (is_among first l) (is_among rest l) (h.0 is), more_loose first rest g h.1)

all_loose : (f : Forest ℕ) → AreLoose (loose_among f) f
all_loose Empty = tt
all_loose (Node l c f g) =
    let first = loose_tree (record { number = l; content = c; children = f }) in
    let rest = loose_among g in (
      λ is. ap (λ b. is_among ((if b then [] else l ∷ []) ++ rest) l) is ∙ or_left (l == l) (is_among rest l) (eq-eqb l l refl),
      more_loose first rest g (all_loose g),
    )

-- ---- The node of a number stands once

-- below siblings of which none has it
nowhere : (loose : List ℕ) (n : ℕ) (f : Forest ℕ) → is_among (labels f) n ≡ false → AreLooseIn loose n f
nowhere loose n Empty h = tt
nowhere loose n (Node l c f g) h =
    let own = or_neither (l == n) (is_among (labels f ++ labels g) n) h in
    let both = or_neither (is_among (labels f) n) (is_among (labels g) n) (sym (among_append (labels f) (labels g) n) ∙ own.1) in
    (λ e. absurd (apart (l == n) (eq-eqb l n (sym e)) own.0), nowhere loose n f both.0, nowhere loose n g both.1)

-- of two places where it may be found, the first in which it is
either_below : (loose : List ℕ) (a b : Option Tree) → AreLoose loose (below (option_or a b))
    → (is_some a ≡ true → AreLoose loose (below a)) × (is_some a ≡ false → AreLoose loose (below b))
either_below loose None b h = (λ is. absurd (cc), λ is. h)
either_below loose (Some x) b h = (λ is. h, λ is. absurd (cc))

somewhere : (loose : List ℕ) (n : ℕ) (f : Forest ℕ) → are_distinct (labels f) ≡ true → AreLoose loose (below (first_tree n f)) → AreLooseIn loose n f
somewhere loose n Empty d h = tt
somewhere loose n (Node l c f g) d h =
    let parts = and_parts (not (is_among (labels f ++ labels g) l)) (are_distinct (labels f ++ labels g)) d in
    let both = distinct_parts (labels f) (labels g) parts.1 in
    elim (l == n) as (λ b. (l == n) ≡ b
    → AreLoose loose (below (if b then Some (record { number = l; content = c; children = f }) else option_or (first_tree n f) (first_tree n g)))
    → AreLooseIn loose n (Node l c f g)) [
      | true ↦ λ is h.
          let other = or_neither (is_among (labels f) n) (is_among (labels g) n) (sym (among_append (labels f) (labels g) n)
          ∙ ap (is_among (labels f ++ labels g)) (sym (eqb-true l n is)) ∙ not_false _ parts.0) in
          (λ e. h, nowhere loose n f other.0, nowhere loose n g other.1)
      | false ↦ λ is h.
          let either = either_below loose (first_tree n f) (first_tree n g) h in
          let one : (b : Bool) → is_among (labels f) n ≡ b → AreLooseIn loose n f × AreLooseIn loose n g
          = λ b. elim b as (λ b. is_among (labels f) n ≡ b → AreLooseIn loose n f × AreLooseIn loose n g) [
            | true ↦ λ here. (
              somewhere loose n f both.0 (either.0 (found-among n f ∙ here)),
              nowhere loose n g (none_behind (labels f) (labels g) n parts.1 here),
            )
            | false ↦ λ away.
                (nowhere loose n f away, somewhere loose n g both.1 (either.1 (found-among n f ∙ away)))
          ] in
          let rest = one (is_among (labels f) n) refl in
          (λ e. absurd (apart (l == n) (eq-eqb l n (sym e)) is), rest.0, rest.1)
    ] refl h
  where
    none_behind : (xs ys : List ℕ) (n : ℕ) → are_distinct (xs ++ ys) ≡ true → is_among xs n ≡ true → is_among ys n ≡ false
    none_behind xs ys n d here =
        elim (is_among ys n) as (λ b. is_among ys n ≡ b → b ≡ false) [
          | true ↦ λ there. absurd (apart (is_among xs n) here (not_before xs ys n d there))
          | false ↦ λ _. refl
        ] refl

pub loose_below : (n : ℕ) (document : Document ℕ) (loose : List ℕ) → IsNumbered document → loose ≡ loose_among (children_of n document)
    → AreLooseBelow loose n document
loose_below n document loose numbers is =
    let ns = document.root ∷ labels document.nodes in
    let distinct = (and_parts (are_distinct ns) (list_all (λ k. nat_lt k number_limit) ns) numbers).0 in
    let parts = and_parts (not (is_among (labels document.nodes) document.root)) (are_distinct (labels document.nodes)) distinct in
    let told : AreLoose loose (children_of n document) = subst (λ ms. AreLoose ms (children_of n document)) (sym is) (all_loose (children_of n document)) in
    elim (document.root == n) as (λ b. (document.root == n) ≡ b
    → AreLoose loose (if b then document.nodes else below (first_tree n document.nodes)) → AreLooseBelow loose n document) [
      | true ↦ λ same h. (λ e. h, nowhere loose n document.nodes (ap (is_among (labels document.nodes)) (sym (eqb-true document.root n same)) ∙ not_false _ parts.0))
      | false ↦ λ other h. (λ e. absurd (apart (document.root == n) (eq-eqb document.root n (sym e)) other), somewhere loose n document.nodes parts.1 h)
    ] refl told
