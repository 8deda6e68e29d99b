-- Siblings between those that are the same before and after are the ones that are gone and brought.
use Rattle.std.proofs.Common.{◌≡◌, ◌≤◌, ◌<◌, arith, ℕ, ◌==◌, Bool, true, false, cond, List, [], ◌∷◌, ◌++◌, map, reverse}
use Rattle.std.proofs.Common.{refl, sym, ap, ◌∙◌, subst}
use Rattle.std.specs.Prelude.{nat_lt}
use Rattle.std.specs.declared.rc.Rc.{Rc}
use Rattle.std.specs.declared.alloc.Global.{Global}
use Rattle.std.proofs.lemmas.Bool.{ltb-true, ltb-false}
use Rattle.std.proofs.lemmas.List.{map-append, reverse-append}
use Rattle.spec_document.specs.Forest.{Forest, labels}
use Rattle.spec_edit.proofs.Numbers.{occurs}
use Rattle.spec_change.specs.Change.{without}
use Rattle.spec_change.proofs.Branches.{Branch, branch, branches, flat, flat-branches, Parted}
use Rattle.xt_edit.specs.MoveTelling.{AreTold}
use Rattle.xt_edit.specs.Telling.{Rests, past_common, reversed, before_common, differing, number_of}
use Rattle.xt_edit.proofs.Apart.{Parts, parts-differ, gone-is, brought-is, rests, number_in}
use Rattle.xt_edit.proofs.Reordering.{times}
use Rattle.xt_tree.specs.declared.node.Node.{Node}
use Rattle.xt_tree.specs.View.{tree_of, forest_of}

-- ---- Along a map

abbrev pub mapped : {X Y : Type 0} → (X → Y) → Rests X → Rests Y
mapped h r = rests (map h r.old) (map h r.new)

past-map : {X Y : Type 0} (h : X → Y) (number : Y → ℕ) (xs ys : List X)
    → mapped h (past_common (λ x. number (h x)) xs ys) ≡ past_common number (map h xs) (map h ys)
past-map h number [] ys = refl
past-map h number (x ∷ xs) [] = refl
past-map h number (x ∷ xs) (y ∷ ys) =
    elim (number (h x) == number (h y)) as (λ b. mapped h (cond b (past_common (λ z. number (h z)) xs ys) (rests (x ∷ xs) (y ∷ ys)))
    ≡ cond b (past_common number (map h xs) (map h ys)) (rests (map h (x ∷ xs)) (map h (y ∷ ys)))) [
      | true ↦ past-map h number xs ys
      | false ↦ refl
    ]

map_reverse : {X Y : Type 0} (h : X → Y) (xs : List X) → map h (reverse xs) ≡ reverse (map h xs)
map_reverse h [] = refl
map_reverse h (x ∷ xs) =
    ap (map h) (reverse-append (x ∷ []) xs) ∙ map-append h (reverse xs) (x ∷ []) ∙ ap (λ zs. zs ++ h x ∷ []) (map_reverse h xs)
    ∙ sym (reverse-append (h x ∷ []) (map h xs))

before-map : {X Y : Type 0} (h : X → Y) (number : Y → ℕ) (r : Rests X)
    → mapped h (before_common (λ x. number (h x)) r) ≡ before_common number (mapped h r)
before-map h number r =
    let q = past_common (λ x. number (h x)) (reverse r.old) (reverse r.new) in
    (λ i. rests (map_reverse h q.old i) (map_reverse h q.new i))
    ∙ ap reversed (past-map h number (reverse r.old) (reverse r.new) ∙ (λ i. past_common number (map_reverse h r.old i) (map_reverse h r.new i)))

differing-map : {X Y : Type 0} (h : X → Y) (number : Y → ℕ) (xs ys : List X)
    → mapped h (differing (λ x. number (h x)) xs ys) ≡ differing number (map h xs) (map h ys)
differing-map h number xs ys =
    before-map h number (past_common (λ x. number (h x)) xs ys) ∙ ap (before_common number) (past-map h number xs ys)

-- ---- Of nodes

abbrev branch_in : Rc Node Global → Branch
branch_in node = branch (tree_of node.value).number (tree_of node.value).children

branches-nodes : (xs : List (Rc Node Global)) → branches (forest_of xs) ≡ map branch_in xs
branches-nodes [] = refl
branches-nodes (x ∷ xs) = ap (λ bs. branch_in x ∷ bs) (branches-nodes xs)

pub record AreBetween (xs ys : List (Rc Node Global)) (gone brought : List ℕ) : Type 0 where
  pub gone_are : labels (forest_of (differing number_of xs ys).old) ≡ gone
  pub brought_are : labels (forest_of (differing number_of xs ys).new) ≡ brought

labels-once : (f : Forest ℕ) → ((n : ℕ) → occurs (λ m. m == n) (labels f) ≤ 1) → (n : ℕ) → times n (branches f) ≤ 1
labels-once f once n = let is = ap (occurs (λ m. m == n)) (flat-branches f) in let most = once n in omega arith

nodes_differ : (xs ys : List (Rc Node Global)) (p : Parts (branches (forest_of xs)) (branches (forest_of ys)))
    → ((n : ℕ) → occurs (λ m. m == n) (labels (forest_of xs)) ≤ 1) → AreBetween xs ys (flat p.gone) (flat p.brought)
nodes_differ xs ys p once =
    let r = differing number_of xs ys in
    let e : mapped branch_in r ≡ rests p.gone p.brought =
    differing-map branch_in number_in xs ys
    ∙ (λ i. differing number_in (sym (branches-nodes xs) i) (sym (branches-nodes ys) i))
    ∙ parts-differ (branches (forest_of xs)) (branches (forest_of ys)) p (labels-once (forest_of xs) once) in
    record {
      gone_are = sym (flat-branches (forest_of r.old)) ∙ ap flat (branches-nodes r.old ∙ ap (λ q. q.old) e);
      brought_are = sym (flat-branches (forest_of r.new)) ∙ ap flat (branches-nodes r.new ∙ ap (λ q. q.new) e);
    }

-- where what is brought has numbers from the first on
pub nodes_between : (first : ℕ) (xs ys : List (Rc Node Global)) (p : Parted first (branches (forest_of xs)) (branches (forest_of ys)))
    → ((n : ℕ) → occurs (λ m. m == n) (labels (forest_of xs)) ≤ 1) → ((n : ℕ) → first ≤ n → occurs (λ m. m == n) (labels (forest_of xs)) ≡ 0)
    → AreBetween xs ys (flat p.gone) (flat p.brought)
nodes_between first xs ys p once low =
    nodes_differ xs ys (record {
      front = p.front;
      gone = p.gone;
      brought = p.brought;
      behind = p.behind;
      old_is = p.old_is;
      new_is = p.new_is;
      apart = λ n some. p.fresh n (earlier n some);
    }) once
  where
    earlier : (n : ℕ) → 1 ≤ times n (branches (forest_of xs)) → n < first
    earlier n some = by (nat_lt n first) refl
      where
        by : (b : Bool) → nat_lt n first ≡ b → n < first
        by true e = ltb-true n first e
        by false e = absurd (
            let none = low n (ltb-false n first e) in let is = ap (occurs (λ m. m == n)) (flat-branches (forest_of xs)) in omega arith
            )

-- they are told by what they are
pub parts-told : (old new : Forest ℕ) → Parts (branches old) (branches new) → ((n : ℕ) → occurs (λ m. m == n) (labels old) ≤ 1) → AreTold old new
parts-told old new p once xs ys d e =
    let q : Parts (branches (forest_of xs)) (branches (forest_of ys)) =
    subst (λ f. Parts (branches f) (branches (forest_of ys))) (sym d) (subst (λ f. Parts (branches old) (branches f)) (sym e) p) in
    let few : (n : ℕ) → occurs (λ m. m == n) (labels (forest_of xs)) ≤ 1 =
    λ n. (let is = ap (λ f. occurs (λ m. m == n) (labels f)) d in let most = once n in omega arith) in
    let b = nodes_differ xs ys q few in
    let single = labels-once (forest_of xs) few in
    let gone = gone-is (branches (forest_of xs)) (branches (forest_of ys)) q single in
    let brought = brought-is (branches (forest_of xs)) (branches (forest_of ys)) q single in
    let was : flat (branches (forest_of xs)) ≡ labels old = flat-branches (forest_of xs) ∙ ap labels d in
    let now : flat (branches (forest_of ys)) ≡ labels new = flat-branches (forest_of ys) ∙ ap labels e in
    (b.gone_are ∙ gone ∙ (λ i. without (now i) (was i)), b.brought_are ∙ brought ∙ (λ i. without (was i) (now i)))
