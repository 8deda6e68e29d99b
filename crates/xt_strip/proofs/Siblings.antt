-- The walk over siblings: what is seen of those so far, of the next one, and of those behind it.
use Rattle.std.proofs.Common.{◌≡◌, ℕ, ◌+◌, ◌<◌, ◌≤◌, List, [], ◌∷◌, ◌++◌, length, get_or, take, drop, Option, true, false, arith, refl, sym, ap, ◌∙◌}
use Rattle.std.proofs.lemmas.Bool.{ltb-true, ltb-false}
use Rattle.std.proofs.lemmas.List.{at_drop_all, at_drop_more, drop_all, take_all, take_more}
use Rattle.std.specs.Prelude.{min, nat_lt}
use Rattle.std.specs.Option.{unwrap_or}
use Rattle.std.specs.declared.rc.Rc.{Rc}
use Rattle.std.specs.declared.alloc.Global.{Global}
use Rattle.spec_document.specs.Forest as spec
use Rattle.spec_document.specs.Forest.{Forest, followed}
use Rattle.spec_edit.specs.Splice.{sibling_count}
use Rattle.spec_seen.specs.Seen.{Around, seen_among}
use Rattle.spec_seen.specs.Seen as texts
use Rattle.spec_seen.specs.Seen.{LosesTexts}
use Rattle.spec_stylesheet.specs.Sheet.{SpaceRule}
use Rattle.xt_strip.specs.View.{before}
use Rattle.xt_strip.specs.declared.walk.Sight.{Sight}
use Rattle.xt_strip.specs.declared.walk.Sight.TheVariants as sight
use Rattle.xt_tree.specs.Thinned as nodes
use Rattle.xt_tree.specs.Thinned.{LosesNodes}
use Rattle.xt_tree.specs.View.{Tree, forest_of, tree_of}
use Rattle.xt_tree.specs.declared.node.Node.{Node}
use Rattle.xt_tree.proofs.Renumbered.{followed-Empty, followed-assoc}
use Rattle.xt_tree.proofs.Views.{forest_of-append}

-- one sibling more
pub one_more : (siblings : List (Rc Node Global)) (i : ℕ) (x : Rc Node Global) → i < length siblings → x ≡ get_or siblings i x
    → followed (forest_of (take i siblings)) (forest_of (x ∷ [])) ≡ forest_of (take (i + 1) siblings)
one_more siblings i x h is =
    sym (forest_of-append (take i siblings) (x ∷ [])) ∙ ap (λ y. forest_of (take i siblings ++ y ∷ [])) is ∙ ap forest_of (sym (take_more siblings i x h))

-- what is seen of a node, and then of those behind it
before-followed : (s : Sight) (node : Tree) (f : Forest ℕ) → before s node f ≡ followed (before s node spec.Empty) f
before-followed sight.Whole node f = refl
before-followed sight.Nothing node f = refl
before-followed (sight.With below) node f = refl

-- a turn of the loop
pub turn : (rules : List SpaceRule) (around : Around) (siblings : List (Rc Node Global)) (i : ℕ) (x : Rc Node Global) (s : Sight)
    (so_far now : Option (Forest ℕ)) (all : Forest ℕ) → i < length siblings → x ≡ get_or siblings i x
    → ((behind : Forest ℕ) → before s (tree_of x.value) (seen_among rules around behind)
    ≡ seen_among rules around (spec.Node (tree_of x.value).number (tree_of x.value).content (tree_of x.value).children behind))
    → unwrap_or now (followed (forest_of (take i siblings)) (forest_of (x ∷ [])))
    ≡ followed (unwrap_or so_far (forest_of (take i siblings))) (before s (tree_of x.value) spec.Empty)
    → followed (unwrap_or so_far (forest_of (take i siblings))) (seen_among rules around (forest_of (drop i siblings))) ≡ all
    → followed (unwrap_or now (forest_of (take (i + 1) siblings))) (seen_among rules around (forest_of (drop (i + 1) siblings))) ≡ all
turn rules around siblings i x s so_far now all h is said added is_all =
    let front = unwrap_or so_far (forest_of (take i siblings)) in
    let behind = drop (i + 1) siblings in
    let rest = seen_among rules around (forest_of behind) in
    ap (λ f. followed (unwrap_or now f) rest) (sym (one_more siblings i x h is))
    ∙ ap (λ f. followed f rest) added
    ∙ followed-assoc front (before s (tree_of x.value) spec.Empty) rest
    ∙ ap (followed front) (sym (before-followed s (tree_of x.value) rest) ∙ said (forest_of behind))
    ∙ ap (λ y. followed front (seen_among rules around (forest_of (y ∷ behind)))) is
    ∙ sym (at_drop_more (λ ys. followed front (seen_among rules around (forest_of ys))) siblings i x h)
    ∙ is_all

-- and the end of it
pub at_end : (rules : List SpaceRule) (around : Around) (siblings : List (Rc Node Global)) (i : ℕ) (seen : Option (Forest ℕ)) (all : Forest ℕ)
    → length siblings ≤ i
    → followed (unwrap_or seen (forest_of (take i siblings))) (seen_among rules around (forest_of (drop i siblings))) ≡ all
    → unwrap_or seen (forest_of siblings) ≡ all
at_end rules around siblings i seen all h is_all =
    let front = unwrap_or seen (forest_of (take i siblings)) in
    ap (λ xs. unwrap_or seen (forest_of xs)) (sym (take_all i siblings h)) ∙ sym (followed-Empty front)
    ∙ sym (at_drop_all (λ xs. followed front (seen_among rules around (forest_of xs))) siblings i h) ∙ is_all

-- texts are nodes
pub nodes_lost : {f g : Forest ℕ} → LosesTexts f g → LosesNodes f g
nodes_lost texts.at_end = nodes.at_end
nodes_lost (texts.loses h) = nodes.loses (nodes_lost h)
nodes_lost (texts.keeps h k) = nodes.keeps (nodes_lost h) (nodes_lost k)

-- an index past the last sibling is the one after it
pub drop_min : (n : ℕ) (xs : List (Rc Node Global)) → drop (min n (length xs)) xs ≡ drop n xs
drop_min n xs =
    elim (nat_lt n (length xs)) as (λ b. nat_lt n (length xs) ≡ b → drop (min n (length xs)) xs ≡ drop n xs) [
      | true ↦ λ e. let h = ltb-true n (length xs) e in let least : min n (length xs) ≡ n = omega arith in ap (λ m. drop m xs) least
      | false ↦ λ e.
          let h = ltb-false n (length xs) e in
          let least : min n (length xs) ≡ length xs = omega arith in
          ap (λ m. drop m xs) least ∙ drop_all (length xs) xs (omega arith) ∙ sym (drop_all n xs h)
    ] refl

pub count_length : (xs : List (Rc Node Global)) → sibling_count (forest_of xs) ≡ length xs
count_length [] = refl
count_length (x ∷ xs) = let rest = count_length xs in omega (arith, rest)
