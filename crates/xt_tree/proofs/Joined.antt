-- Siblings and one more behind them.
use Rattle.std.proofs.Common.{◌≡◌, ℕ, ◌-◌, List, [], ◌∷◌, ◌++◌, length, take, length-append, arith, refl, sym, ap, ◌∙◌}
use Rattle.std.proofs.Common.{Option, Some, None, Result, Ok, Err, IfOk}
use Rattle.std.specs.declared.rc.Rc.{Rc}
use Rattle.std.specs.declared.alloc.Global.{Global}
use Rattle.std.specs.Option.{option_map}
use Rattle.std.proofs.Math.Seq.{take-append_seam}
use Rattle.spec_document.specs.Forest as spec
use Rattle.spec_edit.specs.Splice.{met, last_before}
use Rattle.xt_tree.specs.declared.node.Node.{Node}
use Rattle.xt_tree.specs.Remade.{MeetsAs, joined_texts}
use Rattle.xt_tree.specs.View.{Tree, tree_of, forest, forest_of}
use Rattle.xt_tree.proofs.Views.{forest_of-append}
use Rattle.xt_tree.proofs.Distinct.{some_same}

abbrev Siblings : Type 0
Siblings = List (Rc Node Global)

pub all_but_last : {A : Type 0} (front : List A) (last : A) → take (length (front ++ last ∷ []) - 1) (front ++ last ∷ []) ≡ front
all_but_last front last =
    let count : length (front ++ last ∷ []) - 1 ≡ length front = omega (arith, length-append front (last ∷ [])) in
    ap (λ n. take n (front ++ last ∷ [])) count ∙ take-append_seam front (last ∷ [])

-- only the last of siblings meets what is behind them
met_last : (front : Siblings) (last : Rc Node Global) (others : spec.Forest ℕ)
    → met (forest_of (front ++ last ∷ [])) others ≡ spec.followed (forest_of front) (met (forest_of (last ∷ [])) others)
met_last [] last others = refl
met_last (x ∷ []) last others = refl
met_last (x ∷ y ∷ front) last others =
    ap (spec.Node (tree_of x.value).number (tree_of x.value).content (tree_of x.value).children) (met_last (y ∷ front) last others)

-- a node behind another one
abbrev Behind : ℕ → spec.Content → spec.Forest ℕ → Tree → Option spec.Content → Type 0
Behind label content children next None =
    last_before label content children (forest (next ∷ [])) ≡ spec.Node label content children (forest (next ∷ []))
Behind label content children next (Some both) = last_before label content children (forest (next ∷ [])) ≡ spec.Node label both children spec.Empty

behind : (label : ℕ) (content : spec.Content) (children : spec.Forest ℕ) (number : ℕ) (more : spec.Content) (below : spec.Forest ℕ)
    → Behind label content children (record { number = number; content = more; children = below }) (joined_texts content more)
behind label (spec.Element name attributes) children number more below = refl
behind label (spec.Comment text) children number more below = refl
behind label (spec.Instruction target text) children number more below = refl
behind label (spec.Text text) children number (spec.Element name attributes) below = refl
behind label (spec.Text text) children number (spec.Text more) below = refl
behind label (spec.Text text) children number (spec.Comment more) below = refl
behind label (spec.Text text) children number (spec.Instruction target more) below = refl

abbrev pub with_own : Tree → spec.Content → Tree
with_own tree content = record { number = tree.number; content = content; children = tree.children }

by : (front : Siblings) (last : Rc Node Global) (next : Tree) (both : Option spec.Content) (r : Option (Rc Node Global))
    → Behind (tree_of last.value).number (tree_of last.value).content (tree_of last.value).children next both
    → option_map (λ n. tree_of n.value) r ≡ option_map (with_own (tree_of last.value)) both
    → MeetsAs (front ++ last ∷ []) next r
by front last next None None h e =
    let t = tree_of last.value in
    met_last front last (forest (next ∷ [])) ∙ ap (spec.followed (forest_of front)) h
    ∙ sym (ap (λ f. spec.followed f (forest (next ∷ []))) (forest_of-append front (last ∷ []))
    ∙ assoc (forest_of front))
  where
    assoc : (f : spec.Forest ℕ) → spec.followed (spec.followed f (forest_of (last ∷ []))) (forest (next ∷ []))
        ≡ spec.followed f (spec.followed (forest_of (last ∷ [])) (forest (next ∷ [])))
    assoc spec.Empty = refl
    assoc (spec.Node l c below g) = ap (spec.Node l c below) (assoc g)
by front last next None (Some n) h e = absurd (cc)
by front last next (Some both) None h e = absurd (cc)
by front last next (Some both) (Some n) h e =
    let tree = sym (some_same (tree_of n.value) (with_own (tree_of last.value) both) e) in
    met_last front last (forest (next ∷ [])) ∙ ap (spec.followed (forest_of front)) (h ∙ ap (λ t. forest (t ∷ [])) tree)
    ∙ ap (λ xs. spec.followed (forest_of xs) (forest_of (n ∷ []))) (sym (all_but_last front last))

pub meets : (xs front : Siblings) (last : Rc Node Global) (next : Tree) (r : Option (Rc Node Global)) → xs ≡ front ++ last ∷ []
    → option_map (λ n. tree_of n.value) r
    ≡ option_map (with_own (tree_of last.value)) (joined_texts (tree_of last.value).content next.content)
    → MeetsAs xs next r
meets xs front last next r is e =
    let t = tree_of last.value in
    rw is (by front last next _ r (behind t.number t.content t.children next.number next.content next.children) e)

pub if_ok_weaker : {A E : Type 0} {P Q : A → Type 0} (r : Result A E) → ((x : A) → P x → Q x) → IfOk r P → IfOk r Q
if_ok_weaker (Ok x) f h = f x h
if_ok_weaker (Err e) f h = tt
