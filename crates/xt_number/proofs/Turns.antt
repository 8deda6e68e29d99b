-- Where a node is asked, what is asked together, and lists that grow.
use Rattle.std.proofs.Common.{◌≡◌, ◌≤◌, ℕ, ◌+◌, Bool, true, false, List, [], ◌∷◌, ◌++◌, get_or, Option, None, reverse, refl, arith}
use Rattle.std.specs.Int.{from_bool}
use Rattle.std.specs.Prelude.{if◌then◌else◌}
use Rattle.std.proofs.lemmas.List.{reverse-append}
use Rattle.spec_document.specs.declared.axis.Axis.TheVariants as axis
use Rattle.spec_stylesheet.specs.Pattern.{Pattern}
use Rattle.spec_meaning.specs.Context.{Context}
use Rattle.spec_meaning.specs.Program.{Program, Give, then}
use Rattle.spec_transform.specs.Numbering.{on_axis, nearest_first, cut_by, backward}
use Rattle.spec_node.specs.declared.node_ref.NodeRef.{NodeRef}
use Rattle.spec_node.specs.declared.node_ref.Part.TheVariants as part
use Rattle.xt_questions.specs.declared.context.Focus.{Focus}

-- a node, for a place in a list that has none
abbrev none : NodeRef
none = record { node = record { number = 0 }; part = part.Itself }

-- at a node of a list, whose position is not known
abbrev pub at : List NodeRef → ℕ → Focus
at nodes i = record { node = get_or nodes i none; position = None; size = None }

-- what follows where the ancestors and the nodes before are known
abbrev pub after_around : {N : Type 0} → (N → N → Bool) → Context N → Option Pattern → List N → Program N (List N)
after_around same c from around = (then) (nearest_first from around) (λ nearest. (then) (cut_by same c from nearest) (λ ns. Give (c.node ∷ ns)))

-- the two axes are asked together
pub around_first : {N : Type 0} (same : N → N → Bool) (c : Context N) (from : Option Pattern)
    → (then) ((then) (on_axis axis.Ancestor c.node) (λ above. (then) (on_axis axis.Preceding c.node) (λ before. Give (above ++ before)))) (after_around same c from)
    ≡ backward same c from
unfolding then
around_first same c from = refl

-- the last one that was pushed is the first the other way round
pub pushed_first : {A : Type 0} (xs : List A) (x : A) → reverse (xs ++ x ∷ []) ≡ x ∷ reverse xs
pushed_first xs x = reverse-append xs (x ∷ [])

-- one more where it is counted
pub counted_on : (b : Bool) (k n : ℕ) → n ≡ from_bool b → (if b then k + 1 else k) ≡ k + n
counted_on true k n e = let one : n ≡ 1 = e in omega (arith, one)
counted_on false k n e = let none : n ≡ 0 = e in omega (arith, none)

pub at_most_one : (b : Bool) (n : ℕ) → n ≡ from_bool b → n ≤ 1
at_most_one true n e = let one : n ≡ 1 = e in omega (arith, one)
at_most_one false n e = let none : n ≡ 0 = e in omega (arith, none)
