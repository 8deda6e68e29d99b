-- Parameters of units.
use Rattle.std.proofs.Common.{◌≡◌, ℕ, zero, suc, ◌<◌, List, [], ◌∷◌, map, take, length, get_or, refl, sym, ap, subst, rules, arith}
use Rattle.spec_stylesheet.specs.Instruction.{bindings}
use Rattle.spec_meaning.specs.Context.{Bound}
use Rattle.spec_meaning.specs.Context as context
use Rattle.spec_node.specs.declared.node_ref.NodeRef.{NodeRef}
use Rattle.spec_reuse.specs.Serving.{bound_in, PassAlike}
use Rattle.xt_syntax.specs.declared.instr.Binding.{Binding, out-Binding, fold_out-Binding}
use Rattle.xt_syntax.specs.InstrView.{binding_of}
use Rattle.xt_record.specs.Names.{names_of}

pub names_bound : (bs : List Binding) → names_of bs ≡ bound_in (bindings (map binding_of bs))
names_bound [] = refl
names_bound (b ∷ bs) = ap (λ names. (binding_of b).name ∷ names) (names_bound bs)

-- the name of a binding is a field of it
pub name_in : (b : Binding) → (out-Binding b).name ≡ (binding_of b).name
name_in b = search (rules, fold_out-Binding)

pub pass_more : (one other : List (Bound NodeRef)) (bs : List Binding) (i : ℕ) (b : Binding) → i < length bs → b ≡ get_or bs i b
    → context.binding_of (binding_of b).name one ≡ context.binding_of (binding_of b).name other
    → PassAlike (names_of (take i bs)) one other → PassAlike (names_of (take (suc i) bs)) one other
pass_more one other [] i b lt at s h = absurd (omega arith)
pass_more one other (c ∷ cs) zero b lt at s h =
    let P : Binding → Type 0 = λ x. context.binding_of (binding_of x).name one ≡ context.binding_of (binding_of x).name other in (subst P at s, tt)
pass_more one other (c ∷ cs) (suc i) b lt at s h = (h.0, pass_more one other cs i b (omega arith) at s h.1)

pub pass_at : (one other : List (Bound NodeRef)) (bs : List Binding) (i : ℕ) (b : Binding) → i < length bs → b ≡ get_or bs i b
    → PassAlike (names_of bs) one other → context.binding_of (binding_of b).name one ≡ context.binding_of (binding_of b).name other
pass_at one other [] i b lt at h = absurd (omega arith)
pass_at one other (c ∷ cs) zero b lt at h =
    let P : Binding → Type 0 = λ x. context.binding_of (binding_of x).name one ≡ context.binding_of (binding_of x).name other in subst P (sym at) h.0
pass_at one other (c ∷ cs) (suc i) b lt at h = pass_at one other cs i b (omega arith) at h.1
