-- What a unit does depends on the parameters alone that it declares.
use Rattle.std.proofs.Common.{◌≡◌, suc, List, ◌∷◌, Bool, refl, ap, subst, ◌∙◌}
use Rattle.std.proofs.Math.Path.{fun_ext}
use Rattle.std.specs.Prelude.{None}
use Rattle.spec_stylesheet.specs.Place.{Place}
use Rattle.spec_stylesheet.specs.Instruction.{Bindings, no_bindings, binding}
use Rattle.spec_stylesheet.specs.Sheet as sheet
use Rattle.spec_meaning.specs.Value.{Value}
use Rattle.spec_meaning.specs.Question as question
use Rattle.spec_meaning.specs.Context.{Bound, binding_of}
use Rattle.spec_run.specs.Plan.{nowhere, Target, UnitOf, BuiltIn, SameRule, Call, Plan, End, Deep}
use Rattle.spec_run.specs.Direct.{Ending}
use Rattle.spec_run.specs.Going.{Event, Asked, Going, at_start, noted}
use Rattle.spec_run.specs.Content.{Here, deeper, with_variable, valued, is_empty, unless_passed, planned, with_parameters, declared_planned}
use Rattle.spec_run.specs.Content.{here_in, unit_planned, plan_of}
use Rattle.spec_run.specs.Trail.{Trail, asks, Kept, IsTrue}
use Rattle.spec_reuse.specs.Serving.{bound_in, declared_by, declared_in, PassAlike, IsOf, taken_for}

-- the parameters of a template
parameters_alike : {N : Type 0} (bs : Bindings) (given also : List (Bound N)) (h : Here N) (k : Here N → Plan N) → PassAlike (bound_in bs) given also
    → with_parameters bs given h k ≡ with_parameters bs also h k
parameters_alike no_bindings given also h k e = refl
parameters_alike {N = N} (binding site name select is more) given also h k e =
    let by_default : (Value N → Plan N) → Plan N = valued site h select (is_empty is)
    (λ after. Deep (suc h.depth) site.place (planned is (deeper h) after)) in
    let one : Value N → Plan N = λ v. with_parameters more given (with_variable name v h) k in
    let other : Value N → Plan N = λ v. with_parameters more also (with_variable name v h) k in
    let rest : one ≡ other = fun_ext (λ v. parameters_alike more given also (with_variable name v h) k e.1) in
    ap (λ o. unless_passed o (by_default one) one) e.0 ∙ ap (λ r. unless_passed (binding_of name also) (by_default r) r) rest

declared_alike : {N : Type 0} (place : Place) (d : sheet.Declared) (given also : List (Bound N)) (h : Here N) → PassAlike (declared_by d) given also
    → declared_planned place d given h ≡ declared_planned place d also h
declared_alike place (sheet.ATemplate t) given also h e = parameters_alike t.parameters given also h (λ here. planned t.content here End) e
declared_alike place (sheet.AGlobal g) given also h e = refl
declared_alike place (sheet.ASet s) given also h e = refl
declared_alike place (sheet.AKey k) given also h e = refl

abbrev call_of : {N : Type 0} → Target N → N → List (Bound N) → Call N
call_of target node parameters =
    record { target = target; node = node; parameters = parameters; position = None; size = None; ruling = SameRule; by = nowhere }

trail_alike : {N : Type 0} (same : N → N → Bool) (target : Target N) (node : N) (given also : List (Bound N))
    {es : List (Event N)} {h : Going N} {e : Ending N}
    → PassAlike (declared_in es) given also → Trail (plan_of same (call_of target node given)) at_start es h e
    → Trail (plan_of same (call_of target node also)) at_start es h e
trail_alike same (BuiltIn mode) node given also l t = t
trail_alike {N = N} same (UnitOf element) node given also {h = h} {e = e} l (asks {answer = a} {es = es} t) = asks (unit_alike a l t)
  where
    unit_alike : (a : question.Answer N) → PassAlike (declared_in (Asked (question.Unit element) a ∷ es)) given also
        → Trail (unit_planned same node given a) (noted (Asked (question.Unit element) a) at_start) es h e
        → Trail (unit_planned same node also a) (noted (Asked (question.Unit element) a) at_start) es h e
    unit_alike (question.Resolved u) l t =
        let P : Plan N → Type 0 = λ p. Trail p (noted (Asked (question.Unit element) (question.Resolved u)) at_start) es h e in
        subst P (declared_alike u.unit.site.place u.unit.declared given also (here_in same node u) l) t
    unit_alike question.Gone l t = t
    unit_alike _ l t = t

-- its trail is one through the plan of the call
pub goes_along_call : {N : Type 0} (same : N → N → Bool) (c : Call N) (k : Kept N) → IsOf c k → {h : Going N} {e : Ending N}
    → Trail (plan_of same k.call) at_start k.trace h e → Trail (plan_of same c) at_start k.trace h e
goes_along_call {N = N} same c k of {h = h} {e = e} t =
    let T : Target N → Type 0 = λ target. Trail (plan_of same (call_of target k.call.node k.call.parameters)) at_start k.trace h e in
    let M : N → Type 0 = λ node. Trail (plan_of same (call_of c.target node k.call.parameters)) at_start k.trace h e in
    trail_alike same c.target c.node k.call.parameters c.parameters of.parameters (subst M of.node (subst T of.target t))

pub taken_is_true : {N : Type 0} (same : N → N → Bool) (c : Call N) (k : Kept N) → IsTrue same k → IsOf c k → IsTrue same (taken_for c k)
taken_is_true same c k t of = record { last = t.last; trail = goes_along_call same c k of t.trail; is = ap (taken_for c) t.is }
