-- Contents, branches and bindings that stand behind some that are done, and the parameters of templates one by one.
use Rattle.std.proofs.Common.{◌≡◌, List, [], ◌∷◌, ◌++◌, map, None, Some, refl, ap}
use Rattle.spec_document.specs.Name.{Expanded}
use Rattle.spec_expression.specs.Syntax.{variable}
use Rattle.spec_stylesheet.specs.Place.{Site}
use Rattle.spec_stylesheet.specs.Instruction.{Instrs, no_instrs, instr, Branches, no_branches, branch, Bindings, no_bindings, binding, Instr, Branch, Binding, instrs, branches, bindings}
use Rattle.spec_items.specs.Lifted.{parameters_for, passed_for}
use Rattle.xt_lift.specs.Parameters.{parameter, passed}

abbrev pub kept : List Instr → Instrs → Instrs
kept [] more = more
kept (i ∷ is) more = instr i.site i.form (kept is more)

pub kept_all : (is : List Instr) → kept is no_instrs ≡ instrs is
kept_all [] = refl
kept_all (i ∷ is) = ap (λ more. instr i.site i.form more) (kept_all is)

pub kept_more : (is : List Instr) (i : Instr) (more : Instrs) → kept (is ++ i ∷ []) more ≡ kept is (instr i.site i.form more)
kept_more [] i more = refl
kept_more (first ∷ is) i more = ap (λ left. instr first.site first.form left) (kept_more is i more)

abbrev pub kept_branches : List Branch → Branches → Branches
kept_branches [] more = more
kept_branches (b ∷ bs) more = branch b.site b.test b.content (kept_branches bs more)

pub kept_all_branches : (bs : List Branch) → kept_branches bs no_branches ≡ branches bs
kept_all_branches [] = refl
kept_all_branches (b ∷ bs) = ap (λ more. branch b.site b.test b.content more) (kept_all_branches bs)

pub kept_more_branches : (bs : List Branch) (b : Branch) (more : Branches) → kept_branches (bs ++ b ∷ []) more ≡ kept_branches bs (branch b.site b.test b.content more)
kept_more_branches [] b more = refl
kept_more_branches (first ∷ bs) b more = ap (λ left. branch first.site first.test first.content left) (kept_more_branches bs b more)

abbrev pub kept_bindings : List Binding → Bindings → Bindings
kept_bindings [] more = more
kept_bindings (b ∷ bs) more = binding b.site b.name b.select b.content (kept_bindings bs more)

pub kept_all_bindings : (bs : List Binding) → kept_bindings bs no_bindings ≡ bindings bs
kept_all_bindings [] = refl
kept_all_bindings (b ∷ bs) = ap (λ more. binding b.site b.name b.select b.content more) (kept_all_bindings bs)

pub kept_more_bindings : (bs : List Binding) (b : Binding) (more : Bindings) → kept_bindings (bs ++ b ∷ []) more ≡ kept_bindings bs (binding b.site b.name b.select b.content more)
kept_more_bindings [] b more = refl
kept_more_bindings (first ∷ bs) b more = ap (λ left. binding first.site first.name first.select first.content left) (kept_more_bindings bs b more)

-- ---- Parameters

pub parameters_listed : (site : Site) (names : List Expanded) → bindings (map (parameter site) names) ≡ parameters_for site names
parameters_listed site [] = refl
parameters_listed site (name ∷ names) = ap (λ more. binding site name None no_instrs more) (parameters_listed site names)

pub passed_listed : (site : Site) (names : List Expanded) → bindings (map (passed site) names) ≡ passed_for site names
passed_listed site [] = refl
passed_listed site (name ∷ names) = ap (λ more. binding site name (Some (variable name)) no_instrs more) (passed_listed site names)
