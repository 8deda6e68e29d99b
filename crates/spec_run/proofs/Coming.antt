-- Documents have at most one outcome, and do not lack one where their modules are finitely many.
use Rattle.std.proofs.Common.{◌≡◌, ℕ, true, List, Option, None, Some, Result, refl, sym, ap, ◌∙◌}
use Rattle.spec_document.specs.Forest.{Plain}
use Rattle.spec_stylesheet.specs.Sheet.{Sheet}
use Rattle.spec_structure.specs.Modules.{Modules, is_among}
use Rattle.spec_compile.specs.Sheet as compile
use Rattle.spec_compile.specs.Sheet.{IsSheet}
use Rattle.spec_compile.proofs.Answers.{IsNotWanting}
use Rattle.spec_run.specs.Documents.{Parameters, Documents, main_name}
use Rattle.spec_run.specs.Outcome.{Outcome, outcome_of, Comes, IsOutcome}

-- ---- The stylesheet

abbrev pub OneSheet : Type 0
OneSheet = (modules : Modules) (main : List ℕ) (r s : Result Sheet compile.Refusal) → IsSheet modules main r → IsSheet modules main s → r ≡ s

abbrev pub Finite : Modules → List (List ℕ) → Type 0
Finite modules names = (name : List ℕ) (its : Plain) → modules name ≡ Some its → is_among name names ≡ true

abbrev pub SomeSheet : Type 0
SomeSheet =
    (modules : Modules) (names : List (List ℕ)) (main : List ℕ) (tree : Plain) → Finite modules names → modules main ≡ Some tree → IsNotWanting (IsSheet modules main)

-- ---- The outcome

one_comes : OneSheet → (modules : Modules) (parameters : Parameters) (main source : Option Plain) (a b : Outcome)
    → Comes modules parameters main source a → Comes modules parameters main source b → a ≡ b
one_comes sheets modules parameters None source a b h g = h ∙ sym g
one_comes sheets modules parameters (Some main) None a b h g = h ∙ sym g
one_comes sheets modules parameters (Some main) (Some source) a b h g =
    h.2 ∙ ap (outcome_of parameters source) (sheets modules main_name h.0 g.0 h.1 g.1) ∙ sym g.2

some_comes : SomeSheet → (modules : Modules) (parameters : Parameters) (names : List (List ℕ)) → Finite modules names → (main source : Option Plain)
    → modules main_name ≡ main → IsNotWanting (Comes modules parameters main source)
some_comes sheets modules parameters names finite None source is none = none (_, refl)
some_comes sheets modules parameters names finite (Some main) None is none = none (_, refl)
some_comes sheets modules parameters names finite (Some main) (Some source) is none =
    sheets modules names main_name main finite is (λ r. none (outcome_of parameters source r.0, (r.0, r.1, refl)))

pub one_outcome_lem : OneSheet → (documents : Documents) (one other : Outcome) → IsOutcome documents one → IsOutcome documents other → one ≡ other
one_outcome_lem sheets documents a b h g = one_comes sheets documents.modules documents.parameters (documents.modules main_name) documents.source a b h g

pub some_outcome : SomeSheet → (documents : Documents) (names : List (List ℕ)) → Finite documents.modules names → IsNotWanting (IsOutcome documents)
some_outcome sheets documents names finite = some_comes sheets documents.modules documents.parameters names finite (documents.modules main_name) documents.source refl
