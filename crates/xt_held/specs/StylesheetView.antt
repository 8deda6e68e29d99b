-- What modules are compiled to.
use Rattle.std.specs.Prelude.{ℕ, ◌≡◌, List, Option, None, Some, Result, Ok, Err, bytes_eq, if◌then◌else◌}
use Rattle.spec_document.specs.Forest.{Plain}
use Rattle.spec_stylesheet.specs.Sheet as plain
use Rattle.spec_structure.specs.Modules.{Modules}
use Rattle.spec_compile.specs.Sheet as compile
use Rattle.spec_compile.specs.Sheet.{IsSheet}
use Rattle.spec_run.specs.Documents.{main_name}
use Rattle.spec_items.specs.Liftable.{with_items}
use Rattle.xt_syntax.specs.SheetView.{space_rules_of}
use Rattle.xt_compile.specs.View.{refusal_in}
pub use Rattle.xt_world.specs.Answering.{AnswersAs, AnswersGiven}
use Rattle.xt_held.specs.declared.stylesheet.Compiled.{Compiled}
use Rattle.xt_held.specs.declared.stylesheet.Compiled.TheVariants.{Stylesheet, Refused}

-- the modules with this one of this name, in place of the one before
abbrev pub with_one : List ℕ → Plain → Modules → Modules
with_one name nodes modules = λ other. if bytes_eq other name then Some nodes else modules other

-- the modules without this one
abbrev pub without_one : List ℕ → Modules → Modules
without_one name modules = λ other. if bytes_eq other name then None else modules other

-- there is a module of this name
abbrev pub IsThere : Modules → List ℕ → Type 0
IsThere modules name = (tree : Plain) × (modules name ≡ Some tree)

-- it is run as this stylesheet, of which it holds the rules for white space and the output method; its elements are called by these numbers where they
-- tell its units apart
abbrev pub RunsBy : List ℕ → Compiled → plain.Sheet → Type 0
RunsBy numbers (Stylesheet held rules method) sheet =
    AnswersGiven numbers held sheet × (space_rules_of rules ≡ sheet.space_rules) × (method ≡ sheet.method)
RunsBy numbers (Refused why) sheet = ⊥

-- What is run has the content of each xsl:for-each in a template of its own, so that each item is an instantiation. No outcome tells it from the stylesheet
-- that the modules are
abbrev pub Holds : Compiled → Result plain.Sheet compile.Refusal → Type 0
Holds (Stylesheet held rules method) result =
    (sheet : plain.Sheet) × (result ≡ Ok sheet) × AnswersAs held (with_items sheet) × (space_rules_of rules ≡ (with_items sheet).space_rules)
    × (method ≡ (with_items sheet).method)
Holds (Refused why) result = result ≡ Err (refusal_in why)

-- it can be run
abbrev pub IsStylesheet : Option Compiled → Type 0
IsStylesheet None = ⊥
IsStylesheet (Some (Refused why)) = ⊥
IsStylesheet (Some (Stylesheet held rules method)) = Unit {0}

-- it is what modules are
pub record IsCompiledFrom (modules : Modules) (compiled : Compiled) : Type 0 where
  pub result : Result plain.Sheet compile.Refusal
  pub is : IsSheet modules main_name result
  pub holds : Holds compiled result

-- there is something where there is a principal module
abbrev pub AreCompiledBy : Modules → Option Plain → Option Compiled → Type 0
AreCompiledBy modules None None = Unit {0}
AreCompiledBy modules None (Some compiled) = ⊥
AreCompiledBy modules (Some main) None = ⊥
AreCompiledBy modules (Some main) (Some compiled) = IsCompiledFrom modules compiled

pub record AreCompiled (modules : Modules) (compiled : Option Compiled) : Type 0 where
  pub so : AreCompiledBy modules (modules main_name) compiled
