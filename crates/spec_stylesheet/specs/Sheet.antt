-- Units and stylesheets (XSLT 1.0, section 2).
use Rattle.std.specs.Prelude.{ℕ, ℤ, Bool, List, Option}
use Rattle.spec_document.specs.Name.{Expanded}
use Rattle.spec_expression.specs.Syntax as tree
use Rattle.spec_stylesheet.specs.declared.method.Method.{Method}
use Rattle.spec_stylesheet.specs.Place.{Site}
use Rattle.spec_stylesheet.specs.Pattern.{Pattern}
use Rattle.spec_stylesheet.specs.Instruction.{Instrs, Bindings, Binding}

-- template rules (section 5)
pub record Rule : Type 0 where
  pub pattern : Pattern
  pub precedence : ℕ
  pub imported : ℕ
  pub priority : ℤ
  pub order : ℕ
  pub mode : Option Expanded
  pub unit : ℕ

pub record Rules : Type 0 where
  pub rules : List Rule

-- which elements lose their texts of white space (section 3.4)
pub record SpaceRule : Type 0 where
  pub test : tree.Test
  pub precedence : ℕ
  pub priority : ℤ
  pub strips : Bool

pub record SpaceRules : Type 0 where
  pub rules : List SpaceRule

-- templates (sections 5.3 and 6)
pub record Template : Type 0 where
  pub name : Option Expanded
  pub parameters : Bindings
  pub content : Instrs

-- global variables and parameters (section 11.4)
pub record GlobalBinding : Type 0 where
  pub is_parameter : Bool
  pub binding : Binding

-- attribute sets (section 7.1.4)
pub record AttributeSet : Type 0 where
  pub name : Expanded
  pub sets : List Expanded
  pub attributes : Instrs

-- keys (section 12.2)
pub record Key : Type 0 where
  pub name : Expanded
  pub pattern : Pattern
  pub value : tree.Expr

pub data Declared : Type 0 where
  ATemplate : Template → Declared
  AGlobal : GlobalBinding → Declared
  ASet : AttributeSet → Declared
  AKey : Key → Declared

-- what is run by itself: its place always has a module
pub record Unit : Type 0 where
  pub site : Site
  pub precedence : ℕ
  pub declared : Declared

-- namespace aliases (section 7.1.1)
pub record Alias : Type 0 where
  pub stylesheet : List ℕ
  pub prefix : List ℕ
  pub result : List ℕ

pub record Sheet : Type 0 where
  pub units : List Unit
  pub rules : Rules
  pub space_rules : SpaceRules
  pub method : Option (Method Expanded)
  pub aliases : List Alias
