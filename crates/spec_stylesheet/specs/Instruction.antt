-- Instructions with their contents (XSLT 1.0, sections 5 to 13).
use Rattle.std.specs.Prelude.{ℕ, Bool, List, [], ◌∷◌, Option}
use Rattle.spec_document.specs.Name.{Expanded}
use Rattle.spec_expression.specs.Syntax.{Expr}
use Rattle.spec_stylesheet.specs.declared.number_level.NumberLevel.{NumberLevel}
use Rattle.spec_stylesheet.specs.Place.{Site}
use Rattle.spec_stylesheet.specs.Pattern.{Pattern}
use Rattle.spec_stylesheet.specs.ValueTemplate.{Avt}

-- sort keys (section 10)
pub record SortKey : Type 0 where
  pub site : Site
  pub select : Expr
  pub data_type : Avt
  pub order : Avt

-- how nodes are counted (section 7.7)
pub record Count : Type 0 where
  pub level : NumberLevel
  pub count : Option Pattern
  pub from : Option Pattern

pub data NumberSource : Type 0 where
  FromValue : (value : Expr) → NumberSource
  FromCount : (count : Count) → NumberSource

pub record Numbering : Type 0 where
  pub source : NumberSource
  pub format : Avt
  pub grouping_separator : Option Avt
  pub grouping_size : Option Avt

-- names that are made (sections 7.1.2 and 7.1.3)
pub record MadeName : Type 0 where
  pub name : Avt
  pub namespace : Option Avt

-- literal result elements (section 7.1.1); the namespaces that they bring along, each as prefix and URI
pub record LiteralAttribute : Type 0 where
  pub prefix : List ℕ
  pub name : Expanded
  pub value : Avt

pub record LiteralTag : Type 0 where
  pub prefix : List ℕ
  pub name : Expanded
  pub namespaces : List (List ℕ × List ℕ)
  pub sets : List Expanded
  pub attributes : List LiteralAttribute

-- what xsl:apply-templates takes (section 5.4)
pub record Selection : Type 0 where
  pub select : Expr
  pub mode : Option Expanded
  pub keys : List SortKey

-- instructions without a content
pub data WithoutContent : Type 0 where
  Text : (text : List ℕ) → WithoutContent
  ValueOf : (select : Expr) → WithoutContent
  CopyOf : (select : Expr) → WithoutContent
  Number : (numbering : Numbering) → WithoutContent
  ApplyImports : WithoutContent
  Fallback : WithoutContent

-- instructions that make something of their one content, without it
pub data WithContent : Type 0 where
  Literal : (tag : LiteralTag) → WithContent
  Element : (name : MadeName) → (sets : List Expanded) → WithContent
  Attribute : (name : MadeName) → WithContent
  Comment : WithContent
  ProcessingInstruction : (target : Avt) → WithContent
  Copy : (sets : List Expanded) → WithContent
  Variable : (name : Expanded) → (select : Option Expr) → WithContent
  Message : (terminates : Bool) → WithContent

mutual
  pub data Form : Type 0 where
    without_content : WithoutContent → Form
    with_content : WithContent → (content : Instrs) → Form
    control : Control → Form

  -- instructions that say whether, how often or which contents run
  pub data Control : Type 0 where
    for_each : (select : Expr) → (keys : List SortKey) → (content : Instrs) → Control
    -- an xsl:for-each whose content stands in a template of its own, of this name, to which these are passed. No document has it
    for_items : (select : Expr) → (keys : List SortKey) → (name : Expanded) → Bindings → Control
    conditional : (test : Expr) → (content : Instrs) → Control  -- xsl:if
    choose : Branches → Control
    apply_templates : Selection → Bindings → Control
    call_template : (name : Expanded) → Bindings → Control

  -- a content
  pub data Instrs : Type 0 where
    no_instrs : Instrs
    instr : Site → Form → Instrs → Instrs

  -- xsl:when, and xsl:otherwise, which has no test
  pub data Branches : Type 0 where
    no_branches : Branches
    branch : Site → (test : Option Expr) → (content : Instrs) → Branches → Branches

  -- xsl:param and xsl:with-param
  pub data Bindings : Type 0 where
    no_bindings : Bindings
    binding : Site → (name : Expanded) → (select : Option Expr) → (content : Instrs) → Bindings → Bindings

-- one of each by itself
pub record Instr : Type 0 where
  pub site : Site
  pub form : Form

pub record Branch : Type 0 where
  pub site : Site
  pub test : Option Expr
  pub content : Instrs

pub record Binding : Type 0 where
  pub site : Site
  pub name : Expanded
  pub select : Option Expr
  pub content : Instrs

abbrev pub instrs : List Instr → Instrs
instrs [] = no_instrs
instrs (i ∷ is) = instr i.site i.form (instrs is)

abbrev pub branches : List Branch → Branches
branches [] = no_branches
branches (b ∷ bs) = branch b.site b.test b.content (branches bs)

abbrev pub bindings : List Binding → Bindings
bindings [] = no_bindings
bindings (b ∷ bs) = binding b.site b.name b.select b.content (bindings bs)
