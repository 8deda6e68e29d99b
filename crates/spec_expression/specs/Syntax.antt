-- The trees of expressions (XPath 1.0, section 3). Chains of operators, signs, steps and predicates
-- are lists, so a tree is no deeper than brackets nest. Names are expanded.
use Rattle.std.specs.Prelude.{ℕ, zero, suc, List, [], ◌∷◌}
use Rattle.spec_document.specs.Name.{Expanded}
use Rattle.spec_document.specs.declared.axis.Axis.{Axis}
use Rattle.spec_expression.specs.declared.NodeType.{NodeType}
use Rattle.spec_expression.specs.declared.NodeType.TheVariants.{Node}
use Rattle.spec_expression.specs.declared.Operator.{Operator}

-- a node test
pub data Test : Type 0 where
  AnyName : Test  -- *
  InNamespace : (uri : List ℕ) → Test  -- p:*
  Named : (name : Expanded) → Test  -- a, p:a
  OfType : (type : NodeType) → Test  -- comment(), text(), node(), processing-instruction()
  Instruction : (target : List ℕ) → Test  -- processing-instruction('x')

mutual
  pub data Expr : Type 0 where
    number : ℕ → Expr
    literal : List ℕ → Expr
    variable : Expanded → Expr
    call : Expanded → Exprs → Expr
    -- the first operand, and the further ones with the operators before them, which group to the left
    chain : Expr → Links → Expr
    -- so many signs `-` before an operand, at least one
    negation : ℕ → Expr → Expr
    -- a primary expression with at least one predicate
    filter : Expr → Exprs → Expr
    -- the root of the document
    root : Expr
    -- the context node
    here : Expr
    -- steps from the nodes of an expression, at least one
    path : Expr → Steps → Expr

  -- arguments, predicates
  pub data Exprs : Type 0 where
    no_exprs : Exprs
    expr : Expr → Exprs → Exprs

  pub data Links : Type 0 where
    no_links : Links
    link : Operator → Expr → Links → Links

  pub data Steps : Type 0 where
    no_steps : Steps
    step : Axis → Test → Exprs → Steps → Steps

-- a further operand of a chain, and a step, by themselves
pub record Link : Type 0 where
  pub operator : Operator
  pub operand : Expr

pub record Step : Type 0 where
  pub axis : Axis
  pub test : Test
  pub predicates : Exprs

abbrev pub exprs : List Expr → Exprs
exprs [] = no_exprs
exprs (e ∷ es) = expr e (exprs es)

abbrev pub links : List Link → Links
links [] = no_links
links (l ∷ ls) = link l.operator l.operand (links ls)

abbrev pub steps : List Step → Steps
steps [] = no_steps
steps (s ∷ ss) = step s.axis s.test s.predicates (steps ss)

-- a form of expression that is there only where its list is not empty
abbrev pub chained : Expr → List Link → Expr
chained e [] = e
chained e (l ∷ ls) = chain e (links (l ∷ ls))

abbrev pub negated : ℕ → Expr → Expr
negated zero e = e
negated (suc n) e = negation (suc n) e

abbrev pub filtered : Expr → List Expr → Expr
filtered e [] = e
filtered e (p ∷ ps) = filter e (exprs (p ∷ ps))

abbrev pub stepped : Expr → List Step → Expr
stepped e [] = e
stepped e (s ∷ ss) = path e (steps (s ∷ ss))

-- what `.`, `..` and `//` abbreviate: self::node(), parent::node(), descendant-or-self::node()
abbrev pub node_on : Axis → Step
node_on axis = record { axis = axis; test = OfType Node; predicates = no_exprs }
