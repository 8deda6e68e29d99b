-- What the programs come to that the code runs, at its nodes.
use Rattle.std.specs.Prelude.{ℕ, Bool, List, Option}
use Rattle.spec_document.specs.Name.{Expanded}
use Rattle.spec_expression.specs.Number.{Number}
use Rattle.spec_meaning.specs.Question.{Answer}
use Rattle.spec_meaning.specs.Value.{Value}
use Rattle.spec_transform.specs.Key.{Entry}
use Rattle.spec_transform.specs.Numbering.{Counted}
use Rattle.spec_transform.specs.Sorted.{Criterion, KeyValue}
use Rattle.spec_run.specs.Plan.{Wrapping}
use Rattle.spec_node.specs.declared.node_ref.NodeRef.{NodeRef}

pub data ResultType : Type 0 where
  -- an expression, and a call of a function
  AValue : ResultType
  -- an expression as a string, a value template, and an xsl:number
  AText : ResultType
  -- an expression as a boolean, a comparison, and a pattern: whether a node matches it
  ATruth : ResultType
  -- an expression as a number, and what xsl:number writes at a level
  ANumber : ResultType
  -- what xsl:number counts, and how many there are
  WhatCounts : ResultType
  ACount : ResultType
  -- how the keys of an xsl:sort compare, and the key of a node
  ACriterion : ResultType
  ASortKey : ResultType
  -- a value of an xsl:key, with a node that has it
  AnEntry : ResultType
  -- an element, an attribute or a processing instruction that is made
  AWrapping : ResultType
  AName : ResultType
  ANode : ResultType
  -- a single question
  AnAnswer : ResultType
  -- what is run to be refused or not, and for nothing else
  NoResult : ResultType
  -- the template rule that is chosen, by its number; none where it is a built-in rule
  MaybeOf : (type : ResultType) → ResultType
  -- node-sets, the numbers of an xsl:number, and the values of an xsl:key
  ListOf : (type : ResultType) → ResultType

abbrev pub ResultOf : ResultType → Type 0
ResultOf AValue = Value NodeRef
ResultOf AText = List ℕ
ResultOf ATruth = Bool
ResultOf ANumber = Number
ResultOf WhatCounts = Counted NodeRef
ResultOf ACount = ℕ
ResultOf ACriterion = Criterion
ResultOf ASortKey = KeyValue
ResultOf AnEntry = Entry NodeRef
ResultOf AWrapping = Wrapping
ResultOf AName = Expanded
ResultOf ANode = NodeRef
ResultOf AnAnswer = Answer NodeRef
ResultOf NoResult = Unit {0}
ResultOf (MaybeOf type) = Option (ResultOf type)
ResultOf (ListOf type) = List (ResultOf type)
