-- Names of no axis, of no node type and of no operator.
use Rattle.std.proofs.Common.{◌≡◌, ℕ, true, List, None, refl}
use Rattle.std.specs.Prelude.{codes}
use Rattle.std.specs.Str.{chars, IsUtf8}
use Rattle.spec_expression.specs.Grammar.{axis_named, type_named}
use Rattle.spec_expression.specs.Token.{Name, word, unprefixed}
use Rattle.xp_parse.proofs.Cuts.{is_not}

-- the text is the name of no axis
pub record NoAxisName (name : List ℕ) : Type 0 where
  pub not_ancestor : name ≡ codes "ancestor" → ⊥
  pub not_ancestor_or_self : name ≡ codes "ancestor-or-self" → ⊥
  pub not_attribute : name ≡ codes "attribute" → ⊥
  pub not_child : name ≡ codes "child" → ⊥
  pub not_descendant : name ≡ codes "descendant" → ⊥
  pub not_descendant_or_self : name ≡ codes "descendant-or-self" → ⊥
  pub not_following : name ≡ codes "following" → ⊥
  pub not_following_sibling : name ≡ codes "following-sibling" → ⊥
  pub not_namespace : name ≡ codes "namespace" → ⊥
  pub not_parent : name ≡ codes "parent" → ⊥
  pub not_preceding : name ≡ codes "preceding" → ⊥
  pub not_preceding_sibling : name ≡ codes "preceding-sibling" → ⊥
  pub not_self : name ≡ codes "self" → ⊥

pub no_axis_named : (name : List ℕ) → IsUtf8 name → NoAxisName name → axis_named (chars name) ≡ None
unfolding axis_named
no_axis_named name u n = rw (
  is_not name (codes "ancestor") u refl n.not_ancestor,
  is_not name (codes "ancestor-or-self") u refl n.not_ancestor_or_self,
  is_not name (codes "attribute") u refl n.not_attribute,
  is_not name (codes "child") u refl n.not_child,
  is_not name (codes "descendant") u refl n.not_descendant,
  is_not name (codes "descendant-or-self") u refl n.not_descendant_or_self,
  is_not name (codes "following") u refl n.not_following,
  is_not name (codes "following-sibling") u refl n.not_following_sibling,
  is_not name (codes "namespace") u refl n.not_namespace,
  is_not name (codes "parent") u refl n.not_parent,
  is_not name (codes "preceding") u refl n.not_preceding,
  is_not name (codes "preceding-sibling") u refl n.not_preceding_sibling,
  is_not name (codes "self") u refl n.not_self,
) refl

-- the text is the name of no node type
pub record NoTypeName (name : List ℕ) : Type 0 where
  pub not_comment : name ≡ codes "comment" → ⊥
  pub not_text : name ≡ codes "text" → ⊥
  pub not_processing_instruction : name ≡ codes "processing-instruction" → ⊥
  pub not_node : name ≡ codes "node" → ⊥

pub no_type_named : (name : List ℕ) → IsUtf8 name → NoTypeName name → type_named (chars name) ≡ None
unfolding type_named
no_type_named name u n = rw (
  is_not name (codes "comment") u refl n.not_comment,
  is_not name (codes "text") u refl n.not_text,
  is_not name (codes "processing-instruction") u refl n.not_processing_instruction,
  is_not name (codes "node") u refl n.not_node,
) refl

-- the text is no operator's name
pub record NoOperatorName (name : List ℕ) : Type 0 where
  pub not_or : name ≡ codes "or" → ⊥
  pub not_and : name ≡ codes "and" → ⊥
  pub not_div : name ≡ codes "div" → ⊥
  pub not_mod : name ≡ codes "mod" → ⊥

pub no_operator : (name : List ℕ) → IsUtf8 name → NoOperatorName name → Name (unprefixed (chars name)) ≡ word true (chars name)
unfolding word
no_operator name u n = rw (
  is_not name (codes "or") u refl n.not_or,
  is_not name (codes "and") u refl n.not_and,
  is_not name (codes "div") u refl n.not_div,
  is_not name (codes "mod") u refl n.not_mod,
) refl
