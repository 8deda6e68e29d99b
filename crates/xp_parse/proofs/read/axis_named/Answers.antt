use Rattle.std.proofs.Common.{refl, sym, ap}
use Rattle.std.specs.Prelude.{codes}
use Rattle.spec_expression.specs.Grammar.{axis_named}
use Rattle.xp_parse.proofs.Cuts.{is_word}
use Rattle.xp_parse.proofs.Names.{no_axis_named}
use Rattle.xp_parse.proofs.read.axis_named.Goals as goal

pub returns-in-ancestor : goal.returns-in-ancestor
unfolding axis_named
returns-in-ancestor c = sym (ap axis_named (is_word c.args.name.now (codes "ancestor") refl c.in-ancestor.is))

pub returns-in-text : goal.returns-in-text
unfolding axis_named
returns-in-text c = sym (ap axis_named (is_word c.args.name.now (codes "ancestor-or-self") refl c.in-text.is))

pub returns-in-attribute : goal.returns-in-attribute
unfolding axis_named
returns-in-attribute c = sym (ap axis_named (is_word c.args.name.now (codes "attribute") refl c.in-attribute.is))

pub returns-in-child : goal.returns-in-child
unfolding axis_named
returns-in-child c = sym (ap axis_named (is_word c.args.name.now (codes "child") refl c.in-child.is))

pub returns-in-descendant : goal.returns-in-descendant
unfolding axis_named
returns-in-descendant c = sym (ap axis_named (is_word c.args.name.now (codes "descendant") refl c.in-descendant.is))

pub returns-in-text-2 : goal.returns-in-text-2
unfolding axis_named
returns-in-text-2 c = sym (ap axis_named (is_word c.args.name.now (codes "descendant-or-self") refl c.in-text-2.is))

pub returns-in-following : goal.returns-in-following
unfolding axis_named
returns-in-following c = sym (ap axis_named (is_word c.args.name.now (codes "following") refl c.in-following.is))

pub returns-in-text-3 : goal.returns-in-text-3
unfolding axis_named
returns-in-text-3 c = sym (ap axis_named (is_word c.args.name.now (codes "following-sibling") refl c.in-text-3.is))

pub returns-in-namespace : goal.returns-in-namespace
unfolding axis_named
returns-in-namespace c = sym (ap axis_named (is_word c.args.name.now (codes "namespace") refl c.in-namespace.is))

pub returns-in-parent : goal.returns-in-parent
unfolding axis_named
returns-in-parent c = sym (ap axis_named (is_word c.args.name.now (codes "parent") refl c.in-parent.is))

pub returns-in-preceding : goal.returns-in-preceding
unfolding axis_named
returns-in-preceding c = sym (ap axis_named (is_word c.args.name.now (codes "preceding") refl c.in-preceding.is))

pub returns-in-text-4 : goal.returns-in-text-4
unfolding axis_named
returns-in-text-4 c = sym (ap axis_named (is_word c.args.name.now (codes "preceding-sibling") refl c.in-text-4.is))

pub returns-in-self : goal.returns-in-self
unfolding axis_named
returns-in-self c = sym (ap axis_named (is_word c.args.name.now (codes "self") refl c.in-self.is))

pub returns-in_default : goal.returns-in_default
returns-in_default c = sym (no_axis_named c.args.name.now c.utf8.name (record {
  not_ancestor = c.in_default.not-ancestor;
  not_ancestor_or_self = c.in_default.not-text;
  not_attribute = c.in_default.not-attribute;
  not_child = c.in_default.not-child;
  not_descendant = c.in_default.not-descendant;
  not_descendant_or_self = c.in_default.not-text-2;
  not_following = c.in_default.not-following;
  not_following_sibling = c.in_default.not-text-3;
  not_namespace = c.in_default.not-namespace;
  not_parent = c.in_default.not-parent;
  not_preceding = c.in_default.not-preceding;
  not_preceding_sibling = c.in_default.not-text-4;
  not_self = c.in_default.not-self;
}))
