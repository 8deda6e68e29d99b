use Rattle.std.proofs.Common.{refl, sym, ap}
use Rattle.std.specs.Prelude.{codes}
use Rattle.spec_expression.specs.Grammar.{type_named}
use Rattle.xp_parse.proofs.Cuts.{is_word}
use Rattle.xp_parse.proofs.Names.{no_type_named}
use Rattle.xp_parse.proofs.read.type_named.Goals as goal

pub returns-in-comment : goal.returns-in-comment
unfolding type_named
returns-in-comment c = sym (ap type_named (is_word c.args.name.now (codes "comment") refl c.in-comment.is))

pub returns-in-text : goal.returns-in-text
unfolding type_named
returns-in-text c = sym (ap type_named (is_word c.args.name.now (codes "text") refl c.in-text.is))

pub returns-in-text-2 : goal.returns-in-text-2
unfolding type_named
returns-in-text-2 c = sym (ap type_named (is_word c.args.name.now (codes "processing-instruction") refl c.in-text-2.is))

pub returns-in-node : goal.returns-in-node
unfolding type_named
returns-in-node c = sym (ap type_named (is_word c.args.name.now (codes "node") refl c.in-node.is))

pub returns-in_default : goal.returns-in_default
returns-in_default c = sym (no_type_named c.args.name.now c.utf8.name (record {
  not_comment = c.in_default.not-comment;
  not_text = c.in_default.not-text;
  not_processing_instruction = c.in_default.not-text-2;
  not_node = c.in_default.not-node;
}))
