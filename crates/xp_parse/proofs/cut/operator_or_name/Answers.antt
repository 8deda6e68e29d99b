use Rattle.std.proofs.Common.{true, refl, sym, ap}
use Rattle.std.specs.Prelude.{codes}
use Rattle.spec_expression.specs.Token.{word}
use Rattle.xp_parse.proofs.Cuts.{is_word}
use Rattle.xp_parse.proofs.Names.{no_operator}
use Rattle.xp_parse.proofs.cut.operator_or_name.Goals as goal

pub returns-in-or : goal.returns-in-or
unfolding word
returns-in-or c = sym (ap (word true) (is_word c.args.name.now (codes "or") refl c.in-or.is))

pub returns-in-and : goal.returns-in-and
unfolding word
returns-in-and c = sym (ap (word true) (is_word c.args.name.now (codes "and") refl c.in-and.is))

pub returns-in-div : goal.returns-in-div
unfolding word
returns-in-div c = sym (ap (word true) (is_word c.args.name.now (codes "div") refl c.in-div.is))

pub returns-in-mod : goal.returns-in-mod
unfolding word
returns-in-mod c = sym (ap (word true) (is_word c.args.name.now (codes "mod") refl c.in-mod.is))

pub returns-in_default : goal.returns-in_default
returns-in_default c = no_operator c.args.name.now c.utf8.name (record {
  not_or = c.in_default.not-or;
  not_and = c.in_default.not-and;
  not_div = c.in_default.not-div;
  not_mod = c.in_default.not-mod;
})
