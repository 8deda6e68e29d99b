use Rattle.std.proofs.Common.{Ok, sym, ◌∙◌}
use Rattle.xt_syntax.specs.PartView.{pattern_of}
use Rattle.xt_attributes.specs.Answers.{finds_done, finds_pattern}
use Rattle.xt_attributes.proofs.Patterns.{found, refused}
use Rattle.xt_attributes.proofs.read.pattern_value.Goals as goal

pub returns-in-Ok : goal.returns-in-Ok
returns-in-Ok c =
    finds_pattern (Ok (pattern_of c.in-Ok.pattern)) (found c.args.scope.now _ c.args.text.now c.parse_pattern.result c.in-Ok.pattern c.in-Ok.is c.parse_pattern.ensures c.as_str.ensures.characters)
    (finds_done c.known_pattern.ensures)

pub returns-in-Some : goal.returns-in-Some
returns-in-Some c =
    refused c.args.scope.now _ c.args.text.now c.parse_pattern.result c.in-Err.fault c.in-Some.code c.in-Err.is c.parse_pattern.ensures c.as_str.ensures.characters (sym c.code.ensures ∙ c.in-Some.is)
