use Rattle.std.proofs.Common.{List, map, refl, ap, ◌∙◌}
use Rattle.spec_meaning.specs.Convert.{to_text}
use Rattle.spec_meaning.specs.Call.{argument, keyed, name_meant}
use Rattle.xt_tree.specs.ValueView.{value_of}
use Rattle.xt_tree.specs.declared.value.Value.{Value}
use Rattle.xt_questions.proofs.Steps.{runs_then, runs_stop, runs_gives, exits}
use Rattle.xp_functions.proofs.Within.{runs_as, second_is}
use Rattle.xp_functions.proofs.key.key_of.Goals as goal

pub returns-in_err-text-clause-runs : goal.returns-in_err-text-clause-runs
returns-in_err-text-clause-runs g c supply depth = exits _ c.from_residual.ensures.1 (runs_stop _ (runs_as (ap to_text c.take_first-first.ensures.value) (c.in_err-text.ensures.runs supply depth)))

pub returns-in_err-name-clause-runs : goal.returns-in_err-name-clause-runs
returns-in_err-name-clause-runs g c supply depth =
    exits _ c.from_residual-in_err-name.ensures.1 (runs_then _ (runs_as (ap to_text c.take_first-first.ensures.value) (c.in_ok-text.ensures.runs supply depth))
    (runs_stop _ (runs_as (ap (name_meant c.args.context.now.scope) c.as_str.ensures.characters) (c.in_err-name.ensures supply depth _))))

pub returns-in_err-nodes-clause-runs : goal.returns-in_err-nodes-clause-runs
returns-in_err-nodes-clause-runs g c supply depth =
    exits _ c.from_residual-in_err-nodes.ensures.1 (runs_then _ (runs_as (ap to_text c.take_first-first.ensures.value) (c.in_ok-text.ensures.runs supply depth))
    (runs_then _ (runs_as (ap (name_meant c.args.context.now.scope) c.as_str.ensures.characters) (c.in_ok-name.ensures supply depth _))
    (runs_stop _ (runs_as (ap (keyed c.in_ok-name.name) (c.take_first-second.ensures.value ∙ ap (λ (l : List Value). argument (map value_of l) 0) c.take_first-first.ensures.rest ∙ second_is c.args.arguments.items)) (c.in_err-nodes.ensures.runs supply depth)))))

pub returns-clause-runs : goal.returns-clause-runs
returns-clause-runs g c supply depth =
    runs_then _ (runs_as (ap to_text c.take_first-first.ensures.value) (c.in_ok-text.ensures.runs supply depth))
    (runs_then _ (runs_as (ap (name_meant c.args.context.now.scope) c.as_str.ensures.characters) (c.in_ok-name.ensures supply depth _))
    (runs_then _ (runs_as (ap (keyed c.in_ok-name.name) (c.take_first-second.ensures.value ∙ ap (λ (l : List Value). argument (map value_of l) 0) c.take_first-first.ensures.rest ∙ second_is c.args.arguments.items)) (c.in_ok-nodes.ensures.runs supply depth)) (runs_gives refl)))
