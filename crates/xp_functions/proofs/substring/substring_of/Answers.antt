use Rattle.std.proofs.Common.{ℕ, List, [], ◌∷◌, drop, map, refl, ap, ◌∙◌}
use Rattle.spec_expression.specs.Strings.{substring}
use Rattle.spec_meaning.specs.Value.{Text}
use Rattle.spec_meaning.specs.Convert.{to_text, to_number}
use Rattle.spec_meaning.specs.Call.{argument, length_argument}
use Rattle.xt_tree.specs.ValueView.{value_of}
use Rattle.xt_tree.specs.declared.value.Value.{Value}
use Rattle.xt_questions.proofs.Steps.{runs_then, runs_stop, runs_gives, runs_memory, exits}
use Rattle.xp_functions.proofs.Within.{runs_as, second_is, third_is}
use Rattle.xp_functions.proofs.substring.substring_of.Goals as goal

pub returns-in_err-text-clause-runs : goal.returns-in_err-text-clause-runs
returns-in_err-text-clause-runs g c supply depth = exits _ c.from_residual.ensures.1 (runs_stop _ (runs_as (ap to_text c.take_first-first.ensures.value) (c.in_err-text.ensures.runs supply depth)))

pub returns-in_err-start-clause-runs : goal.returns-in_err-start-clause-runs
returns-in_err-start-clause-runs g c supply depth =
    exits _ c.from_residual-in_err-start.ensures.1 (runs_then _ (runs_as (ap to_text c.take_first-first.ensures.value) (c.in_ok-text.ensures.runs supply depth))
    (runs_stop _ (runs_as (ap to_number (c.take_first-second.ensures.value ∙ ap (λ (l : List Value). argument (map value_of l) 0) c.take_first-first.ensures.rest ∙ second_is c.args.arguments.items)) (c.in_err-start.ensures.runs supply depth))))

pub returns-in_err-count-clause-runs : goal.returns-in_err-count-clause-runs
returns-in_err-count-clause-runs g c supply depth =
    exits _ c.from_residual-in_err-count.ensures.1 (runs_then _ (runs_as (ap to_text c.take_first-first.ensures.value) (c.in_ok-text.ensures.runs supply depth))
    (runs_then _ (runs_as (ap to_number (c.take_first-second.ensures.value ∙ ap (λ (l : List Value). argument (map value_of l) 0) c.take_first-first.ensures.rest ∙ second_is c.args.arguments.items)) (c.in_ok-start.ensures.runs supply depth))
    (runs_stop _ (runs_as (ap (λ (l : List Value). length_argument (Text [] ∷ Text [] ∷ map value_of l)) (c.as_slice.ensures.value ∙ c.take_first-second.ensures.rest ∙ ap (λ (l : List Value). drop 1 l) c.take_first-first.ensures.rest) ∙ third_is c.args.arguments.items) (c.in_err-count.ensures.runs supply depth)))))

pub returns-in_err-part-clause-runs : goal.returns-in_err-part-clause-runs
returns-in_err-part-clause-runs g c supply depth =
    exits _ c.from_residual-in_err-part.ensures.1 (runs_then _ (runs_as (ap to_text c.take_first-first.ensures.value) (c.in_ok-text.ensures.runs supply depth))
    (runs_then _ (runs_as (ap to_number (c.take_first-second.ensures.value ∙ ap (λ (l : List Value). argument (map value_of l) 0) c.take_first-first.ensures.rest ∙ second_is c.args.arguments.items)) (c.in_ok-start.ensures.runs supply depth))
    (runs_then _ (runs_as (ap (λ (l : List Value). length_argument (Text [] ∷ Text [] ∷ map value_of l)) (c.as_slice.ensures.value ∙ c.take_first-second.ensures.rest ∙ ap (λ (l : List Value). drop 1 l) c.take_first-first.ensures.rest) ∙ third_is c.args.arguments.items) (c.in_ok-count.ensures.runs supply depth)) (runs_memory refl refl))))

pub returns-clause-runs : goal.returns-clause-runs
returns-clause-runs g c supply depth =
    runs_then _ (runs_as (ap to_text c.take_first-first.ensures.value) (c.in_ok-text.ensures.runs supply depth))
    (runs_then _ (runs_as (ap to_number (c.take_first-second.ensures.value ∙ ap (λ (l : List Value). argument (map value_of l) 0) c.take_first-first.ensures.rest ∙ second_is c.args.arguments.items)) (c.in_ok-start.ensures.runs supply depth))
    (runs_then _ (runs_as (ap (λ (l : List Value). length_argument (Text [] ∷ Text [] ∷ map value_of l)) (c.as_slice.ensures.value ∙ c.take_first-second.ensures.rest ∙ ap (λ (l : List Value). drop 1 l) c.take_first-first.ensures.rest) ∙ third_is c.args.arguments.items) (c.in_ok-count.ensures.runs supply depth))
    (runs_gives (ap Text (c.in_ok-part.ensures {u = tt} ∙ ap (λ (l : List ℕ). substring l c.in_ok-start.start c.in_ok-count.count) c.as_str.ensures.characters)))))
