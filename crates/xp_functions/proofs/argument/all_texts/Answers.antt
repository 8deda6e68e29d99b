use Rattle.std.proofs.Common.{ℕ, List, [], ◌∷◌, ◌++◌, map, refl, ap, ◌∙◌}
use Rattle.spec_meaning.specs.Program.{Program}
use Rattle.spec_meaning.specs.Call.{all_texts}
use Rattle.xt_tree.specs.ValueView.{value_of}
use Rattle.xt_tree.specs.declared.value.Value.{Value}
use Rattle.spec_node.specs.declared.node_ref.NodeRef.{NodeRef}
use Rattle.xt_questions.proofs.Steps.{runs_stop, runs_memory, runs_from, goes_on, exits}
use Rattle.xp_functions.proofs.Within.{continues_as}
use Rattle.xp_functions.proofs.argument.all_texts.Goals as goal

pub returns-in_err-text-clause-runs : goal.returns-in_err-text-clause-runs
returns-in_err-text-clause-runs g c supply depth =
    let s = (c.in-Some.ensures {u = tt}).steps.0 in
    let done = c.loop-value.texts.items in
    let here = continues_as (ap (λ (vs : List Value). all_texts done (map value_of vs)) s) (c.loop-value.invariant.same supply depth) in
    let k : List ℕ → Program NodeRef (List (List ℕ)) = λ t. all_texts (done ++ t ∷ []) (map value_of c.next.new.self.rest.items) in
    exits _ c.from_residual.ensures.1 (runs_from here (runs_stop k (c.in_err-text.ensures.runs supply depth)))

pub loop-value-preserved : goal.loop-value-preserved
loop-value-preserved g c =
    record {
      same = λ supply depth.
          let s = (c.in-Some.ensures {u = tt}).steps.0 in
          let done = c.loop-value.texts.items in
          let here = continues_as (ap (λ (vs : List Value). all_texts done (map value_of vs)) s) (c.loop-value.invariant.same supply depth) in
          let k : List ℕ → Program NodeRef (List (List ℕ)) = λ t. all_texts (done ++ t ∷ []) (map value_of c.next.new.self.rest.items) in
          rw c.in_ok-push.ensures.items (goes_on k here (c.in_ok-text.ensures.runs supply depth));
      name = c.to_text.ensures.name ∙ c.loop-value.invariant.name;
    }

pub returns-in_err-push-clause-runs : goal.returns-in_err-push-clause-runs
returns-in_err-push-clause-runs g c supply depth =
    let s = (c.in-Some.ensures {u = tt}).steps.0 in
    let done = c.loop-value.texts.items in
    let here = continues_as (ap (λ (vs : List Value). all_texts done (map value_of vs)) s) (c.loop-value.invariant.same supply depth) in
    let k : List ℕ → Program NodeRef (List (List ℕ)) = λ t. all_texts (done ++ t ∷ []) (map value_of c.next.new.self.rest.items) in
    exits _ c.from_residual-in_err-push.ensures.1 (runs_from (goes_on k here (c.in_ok-text.ensures.runs supply depth)) (runs_memory refl refl))
