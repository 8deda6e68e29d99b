use Rattle.std.proofs.Common.{◌≡◌, ℕ, List, [], map, refl, ap, ◌∙◌}
use Rattle.std.specs.List.{filter}
use Rattle.spec_meaning.specs.Program.{Program, Give, then}
use Rattle.spec_transform.specs.Key.{Entry, has, indexed, keys_named}
use Rattle.spec_node.specs.Naming.{same_ref}
use Rattle.spec_node.specs.declared.node_ref.NodeRef.{NodeRef}
use Rattle.xt_questions.specs.Runs.{items}
use Rattle.xt_questions.proofs.Steps.{runs_then, runs_stop, runs_gives, runs_memory, exits}
use Rattle.xt_match.proofs.Together.{runs_as}
use Rattle.xt_match.specs.Context.{units_in}
use Rattle.xt_keys.specs.View.{all_texts, having}
use Rattle.xt_keys.proofs.Grouping.{having_is}
use Rattle.xt_keys.proofs.Programs.{made_of}
use Rattle.xt_keys.proofs.asking.index.Goals as goal

-- the nodes that have a text among those of each are those with an entry of it
sought : (nodes : List NodeRef) (text : List ℕ) (p : Program NodeRef (List (Entry NodeRef)))
    → then (then p (λ entries. Give (all_texts nodes entries))) (λ lists. Give (having text nodes lists)) ≡ then p (λ entries. Give (filter (has same_ref entries text) nodes))
sought nodes text p = made_of p (all_texts nodes) (having text nodes) ∙ (λ i. then p (λ entries. Give (having_is nodes entries text i)))

pub returns-in_err-found-clause-runs : goal.returns-in_err-found-clause-runs
returns-in_err-found-clause-runs g c text =
    let found = rw c.new.ensures.items at c.in_err-found.ensures.runs in
    exits _ c.from_residual.ensures.1 (runs_as (sought c.args.nodes.now text (indexed same_ref (keys_named c.args.name.now (units_in c.args.units.now)) c.args.nodes.now [])) (runs_stop _ found))

pub returns-in_err-index-clause-runs : goal.returns-in_err-index-clause-runs
returns-in_err-index-clause-runs g c text =
    let found = rw c.new.ensures.items at c.in_ok-found.ensures.runs in
    exits _ c.from_residual-in_err-index.ensures.1
    (runs_as (sought c.args.nodes.now text (indexed same_ref (keys_named c.args.name.now (units_in c.args.units.now)) c.args.nodes.now [])) (runs_then _ found (runs_memory refl refl)))

pub returns-clause-runs : goal.returns-clause-runs
returns-clause-runs g c text =
    let found = rw c.new.ensures.items at c.in_ok-found.ensures.runs in
    runs_as (sought c.args.nodes.now text (indexed same_ref (keys_named c.args.name.now (units_in c.args.units.now)) c.args.nodes.now []))
    (runs_then _ found (runs_gives (c.in_ok-index.ensures text ∙ ap (λ lists. having text c.args.nodes.now (map items lists)) c.as_slice.ensures.value)))
