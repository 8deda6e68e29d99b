use Rattle.std.proofs.Common.{List, None, ap, ◌∙◌}
use Rattle.spec_node.specs.declared.node_ref.NodeRef.{NodeRef}
use Rattle.spec_meaning.specs.Context.{Bound}
use Rattle.spec_run.specs.Plan.{Target, SameRule, nowhere}
use Rattle.spec_run.specs.Going.{at_start}
use Rattle.spec_run.specs.Content.{plan_of}
use Rattle.spec_node.specs.Naming.{same_ref}
use Rattle.xt_engine.specs.Progress.{Progress, ForNothing, supplies_for}
use Rattle.xt_questions.specs.View.{bindings_of}
use Rattle.xt_engine.specs.View.{call_of, target_of}
use Rattle.xt_runner.proofs.go.start.Goals as goal

pub returns : goal.returns
returns c =
    let call = c.args.call.now in
    let P : Target NodeRef → List (Bound NodeRef) → Progress = λ t given. record {
      left = plan_of same_ref (record { target = t; node = call.node; parameters = given; position = None; size = None; ruling = SameRule; by = nowhere });
      going = at_start;
      supplies = supplies_for (call_of call);
      waits = ForNothing;
      room = c.args.room;
    } in
    let target = ap (λ t. P t (bindings_of c.in_ok-parameters.parameters)) c.in_ok-target.ensures in
    let whole = target ∙ ap (λ given. P (target_of call.target) given) c.in_ok-parameters.ensures in
    rw (c.in_ok-push.ensures.items, c.new-frames.ensures.items, c.new.ensures, c.in_ok-supplies.ensures) whole
