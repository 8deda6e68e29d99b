use Rattle.std.proofs.Common.{sym, ap, ◌∙◌, arith}
use Rattle.spec_run.specs.Plan.{Plan}
use Rattle.spec_run.specs.Content.{declared_planned}
use Rattle.xt_syntax.specs.declared.unit.Declared.{Declared}
use Rattle.xt_syntax.specs.PartView.{place_of}
use Rattle.xt_syntax.specs.SheetView.{declared_of}
use Rattle.spec_node.specs.declared.node_ref.NodeRef.{NodeRef}
use Rattle.xt_questions.specs.View.{bindings_of}
use Rattle.xt_frames.specs.View.{here_of}
use Rattle.xt_frames.proofs.Lefts.{if_ok}
use Rattle.xt_runner.proofs.Starts.{nothing_does}
use Rattle.xt_runner.proofs.Passed.{does_as}
use Rattle.xt_runner.proofs.start.begin_declared.Goals as goal

pub returns-in-Template-clause-does : goal.returns-in-Template-clause-does
returns-in-Template-clause-does g c =
    let truth = (g.W.World.state c.args.world.now).truth in
    let F : Declared → Plan NodeRef = λ d. declared_planned (place_of c.args.unit.now.site.place) (declared_of d) (bindings_of c.args.parameters) (here_of c.args.here) in
    if_ok c.begin_template.result c.begin_template.ensures (λ next h. does_as (sym (ap F c.in-Template.is)) (h truth))

pub begin_global-requires-clause-stands : goal.begin_global-requires-clause-stands
begin_global-requires-clause-stands g c = c.requires.stands ∙ ap declared_of c.in-Global.is

pub returns-in-Global-clause-does : goal.returns-in-Global-clause-does
returns-in-Global-clause-does g c =
    let F : Declared → Plan NodeRef = λ d. declared_planned (place_of c.args.unit.now.site.place) (declared_of d) (bindings_of c.args.parameters) (here_of c.args.here) in
    if_ok c.begin_global.result c.begin_global.ensures.does (λ next h. does_as (sym (ap F c.in-Global.is)) h)

pub returns-in-AttributeSet-clause-does : goal.returns-in-AttributeSet-clause-does
returns-in-AttributeSet-clause-does g c =
    let truth = (g.W.World.state c.args.world.now).truth in
    let given = bindings_of c.args.parameters in
    let F : Declared → Plan NodeRef = λ d. declared_planned (place_of c.args.unit.now.site.place) (declared_of d) given (here_of c.args.here) in
    if_ok c.begin_set.result c.begin_set.ensures (λ next h. does_as (sym (ap F c.in-AttributeSet.is)) (h given truth))

pub returns-in-Key-clause-does : goal.returns-in-Key-clause-does
returns-in-Key-clause-does g c =
    let F : Declared → Plan NodeRef = λ d. declared_planned (place_of c.args.unit.now.site.place) (declared_of d) (bindings_of c.args.parameters) (here_of c.args.here) in
    nothing_does (g.W.World.state c.args.world.now).truth _ 3 c.args.run.now (omega arith) (ap F c.in-Key.is) c.requires.none
