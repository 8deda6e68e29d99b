use Rattle.std.proofs.Common.{Bool, true, subst, sym}
use Rattle.std.specs.Prelude.{if◌then◌else◌}
use Rattle.spec_stylesheet.specs.Instruction as made
use Rattle.spec_run.specs.Plan.{Plan}
use Rattle.spec_run.specs.Content.{planned_branches}
use Rattle.spec_run.specs.Passes.{stays}
use Rattle.spec_node.specs.declared.node_ref.NodeRef.{NodeRef}
use Rattle.xt_questions.specs.Runs.{itself}
use Rattle.xt_progress.specs.View.{going_of}
use Rattle.xt_frames.specs.declared.run.Came.TheVariants as came
use Rattle.xt_frames.specs.View.{here_of, inside}
use Rattle.xt_frames.specs.Left.{Found, hand}
use Rattle.xt_frames.proofs.Lefts.{if_ok}
use Rattle.xt_instructions.proofs.Views.{branch_is, site_in, content_in}
use Rattle.xt_instructions.proofs.choose.is_taken.Goals as goal

pub returns-in-None-clause-found : goal.returns-in-None-clause-found
returns-in-None-clause-found g c more after =
    let truth = (g.W.World.state c.args.world.now).truth in
    let old = c.args.run.now in
    let h = here_of c.args.here.now in
    let P : made.Branch → Type 0 = λ b. Found itself truth (hand old) old.room (planned_branches (made.branch b.site b.test b.content more) h after) (λ (yes : Bool). if yes then inside b.site.place b.content h after else planned_branches more h after) h.depth b.site.place (going_of old.going) (going_of old.going) (came.Is true) in
    subst P (sym (branch_is c.args.branch.now _ c.in-None.is)) (record { so = stays })

pub returns-in-Some-clause-found : goal.returns-in-Some-clause-found
returns-in-Some-clause-found g c =
    let truth = (g.W.World.state c.args.world.now).truth in
    let old = c.args.run.now in
    let h = here_of c.args.here.now in
    let x = c.args.branch.now in
    let e = branch_is x _ c.in-Some.is in
    if_ok c.truth.result c.truth.ensures.found (λ r f more after.
    let P : made.Branch → Type 0 = λ b. Found itself truth (hand old) old.room (planned_branches (made.branch b.site b.test b.content more) h after) (λ (yes : Bool). if yes then inside b.site.place b.content h after else planned_branches more h after) h.depth b.site.place (going_of old.going) (going_of c.truth.new.run.going) r in
    let k : Bool → Plan NodeRef = λ yes. if yes then inside (site_in x).place (content_in x) h after else planned_branches more h after in
    subst P (sym e) (f k))
