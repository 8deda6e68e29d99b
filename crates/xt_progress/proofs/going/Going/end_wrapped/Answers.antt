use Rattle.std.proofs.Common.{◌∙◌, ap, []}
use Rattle.std.proofs.lemmas.Result.{on_ok_weaker}
use Rattle.spec_meaning.specs.Stream.{followed}
use Rattle.spec_run.specs.Plan.{wrapped}
use Rattle.xt_tree.specs.StreamView.{single_of, stream_of}
use Rattle.xt_engine.specs.View.{wrapping_of}
use Rattle.xt_progress.specs.View.{going_of, stacked}
use Rattle.xt_progress.proofs.Goings.{stacked_more, wrapped_in}
use Rattle.xt_progress.proofs.going.Going.end_wrapped.Goals as goal

pub returns-in-Ok : goal.returns-in-Ok
returns-in-Ok c =
    let g = going_of c.args.self.now in
    let how = wrapping_of c.args.wrapping in
    let around = c.in-Some.around in
    let rest = c.pop.new.self.items in
    let outer = ap (λ l. stacked l []) c.in-Some.ensures.items ∙ stacked_more rest around [] in
    let inner = c.wrapped.ensures ∙ ap (λ i. wrapped how (stream_of i)) (c.in-Ok.ensures.ok ∙ c.replace-inner.ensures.value) in
    let behind = ap (λ i. followed (stream_of i) (single_of c.wrapped.result)) c.replace-inner.ensures.after ∙ ap (followed (stream_of around)) inner in
    on_ok_weaker c.push.result (λ e. wrapped_in how g (stream_of around) (stream_of c.push.new.self) (stacked rest []) outer (e ∙ behind)) c.push.ensures.ok
