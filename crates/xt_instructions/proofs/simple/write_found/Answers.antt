use Rattle.spec_run.specs.Plan.{Put}
use Rattle.spec_run.specs.Content.{text_item}
use Rattle.xt_syntax.specs.PartView.{place_of}
use Rattle.xt_frames.specs.declared.frame.Frame.TheVariants as frames
use Rattle.xt_frames.specs.View.{after_body}
use Rattle.xt_frames.proofs.Lefts.{if_ok, if_both}
use Rattle.xt_frames.proofs.Performs.{perform_is, perform_halts, perform_lacks}
use Rattle.xt_instructions.proofs.simple.write_found.Goals as goal

pub returns-in-Is : goal.returns-in-Is
returns-in-Is c =
    let b = c.args.body in
    if_ok c.write_text.result c.write_text.ensures (λ next h ask was p found still.
    let is = rw (c.in-Ok.is, c.in-Is.is) at found in
    perform_is ask p (λ l. Put (text_item c.in-Is.text) (after_body b l)) (frames.Body b) was c.args.run.now c.write_text.new.run next is.so still (rw c.advanced.ensures at h ask))

pub returns-in-Halts : goal.returns-in-Halts
returns-in-Halts c ask was p found still =
    let is = rw (c.in-Ok.is, c.in-Halts.is) at found in
    perform_halts ask p _ was c.args.run.now c.in-Halts.why is.so still

pub returns-in-Lacks : goal.returns-in-Lacks
returns-in-Lacks c =
    let b = c.args.body in
    if_both c.lack.result c.lack.ensures.needs c.lack.ensures.pushed (λ next e back ask was p found still.
    let is = rw (c.in-Ok.is, c.in-Lacks.is) at found in
    perform_lacks ask p (frames.Body b) was c.args.run.now c.lack.new.run c.in-Lacks.name b.here.depth (place_of c.args.site.now.place) next is.so still e back)
