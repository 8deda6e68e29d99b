use Rattle.std.proofs.Common.{Vec, Global, refl, map, ap, ◌∙◌}
use Rattle.std.specs.List.{flat_map}
use Rattle.spec_stylesheet.specs.Instruction.{instrs}
use Rattle.spec_run.specs.Content.{elements_named}
use Rattle.xt_syntax.specs.PartView.{place_of}
use Rattle.xt_syntax.specs.InstrView.{instr_of}
use Rattle.xt_syntax.specs.declared.instr.Instr.{Instr}
use Rattle.xt_frames.specs.declared.frame.Body.{Body}
use Rattle.xt_frames.specs.declared.frame.Frame.TheVariants as frames
use Rattle.xt_frames.specs.View.{here_of}
use Rattle.xt_runner.proofs.Starts.{two_left, set_left}
use Rattle.xt_runner.proofs.start.begin_set.Goals as goal

pub returns : goal.returns
returns c given ask =
    let used = c.in_ok-used.used in
    let set = c.args.set.now in
    let h = here_of c.args.here in
    let body : Body = record { content = c.in_ok-content.content; next = 0; here = c.args.here } in
    let elements = c.in_ok-used.ensures.elements ∙ ap (flat_map (elements_named h.sets)) c.as_slice.ensures.value in
    let own = ap (λ (v : Vec Instr Global). instrs (map instr_of v.items)) c.in_ok-content.ensures in
    let is = set_left used body (place_of c.args.place.now) h set.sets.items (instrs (map instr_of set.attributes.value.items)) c.in_ok-used.ensures.place c.in_ok-used.ensures.here c.in_ok-used.ensures.next elements own refl in
    two_left ask _ (frames.Body body) (frames.Sets used) c.args.run.now c.push.new.run c.push-2.new.run c.requires c.in_ok-push.ensures c.in_ok-push-2.ensures is
