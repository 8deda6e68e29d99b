use Rattle.std.proofs.Common.{refl, ap, arith, add-one, ◌+◌, map}
use Rattle.spec_expression.specs.declared.code.DynCode.TheVariants.{TooDeep}
use Rattle.spec_stylesheet.specs.Instruction.{instrs}
use Rattle.xt_syntax.specs.PartView.{place_of}
use Rattle.xt_syntax.specs.InstrView.{instr_of}
use Rattle.xt_syntax.specs.SheetView.{alias_of}
use Rattle.spec_node.specs.Naming.{same_ref}
use Rattle.xt_questions.specs.View.{bindings_of, template_of, sets_of}
use Rattle.xt_frames.specs.declared.run.Run.{Run}
use Rattle.xt_frames.specs.View.{here_of}
use Rattle.xt_frames.specs.Left.{left_in}
use Rattle.xt_frames.proofs.Lefts.{none_left, goes_into}
use Rattle.xt_frames.proofs.run.go_into.Goals as goal

pub returns-then-here-run : goal.returns-then-here-run
returns-then-here-run c ask =
    none_left ask c.args.run.now (place_of c.args.place.now) (instrs (map instr_of c.args.content.value.items)) (here_of c.args.here) _ (left_in c.args.run.now) _ (omega arith) (ap (λ p. record { code = TooDeep; place = p }) c.in_ok-place.ensures)

pub returns : goal.returns
returns c ask =
    let r = c.args.run.now in
    let h = c.args.here in
    let mid : Run = record { room = r.room; supplies = r.supplies; waiting = r.waiting; frames = r.frames; going = c.deepen.new.self; did = r.did } in
    goes_into ask r mid c.push.new.run (place_of c.args.place.now) c.args.content h (record { focus = h.focus; bindings = h.bindings; depth = h.depth + 1; ruled = h.ruled; unit = h.unit }) (omega arith) refl refl refl (h.depth + 1) (add-one h.depth) c.deepen.ensures c.in_ok-push.ensures
    (ap (λ d. record { node = h.focus.node; position = h.focus.position; size = h.focus.size; bindings = bindings_of h.bindings; depth = d; ruled = h.ruled; templates = map template_of h.unit.value.templates.items; sets = map sets_of h.unit.value.sets.items; aliases = map alias_of h.unit.value.aliases.value.items; same = same_ref }) (add-one h.depth))
