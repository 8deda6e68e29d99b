use Rattle.std.proofs.Common.{ap, length, arith}
use Rattle.xt_frames.specs.declared.frame.Frame.TheVariants as frames
use Rattle.xt_frames.specs.Left.{left_in}
use Rattle.xt_frames.proofs.Lefts.{if_ok}
use Rattle.xt_frames.proofs.Frames.{at_end, performs_steps}
use Rattle.xt_instructions.proofs.Left.{attributes_of, attributes_past, instr_at}
use Rattle.xt_instructions.proofs.attributes.go_on_attributes.Goals as goal

pub returns-then-attributes-instrs-clause-does : goal.returns-then-attributes-instrs-clause-does
returns-then-attributes-instrs-clause-does g c =
    let a = c.args.attributes in
    let e = ap length (rw (c.deref.ensures, c.in-Ok.ensures) at c.as_slice-instrs.ensures.value) in
    at_end _ (frames.Attributes a) c.args.run.now (attributes_past a (left_in c.args.run.now) (omega (arith, e)))

pub go_on_with-requires : goal.go_on_with-requires
go_on_with-requires g c =
    let a = c.args.attributes in
    let e = ap length (rw (c.deref.ensures, c.in-Ok.ensures) at c.as_slice-instrs.ensures.value) in
    instr_at a.content.value.items a.number c.index-instrs-attributes.result (omega (arith, e)) (rw (c.as_slice-instrs.ensures.value, c.deref.ensures, c.in-Ok.ensures) at c.index-instrs-attributes.is)

pub returns-clause-does : goal.returns-clause-does
returns-clause-does g c =
    let a = c.args.attributes in
    let e = ap length (rw (c.deref.ensures, c.in-Ok.ensures) at c.as_slice-instrs.ensures.value) in
    if_ok c.go_on_with.result c.go_on_with.ensures.does (λ next h.
    performs_steps _ (frames.Attributes a) _ c.args.run.now c.go_on_with.new.run next (attributes_of a c.index-instrs-attributes.result (left_in c.args.run.now) (omega (arith, e)) (rw (c.as_slice-instrs.ensures.value, c.deref.ensures, c.in-Ok.ensures) at c.index-instrs-attributes.is)) h)
