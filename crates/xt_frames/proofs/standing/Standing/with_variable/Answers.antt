use Rattle.std.proofs.Common.{ap, map}
use Rattle.xt_syntax.specs.SheetView.{alias_of}
use Rattle.spec_node.specs.Naming.{same_ref}
use Rattle.xt_questions.specs.View.{template_of, sets_of}
use Rattle.xt_frames.proofs.standing.Standing.with_variable.Goals as goal

pub returns : goal.returns
returns c =
    let s = c.args.self in
    ap (λ bs. record { node = s.focus.node; position = s.focus.position; size = s.focus.size; bindings = bs; depth = s.depth; ruled = s.ruled; templates = map template_of s.unit.value.templates.items; sets = map sets_of s.unit.value.sets.items; aliases = map alias_of s.unit.value.aliases.value.items; same = same_ref }) c.in_ok-bindings.ensures
