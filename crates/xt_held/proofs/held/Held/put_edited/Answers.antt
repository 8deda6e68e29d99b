use Rattle.std.proofs.Common.{ap, ◌∙◌}
use Rattle.std.specs.Option.{option_map}
use Rattle.xt_held.specs.View.{with_edit}
use Rattle.xt_held.specs.declared.held.Held.{Held}
use Rattle.xt_held.proofs.held.Held.put_edited.Goals as goal

pub returns : goal.returns
returns c = c.note_edit.ensures ∙ ap (λ (held : Held). record held { batch = option_map with_edit held.batch }) c.put_recompiled.ensures
