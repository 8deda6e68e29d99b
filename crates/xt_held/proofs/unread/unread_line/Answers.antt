use Rattle.std.proofs.Common.{List, ℕ, ◌∙◌, ap, sym}
use Rattle.std.specs.Option.{option_map}
use Rattle.spec_document.specs.Fault.{least}
use Rattle.spec_edit.specs.Edit.{unread_lines}
use Rattle.xt_edit.specs.View.{edit_of}
use Rattle.xt_held.specs.Unread.{first_unread, unread_at}
use Rattle.xt_held.proofs.FirstUnread.{least_unread}
use Rattle.xt_held.proofs.unread.unread_line.Goals as goal

pub returns-in-Insert : goal.returns-in-Insert
returns-in-Insert c =
    ap (option_map unread_at) (c.first_unread.ensures ∙ ap (λ (lines : List (List ℕ)). first_unread 1 lines) c.as_slice.ensures.value)
    ∙ sym (least_unread 1 c.in-Insert.body.items) ∙ ap (λ edit. least (unread_lines (edit_of edit))) (sym c.in-Insert.is)
