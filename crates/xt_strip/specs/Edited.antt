-- How many of the children of a node an edit takes away at its place, or gives another content.
use Rattle.std.specs.Prelude.{ℕ, Bool, true, false, if◌then◌else◌}
use Rattle.spec_document.specs.Forest.{Content}
use Rattle.spec_edit.specs.Edit.{Edit, Insert, Delete, SetText, SetAttribute, RemoveAttribute, Rename}
use Rattle.xt_edit.specs.Seam.{is_text}

abbrev pub gone_by : Edit → ℕ
gone_by (Insert path body) = 0
gone_by (Delete path) = 1
gone_by (SetText path value) = 1
gone_by (SetAttribute path name value) = 1
gone_by (RemoveAttribute path name) = 1
gone_by (Rename path name) = 1

-- one for a text, and none else
abbrev pub one_text : Content → ℕ
one_text content = if is_text content then 1 else 0

-- whether it is an attribute that the edit sets or removes
abbrev pub sets_attribute : Edit → Bool
sets_attribute (Insert path body) = false
sets_attribute (Delete path) = false
sets_attribute (SetText path value) = false
sets_attribute (SetAttribute path name value) = true
sets_attribute (RemoveAttribute path name) = true
sets_attribute (Rename path name) = false
