-- Elements of which the names stay.
use Rattle.std.specs.Prelude.{ℕ, ◌≡◌, false, List}
use Rattle.spec_document.specs.Forest.{Content}
use Rattle.spec_edit.specs.Edit.{makes_anew}
use Rattle.xt_tree.specs.Edit.{KeepsNames}

-- names stay, unless the change of what is written under this name makes the element anew
abbrev pub KeepsUnless : List ℕ → (old new : Content) → Type 0
KeepsUnless written old new = makes_anew written ≡ false → KeepsNames old new
