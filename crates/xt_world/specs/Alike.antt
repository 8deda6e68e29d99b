-- The units that two stylesheets have in common.
use Rattle.std.specs.Prelude.{◌≡◌, true, List, Option, None, Some}
use Rattle.std.specs.declared.rc.Rc.{Rc}
use Rattle.std.specs.Global.{Global}
use Rattle.std.specs.Borrow.{Bor}
use Rattle.spec_meaning.specs.Question.{Answer, Gone, Resolved}
use Rattle.spec_node.specs.declared.node_ref.NodeRef.{NodeRef}
use Rattle.spec_touch.specs.Marks.{is_unit_among}
use Rattle.xt_questions.specs.View.{resolved_of}
use Rattle.xt_questions.specs.declared.answer.ResolvedUnit.{ResolvedUnit}
use Rattle.xt_world.specs.View.{unit_held}
use Rattle.xt_world.specs.declared.stylesheet.Stylesheet.{Stylesheet}

-- what a world answers of a unit that is there, and of none
abbrev pub unit_told : Option (Bor (Rc ResolvedUnit Global)) → Answer NodeRef
unit_told None = Gone
unit_told (Some unit) = Resolved (resolved_of unit.now.value)

-- in the worlds of both stylesheets the units of these are the same, and of those elements it is all for which they are
pub record AreAlike (one other : Stylesheet) (elements alike : List NodeRef) : Type 0 where
  pub same : (element : NodeRef) → is_unit_among alike element ≡ true → unit_held one element ≡ unit_held other element
  pub whole : (element : NodeRef) → is_unit_among elements element ≡ true → unit_held one element ≡ unit_held other element
      → is_unit_among alike element ≡ true
