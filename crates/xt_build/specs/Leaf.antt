-- The events of a node that nothing is below.
use Rattle.std.specs.Prelude.{ℕ, List, [], ◌∷◌}
use Rattle.spec_document.specs.declared.event.Event.{Event}
use Rattle.spec_document.specs.declared.event.Event.TheVariants as event
use Rattle.spec_document.specs.Forest.{Content, Element, Text, Comment, Instruction}

-- the events that are written for content; an element has others
abbrev pub leaf_events : Content → List (Event (List ℕ))
leaf_events (Element name attributes) = []
leaf_events (Text text) = event.Data text ∷ []
leaf_events (Comment text) = event.Comment text ∷ []
leaf_events (Instruction target text) = event.Instruction target text ∷ []
