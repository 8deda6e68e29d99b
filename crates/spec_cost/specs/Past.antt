-- What a session remembers besides the documents, so that it is said what a change costs. Nothing that is told but the numbers of `stats` depends on it.
use Rattle.std.specs.Prelude.{ℕ, Bool, false, List, [], None}
use Rattle.spec_stylesheet.specs.Place.{Place}
use Rattle.spec_run.specs.Trail.{Kept}
use Rattle.spec_node.specs.declared.node_ref.NodeRef.{NodeRef}
use Rattle.spec_cost.specs.Marking.{Known, Mark}
use Rattle.spec_cost.specs.Numbers.{NumberedDocuments, no_numbers}

pub record Past : Type 0 where
  -- the documents with the numbers of their nodes, as they are present and as changes speak of them
  pub present : NumberedDocuments
  pub edited : NumberedDocuments
  -- whether a change of the batch that is open was one of a module
  pub is_edited : Bool
  -- what the element at each place of the present modules is called
  pub called : Place → NodeRef
  -- what was kept of the last run that ended with a result
  pub records : List (Kept NodeRef)
  -- what changed since then, as it is present and as changes speak of it
  pub marks : List Mark
  pub edited_marks : List Mark
  -- the rules for white space of the last stylesheet that there was
  pub known : Known
  -- how many instantiations the last change outside a batch, or commit, has run, and how many questions it has asked again
  pub ran : ℕ
  pub asked : ℕ

-- at the start there is no document, nothing is kept, and nothing was run or asked
abbrev pub nothing_past : (Place → NodeRef) → Past
nothing_past called =
    record {
      present = no_numbers;
      edited = no_numbers;
      is_edited = false;
      called = called;
      records = [];
      marks = [];
      edited_marks = [];
      known = None;
      ran = 0;
      asked = 0;
    }
