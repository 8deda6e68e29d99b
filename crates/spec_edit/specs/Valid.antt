-- Documents without faults.
use Rattle.std.specs.Prelude.{◌≡◌, []}
use Rattle.spec_document.specs.Scope.{root_scope}
use Rattle.spec_document.specs.Forest.{Forest}
use Rattle.spec_document.specs.NodeFaults.{node_faults}
use Rattle.spec_document.specs.Top.{without_texts}
use Rattle.spec_edit.specs.Edit.{without_lines, element_count}

-- of what is below a root: its nodes have no fault, one element stands at its top, and no text does
pub record IsValid {L : Type 0} (nodes : Forest L) : Type 0 where
  pub unfaulted : node_faults root_scope 1 (without_lines nodes) ≡ []
  pub one_element : element_count nodes ≡ 1
  pub no_text : without_texts nodes ≡ nodes
