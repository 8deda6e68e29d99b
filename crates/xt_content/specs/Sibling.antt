-- One node of siblings by itself.
use Rattle.std.specs.Prelude.{ℕ, Bool, codes, if◌then◌else◌}
use Rattle.spec_document.specs.Forest.{Forest, Empty, Node}
use Rattle.spec_document.specs.Name.{Expanded}
use Rattle.spec_structure.specs.Inside.{in_no_namespace, of_xslt}
use Rattle.xt_tree.specs.View.{Tree}

-- a node without its siblings
abbrev pub alone : Tree → Forest ℕ
alone tree = Node tree.number tree.content tree.children Empty

-- the attribute that names namespaces which are not copied
abbrev pub exclude_name : Bool → Expanded
exclude_name is_xslt = if is_xslt then in_no_namespace (codes "exclude-result-prefixes") else of_xslt (codes "exclude-result-prefixes")
