-- The copy of an element (XSLT 1.0, section 7.5).
use Rattle.std.specs.Prelude.{List, []}
use Rattle.spec_document.specs.declared.axis.Axis.TheVariants as axis
use Rattle.spec_expression.specs.declared.NodeType.TheVariants as type
use Rattle.spec_expression.specs.Syntax.{OfType}
use Rattle.spec_document.specs.Name.{Expanded}
use Rattle.spec_stylesheet.specs.Place.{Place}
use Rattle.spec_meaning.specs.Question.{Answer, Step, nodes_in, uri_in, written_in}
use Rattle.spec_run.specs.Plan.{Plan, Inquire, Begin, Wrap, AsElement}
use Rattle.spec_run.specs.Content.{Here, namespaces_read, sets_used}

abbrev pub element_copied : {N : Type 0} → Place → Here N → List Expanded → Answer N → (Plan N → Plan N) → Plan N → Plan N
element_copied by h sets a inside after = Inquire (Step h.node axis.Namespace (OfType type.Node)) (λ ns. namespaces_read (nodes_in ns) []
    (λ namespaces. Begin (sets_used by h sets (inside (Wrap (AsElement (written_in a) (uri_in a) namespaces) after)))))
