-- The parameters of the template of a content, and what is passed to it, one by one.
use Rattle.std.specs.Prelude.{None, Some}
use Rattle.spec_document.specs.Name.{Expanded}
use Rattle.spec_expression.specs.Syntax.{variable}
use Rattle.spec_stylesheet.specs.Place.{Site}
use Rattle.spec_stylesheet.specs.Instruction.{Binding, no_instrs}

abbrev pub parameter : Site → Expanded → Binding
parameter site name = record { site = site; name = name; select = None; content = no_instrs }

abbrev pub passed : Site → Expanded → Binding
passed site name = record { site = site; name = name; select = Some (variable name); content = no_instrs }
