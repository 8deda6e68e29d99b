-- Names of parameters.
use Rattle.std.specs.Prelude.{List, map}
use Rattle.spec_document.specs.Name.{Expanded}
use Rattle.xt_syntax.specs.declared.instr.Binding.{Binding}
use Rattle.xt_syntax.specs.InstrView.{binding_of}

-- those that declare these
abbrev pub names_of : List Binding → List Expanded
names_of bs = map (λ b. (binding_of b).name) bs
