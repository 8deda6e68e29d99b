-- The codes of the faults.
use Rattle.std.specs.Prelude.{Option, Some, None}
use Rattle.spec_expression.specs.declared.code.StaticCode.{StaticCode}
use Rattle.spec_static.specs.TemplateGrammar.{template_code}
use Rattle.xt_avt.specs.declared.fault.AvtFault.{AvtFault}
use Rattle.xt_avt.specs.declared.fault.AvtFault.TheVariants.{Memory, Refused}

-- want of memory has no code
abbrev pub fault_code : AvtFault → Option StaticCode
fault_code Memory = None
fault_code (Refused why) = Some (template_code why)
