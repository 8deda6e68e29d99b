-- The codes of the faults.
use Rattle.std.specs.Prelude.{Option, Some, None}
use Rattle.spec_expression.specs.declared.code.StaticCode.{StaticCode}
use Rattle.spec_expression.specs.Code.{expression_code}
use Rattle.xp_parse.specs.declared.fault.ParseFault.{ParseFault}
use Rattle.xp_parse.specs.declared.fault.ParseFault.TheVariants.{Memory, Refused}

-- want of memory has no code
abbrev pub fault_code : ParseFault → Option StaticCode
fault_code Memory = None
fault_code (Refused why) = Some (expression_code why)
