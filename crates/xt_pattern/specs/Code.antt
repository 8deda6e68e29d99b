-- The codes of the faults.
use Rattle.std.specs.Prelude.{Option, Some, None}
use Rattle.spec_expression.specs.declared.code.StaticCode.{StaticCode}
use Rattle.spec_static.specs.PatternGrammar.{pattern_code}
use Rattle.xp_parse.specs.declared.fault.ParseFault.{ParseFault}
use Rattle.xp_parse.specs.declared.fault.ParseFault.TheVariants as parsing
use Rattle.xt_pattern.specs.declared.fault.PatternFault.{PatternFault}
use Rattle.xt_pattern.specs.declared.fault.PatternFault.TheVariants.{Memory, Refused}

-- want of memory has no code
abbrev pub fault_code : PatternFault → Option StaticCode
fault_code Memory = None
fault_code (Refused why) = Some (pattern_code why)

-- a part of a pattern that is none
abbrev pub fault_of : ParseFault → PatternFault
fault_of parsing.Memory = Memory
fault_of (parsing.Refused why) = Refused why
