-- What is found at fault where no body is read.
use Rattle.std.specs.Prelude.{◌≡◌, Option}
use Rattle.std.specs.Option.{option_map}
use Rattle.spec_document.specs.Fault.{Fault, lesser}
use Rattle.xt_base.specs.Code.{edit_number}
use Rattle.xt_base.specs.declared.codes.EditCode.{EditCode}

-- the fault of this number, at no line of a body
abbrev pub fault_of : EditCode → Fault
fault_of code = record { number = edit_number code; line = 0 }

abbrev pub at_no_line : Option EditCode → Option Fault
at_no_line found = option_map fault_of found

-- of a fault and another, where there is one, this is the one that is answered
abbrev pub IsLesser : EditCode → Option EditCode → EditCode → Type 0
IsLesser code other result = fault_of result ≡ lesser (fault_of code) (at_no_line other)
