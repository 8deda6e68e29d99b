-- The fault that is answered, found piece by piece.
use Rattle.std.specs.Prelude.{Option, None, Some}
use Rattle.spec_document.specs.Fault.{Fault, lesser}

-- the one of two findings that is answered
abbrev pub merged : Option Fault → Option Fault → Option Fault
merged None other = other
merged (Some fault) other = Some (lesser fault other)
