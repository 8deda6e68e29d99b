-- What values, attributes with their values, and answers stand for.
use Rattle.std.specs.Prelude.{ℕ, ◌+◌, ◌==◌, ◌&&◌, Bool, if◌then◌else◌, length, drop, List, [], ◌∷◌, map, Option, None, Some, Result}
use Rattle.spec_expression.specs.Token.{begins, digits_at}
use Rattle.spec_expression.specs.declared.code.StaticCode.{StaticCode}
use Rattle.spec_structure.specs.declared.element.XsltElement.{XsltElement}
use Rattle.spec_compile.specs.Reading.{Reading}
use Rattle.spec_compile.specs.Value as plain
use Rattle.spec_compile.specs.Value.{is_within_limits, millionths}
use Rattle.xt_syntax.specs.View.{expr_of, test_of}
use Rattle.xt_syntax.specs.PartView.{avt_of, pattern_of}
use Rattle.xt_syntax.specs.declared.avt.Avt.{Avt}
use Rattle.xt_attributes.specs.Answers.{IsRead}
use Rattle.xt_attributes.specs.declared.entries.Entries.{Entries}
use Rattle.xt_attributes.specs.declared.entries.Entry.{Entry}
use Rattle.xt_attributes.specs.declared.fault.AttributeFault.{AttributeFault}
use Rattle.xt_attributes.specs.declared.fault.AttributeFault.TheVariants as faults
use Rattle.xt_attributes.specs.declared.value.Value.{Value}
use Rattle.xt_attributes.specs.declared.value.Value.TheVariants as values

abbrev pub value_in : Value → plain.Value
value_in (values.Text text) = plain.AText text
value_in (values.Expr e) = plain.AnExpr (expr_of e)
value_in (values.Pattern p) = plain.Matches (pattern_of p)
value_in (values.Avt a) = plain.AnAvt (avt_of a)
value_in (values.Name name) = plain.AName name
value_in (values.Names names) = plain.SomeNames names.items
value_in (values.Tests tests) = plain.SomeTests (map test_of tests.items)
value_in (values.Priority n) = plain.APriority n
value_in (values.Method m) = plain.AMethod m

-- a value template as a value
abbrev pub template_in : Avt → plain.Value
template_in a = plain.AnAvt (avt_of a)

abbrev pub entry_in : Entry → plain.Entry
entry_in e = record { name = e.name; value = value_in e.value }

abbrev pub entries_in : Entries → List plain.Entry
entries_in es = map entry_in es.list.items

-- an attribute that may be there
abbrev pub listed : Option Entry → List plain.Entry
listed None = []
listed (Some e) = entry_in e ∷ []

-- the priority of these digits with what stands behind them
abbrev pub priority_by : (whole behind : List ℕ) → Option ℕ
priority_by whole behind =
    let fraction = digits_at (drop 1 behind) in
    if length behind == 0 then (if is_within_limits whole [] then Some (millionths whole []) else None)
    else (if begins 0x2E behind && (length behind == 1 + length fraction) && is_within_limits whole fraction then Some (millionths whole fraction) else None)

-- which values may not stand at an element; at one that is not XSLT's each may
abbrev pub barred_by : Option XsltElement → plain.Value → Bool
barred_by None = plain.none_barred
barred_by (Some x) = plain.is_barred x

-- which refusal a fault is; want of memory is none
abbrev pub code_in : AttributeFault → Option StaticCode
code_in faults.Memory = None
code_in (faults.Refused code) = Some code

-- what a call answers is what a reading comes to; of want of memory it says nothing
abbrev pub IsAnswer : {A X : Type 0} → (X → A) → Reading (Result A StaticCode) → Result X AttributeFault → Type 0
IsAnswer view reading result = IsRead code_in view reading result
