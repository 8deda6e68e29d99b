-- Answers on patterns.
use Rattle.std.proofs.Common.{◌≡◌, ℕ, List, Some, Result, Ok, Err, sym, ap, subst}
use Rattle.std.specs.Prelude.{unwrap_or}
use Rattle.spec_document.specs.Scope.{Scope}
use Rattle.spec_expression.specs.declared.code.StaticCode.{StaticCode}
use Rattle.spec_static.specs.PatternGrammar.{ParsesPattern}
use Rattle.spec_compile.specs.Reading.{APattern, Done}
use Rattle.spec_compile.specs.Value.{pattern_by}
use Rattle.xt_syntax.specs.PartView.{pattern_of}
use Rattle.xt_syntax.specs.declared.pattern.Pattern.{Pattern}
use Rattle.xt_pattern.specs.Code.{fault_code}
use Rattle.xt_pattern.specs.Parsed.{Parsed}
use Rattle.xt_pattern.specs.declared.fault.PatternFault.{PatternFault}
use Rattle.xt_pattern.specs.declared.fault.PatternFault.TheVariants.{Memory, Refused}
use Rattle.xt_attributes.specs.Answers.{Finds, finds_done, finds_pattern}
use Rattle.xt_attributes.specs.Gathering.{seen}
use Rattle.xt_attributes.specs.View.{value_in}

pub found : (scope : Scope) (t text : List ℕ) (r : Result Pattern PatternFault) (p : Pattern) → r ≡ Ok p → Parsed scope t r → t ≡ text
    → ParsesPattern scope text (Ok (pattern_of p))
found scope t text r p e h f =
    subst (λ (t : List ℕ). ParsesPattern scope t (Ok (pattern_of p))) f (subst (λ (r : Result Pattern PatternFault). Parsed scope t r) e h)

refused_by : {E : Type 0} (scope : Scope) (text : List ℕ) (fault : PatternFault) (code : StaticCode) → Parsed scope text (Err fault) → fault_code fault ≡ Some code
    → Finds {E = E} (seen value_in) (APattern scope text (λ r. Done (pattern_by r))) (Ok (Err code))
refused_by scope text Memory code h e = absurd (cc)
refused_by scope text (Refused why) code h e = finds_pattern (Err why) h (finds_done (ap Err (sym (ap (λ o. unwrap_or o code) e))))

pub refused : {E : Type 0} (scope : Scope) (t text : List ℕ) (r : Result Pattern PatternFault) (fault : PatternFault) (code : StaticCode) → r ≡ Err fault → Parsed scope t r
    → t ≡ text → fault_code fault ≡ Some code → Finds {E = E} (seen value_in) (APattern scope text (λ r. Done (pattern_by r))) (Ok (Err code))
refused scope t text r fault code e h f g =
    refused_by scope text fault code (subst (λ (t : List ℕ). Parsed scope t (Err fault)) f (subst (λ (r : Result Pattern PatternFault). Parsed scope t r) e h)) g
