-- From what was read of the attributes of an element to what was read of the element.
use Rattle.std.proofs.Common.{ℕ, List, Result, Ok, Err, sym, ap}
use Rattle.spec_expression.specs.declared.code.StaticCode.{StaticCode}
use Rattle.spec_compile.specs.Reading.{Reading, Done}
use Rattle.spec_compile.specs.Content.{at_path, standing_at}
use Rattle.xt_attributes.specs.Answers.{Answers, IsRead}
use Rattle.xt_attributes.specs.View.{code_in}
use Rattle.xt_attributes.specs.declared.fault.AttributeFault.{AttributeFault}
use Rattle.xt_attributes.specs.declared.fault.AttributeFault.TheVariants as attribute
use Rattle.xt_content.specs.View.{IsStanding, refusal_in}
use Rattle.xt_content.specs.declared.fault.ContentFault.{ContentFault}
use Rattle.xt_content.specs.declared.fault.ContentFault.TheVariants as faults
use Rattle.xt_content.proofs.Steps.{reads_then}

pub stands : {A T : Type 0} {v : T → A} {p : Reading (Result A StaticCode)} (path : List ℕ) (read : Result T AttributeFault) (result : Result T ContentFault)
    → IsStanding path read result → IsRead code_in v p read → IsRead refusal_in v (standing_at path p) result
stands {T = T} {v = v} {p = p} path read result h g = record { so = go read result h g.so }
  where
    go : (read : Result T AttributeFault) (result : Result T ContentFault) → IsStanding path read result → Answers code_in v p read → Answers refusal_in v (standing_at path p) result
    go (Ok x) (Ok y) e a = reads_then p (λ r. Done (at_path path r)) (Ok (v x)) (Ok (v y)) a (ap (λ z. Ok (v z)) (sym e))
    go (Ok x) (Err fault) e a = absurd e
    go (Err attribute.Memory) (Err faults.Memory) e a = tt
    go (Err (attribute.Refused code)) (Err faults.Memory) e a = tt
    go (Err (attribute.Refused code)) (Err (faults.Refused fault)) e a = reads_then p (λ r. Done (at_path path r)) (Err code) (Err _) a (ap Err (sym e))
    go (Err attribute.Memory) (Err (faults.Refused fault)) e a = absurd e
    go (Err attribute.Memory) (Ok y) e a = absurd e
    go (Err (attribute.Refused code)) (Ok y) e a = absurd e
