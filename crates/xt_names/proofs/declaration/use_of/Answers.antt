use Rattle.std.proofs.Common.{◌≡◌, List, ℕ, [], true, None, Some, refl, sym, ap, ◌∙◌}
use Rattle.std.proofs.lemmas.Str.{chars-nil}
use Rattle.spec_document.specs.declared.usage.AttributeUse.TheVariants.{Declares}
use Rattle.spec_document.specs.Name.{QName, qname_of}
use Rattle.spec_document.specs.Declaration.{is_xmlns, use_of}
use Rattle.xt_names.proofs.declaration.use_of.Goals as goal

default_declared : (written : List ℕ) (n : QName) → Some n ≡ qname_of written → None ≡ n.prefix → is_xmlns n.local ≡ true → Declares [] ≡ use_of written
default_declared written n e p x = rw (← e, use_of) (rw (← p, x) refl)

pub returns-then-is_xmlns : goal.returns-then-is_xmlns
returns-then-is_xmlns c =
    ap Declares chars-nil
    ∙ default_declared _ c.in-Some.name c.in-Some.ensures c.in-None.ensures (ap is_xmlns (sym c.local.ensures) ∙ sym c.is_xmlns.ensures ∙ c.if-is_xmlns.true)
