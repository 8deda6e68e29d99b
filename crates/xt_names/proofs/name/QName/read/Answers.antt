use Rattle.std.proofs.Common.{◌≡◌, false, List, ℕ, None, sym, ◌∙◌, refl}
use Rattle.std.specs.List.{list_any}
use Rattle.std.specs.Str.{chars}
use Rattle.spec_document.specs.Name.{is_ncname, is_colon, qname_of}
use Rattle.spec_document.proofs.First.{before_first-none}
use Rattle.xt_names.proofs.name.QName.read.Goals as goal

-- without a colon a QName is an NCName
no_colon : (text : List ℕ) → is_ncname text ≡ false → list_any is_colon text ≡ false → None ≡ qname_of text
no_colon text h n = rw (before_first-none is_colon text n, h) refl

pub returns-in_default : goal.returns-in_default
returns-in_default c = no_colon (chars c.args.text.now) (sym c.is_ncname.ensures ∙ c.if-is_ncname.false) c.in_default.ensures
