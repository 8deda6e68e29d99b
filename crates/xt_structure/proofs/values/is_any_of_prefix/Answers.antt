use Rattle.std.proofs.Common.{◌≡◌, Bool, true, false, ◌&&◌, bytes_eq, codes, refl, ap, sym, ◌∙◌}
use Rattle.std.specs.List.{before_first}
use Rattle.std.specs.Str.{chars}
use Rattle.spec_document.specs.Name.{is_colon, is_ncname}
use Rattle.spec_document.proofs.First.{after_first-none}
use Rattle.xt_structure.proofs.values.is_any_of_prefix.Goals as goal

and_no : (b : Bool) → false ≡ (b && false)
and_no true = refl
and_no false = refl

pub returns-in-None : goal.returns-in-None
returns-in-None c =
    let b = is_ncname (before_first is_colon (chars c.args.word.now)) in
    and_no b ∙ ap (λ t. b && bytes_eq t (codes "*")) (sym (after_first-none is_colon (chars c.args.word.now) c.in-None.ensures))
