-- Trees without labels as values that a model may have: each is one to one with a tree of numbers.
use Rattle.std.specs.Prelude.{◌≡◌}
use mathlib.Core.Path.{refl, sym, ap, subst}
use base.Stored.{Gv, gnil, gcons, Coded}
use Rattle.spec_document.specs.Forest.{Plain, Empty, Node}
use Rattle.xt_tree.specs.Code.{content_code, first_part, second_part, IsPair}

abbrev pub code_f : Plain → Gv
code_f Empty = gnil
code_f (Node label content children siblings) = gcons (content_code.code content) (gcons (code_f children) (code_f siblings))

pub inj_f : (f g : Plain) → code_f f ≡ code_f g → f ≡ g
inj_f Empty Empty e = refl
inj_f Empty (Node l c f g) e = absurd (subst IsPair (sym e) tt)
inj_f (Node l c f g) Empty e = absurd (subst IsPair e tt)
inj_f (Node l c f g) (Node k d h i) e =
    let own = content_code.inj c d (ap first_part e) in
    let below = inj_f f h (ap (λ v. first_part (second_part v)) e) in
    let behind = inj_f g i (ap (λ v. second_part (second_part v)) e) in
    λ t. Node tt (own t) (below t) (behind t)

abbrev pub plain_code : Coded Plain
plain_code = record { code = code_f; inj = inj_f }
