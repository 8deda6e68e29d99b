use Rattle.std.proofs.Common.{◌≡◌, true, false, bytes_eq, codes, refl, sym, ◌∙◌}
use Rattle.std.specs.Str.{chars}
use Rattle.xt_structure.proofs.inside.preserves_by.Goals as goal

pub returns-then-is : goal.returns-then-is
unfolding chars
returns-then-is c = let e : bytes_eq c.args.value.now (codes "preserve") ≡ true = sym c.is.ensures ∙ c.if-is.true in rw e refl

pub returns-then-is-2 : goal.returns-then-is-2
unfolding chars
returns-then-is-2 c =
    let e : bytes_eq c.args.value.now (codes "preserve") ≡ false = sym c.is.ensures ∙ c.if-is.false in
    let f : bytes_eq c.args.value.now (codes "default") ≡ true = sym c.is-2.ensures ∙ c.if-is-2.true in
    rw (e, f) refl

pub returns-else-is-2 : goal.returns-else-is-2
unfolding chars
returns-else-is-2 c =
    let e : bytes_eq c.args.value.now (codes "preserve") ≡ false = sym c.is.ensures ∙ c.if-is.false in
    let f : bytes_eq c.args.value.now (codes "default") ≡ false = sym c.is-2.ensures ∙ c.if-is-2.false in
    rw (e, f) refl
