use Rattle.std.proofs.Common.{◌≡◌, ◌∙◌, codes, refl, sym}
use Rattle.std.specs.Str.{chars}
use Rattle.spec_compile.specs.Content.{is_text_at}
use Rattle.xt_attributes.specs.View.{entries_in}
use Rattle.xt_content.proofs.numbering.level.Goals as goal

pub returns-then-is_text_at : goal.returns-then-is_text_at
unfolding chars
returns-then-is_text_at c =
    let e : c.is_text_at.result ≡ is_text_at (codes "level") (codes "multiple") (entries_in c.args.entries.now) = c.is_text_at.ensures in
    rw (sym e ∙ c.if-is_text_at.true) refl

pub returns-then-is_text_at-2 : goal.returns-then-is_text_at-2
unfolding chars
returns-then-is_text_at-2 c =
    let e : c.is_text_at.result ≡ is_text_at (codes "level") (codes "multiple") (entries_in c.args.entries.now) = c.is_text_at.ensures in
    let f : c.is_text_at-2.result ≡ is_text_at (codes "level") (codes "any") (entries_in c.args.entries.now) = c.is_text_at-2.ensures in
    rw (sym e ∙ c.if-is_text_at.false, sym f ∙ c.if-is_text_at-2.true) refl

pub returns-else-is_text_at-2 : goal.returns-else-is_text_at-2
unfolding chars
returns-else-is_text_at-2 c =
    let e : c.is_text_at.result ≡ is_text_at (codes "level") (codes "multiple") (entries_in c.args.entries.now) = c.is_text_at.ensures in
    let f : c.is_text_at-2.result ≡ is_text_at (codes "level") (codes "any") (entries_in c.args.entries.now) = c.is_text_at-2.ensures in
    rw (sym e ∙ c.if-is_text_at.false, sym f ∙ c.if-is_text_at-2.false) refl
