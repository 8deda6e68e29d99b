use Rattle.std.proofs.Common.{◌≡◌, ◌∙◌, [], ap, codes, sym}
use Rattle.std.specs.Str.{chars}
use Rattle.spec_stylesheet.specs.Instruction as made
use Rattle.spec_compile.specs.Content.{avt_at, is_text_at, sets_at}
use Rattle.xt_syntax.specs.PartView.{avt_of}
use Rattle.xt_attributes.specs.View.{entries_in}
use Rattle.xt_content.specs.Kind.{container_of}
use Rattle.xt_content.proofs.instruction.container.Goals as goal

pub returns-in_ok-target-in-ProcessingInstruction : goal.returns-in_ok-target-in-ProcessingInstruction
unfolding chars
returns-in_ok-target-in-ProcessingInstruction c =
    let old = entries_in c.args.entries.now in
    let target : avt_of c.in_ok-target-in-ProcessingInstruction.target ≡ avt_at (codes "name") [] old = c.in_ok-target-in-ProcessingInstruction.ensures.taken in
    ap made.ProcessingInstruction target ∙ ap (λ kind. container_of kind old) (sym c.in-ProcessingInstruction.is)

pub returns-in-Copy : goal.returns-in-Copy
unfolding chars
returns-in-Copy c =
    let old = entries_in c.args.entries.now in
    let sets : c.names_at.result.items ≡ sets_at (codes "use-attribute-sets") old = c.names_at.ensures.taken in
    ap made.Copy sets ∙ ap (λ kind. container_of kind old) (sym c.in-Copy.is)

pub returns-in-Message : goal.returns-in-Message
unfolding chars
returns-in-Message c =
    let old = entries_in c.args.entries.now in
    let ends : c.is_text_at.result ≡ is_text_at (codes "terminate") (codes "yes") old = c.is_text_at.ensures in
    ap made.Message ends ∙ ap (λ kind. container_of kind old) (sym c.in-Message.is)
