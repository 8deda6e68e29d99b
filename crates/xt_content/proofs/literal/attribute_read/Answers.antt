use Rattle.std.proofs.Common.{Ok}
use Rattle.spec_compile.specs.Content.{literal_attribute}
use Rattle.spec_compile.specs.Reading.{Done, after_ok}
use Rattle.xt_attributes.specs.Answers.{finds_as, finds_if, finds_then}
use Rattle.xt_attributes.specs.Gathering.{seen}
use Rattle.xt_attributes.specs.View.{template_in}
use Rattle.std.proofs.Common.{refl}
use Rattle.xt_content.proofs.Attributes.{on_seen}
use Rattle.xt_content.proofs.literal.attribute_read.Goals as goal

pub returns : goal.returns
returns c =
    let read = literal_attribute c.args.attribute.now.name c.args.name.now in
    finds_then (after_ok (λ v. Done (Ok (read v)))) c.in_ok-template.ensures
    (finds_as (on_seen read (seen template_in c.in_ok-template.template)) (finds_if refl c.attribute_by.ensures))
