use Rattle.std.proofs.Common.{rules, tests, ◌∙◌}
use Rattle.std.proofs.lemmas.Iterator.{YieldsList-from_slice}
use Rattle.std.proofs.lemmas.Iterator.Search.{any_from_yields_List}
use Rattle.spec_edit.specs.Edit.{is_named}
use Rattle.xt_tree.specs.View.{written_of}
use Rattle.xt_edit.proofs.Named.{any_map}
use Rattle.xt_edit.proofs.attributes.has_attribute.Goals as goal

pub returns : goal.returns
returns c =
    any_from_yields_List (λ a. is_named c.args.name.now (written_of a)) _ _ c.any.result c.any.ensures.ran
    (YieldsList-from_slice c.args.attributes.now c.iter.ensures.rest) (λ x b q k. search (rules, tests))
    ∙ any_map (is_named c.args.name.now) written_of c.args.attributes.now
