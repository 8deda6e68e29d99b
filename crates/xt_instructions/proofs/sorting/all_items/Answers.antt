use Rattle.xt_syntax.specs.PartView.{place_of}
use Rattle.xt_questions.specs.View.{bindings_of}
use Rattle.xt_frames.proofs.Entering.{all_items}
use Rattle.xt_instructions.proofs.sorting.all_items.Goals as goal

pub returns : goal.returns
returns c after =
    let i = c.args.left in
    all_items (place_of i.place) i.element (bindings_of i.parameters) i.depth c.args.nodes.items after
