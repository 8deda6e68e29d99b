use Rattle.std.proofs.Common.{rules, tests}
use Rattle.std.proofs.lemmas.Iterator.{YieldsList-from_slice}
use Rattle.std.proofs.lemmas.Iterator.Search.{position_from_yields_List}
use Rattle.spec_lines.specs.Lines.{is_newline}
use Rattle.xt_io.proofs.Newlines.{searched}
use Rattle.xt_io.proofs.line_buffer.find_newline.Goals as goal

pub returns : goal.returns
returns c =
    searched c.args.bytes.now c.position.result
    (position_from_yields_List is_newline _ _ c.position.result c.position.ensures.ran (YieldsList-from_slice c.args.bytes.now cc)
    (λ x b q k. search (rules, tests)))
