use Rattle.std.proofs.Common.{◌∙◌, ap, sym, map}
use Rattle.spec_document.specs.Pyx.{line_of}
use Rattle.spec_session.specs.Reply.{Shown}
use Rattle.xt_build.proofs.RoundTripForest.{written_plain}
use Rattle.xt_session.proofs.replies.dump_reply.Goals as goal

pub returns : goal.returns
returns c = ap Shown (c.in_ok-lines.ensures.lines ∙ ap (map line_of) (sym (written_plain c.args.document.now.nodes)))
