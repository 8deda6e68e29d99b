use Rattle.std.proofs.Common.{sym, ap, ◌∙◌, arith}
use Rattle.std.specs.Prelude.{Ok}
use Rattle.spec_document.specs.Balance.{alone}
use Rattle.spec_document.specs.Declaration.{within}
use Rattle.spec_document.specs.NodeFaults.{content_faults}
use Rattle.spec_edit.specs.Edit.{depth_of, scope_around, with_content}
use Rattle.xt_tree.specs.View.{content_of}
use Rattle.xt_edit.specs.Finding.{at_no_line}
use Rattle.xt_edit.specs.Site.{found_there, spot_in}
use Rattle.xt_edit.proofs.Renewed.{unfaulted, keeps-there}
use Rattle.xt_edit.proofs.renewal.stay.Goals as goal

pub with_content-requires : goal.with_content-requires
with_content-requires c old e =
    keeps-there c.args.document.now (spot_in c.args.site.spot) c.args.site.node.now (content_of c.args.content) old c.requires.there c.requires.keeps e

pub returns-in_ok-document-in-None : goal.returns-in_ok-document-in-None
returns-in_ok-document-in-None c =
    let spot = spot_in c.args.site.spot in
    let there = found_there c.args.document.now spot c.args.site.node.now in
    let content = content_of c.args.content in (
      with_content spot c.args.document.now content,
      unfaulted (content_faults (within content (scope_around there)) (depth_of there) (alone 0) content) (Ok (with_content spot c.args.document.now content))
          (ap at_no_line (sym c.in-None.is) ∙ c.in_ok-code.ensures),
      c.in_ok-document-in-None.ensures,
      omega arith,
    )
