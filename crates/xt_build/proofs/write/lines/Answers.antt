use Rattle.std.proofs.Common.{◌≡◌, ◌++◌, ◌∙◌, ap, map}
use Rattle.std.specs.Str.{encode_utf8_all}
use Rattle.spec_document.specs.Document.{document_of}
use Rattle.spec_document.specs.Forest.{lines_of}
use Rattle.xt_tree.specs.View.{forest_of}
use Rattle.xt_build.proofs.RoundTrip.{round_trip, same_tree}
use Rattle.xt_build.proofs.write.lines.Goals as goal

pub returns-clause-round_trip : goal.returns-clause-round_trip
returns-clause-round_trip c scope first body made =
    let all : c.push_lines.new.lines.items ≡ lines_of c.args.document.now.nodes
    = c.in_ok-push_lines.ensures ∙ ap (λ ls. ls ++ lines_of (forest_of c.children.result.now)) c.new-lines.ensures.items
    ∙ ap lines_of c.children.ensures in
    ap (λ ls. document_of scope first (map encode_utf8_all ls)) all ∙ round_trip c.args.document.now scope first body made

pub returns-clause-same_tree : goal.returns-clause-same_tree
returns-clause-same_tree c scope first other body made is same room =
    let all : c.push_lines.new.lines.items ≡ lines_of c.args.document.now.nodes
    = c.in_ok-push_lines.ensures ∙ ap (λ ls. ls ++ lines_of (forest_of c.children.result.now)) c.new-lines.ensures.items
    ∙ ap lines_of c.children.ensures in
    ap (λ ls. document_of scope other (map encode_utf8_all ls)) all ∙ same_tree c.args.document.now.nodes scope first other body made is same room
