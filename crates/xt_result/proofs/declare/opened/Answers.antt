use Rattle.std.proofs.Common.{◌∙◌, ap, sym, [], map}
use Rattle.spec_result.specs.Recovery.{all_added, attributes_of, namespaces_of}
use Rattle.spec_result.specs.Shape.{with_attributes, with_nodes, needing, settle, begun}
use Rattle.xt_names.specs.View.{entry_of}
use Rattle.xt_tree.specs.StreamView.{stream_of}
use Rattle.xt_result.specs.View.{opening_of}
use Rattle.xt_result.proofs.Streams.{with_nodes-append}
use Rattle.xt_result.proofs.declare.opened.Goals as goal

pub returns : goal.returns
returns c =
    let own = c.args.own.now in
    let uri = c.args.uri.now in
    let copied = map entry_of c.args.namespaces.now in
    let leading = namespaces_of (stream_of c.args.content.now) in
    let attributes = all_added [] (attributes_of (stream_of c.args.content.now)) in
    let named = settle own (needing own uri (begun c.args.scope.now)) in
    let ready = c.in_ok-settle.ensures ∙ ap (settle own) (c.in_ok-need.ensures ∙ ap (needing own uri) c.in_ok-opening.ensures) in
    let nodes = c.in_ok-copy_namespaces.ensures.copied ∙ ap (with_nodes leading) (c.in_ok-copy_nodes.ensures ∙ ap (with_nodes copied) ready)
    ∙ sym (with_nodes-append copied leading named) in
    c.in_ok-push_attributes.ensures ∙ ap (λ a. with_attributes a (opening_of c.copy_namespaces.new.opening)) c.in_ok-attributes.ensures
    ∙ ap (with_attributes attributes) nodes
