use Rattle.std.proofs.Common.{List, ◌++◌, sym, ap, ◌∙◌}
use Rattle.std.specs.List.{filter}
use Rattle.spec_document.specs.Declaration.{is_there}
use Rattle.xt_names.specs.View.{Entry, entries_of}
use Rattle.xt_names.specs.SearchTree.{link_entries}
use Rattle.xt_names.proofs.Maps.{entries_are}
use Rattle.xt_names.proofs.scope.Scope.namespaces.Goals as goal

pub returns : goal.returns
returns c =
    let there = λ (es : List Entry). filter (λ n. is_there n.1) es in
    c.in_ok-push_namespaces.ensures
    ∙ ap (λ ns. entries_of ns ++ there (link_entries c.self.inside.root)) c.new-list.ensures.items
    ∙ ap there (sym (entries_are (link_entries c.self.inside.root) c.args.self.now c.self.view_is c.self.invariant))
