use Rattle.std.proofs.Common.{List, sym, ap, ◌∙◌}
use Rattle.std.specs.List.{filter}
use Rattle.std.specs.Option.{option_map}
use Rattle.spec_document.specs.Declaration.{is_there}
use Rattle.spec_document.specs.Place.{at_number}
use Rattle.xt_names.specs.View.{Entry, entry_of}
use Rattle.xt_names.specs.SearchTree.{link_entries}
use Rattle.xt_names.proofs.Maps.{entries_are}
use Rattle.xt_names.proofs.Nth.{stands_at}
use Rattle.xt_names.proofs.scope.Scope.namespace.Goals as goal

pub returns : goal.returns
returns c =
    let there = λ (es : List Entry). filter (λ n. is_there n.1) es in
    stands_at c.args.number c.nth_namespace.new.left (there (link_entries c.self.inside.root)) (option_map (λ n. entry_of n.now) c.nth_namespace.result)
    c.nth_namespace.ensures
    ∙ ap (λ es. at_number c.args.number (there es)) (sym (entries_are (link_entries c.self.inside.root) c.args.self.now c.self.view_is c.self.invariant))
