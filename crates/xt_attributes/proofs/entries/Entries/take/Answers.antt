use Rattle.std.proofs.Common.{◌∙◌, sym, ap, map, List, Some}
use Rattle.std.specs.Str.{chars}
use Rattle.std.proofs.lemmas.List.Quantifiers.{position-Some}
use Rattle.spec_compile.specs.Value.{value_at}
use Rattle.xt_attributes.specs.View.{entry_in, value_in}
use Rattle.xt_attributes.specs.declared.entries.Entry.{Entry}
use Rattle.xt_attributes.proofs.Taking.{absent, named, others, taken}
use Rattle.xt_attributes.proofs.entries.Entries.take.Goals as goal

pub returns-in-None-clause-taken : goal.returns-in-None-clause-taken
returns-in-None-clause-taken c = absent (chars c.args.name.now) c.args.self.now.list.items (sym c.position.ensures ∙ c.in-None.is)

pub returns-in-Some-clause-taken : goal.returns-in-Some-clause-taken
returns-in-Some-clause-taken c =
    let found = position-Some (named (chars c.args.name.now)) c.args.self.now.list.items c.in-Some.index c.remove-entry.result (sym c.position.ensures ∙ c.in-Some.is) in
    ap (λ (e : Entry). Some (value_in e.value)) c.remove-entry.ensures.value
    ∙ taken (chars c.args.name.now) c.args.self.now.list.items c.in-Some.index c.remove-entry.result found.0 found.1 found.2

pub returns-in-Some-clause-others : goal.returns-in-Some-clause-others
returns-in-Some-clause-others c = λ other apart.
    let found = position-Some (named (chars c.args.name.now)) c.args.self.now.list.items c.in-Some.index c.remove-entry.result (sym c.position.ensures ∙ c.in-Some.is) in
    ap (λ (es : List Entry). value_at other (map entry_in es)) c.remove-entry.ensures.items
    ∙ others (chars c.args.name.now) other apart c.args.self.now.list.items c.in-Some.index c.remove-entry.result found.0 found.1
