use Rattle.std.proofs.Common.{ap, subst, sym, ◌∙◌}
use Rattle.spec_structure.specs.Modules.{Modules}
use Rattle.xt_held.specs.Called.{numbered_modules}
use Rattle.xt_held.specs.View.{HasBelow, documents_of}
use Rattle.xt_held.specs.declared.held.Held.{Held}
use Rattle.xt_held.proofs.Dropping.{modules-taken, numbered-taken, taken_below}
use Rattle.xt_held.proofs.held.Held.take_module.Goals as goal

pub returns-clause-documents : goal.returns-clause-documents
returns-clause-documents c =
    let old = c.args.self.now in
    let updates = c.shift_remove.ensures.updates in
    ap documents_of c.put_edited.ensures
    ∙ ap (λ (modules : Modules). record { source = (documents_of old).source; modules = modules; parameters = (documents_of old).parameters })
    (modules-taken c.as_str.result.now c.as_str.utf8 c.args.name.now c.as_str.ensures.characters old.modules.entries c.shift_remove.new.self.entries
    (record { gone = updates.1; others = updates.3 }))

pub returns-clause-modules : goal.returns-clause-modules
returns-clause-modules c =
    let updates = c.shift_remove.ensures.updates in
    ap (λ (held : Held). numbered_modules held.modules.entries) c.put_edited.ensures
    ∙ numbered-taken c.as_str.result.now c.as_str.utf8 c.args.name.now c.as_str.ensures.characters c.args.self.now.modules.entries
    c.shift_remove.new.self.entries (record { gone = updates.1; others = updates.3 })

pub returns-clause-below : goal.returns-clause-below
returns-clause-below c = λ first below.
    let old = c.args.self.now in
    let updates = c.shift_remove.ensures.updates in
    subst (λ (held : Held). HasBelow first held) (sym c.put_edited.ensures)
    (taken_below c.as_str.result.now c.as_str.utf8 first old.source old.modules.entries c.shift_remove.new.self.entries
    (record { gone = updates.1; others = updates.3 }) below)
