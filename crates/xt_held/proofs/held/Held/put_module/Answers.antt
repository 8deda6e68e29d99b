use Rattle.std.proofs.Common.{ℕ, List, ap, sym, subst, ◌∙◌}
use Rattle.std.specs.declared.alloc.Global.{Global}
use Rattle.std.specs.declared.string.String.{String}
use Rattle.spec_document.specs.Forest.{Document}
use Rattle.spec_structure.specs.Modules.{Modules}
use Rattle.xt_import.specs.View.{modules_in}
use Rattle.xt_held.specs.Called.{numbered_modules}
use Rattle.xt_held.specs.View.{AreAllBelow, HasBelow, documents_of}
use Rattle.xt_held.specs.declared.held.Held.{Held}
use Rattle.xt_world.proofs.Keys.{ok_of}
use Rattle.xt_held.proofs.Keeping.{inserted_below}
use Rattle.xt_held.proofs.Keys.{modules-insert, numbered-insert}
use Rattle.xt_held.proofs.held.Held.put_module.Goals as goal

pub returns-clause-documents : goal.returns-clause-documents
returns-clause-documents c =
    let old = c.args.self.now in
    let entries = ok_of c.insert.result (c.insert.ensures.succeeds c.requires) c.insert.ensures.entries in
    ap documents_of c.put_edited.ensures
    ∙ ap (λ (modules : Modules). record { source = (documents_of old).source; modules = modules; parameters = (documents_of old).parameters })
    (ap modules_in entries ∙ modules-insert c.args.name c.args.document old.modules.entries)

pub returns-clause-modules : goal.returns-clause-modules
returns-clause-modules c =
    let entries = ok_of c.insert.result (c.insert.ensures.succeeds c.requires) c.insert.ensures.entries in
    ap (λ (held : Held). numbered_modules held.modules.entries) c.put_edited.ensures ∙ ap numbered_modules entries
    ∙ numbered-insert c.args.name c.args.document c.args.self.now.modules.entries

pub returns-clause-below : goal.returns-clause-below
returns-clause-below c = λ first below it.
    let old = c.args.self.now in
    let entries = ok_of c.insert.result (c.insert.ensures.succeeds c.requires) c.insert.ensures.entries in
    subst (λ (held : Held). HasBelow first held) (sym c.put_edited.ensures)
    (subst (λ (es : List (String Global × Document ℕ)). AreAllBelow first old.source es) (sym entries)
    (inserted_below first c.args.name c.args.document old.source old.modules.entries below it))
