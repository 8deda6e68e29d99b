use Rattle.std.proofs.Common.{◌≡◌, List, ℕ, Some, ap, refl, string_bytes, subst, sym, ◌∙◌}
use Rattle.std.specs.Str.{chars}
use Rattle.std.specs.declared.alloc.Global.{Global}
use Rattle.std.specs.declared.string.String.{String}
use Rattle.spec_document.specs.Forest.{Document}
use Rattle.spec_cost.specs.Numbers as numbers
use Rattle.spec_run.specs.Documents.{with_module}
use Rattle.xt_import.specs.View.{plain_of}
use Rattle.xt_world.specs.ParameterView.{parameters_of}
use Rattle.xt_held.specs.View.{AreAllBelow, IsKept, documents_of, made_of, numbers_of}
use Rattle.xt_held.specs.declared.held.Held.{Held}
use Rattle.xt_held.specs.declared.ready.Change.TheVariants as changes
use Rattle.xt_held.specs.declared.ready.Recompiled.TheVariants.{AsBefore}
use Rattle.xt_held.proofs.Keeping.{all_raised, kept_modules, serves_since}
use Rattle.xt_held.proofs.Making.{mapped_edit, open_edited, pending_from}
use Rattle.spec_touch.specs.Marks.{WorldChange}
use Rattle.xt_held.specs.Marked.{AreToldBy}
use Rattle.xt_held.proofs.held.Held.pending_module.Goals as goal

pub returns-clause-ok : goal.returns-clause-ok
returns-clause-ok c =
    let held = c.args.self.now in
    let document = c.args.document in
    let name : chars (string_bytes c.in-Ok.key) ≡ c.args.name.now = ap chars c.in-Ok.ensures.ok ∙ c.as_str.ensures.characters in
    let entries : c.reserve.new.self.entries ≡ held.modules.entries = c.in-Ok-reserve.ensures.entries in
    let new : Held = record held { modules = c.reserve.new.self } in
    let kept : IsKept held new = kept_modules held new entries refl in
    let since = c.in-Ok-copy.since in
    record {
      documents = λ i. with_module (name i) (plain_of document) (documents_of new);
      made = refl;
      pending = mapped_edit held.batch _ (documents_of new);
      from = pending_from new (changes.Module c.in-Ok.key document AsBefore) c.args.next since
          (record {
            current = kept.current c.requires.current;
            is_open = open_edited held.batch (documents_of held) c.requires.is_open;
            grows = c.requires.grows;
            compiled = refl;
            before = refl;
            serves = serves_since held.compiled (parameters_of held.parameters) held.source held.last since c.in-Ok-copy.ensures c.requires.current.serves;
          }) c.in-Ok-reserve.ensures.ok
          (subst (λ (es : List (String Global × Document ℕ)). AreAllBelow c.args.next.number held.source es) (sym entries)
          (all_raised (made_of held) c.args.next.number held c.requires.grows c.requires.current.below)) c.requires.below;
    }

pub returns-clause-brings : goal.returns-clause-brings
returns-clause-brings c =
    let new : Held = record c.args.self.now { modules = c.reserve.new.self } in
    let name : chars (string_bytes c.in-Ok.key) ≡ c.args.name.now = ap chars c.in-Ok.ensures.ok ∙ c.as_str.ensures.characters in
    record { numbers = λ i. numbers.with_module (name i) (Some c.args.document) (numbers_of new); kind = refl }

pub returns-clause-kept : goal.returns-clause-kept
returns-clause-kept c = kept_modules c.args.self.now _ c.in-Ok-reserve.ensures.entries refl

pub returns-clause-tells : goal.returns-clause-tells
returns-clause-tells c = record {
  tells = λ told is.
      subst (λ (changes : List WorldChange). AreToldBy c.args.self.now.last.kept.records told changes) (sym c.in-Ok-copy.ensures) is;
}
