use Rattle.std.proofs.Common.{List, None, ℕ, ap, subst, sym, ◌∙◌}
use Rattle.std.specs.declared.alloc.Global.{Global}
use Rattle.std.specs.declared.string.String.{String}
use Rattle.spec_document.specs.Forest.{Document}
use Rattle.spec_cost.specs.Numbers.{with_one}
use Rattle.xt_import.specs.View.{modules_in}
use Rattle.xt_held.specs.Called.{numbered_modules}
use Rattle.xt_held.specs.StylesheetView.{without_one}
use Rattle.xt_held.specs.Tried.{AreSame}
use Rattle.xt_held.proofs.Calling.{called_as, numbered-taken}
use Rattle.xt_held.proofs.Dropping.{IsTaken, compiled_as, modules-taken, put_again}
use Rattle.xt_held.proofs.tried.compiled_without.Goals as goal

pub returns-in-None-clause-compiled : goal.returns-in-None-clause-compiled
returns-in-None-clause-compiled c =
    let updates = c.shift_remove_entry.ensures.updates in
    let name = c.args.name.now in
    let taken = modules-taken c.as_str.result.now c.as_str.utf8 name c.as_str.ensures.characters c.reserve.new.self.entries c.shift_remove_entry.new.self.entries
    (record { gone = updates.1; others = updates.3 }) in
    compiled_as c.compile.result _ _ (taken ∙ ap (without_one name) (ap modules_in c.in_ok-reserve.ensures.entries)) c.compile.ensures.compiled

pub returns-in-None-clause-called : goal.returns-in-None-clause-called
returns-in-None-clause-called c =
    let updates = c.shift_remove_entry.ensures.updates in
    let name = c.args.name.now in
    let old = c.reserve.new.self.entries in
    let new = c.shift_remove_entry.new.self.entries in
    let is : IsTaken c.as_str.result.now old new = record { gone = updates.1; others = updates.3 } in
    let plain = modules-taken c.as_str.result.now c.as_str.utf8 name c.as_str.ensures.characters old new is in
    let taken = numbered-taken c.as_str.result.now c.as_str.utf8 name c.as_str.ensures.characters old new is in
    called_as c.compile.result _ _ _ _ (plain ∙ ap (without_one name) (ap modules_in c.in_ok-reserve.ensures.entries))
    (taken ∙ ap (λ es. with_one name None (numbered_modules es)) c.in_ok-reserve.ensures.entries) c.compile.ensures.called

pub returns-in-Some-clause-compiled : goal.returns-in-Some-clause-compiled
returns-in-Some-clause-compiled c =
    let updates = c.shift_remove_entry.ensures.updates in
    let name = c.args.name.now in
    let taken = modules-taken c.as_str.result.now c.as_str.utf8 name c.as_str.ensures.characters c.reserve.new.self.entries c.shift_remove_entry.new.self.entries
    (record { gone = updates.1; others = updates.3 }) in
    compiled_as c.compile-compiled.result _ _ (taken ∙ ap (without_one name) (ap modules_in c.in_ok-reserve.ensures.entries)) c.compile-compiled.ensures.compiled

pub returns-in-Some-clause-called : goal.returns-in-Some-clause-called
returns-in-Some-clause-called c =
    let updates = c.shift_remove_entry.ensures.updates in
    let name = c.args.name.now in
    let old = c.reserve.new.self.entries in
    let new = c.shift_remove_entry.new.self.entries in
    let is : IsTaken c.as_str.result.now old new = record { gone = updates.1; others = updates.3 } in
    let plain = modules-taken c.as_str.result.now c.as_str.utf8 name c.as_str.ensures.characters old new is in
    let taken = numbered-taken c.as_str.result.now c.as_str.utf8 name c.as_str.ensures.characters old new is in
    called_as c.compile-compiled.result _ _ _ _ (plain ∙ ap (without_one name) (ap modules_in c.in_ok-reserve.ensures.entries))
    (taken ∙ ap (λ es. with_one name None (numbered_modules es)) c.in_ok-reserve.ensures.entries) c.compile-compiled.ensures.called

pub returns-in-Some-clause-kept : goal.returns-in-Some-clause-kept
returns-in-Some-clause-kept c =
    let updates = c.shift_remove_entry.ensures.updates in
    let final = c.put_again.new.modules.entries in
    let again = put_again c.as_str.result.now c.as_str.utf8 c.reserve.new.self.entries c.shift_remove_entry.new.self.entries
    (record { gone = updates.1; others = updates.3 }) c.in-Some.name c.in-Some.document (sym c.in-Some.ensures.key) (sym c.in-Some.ensures.value) in
    subst (λ (es : List (String Global × Document ℕ)). AreSame es final) c.in_ok-reserve.ensures.entries
    (subst (λ (es : List (String Global × Document ℕ)). AreSame c.reserve.new.self.entries es) (sym c.put_again.ensures) again)
