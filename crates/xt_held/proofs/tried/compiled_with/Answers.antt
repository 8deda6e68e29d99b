use Rattle.std.proofs.Common.{◌≡◌, List, ℕ, Some, bytes_eq, string_bytes, ap, sym, ◌∙◌}
use Rattle.std.specs.Map.{lookup, remove_entry}
use Rattle.std.specs.Str.{chars}
use Rattle.std.specs.String.{string_eq}
use Rattle.std.specs.declared.alloc.Global.{Global}
use Rattle.std.specs.declared.string.String.{String}
use Rattle.indexmap.specs.IndexMap.{insert_entry}
use Rattle.spec_cost.specs.Numbers as numbers
use Rattle.xt_import.specs.View.{modules_in, plain_of}
use Rattle.xt_held.specs.Called.{numbered_modules}
use Rattle.xt_held.specs.StylesheetView.{with_one}
use Rattle.xt_held.proofs.Calling.{called_so, numbered-insert}
use Rattle.xt_held.proofs.Coming.{compiled_so, document_so}
use Rattle.xt_world.proofs.Keys.{found_again, of_key, of_text, put_back, taken_out}
use Rattle.xt_held.proofs.Keys.{modules-insert}
use Rattle.xt_held.proofs.tried.compiled_with.Goals as goal

pub returns-in-None-clause-compiled : goal.returns-in-None-clause-compiled
returns-in-None-clause-compiled c =
    let es = c.args.modules.now.entries in
    let key = c.in_ok-key.key in
    let name = ap chars c.in_ok-key.ensures.ok ∙ c.as_str.ensures.characters in
    let modules = ap modules_in c.in_ok-insert.ensures.entries ∙ modules-insert key c.args.document es
    ∙ ap (λ (n : List ℕ). with_one n (plain_of c.args.document) (modules_in es)) name in
    compiled_so c.compile-compiled.result c.with_document.result c.taken_out-document.result _ _ modules c.compile-compiled.ensures.compiled
    c.with_document.ensures

pub returns-in-None-clause-called : goal.returns-in-None-clause-called
returns-in-None-clause-called c =
    let es = c.args.modules.now.entries in
    let key = c.in_ok-key.key in
    let document = c.args.document in
    let name = ap chars c.in_ok-key.ensures.ok ∙ c.as_str.ensures.characters in
    let modules = ap modules_in c.in_ok-insert.ensures.entries ∙ modules-insert key document es
    ∙ ap (λ (n : List ℕ). with_one n (plain_of document) (modules_in es)) name in
    let numbered = ap numbered_modules c.in_ok-insert.ensures.entries ∙ numbered-insert key document es
    ∙ ap (λ (n : List ℕ). numbers.with_one n (Some document) (numbered_modules es)) name in
    called_so c.compile-compiled.result c.with_document.result c.taken_out-document.result _ _ _ _ modules numbered
    c.compile-compiled.ensures.called c.with_document.ensures

pub returns-in-None-clause-document : goal.returns-in-None-clause-document
returns-in-None-clause-document c =
    let es = c.args.modules.now.entries in
    let key = c.in_ok-key.key in
    let text = c.as_str-in-None.ensures.value ∙ c.in_ok-again.ensures.ok ∙ c.as_str-2.ensures.bytes ∙ sym c.as_str.ensures.bytes ∙ sym c.in_ok-key.ensures.ok in
    let test = λ (k : String Global). bytes_eq c.as_str-in-None.result.now (string_bytes k) in
    let found : Some c.taken_out-document.result ≡ Some c.args.document = c.taken_out-document.ensures.value ∙ ap (lookup test) c.in_ok-insert.ensures.entries
    ∙ found_again string_eq key test c.args.document es (of_text key c.as_str-in-None.result.now text) in
    let same : c.taken_out-document.result ≡ c.args.document = cc in
    document_so c.compile-compiled.result c.with_document.result c.taken_out-document.result c.args.document same c.with_document.ensures

pub returns-in-None-clause-kept : goal.returns-in-None-clause-kept
returns-in-None-clause-kept c =
    let es = c.args.modules.now.entries in
    let key = c.in_ok-key.key in
    let text = c.as_str-in-None.ensures.value ∙ c.in_ok-again.ensures.ok ∙ c.as_str-2.ensures.bytes ∙ sym c.as_str.ensures.bytes ∙ sym c.in_ok-key.ensures.ok in
    let test = λ (k : String Global). bytes_eq c.as_str-in-None.result.now (string_bytes k) in
    c.taken_out-document.ensures.entries ∙ ap (remove_entry test) c.in_ok-insert.ensures.entries
    ∙ taken_out string_eq key test c.args.document es (of_text key c.as_str-in-None.result.now text) (sym c.in_ok-insert.ensures.old ∙ c.in-None.is)

pub returns-in-Some-clause-compiled : goal.returns-in-Some-clause-compiled
returns-in-Some-clause-compiled c =
    let es = c.args.modules.now.entries in
    let key = c.in_ok-key.key in
    let name = ap chars c.in_ok-key.ensures.ok ∙ c.as_str.ensures.characters in
    let modules = ap modules_in c.in_ok-insert.ensures.entries ∙ modules-insert key c.args.document es
    ∙ ap (λ (n : List ℕ). with_one n (plain_of c.args.document) (modules_in es)) name in
    compiled_so c.compile-compiled-in-Some.result c.with_document-in-Some.result c.put_back-document.result _ _ modules
    c.compile-compiled-in-Some.ensures.compiled c.with_document-in-Some.ensures

pub returns-in-Some-clause-called : goal.returns-in-Some-clause-called
returns-in-Some-clause-called c =
    let es = c.args.modules.now.entries in
    let key = c.in_ok-key.key in
    let document = c.args.document in
    let name = ap chars c.in_ok-key.ensures.ok ∙ c.as_str.ensures.characters in
    let modules = ap modules_in c.in_ok-insert.ensures.entries ∙ modules-insert key document es
    ∙ ap (λ (n : List ℕ). with_one n (plain_of document) (modules_in es)) name in
    let numbered = ap numbered_modules c.in_ok-insert.ensures.entries ∙ numbered-insert key document es
    ∙ ap (λ (n : List ℕ). numbers.with_one n (Some document) (numbered_modules es)) name in
    called_so c.compile-compiled-in-Some.result c.with_document-in-Some.result c.put_back-document.result _ _ _ _ modules numbered
    c.compile-compiled-in-Some.ensures.called c.with_document-in-Some.ensures

pub returns-in-Some-clause-document : goal.returns-in-Some-clause-document
returns-in-Some-clause-document c =
    let es = c.args.modules.now.entries in
    let key = c.in_ok-key.key in
    let again = c.in_ok-again.again in
    let bytes = c.in_ok-again.ensures.ok ∙ c.as_str-2.ensures.bytes ∙ sym c.as_str.ensures.bytes ∙ sym c.in_ok-key.ensures.ok in
    let found : Some c.put_back-document.result ≡ Some c.args.document = c.put_back-document.ensures.value
    ∙ ap (lookup (string_eq again)) c.in_ok-insert.ensures.entries ∙ found_again string_eq key (string_eq again) c.args.document es (of_key key again bytes) in
    let same : c.put_back-document.result ≡ c.args.document = cc in
    document_so c.compile-compiled-in-Some.result c.with_document-in-Some.result c.put_back-document.result c.args.document same
    c.with_document-in-Some.ensures

pub returns-in-Some-clause-kept : goal.returns-in-Some-clause-kept
returns-in-Some-clause-kept c =
    let es = c.args.modules.now.entries in
    let key = c.in_ok-key.key in
    let again = c.in_ok-again.again in
    let bytes = c.in_ok-again.ensures.ok ∙ c.as_str-2.ensures.bytes ∙ sym c.as_str.ensures.bytes ∙ sym c.in_ok-key.ensures.ok in
    c.put_back-document.ensures.entries ∙ ap (λ es. insert_entry string_eq es again c.in-Some.before) c.in_ok-insert.ensures.entries
    ∙ put_back string_eq key again c.args.document c.in-Some.before es (of_key key again bytes) (sym c.in_ok-insert.ensures.old ∙ c.in-Some.is)
