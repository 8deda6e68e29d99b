use Rattle.std.proofs.Common.{◌∙◌, List, map, sym, ap, subst}
use Rattle.std.specs.Option.{option_map}
use Rattle.xt_tree.specs.ValueView.{value_of}
use Rattle.xt_driver.specs.declared.memo.Remembered.{Remembered}
use Rattle.xt_driver.specs.Referring.{entry_of, entries_of, Recalls}
use Rattle.xt_driver.specs.Counted.{IsFrom}
use Rattle.xt_driver.proofs.Standing.{if_ok, if_on}
use Rattle.xt_driver.proofs.Referring.{refers_past, refers_under_way, refers_recalled, refers_anew, refers_none}
use Rattle.xt_driver.proofs.Regaining.{some_of}
use Rattle.xt_driver.proofs.Finding.{looked_past, looked_under, looked_recalled, looked_none}
use Rattle.xt_driver.proofs.globals.look_up.Goals as goal

pub returns-in-Some-clause-refers : goal.returns-in-Some-clause-refers
returns-in-Some-clause-refers c =
    let found = sym c.in_ok-known.ensures ∙ ap (option_map value_of) c.in-Some.is in
    if_ok c.given.result c.given.ensures (λ r h. refers_past r c.args.globals.now c.args.name.now c.args.levels (entries_of c.args.memo.now) c.in-Some.value found h)

pub returns-in-Some-clause-counts : goal.returns-in-Some-clause-counts
returns-in-Some-clause-counts c =
    let found = sym c.in_ok-known.ensures ∙ ap (option_map value_of) c.in-Some.is in
    if_ok c.given.result c.given.ensures
    (λ r h. looked_past c.args.globals.now c.args.name.now c.args.levels (entries_of c.args.memo.now) r _ (value_of c.in-Some.value) found h)

pub returns-then-is_under_way-clause-refers : goal.returns-then-is_under_way-clause-refers
returns-then-is_under_way-clause-refers c =
    let none = sym c.in_ok-known.ensures ∙ ap (option_map value_of) c.in_default.is in
    let under = sym c.is_under_way.ensures ∙ c.if-is_under_way.true in
    if_ok c.given-then-is_under_way.result c.given-then-is_under_way.ensures
    (λ r h. refers_under_way r c.args.globals.now c.args.name.now c.args.levels (entries_of c.args.memo.now) none under h)

pub returns-then-is_under_way-clause-counts : goal.returns-then-is_under_way-clause-counts
returns-then-is_under_way-clause-counts c =
    let under = sym c.is_under_way.ensures ∙ c.if-is_under_way.true in
    if_ok c.given-then-is_under_way.result c.given-then-is_under_way.ensures
    (λ r h. looked_under c.args.globals.now c.args.name.now c.args.levels (entries_of c.args.memo.now) r _ under h)

pub returns-in-Some-recalled-clause-refers : goal.returns-in-Some-recalled-clause-refers
returns-in-Some-recalled-clause-refers c =
    let P : List Remembered → Type 0 = λ es. Recalls c.in_ok-recalled.recalled c.args.name.now c.args.levels (map entry_of es) in
    let recalls = subst P c.as_slice.ensures.value c.in_ok-recalled.ensures.recalls in
    refers_recalled c.args.globals.now c.args.name.now c.args.levels (entries_of c.args.memo.now) c.in-Some-recalled.recalled c.in_ok-recalled.recalled recalls c.in-Some-recalled.is

pub returns-in-Some-recalled-clause-counts : goal.returns-in-Some-recalled-clause-counts
returns-in-Some-recalled-clause-counts c =
    let name = c.args.name.now in
    let r = c.in-Some-recalled.recalled in
    let P : List Remembered → Type 0 = λ es. Recalls c.in_ok-recalled.recalled name c.args.levels (map entry_of es) in
    let F : List Remembered → Type 0 = λ es. IsFrom r.value name (map entry_of es) in
    let recalls = subst P c.as_slice.ensures.value c.in_ok-recalled.ensures.recalls in
    let from = some_of (λ x. IsFrom x.value name (map entry_of c.as_slice.result.now)) c.in_ok-recalled.recalled r c.in-Some-recalled.is c.in_ok-recalled.ensures.found in
    looked_recalled c.args.globals.now name c.args.levels (entries_of c.args.memo.now) r c.in_ok-recalled.recalled recalls c.in-Some-recalled.is
    (subst F c.as_slice.ensures.value from)

pub returns-in-Some-element_of-clause-refers : goal.returns-in-Some-element_of-clause-refers
returns-in-Some-element_of-clause-refers c =
    let none = sym c.in_ok-known.ensures ∙ ap (option_map value_of) c.in_default.is in
    let apart = sym c.is_under_way.ensures ∙ c.if-is_under_way.false in
    let is = sym c.element_of.ensures ∙ c.in-Some-element_of.is in
    refers_anew c.args.globals.now c.args.name.now c.args.levels (entries_of c.args.memo.now) c.in-Some-element_of.element none apart (λ ask. is)

pub returns-in-None-clause-refers : goal.returns-in-None-clause-refers
returns-in-None-clause-refers c =
    let none = sym c.in_ok-known.ensures ∙ ap (option_map value_of) c.in_default.is in
    let apart = sym c.is_under_way.ensures ∙ c.if-is_under_way.false in
    let is = sym c.element_of.ensures ∙ c.in-None.is in
    if_on c.no_global.result c.no_global.ensures.given c.no_global.ensures.remembered
    (λ r h k. refers_none r c.args.globals.now c.args.name.now c.args.levels (entries_of c.args.memo.now) (entries_of c.no_global.new.memo) none apart (λ ask. is) h k)

pub returns-in-None-clause-counts : goal.returns-in-None-clause-counts
returns-in-None-clause-counts c =
    let is = sym c.element_of.ensures ∙ c.in-None.is in
    if_on c.no_global.result c.no_global.ensures.given c.no_global.ensures.remembered
    (λ r h k. looked_none c.args.globals.now c.args.name.now c.args.levels (entries_of c.args.memo.now) (entries_of c.no_global.new.memo) r (λ ask. is) h k)
