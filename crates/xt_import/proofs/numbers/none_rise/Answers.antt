use Rattle.std.proofs.Common.{◌≡◌, ◌∙◌, ◌∷◌, ap}
use Rattle.std.proofs.lemmas.Map.Iter.{rest_more}
use Rattle.std.specs.Map.Iter.{deref_pair}
use Rattle.std.specs.Str.{chars}
use Rattle.xt_import.specs.Table.{Entry, name_of, number_in}
use Rattle.xt_import.proofs.Certified.{looks_on, rises}
use Rattle.xt_import.proofs.numbers.none_rise.Goals as goal

pub returns-then-not-none_rises : goal.returns-then-not-none_rises
returns-then-not-none_rises c =
    let number = number_in c.args.table.now.entries c.args.numbers.now in
    let e : Entry = (c.in-Some.name.now, c.in-Some.links.now) in
    let turn : c.loop-name.name-iterator ≡ e ∷ c.next.new.self = rest_more deref_pair _ _ _ (c.in-Some.name, c.in-Some.links) c.in-Some.is c.next.ensures.steps in
    let own : c.number_of-own.result ≡ number (name_of e) = c.number_of-own.ensures ∙ ap (λ n. number (chars n)) c.as_str.ensures.value in
    rises number c.args.table.now.entries c.loop-name.name-iterator c.next.new.self e c.number_of-own.result c.as_slice.result.now c.none_rises.result turn own c.as_slice.ensures.value c.none_rises.ensures c.if-not-none_rises.true c.loop-name.invariant

pub loop-name-preserved : goal.loop-name-preserved
loop-name-preserved c =
    let number = number_in c.args.table.now.entries c.args.numbers.now in
    let e : Entry = (c.in-Some.name.now, c.in-Some.links.now) in
    let turn : c.loop-name.name-iterator ≡ e ∷ c.next.new.self = rest_more deref_pair _ _ _ (c.in-Some.name, c.in-Some.links) c.in-Some.is c.next.ensures.steps in
    let own : c.number_of-own.result ≡ number (name_of e) = c.number_of-own.ensures ∙ ap (λ n. number (chars n)) c.as_str.ensures.value in
    looks_on number c.args.table.now.entries c.loop-name.name-iterator c.next.new.self e c.number_of-own.result c.as_slice.result.now c.none_rises.result turn own c.as_slice.ensures.value c.none_rises.ensures c.if-not-none_rises.false c.loop-name.invariant
