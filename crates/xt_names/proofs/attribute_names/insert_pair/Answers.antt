use Rattle.std.proofs.Common.{◌≡◌, ap, ◌∙◌}
use Rattle.std.specs.Str.{chars}
use Rattle.std.specs.declared.alloc.Global.{Global}
use Rattle.std.specs.declared.string.String.{String}
use Rattle.xt_names.specs.NamesSoFar.{name_in, names_in, is_expanded}
use Rattle.xt_names.proofs.Keys.{recovered, parts_same, pair_before, pair_kept}
use Rattle.xt_names.proofs.attribute_names.insert_pair.Goals as goal

pub returns-clause-before : goal.returns-clause-before
returns-clause-before c =
    let key : String Global × String Global = (c.in_ok-uri.uri, c.in_ok-local.local) in
    let is : name_in key ≡ c.args.name.now =
    parts_same _ _ c.args.name.now (ap chars c.in_ok-uri.ensures.ok ∙ c.as_str.ensures.characters ∙ c.uri.ensures)
    (ap chars c.in_ok-local.ensures.ok ∙ c.as_str-2.ensures.characters ∙ c.local.ensures) in
    recovered _ _ c.in_ok-is_new.ensures.added ∙ pair_before c.args.pairs.now.keys key c.args.name.now is

pub returns-clause-kept : goal.returns-clause-kept
returns-clause-kept c other =
    let key : String Global × String Global = (c.in_ok-uri.uri, c.in_ok-local.local) in
    let is : name_in key ≡ c.args.name.now =
    parts_same _ _ c.args.name.now (ap chars c.in_ok-uri.ensures.ok ∙ c.as_str.ensures.characters ∙ c.uri.ensures)
    (ap chars c.in_ok-local.ensures.ok ∙ c.as_str-2.ensures.characters ∙ c.local.ensures) in
    ap (λ keys. is_expanded (names_in keys) other) c.in_ok-is_new.ensures.keys ∙ pair_kept c.args.pairs.now.keys key c.args.name.now other is
