use Rattle.std.proofs.Common.{ap, sym, ◌∙◌, take}
use Rattle.std.proofs.lemmas.List.{take-map}
use Rattle.xt_scoping.specs.Distinct.{names_of}
use Rattle.xt_scoping.specs.declared.key.Key.{Key}
use Rattle.xt_scoping.proofs.names.Names.truncate.Goals as goal

pub returns : goal.returns
returns c =
    ap names_of c.truncate.ensures.keys ∙ sym (take-map (λ (k : Key). k.name.now) c.args.count c.self.inside.keys.keys)
    ∙ ap (take c.args.count) c.self.view_is
