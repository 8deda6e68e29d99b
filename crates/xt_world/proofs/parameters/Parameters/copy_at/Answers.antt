use Rattle.std.proofs.Common.{◌≡◌, ℕ, ◌+◌, List, ◌∷◌, ap, sym, drop, string_bytes, ◌∙◌}
use Rattle.std.specs.Str.{chars}
use Rattle.std.specs.declared.alloc.Global.{Global}
use Rattle.std.specs.declared.string.String.{String}
use Rattle.std.proofs.lemmas.List.{at_drop_more}
use Rattle.std.proofs.lemmas.Option.{get_or_from_slice_get, slice_get_within}
use Rattle.std.proofs.lemmas.Result.{on_ok_weaker}
use Rattle.xt_world.specs.ParameterView.{values_in, with_value}
use Rattle.xt_world.proofs.parameters.Parameters.copy_at.Goals as goal

pub returns-in-Some : goal.returns-in-Some
returns-in-Some c =
    let es = c.args.self.now.values.entries in
    let e : String Global × List ℕ = (c.in-Some.name.now, c.in-Some.value.now) in
    let i = c.args.index in
    let at = sym (c.in-Some.ensures {u = tt}).entry in
    let next : values_in (drop i es) ≡ values_in (e ∷ drop (i + 1) es) = at_drop_more values_in es i e (slice_get_within es i e at)
    ∙ ap (λ first. values_in (first ∷ drop (i + 1) es)) (get_or_from_slice_get es i e e at) in
    on_ok_weaker c.put_copy.result
    (λ (put : _) before. put ∙ ap (with_value (chars (string_bytes e.0)) e.1) before ∙ sym next) c.put_copy.ensures
