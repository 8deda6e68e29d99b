use Rattle.std.proofs.Common.{bytes_eq, string_bytes, ap, sym, ◌∙◌}
use Rattle.std.specs.Prelude.{is_some}
use Rattle.std.specs.Map.{lookup, remove_entry}
use Rattle.std.specs.String.{string_eq}
use Rattle.std.specs.declared.alloc.Global.{Global}
use Rattle.std.specs.declared.string.String.{String}
use Rattle.indexmap.specs.IndexMap.{insert_entry}
use Rattle.xt_world.specs.ParameterView.{values_in}
use Rattle.xt_world.proofs.Keys.{found_again, of_key, of_text, put_back, taken_out}
use Rattle.xt_world.proofs.parameters.Parameters.take_back.Goals as goal

pub returns-in-None : goal.returns-in-None
returns-in-None c = λ older h.
    let text = c.as_str.result.now in
    let test = λ (k : String Global). bytes_eq text (string_bytes k) in
    ap values_in (c.remove.ensures ∙ ap (remove_entry test) h.entries
    ∙ taken_out string_eq h.key test h.given older.values.entries (of_text h.key text (c.as_str.ensures.value ∙ h.name)) (sym h.value ∙ c.in-None.is))

pub returns-in-Some : goal.returns-in-Some
returns-in-Some c = λ older h.
    let name = c.args.before.name in
    let before = c.in-Some.value in
    let again = of_key h.key name h.name in
    let found = ap (lookup (string_eq name)) h.entries ∙ found_again string_eq h.key (string_eq name) h.given older.values.entries again in
    ap values_in (c.put_back.ensures (ap is_some found) ∙ ap (λ es. insert_entry string_eq es name before) h.entries
    ∙ put_back string_eq h.key name h.given before older.values.entries again (sym h.value ∙ c.in-Some.is))
