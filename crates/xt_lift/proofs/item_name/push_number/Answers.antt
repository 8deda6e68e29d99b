use Rattle.std.proofs.Common.{◌≡◌, ◌++◌, ℕ, List, ◌∙◌, subst}
use Rattle.std.specs.Prelude.{OnOk}
use Rattle.std.proofs.lemmas.Str.{chars-IsAscii}
use Rattle.xt_lift.proofs.item_name.push_number.Goals as goal

pub returns : goal.returns
returns c =
    subst (λ (digits : List ℕ). OnOk c.push_str.result (c.push_str.new.self ≡ c.args.text.now ++ digits))
    (chars-IsAscii c.format.result.now c.format.ensures.ascii ∙ c.format.ensures.text) c.push_str.ensures.ok
