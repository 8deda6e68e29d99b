use Rattle.std.proofs.Common.{sym, ap, ◌∙◌}
use Rattle.std.specs.Option.{option_copied}
use Rattle.xt_keys.specs.View.{nodes_in}
use Rattle.xt_keys.proofs.Lookups.{by_characters}
use Rattle.xt_keys.proofs.groups.KeyIndex.find.Goals as goal

pub returns-in-None : goal.returns-in-None
returns-in-None c =
    ap nodes_in (ap option_copied (sym c.in-None.is) ∙ c.get.ensures.value ∙ by_characters c.args.text.now c.utf8.text c.args.self.now.groups.entries)

pub returns-in-Some : goal.returns-in-Some
returns-in-Some c =
    c.as_slice.ensures.value
    ∙ ap nodes_in (ap option_copied (sym c.in-Some.is) ∙ c.get.ensures.value ∙ by_characters c.args.text.now c.utf8.text c.args.self.now.groups.entries)
