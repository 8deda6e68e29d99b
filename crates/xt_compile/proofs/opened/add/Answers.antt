use Rattle.std.proofs.Common.{◌≡◌, List, ◌++◌, ◌∷◌, [], ap, refl, slice_index_or, ◌∙◌}
use Rattle.std.specs.Map.{lookup}
use Rattle.xt_top_level.specs.View.{top_level_in, top_levels_in}
use Rattle.xt_top_level.specs.declared.top_level.TopLevel.{TopLevel}
use Rattle.xt_compile.specs.Opened.{is_path, kept_of}
use Rattle.xt_compile.proofs.Places.{added, put_key}
use Rattle.xt_compile.proofs.opened.add.Goals as goal

pub returns : goal.returns
returns c before opened =
    let x = top_level_in c.args.top_level in
    let there = top_levels_in c.in_ok-there.there.items in
    let alone : c.push.new.self.items ≡ c.args.top_level ∷ []
    = (c.in_ok-push.ensures {u = tt}).items ∙ ap (λ (ts : List TopLevel). ts ++ c.args.top_level ∷ []) c.new-last.ensures.items in
    let is : c.index.result.now ≡ c.args.top_level
    = c.index.ensures ∙ ap (λ (ts : List TopLevel). slice_index_or ts 0 c.index.result.now) alone in
    added x there before c.in_ok-taken.taken c.args.opened.now.entries c.take_at.new.opened.entries c.insert.new.self.entries
    (c.in_ok-taken.ensures.taken ∙ ap (λ (t : TopLevel). lookup (is_path t.site.place.path) c.args.opened.now.entries) is)
    (c.in_ok-there.ensures ∙ ap (λ (ts : List TopLevel). kept_of c.in_ok-taken.taken ++ top_levels_in ts) alone)
    (rw is at c.in_ok-taken.ensures.rest)
    (put_key c.take_at.new.opened.entries c.insert.new.self.entries c.in_ok-key.key x.site.place.path c.in_ok-there.there there
    (c.in_ok-key.ensures ∙ ap (λ (t : TopLevel). t.site.place.path) is) refl (c.in_ok-insert.ensures {u = tt}).entries) opened
