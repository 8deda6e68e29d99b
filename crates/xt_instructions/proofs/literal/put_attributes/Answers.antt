use Rattle.std.proofs.Common.{◌≡◌, drop, ap, ◌∙◌}
use Rattle.std.specs.List.{flat_map}
use Rattle.spec_run.specs.Content.{elements_named}
use Rattle.xt_syntax.specs.PartView.{place_of}
use Rattle.xt_frames.specs.declared.frame.Frame.TheVariants as frames
use Rattle.xt_frames.specs.View.{here_of}
use Rattle.xt_instructions.proofs.Used.{sets_before}
use Rattle.xt_instructions.proofs.literal.put_attributes.Goals as goal

pub returns : goal.returns
returns c =
    let a = c.args.attributes in
    let h = here_of a.here in
    let names = c.args.tag.now.sets.items in
    let used = c.in_ok-sets.sets in
    let is_used = c.in_ok-sets.ensures in
    let named = elements_named h.sets in
    let elements : drop used.next used.elements.items ≡ flat_map named names = ap (λ n. drop n used.elements.items) is_used.next ∙ is_used.elements ∙ ap (flat_map named) c.as_slice.ensures.value in
    sets_before (frames.Attributes a) used (place_of c.args.site.now.place) h names c.args.run.now c.push.new.run c.push_sets.new.run c.in_ok-push.ensures c.in_ok-push_sets.ensures is_used.place is_used.here elements
