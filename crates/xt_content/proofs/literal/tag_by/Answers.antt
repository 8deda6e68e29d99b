use Rattle.std.proofs.Common.{◌≡◌, codes, map}
use Rattle.std.specs.Str.{chars}
use Rattle.spec_compile.specs.Content.{sets_at}
use Rattle.xt_syntax.specs.PartView.{literal_attribute_of}
use Rattle.xt_attributes.specs.View.{entries_in}
use Rattle.xt_content.proofs.literal.tag_by.Goals as goal

pub returns : goal.returns
unfolding chars
returns c =
    let sets : c.names_at-sets.result.items ≡ sets_at (codes "use-attribute-sets") (entries_in c.args.entries) = c.names_at-sets.ensures.taken in
    λ i. record {
      prefix = c.in_ok-prefix.ensures i;
      name = c.in_ok-name.ensures i;
      namespaces = c.in_ok-namespaces.ensures i;
      sets = sets i;
      attributes = map literal_attribute_of c.args.attributes.items;
    }
