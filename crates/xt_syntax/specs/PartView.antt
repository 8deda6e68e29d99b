-- The trees that patterns, value templates and the parts of instructions stand for.
use Rattle.std.specs.Prelude.{map}
use Rattle.std.specs.Option.{option_map}
use Rattle.spec_stylesheet.specs.Place as places
use Rattle.spec_stylesheet.specs.Pattern as patterns
use Rattle.spec_stylesheet.specs.ValueTemplate as templates
use Rattle.spec_stylesheet.specs.Instruction as instructions
use Rattle.xt_names.specs.View.{entry_of}
use Rattle.xt_base.specs.declared.place.Place.{Place}
use Rattle.xt_syntax.specs.View.{expr_of, step_of}
use Rattle.xt_syntax.specs.declared.pattern.PatternStep.{PatternStep}
use Rattle.xt_syntax.specs.declared.pattern.Alternative.{Alternative}
use Rattle.xt_syntax.specs.declared.pattern.Pattern.{Pattern}
use Rattle.xt_syntax.specs.declared.avt.AvtPart.{AvtPart}
use Rattle.xt_syntax.specs.declared.avt.AvtPart.TheVariants as parts
use Rattle.xt_syntax.specs.declared.avt.Avt.{Avt}
use Rattle.xt_syntax.specs.declared.site.Site.{Site}
use Rattle.xt_syntax.specs.declared.sort_key.SortKey.{SortKey}
use Rattle.xt_syntax.specs.declared.count.Count.{Count}
use Rattle.xt_syntax.specs.declared.names.MadeName.{MadeName}
use Rattle.xt_syntax.specs.declared.literal.LiteralAttribute.{LiteralAttribute}
use Rattle.xt_syntax.specs.declared.literal.LiteralTag.{LiteralTag}
use Rattle.xt_syntax.specs.declared.without_content.NumberSource.{NumberSource}
use Rattle.xt_syntax.specs.declared.without_content.NumberSource.TheVariants as sources
use Rattle.xt_syntax.specs.declared.without_content.Numbering.{Numbering}
use Rattle.xt_syntax.specs.declared.without_content.WithoutContent.{WithoutContent}
use Rattle.xt_syntax.specs.declared.without_content.WithoutContent.TheVariants as without
use Rattle.xt_syntax.specs.declared.with_content.WithContent.{WithContent}
use Rattle.xt_syntax.specs.declared.with_content.WithContent.TheVariants as with

abbrev pub place_of : Place → places.Place
place_of p = record { module_name = p.«module»; path = p.path }

abbrev pub site_of : Site → places.Site
site_of s = record { place = place_of s.place; scope = s.scope }

abbrev pub pattern_step_of : PatternStep → patterns.PatternStep
pattern_step_of s = record { separator = s.separator; step = step_of s.step }

abbrev pub alternative_of : Alternative → patterns.Alternative
alternative_of a = record { start = a.start; steps = map pattern_step_of a.steps.items }

abbrev pub pattern_of : Pattern → patterns.Pattern
pattern_of p = record { alternatives = map alternative_of p.alternatives.items }

abbrev pub avt_part_of : AvtPart → templates.AvtPart
avt_part_of (parts.Text text) = templates.Text text
avt_part_of (parts.Expr e) = templates.Value (expr_of e)

abbrev pub avt_of : Avt → templates.Avt
avt_of a = record { parts = map avt_part_of a.parts.items }

abbrev pub sort_key_of : SortKey → instructions.SortKey
sort_key_of k = record { site = site_of k.site; select = expr_of k.select; data_type = avt_of k.data_type; order = avt_of k.order }

abbrev pub count_of : Count → instructions.Count
count_of c = record { level = c.level; count = option_map pattern_of c.count; from = option_map pattern_of c.from }

abbrev pub made_name_of : MadeName → instructions.MadeName
made_name_of n = record { name = avt_of n.name; namespace = option_map avt_of n.namespace }

abbrev pub literal_attribute_of : LiteralAttribute → instructions.LiteralAttribute
literal_attribute_of a = record { prefix = a.prefix; name = a.name; value = avt_of a.value }

abbrev pub literal_tag_of : LiteralTag → instructions.LiteralTag
literal_tag_of t = record {
  prefix = t.prefix;
  name = t.name;
  namespaces = map entry_of t.namespaces.items;
  sets = t.sets.items;
  attributes = map literal_attribute_of t.attributes.items;
}

abbrev pub number_source_of : NumberSource → instructions.NumberSource
number_source_of (sources.Value e) = instructions.FromValue (expr_of e)
number_source_of (sources.Count c) = instructions.FromCount (count_of c)

abbrev pub numbering_of : Numbering → instructions.Numbering
numbering_of n = record {
  source = number_source_of n.source;
  format = avt_of n.format;
  grouping_separator = option_map avt_of n.grouping_separator;
  grouping_size = option_map avt_of n.grouping_size;
}

abbrev pub without_content_of : WithoutContent → instructions.WithoutContent
without_content_of (without.Text text is_instruction) = instructions.Text text
without_content_of (without.ValueOf e) = instructions.ValueOf (expr_of e)
without_content_of (without.CopyOf e) = instructions.CopyOf (expr_of e)
without_content_of (without.Number n) = instructions.Number (numbering_of n)
without_content_of without.ApplyImports = instructions.ApplyImports
without_content_of without.Fallback = instructions.Fallback

abbrev pub with_content_of : WithContent → instructions.WithContent
with_content_of (with.Literal tag) = instructions.Literal (literal_tag_of tag)
with_content_of (with.Element name sets) = instructions.Element (made_name_of name) sets.items
with_content_of (with.Attribute name) = instructions.Attribute (made_name_of name)
with_content_of with.Comment = instructions.Comment
with_content_of (with.ProcessingInstruction target) = instructions.ProcessingInstruction (avt_of target)
with_content_of (with.Copy sets) = instructions.Copy sets.items
with_content_of (with.Variable name e) = instructions.Variable name (option_map expr_of e)
with_content_of (with.Message ends) = instructions.Message ends
