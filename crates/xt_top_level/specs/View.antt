-- What elements at the top of a module declare.
use Rattle.std.specs.Prelude.{List, [], ◌∷◌, map, Option, None, Some}
use Rattle.std.specs.Option.{option_map}
use Rattle.std.specs.declared.alloc.Global.{Global}
use Rattle.std.specs.declared.vec.Vec.{Vec}
use Rattle.spec_compile.specs.Unit as unit
use Rattle.xt_syntax.specs.View.{test_of}
use Rattle.xt_syntax.specs.PartView.{pattern_of, site_of}
use Rattle.xt_syntax.specs.SheetView.{alias_of, attribute_set_of, global_of, key_of, template_of}
use Rattle.xt_content.specs.View.{outline_in, uses_in}
use Rattle.xt_top_level.specs.declared.top_level.Declaration.{Declaration}
use Rattle.xt_top_level.specs.declared.top_level.Declaration.TheVariants as declares
use Rattle.xt_top_level.specs.declared.top_level.TopLevel.{TopLevel}

abbrev pub declaration_in : Declaration → unit.Declaration
declaration_in (declares.Template t) = unit.ATemplate (template_of t.template) (option_map pattern_of t.pattern) t.priority t.mode
declaration_in (declares.Global g) = unit.AGlobal (global_of g)
declaration_in (declares.Set s) = unit.ASet (attribute_set_of s)
declaration_in (declares.Key k) = unit.AKey (key_of k)
declaration_in (declares.SpaceRule s) = unit.ASpaceRule s.strips (map test_of s.tests.items)
declaration_in (declares.Output m) = unit.AnOutput m
declaration_in (declares.Alias a) = unit.AnAlias (alias_of a)

abbrev pub top_level_in : TopLevel → unit.TopLevel
top_level_in t = record { site = site_of t.site; declaration = declaration_in t.declaration; uses = uses_in t.uses; outline = outline_in t.outline }

abbrev pub top_levels_in : List TopLevel → List unit.TopLevel
top_levels_in ts = map top_level_in ts

abbrev pub top_levels_of : Vec TopLevel Global → List unit.TopLevel
top_levels_of ts = top_levels_in ts.items

-- one that may be there
abbrev pub said : Option TopLevel → List unit.TopLevel
said None = []
said (Some t) = top_level_in t ∷ []
