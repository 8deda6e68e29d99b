-- What the types of the program stand for, and what calls answer.
use Rattle.std.specs.Prelude.{◌≡◌, ℕ, false, List, [], ◌∷◌, ◌++◌, map, Option, None, Some, Result, Ok, Err, bytes_eq}
use Rattle.spec_document.specs.Name.{Expanded}
use Rattle.spec_stylesheet.specs.Place.{Site}
use Rattle.spec_structure.specs.Structure.{Fault}
use Rattle.spec_compile.specs.Content as spec
use Rattle.spec_compile.specs.Reading.{Reading}
use Rattle.spec_compile.specs.Value.{Entry, value_at}
use Rattle.xt_attributes.specs.Answers.{IsRead}
use Rattle.xt_attributes.specs.View.{entries_in}
use Rattle.xt_attributes.specs.declared.fault.AttributeFault.{AttributeFault}
use Rattle.xt_attributes.specs.declared.fault.AttributeFault.TheVariants as attribute
use Rattle.xt_content.specs.Kind.{Parted}
use Rattle.xt_content.specs.Visit as plain
use Rattle.xt_content.specs.declared.body.Visited.{Visited}
use Rattle.xt_content.specs.declared.met.Met.{Met}
use Rattle.xt_content.specs.declared.met.Met.TheVariants as met
use Rattle.xt_content.specs.declared.child.Parts.{Parts}
use Rattle.std.specs.declared.alloc.Global.{Global}
use Rattle.std.specs.declared.vec.Vec.{Vec}
use Rattle.spec_stylesheet.specs.Instruction as made
use Rattle.xt_syntax.specs.declared.literal.LiteralAttribute.{LiteralAttribute}
use Rattle.xt_syntax.specs.PartView.{literal_attribute_of, literal_tag_of, site_of, sort_key_of}
use Rattle.xt_syntax.specs.InstrView.{instr_of, binding_of, branch_of}
use Rattle.xt_structure.specs.View.{fault_in, in_force}
use Rattle.xt_content.specs.declared.around.Around.{Around}
use Rattle.xt_content.specs.declared.child.Child.{Child}
use Rattle.xt_content.specs.declared.child.Child.TheVariants as child
use Rattle.xt_content.specs.declared.child.Below.{Below}
use Rattle.xt_content.specs.declared.child.One.{One}
use Rattle.xt_content.specs.declared.outline.Uses.{Uses}
use Rattle.xt_content.specs.declared.outline.Outline.{Outline, Outline-F, fold-Outline}
use Rattle.xt_content.specs.declared.outline.Outlined.{Outlined, Outlined-F, fold-Outlined}
use Rattle.xt_content.specs.declared.fault.ContentFault.{ContentFault}
use Rattle.xt_content.specs.declared.fault.ContentFault.TheVariants as faults

abbrev pub around_in : Around → spec.Around
around_in a = record { module_name = a.module_name; inside = in_force a.inside; excluded = a.excluded.items }

abbrev pub child_in : Child → spec.Child
child_in (child.Instruction i) = spec.AnInstruction (instr_of i)
child_in (child.Parameter b) = spec.AParameter (binding_of b)
child_in (child.SortKey k) = spec.ASortKey (sort_key_of k)
child_in (child.Branch b) = spec.ABranch (branch_of b)

abbrev pub children_in : List Child → List spec.Child
children_in children = map child_in children

-- a child that may be there
abbrev pub child_if : Option Child → List spec.Child
child_if None = []
child_if (Some c) = child_in c ∷ []

abbrev pub parts_in : Parts → Parted
parts_in p = record {
  content = map instr_of p.content.items;
  parameters = map binding_of p.parameters.items;
  sort_keys = map sort_key_of p.sort_keys.items;
  branches = map branch_of p.branches.items;
}

abbrev pub added : Parted → Parted → Parted
added p q = record {
  content = p.content ++ q.content;
  parameters = p.parameters ++ q.parameters;
  sort_keys = p.sort_keys ++ q.sort_keys;
  branches = p.branches ++ q.branches;
}

abbrev pub parts_of : spec.Child → Parted
parts_of c = record { content = spec.instruction_in c; parameters = spec.parameter_in c; sort_keys = spec.sort_key_in c; branches = spec.branch_in c }

abbrev pub uses_in : Uses → spec.Uses
uses_in u = record { variables = u.variables.items; templates = u.templates.items; sets = u.sets.items }

-- ---- Outlines

-- an element of an outline, with what is below it
pub record Element : Type 0 where
  pub site : Site
  pub uses : spec.Uses
  pub binds : Option Expanded
  pub below : spec.Outline

abbrev pub outlines : List Element → spec.Outline
outlines [] = spec.Nothing
outlines (e ∷ es) = spec.AnElement e.site e.uses e.binds e.below (outlines es)

abbrev pub outline_step : Outline-F spec.Outline Element → spec.Outline
outline_step o = outlines o.elements.items

abbrev pub outlined_step : Outlined-F spec.Outline Element → Element
outlined_step e = record { site = site_of e.site; uses = uses_in e.uses; binds = e.binds; below = e.below }

abbrev pub outline_in : Outline → spec.Outline
outline_in = fold-Outline spec.Outline Element outline_step outlined_step

abbrev pub outlined_in : Outlined → Element
outlined_in = fold-Outlined spec.Outline Element outline_step outlined_step

abbrev pub below_in : Below → spec.Below
below_in b = record { children = children_in b.children.items; outline = outline_in b.outline }

-- one node among siblings: a child and an element that may be there
abbrev pub element_if : Option Outlined → List Element
element_if None = []
element_if (Some e) = outlined_in e ∷ []

abbrev pub one_in : One → spec.Below
one_in o = record { children = child_if o.child; outline = outlines (element_if o.element) }

abbrev pub element_of : List spec.Child → Element → spec.Below
element_of child e = plain.one_of child e.site e.uses e.binds e.below

abbrev pub met_in : Met → plain.Met
met_in met.Skipped = plain.Skipped
met_in (met.Language x entries) = plain.OfLanguage x (entries_in entries)
met_in (met.Literal tag) = plain.ALiteral (literal_tag_of tag)

abbrev pub literals_in : Vec LiteralAttribute Global → List made.LiteralAttribute
literals_in attributes = map literal_attribute_of attributes.items

abbrev pub visit_in : Visited → plain.Visited
visit_in v = record { below = one_in v.one; next = v.next }

-- ---- Answers

-- what was read of the element at this path, or the fault that it has
abbrev pub IsStanding : {T : Type 0} → List ℕ → Result T AttributeFault → Result T ContentFault → Type 0
IsStanding path (Ok x) (Ok y) = y ≡ x
IsStanding path (Ok x) (Err fault) = ⊥
IsStanding path (Err attribute.Memory) (Err faults.Memory) = Unit {0}
IsStanding path (Err (attribute.Refused code)) (Err faults.Memory) = Unit {0}
IsStanding path (Err (attribute.Refused code)) (Err (faults.Refused fault)) = fault_in fault ≡ record { code = code; path = path }
IsStanding path (Err attribute.Memory) (Err (faults.Refused fault)) = ⊥
IsStanding path (Err e) (Ok y) = ⊥

-- of the entries only that of this name may have changed
abbrev pub Keeps : List ℕ → List Entry → List Entry → Type 0
Keeps name old new = (other : List ℕ) → bytes_eq name other ≡ false → value_at other new ≡ value_at other old

-- which refusal a fault is; want of memory is none
abbrev pub refusal_in : ContentFault → Option Fault
refusal_in faults.Memory = None
refusal_in (faults.Refused fault) = Some (fault_in fault)

-- what a call answers is what a reading comes to; of want of memory it says nothing
abbrev pub IsAnswer : {A X : Type 0} → (X → A) → Reading (Result A Fault) → Result X ContentFault → Type 0
IsAnswer view reading result = IsRead refusal_in view reading result
