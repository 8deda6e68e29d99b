use Rattle.std.proofs.Common.{sym, ap}
use Rattle.std.specs.Str.{chars}
use Rattle.spec_structure.specs.Elements.{rows_of}
use Rattle.xt_structure.proofs.table.rows_of.Goals as goal

pub returns-in-Stylesheet : goal.returns-in-Stylesheet
unfolding chars rows_of
returns-in-Stylesheet c = ap rows_of (sym c.in-Stylesheet.is)

pub returns-in-Transform : goal.returns-in-Transform
unfolding chars rows_of
returns-in-Transform c = ap rows_of (sym c.in-Transform.is)

pub returns-in-Import : goal.returns-in-Import
unfolding chars rows_of
returns-in-Import c = ap rows_of (sym c.in-Import.is)

pub returns-in-Include : goal.returns-in-Include
unfolding chars rows_of
returns-in-Include c = ap rows_of (sym c.in-Include.is)

pub returns-in-StripSpace : goal.returns-in-StripSpace
unfolding chars rows_of
returns-in-StripSpace c = ap rows_of (sym c.in-StripSpace.is)

pub returns-in-PreserveSpace : goal.returns-in-PreserveSpace
unfolding chars rows_of
returns-in-PreserveSpace c = ap rows_of (sym c.in-PreserveSpace.is)

pub returns-in-Output : goal.returns-in-Output
unfolding chars rows_of
returns-in-Output c = ap rows_of (sym c.in-Output.is)

pub returns-in-Key : goal.returns-in-Key
unfolding chars rows_of
returns-in-Key c = ap rows_of (sym c.in-Key.is)

pub returns-in-DecimalFormat : goal.returns-in-DecimalFormat
unfolding chars rows_of
returns-in-DecimalFormat c = ap rows_of (sym c.in-DecimalFormat.is)

pub returns-in-NamespaceAlias : goal.returns-in-NamespaceAlias
unfolding chars rows_of
returns-in-NamespaceAlias c = ap rows_of (sym c.in-NamespaceAlias.is)

pub returns-in-AttributeSet : goal.returns-in-AttributeSet
unfolding chars rows_of
returns-in-AttributeSet c = ap rows_of (sym c.in-AttributeSet.is)

pub returns-in-Template : goal.returns-in-Template
unfolding chars rows_of
returns-in-Template c = ap rows_of (sym c.in-Template.is)

pub returns-in-Param : goal.returns-in-Param
unfolding chars rows_of
returns-in-Param c = ap rows_of (sym c.in-Param.is)

pub returns-in-WithParam : goal.returns-in-WithParam
unfolding chars rows_of
returns-in-WithParam c = ap rows_of (sym c.in-WithParam.is)

pub returns-in-Variable : goal.returns-in-Variable
unfolding chars rows_of
returns-in-Variable c = ap rows_of (sym c.in-Variable.is)

pub returns-in-ApplyTemplates : goal.returns-in-ApplyTemplates
unfolding chars rows_of
returns-in-ApplyTemplates c = ap rows_of (sym c.in-ApplyTemplates.is)

pub returns-in-ApplyImports : goal.returns-in-ApplyImports
unfolding chars rows_of
returns-in-ApplyImports c = ap rows_of (sym c.in-ApplyImports.is)

pub returns-in-CallTemplate : goal.returns-in-CallTemplate
unfolding chars rows_of
returns-in-CallTemplate c = ap rows_of (sym c.in-CallTemplate.is)

pub returns-in-ForEach : goal.returns-in-ForEach
unfolding chars rows_of
returns-in-ForEach c = ap rows_of (sym c.in-ForEach.is)

pub returns-in-Sort : goal.returns-in-Sort
unfolding chars rows_of
returns-in-Sort c = ap rows_of (sym c.in-Sort.is)

pub returns-in-ValueOf : goal.returns-in-ValueOf
unfolding chars rows_of
returns-in-ValueOf c = ap rows_of (sym c.in-ValueOf.is)

pub returns-in-CopyOf : goal.returns-in-CopyOf
unfolding chars rows_of
returns-in-CopyOf c = ap rows_of (sym c.in-CopyOf.is)

pub returns-in-Number : goal.returns-in-Number
unfolding chars rows_of
returns-in-Number c = ap rows_of (sym c.in-Number.is)

pub returns-in-Choose : goal.returns-in-Choose
unfolding chars rows_of
returns-in-Choose c = ap rows_of (sym c.in-Choose.is)

pub returns-in-When : goal.returns-in-When
unfolding chars rows_of
returns-in-When c = ap rows_of (sym c.in-When.is)

pub returns-in-Otherwise : goal.returns-in-Otherwise
unfolding chars rows_of
returns-in-Otherwise c = ap rows_of (sym c.in-Otherwise.is)

pub returns-in-If : goal.returns-in-If
unfolding chars rows_of
returns-in-If c = ap rows_of (sym c.in-If.is)

pub returns-in-Fallback : goal.returns-in-Fallback
unfolding chars rows_of
returns-in-Fallback c = ap rows_of (sym c.in-Fallback.is)

pub returns-in-Text : goal.returns-in-Text
unfolding chars rows_of
returns-in-Text c = ap rows_of (sym c.in-Text.is)

pub returns-in-Element : goal.returns-in-Element
unfolding chars rows_of
returns-in-Element c = ap rows_of (sym c.in-Element.is)

pub returns-in-Attribute : goal.returns-in-Attribute
unfolding chars rows_of
returns-in-Attribute c = ap rows_of (sym c.in-Attribute.is)

pub returns-in-Comment : goal.returns-in-Comment
unfolding chars rows_of
returns-in-Comment c = ap rows_of (sym c.in-Comment.is)

pub returns-in-ProcessingInstruction : goal.returns-in-ProcessingInstruction
unfolding chars rows_of
returns-in-ProcessingInstruction c = ap rows_of (sym c.in-ProcessingInstruction.is)

pub returns-in-Copy : goal.returns-in-Copy
unfolding chars rows_of
returns-in-Copy c = ap rows_of (sym c.in-Copy.is)

pub returns-in-Message : goal.returns-in-Message
unfolding chars rows_of
returns-in-Message c = ap rows_of (sym c.in-Message.is)
