-- The functions: their names, and how many arguments they take (XPath 1.0, section 4; XSLT 1.0, sections 12 and 15).
use Rattle.std.specs.Prelude.{ℕ, Bool, true, false, ◌&&◌, List, [], ◌∷◌, Option, None, Some, nat_le, bytes_eq, codes, if◌then◌else◌}
use Rattle.std.specs.List.{list_any}
use Rattle.spec_document.specs.Name.{Expanded}
use Rattle.spec_document.specs.Scope.{xslt_uri}
use Rattle.spec_meaning.specs.declared.function.Function.{Function}
use Rattle.spec_meaning.specs.declared.function.Function.TheVariants.{OfContext, OfNodes, OfTexts, OfText, OfValue, Substring, Key}
use Rattle.spec_meaning.specs.declared.function.ContextFunction.TheVariants as context
use Rattle.spec_meaning.specs.declared.function.NodesFunction.TheVariants as nodes
use Rattle.spec_meaning.specs.declared.function.TextsFunction.TheVariants as texts
use Rattle.spec_meaning.specs.declared.function.TextFunction.TheVariants as text
use Rattle.spec_meaning.specs.declared.function.ValueFunction.TheVariants as value

-- the least and the greatest number of arguments; without a greatest one there is no bound
pub record Row : Type 0 where
  pub name : List ℕ
  pub function : Function
  pub least : ℕ
  pub greatest : Option ℕ

abbrev pub row : List ℕ → Function → ℕ → ℕ → Row
row name function least greatest = record { name = name; function = function; least = least; greatest = Some greatest }

abbrev pub functions : List Row
functions =
    row (codes "last") (OfContext context.Last) 0 0
    ∷ row (codes "position") (OfContext context.Position) 0 0
    ∷ row (codes "true") (OfContext context.True) 0 0
    ∷ row (codes "false") (OfContext context.False) 0 0
    ∷ row (codes "current") (OfContext context.Current) 0 0
    ∷ row (codes "count") (OfNodes nodes.Count) 1 1
    ∷ row (codes "sum") (OfNodes nodes.Sum) 1 1
    ∷ row (codes "local-name") (OfNodes nodes.LocalName) 0 1
    ∷ row (codes "namespace-uri") (OfNodes nodes.NamespaceUri) 0 1
    ∷ row (codes "name") (OfNodes nodes.Name) 0 1
    ∷ row (codes "generate-id") (OfNodes nodes.GenerateId) 0 1
    ∷ record { name = codes "concat"; function = OfTexts texts.Concat; least = 2; greatest = None }
    ∷ row (codes "starts-with") (OfTexts texts.StartsWith) 2 2
    ∷ row (codes "contains") (OfTexts texts.Contains) 2 2
    ∷ row (codes "substring-before") (OfTexts texts.SubstringBefore) 2 2
    ∷ row (codes "substring-after") (OfTexts texts.SubstringAfter) 2 2
    ∷ row (codes "translate") (OfTexts texts.Translate) 3 3
    ∷ row (codes "string-length") (OfText text.StringLength) 0 1
    ∷ row (codes "normalize-space") (OfText text.NormalizeSpace) 0 1
    ∷ row (codes "lang") (OfText text.Lang) 1 1
    ∷ row (codes "system-property") (OfText text.SystemProperty) 1 1
    ∷ row (codes "element-available") (OfText text.ElementAvailable) 1 1
    ∷ row (codes "function-available") (OfText text.FunctionAvailable) 1 1
    ∷ row (codes "unparsed-entity-uri") (OfText text.UnparsedEntityUri) 1 1
    ∷ row (codes "string") (OfValue value.String) 0 1
    ∷ row (codes "number") (OfValue value.Number) 0 1
    ∷ row (codes "boolean") (OfValue value.Boolean) 1 1
    ∷ row (codes "not") (OfValue value.Not) 1 1
    ∷ row (codes "floor") (OfValue value.Rounded) 1 1
    ∷ row (codes "ceiling") (OfValue value.Rounded) 1 1
    ∷ row (codes "round") (OfValue value.Rounded) 1 1
    ∷ row (codes "id") (OfValue value.Id) 1 1
    ∷ row (codes "substring") Substring 2 3
    ∷ row (codes "key") Key 2 2
    ∷ []

abbrev pub is_within : ℕ → Option ℕ → Bool
is_within n None = true
is_within n (Some greatest) = nat_le n greatest

abbrev pub takes : Row → ℕ → Bool
takes r arguments = nat_le r.least arguments && is_within arguments r.greatest

-- the function of this name, where it takes so many arguments
abbrev pub found_in : List Row → List ℕ → ℕ → Option Function
found_in [] name arguments = None
found_in (r ∷ rows) name arguments =
    if bytes_eq name r.name then (if takes r arguments then Some r.function else None) else found_in rows name arguments

abbrev pub is_empty : List ℕ → Bool
is_empty [] = true
is_empty (c ∷ cs) = false

-- functions have no prefix
abbrev pub function_of : Expanded → ℕ → Option Function
function_of name arguments = if is_empty name.uri then found_in functions name.local arguments else None

abbrev pub is_function : Expanded → Bool
is_function name = is_empty name.uri && list_any (λ r. bytes_eq name.local r.name) functions

-- the instructions of a stylesheet
abbrev pub instructions : List (List ℕ)
instructions =
    codes "apply-templates" ∷ codes "apply-imports" ∷ codes "call-template" ∷ codes "for-each" ∷ codes "value-of" ∷ codes "copy-of"
    ∷ codes "number" ∷ codes "choose" ∷ codes "if" ∷ codes "text" ∷ codes "element" ∷ codes "attribute" ∷ codes "comment"
    ∷ codes "processing-instruction" ∷ codes "copy" ∷ codes "message" ∷ codes "variable" ∷ codes "fallback" ∷ []

abbrev pub is_instruction : Expanded → Bool
is_instruction name = bytes_eq name.uri xslt_uri && list_any (bytes_eq name.local) instructions
