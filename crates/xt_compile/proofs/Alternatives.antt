-- A list that is gone through from its front: what is added for each item, and what is left to add.
use Rattle.std.proofs.Common.{◌≡◌, ℕ, ◌+◌, List, [], ◌∷◌, ◌++◌, length, map, ap, ◌∙◌, append_assoc}
use Rattle.std.proofs.lemmas.List.{map-append, length-append}
use Rattle.spec_stylesheet.specs.Sheet as sheet
use Rattle.xt_syntax.specs.PartView.{alternative_of}
use Rattle.xt_syntax.specs.SheetView.{rule_of}
use Rattle.xt_syntax.specs.declared.pattern.Alternative.{Alternative}
use Rattle.xt_syntax.specs.declared.rule.Rule.{Rule}
use Rattle.xt_compile.specs.Rules.{rule_by, rules_by}
use Rattle.xt_compile.specs.declared.rules.Common.{Common}

-- these rules and those of the alternatives that are left
abbrev pub rules_with : Common → List Rule → List Alternative → List sheet.Rule
rules_with common rules left = map rule_of rules ++ rules_by common (length rules) (map alternative_of left)

pub one_more : (common : Common) (rules : List Rule) (a : Alternative) (left : List Alternative) (rule : Rule)
    → rule_of rule ≡ rule_by common (length rules) (alternative_of a) → rules_with common (rules ++ rule ∷ []) left ≡ rules_with common rules (a ∷ left)
one_more common rules a left rule e =
    ap (λ (n : ℕ). map rule_of (rules ++ rule ∷ []) ++ rules_by common n (map alternative_of left)) (length-append rules (rule ∷ []))
    ∙ ap (λ (rs : List sheet.Rule). rs ++ rules_by common (length rules + 1) (map alternative_of left)) (map-append rule_of rules (rule ∷ []))
    ∙ append_assoc (map rule_of rules) (rule_of rule ∷ []) (rules_by common (length rules + 1) (map alternative_of left))
    ∙ ap (λ (r : sheet.Rule). map rule_of rules ++ r ∷ rules_by common (length rules + 1) (map alternative_of left)) e
