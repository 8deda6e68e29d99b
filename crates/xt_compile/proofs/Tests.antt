-- Rules of white space, one for each test.
use Rattle.std.proofs.Common.{◌≡◌, ℕ, Bool, List, [], ◌∷◌, ◌++◌, map, ap, ◌∙◌, append_assoc}
use Rattle.std.proofs.lemmas.List.{map-append}
use Rattle.spec_stylesheet.specs.Sheet as sheet
use Rattle.xt_syntax.specs.SheetView.{space_rule_of}
use Rattle.xt_syntax.specs.View.{test_of}
use Rattle.xt_syntax.specs.declared.expr.Test.{Test}
use Rattle.xt_syntax.specs.declared.space_rules.SpaceRule.{SpaceRule}
use Rattle.xt_compile.specs.Space.{space_rule}

abbrev pub tests_with : ℕ → Bool → List SpaceRule → List Test → List sheet.SpaceRule
tests_with precedence strips rules left = map space_rule_of rules ++ map (space_rule precedence strips) (map test_of left)

pub one_more : (precedence : ℕ) (strips : Bool) (rules : List SpaceRule) (t : Test) (left : List Test) (rule : SpaceRule)
    → space_rule_of rule ≡ space_rule precedence strips (test_of t) → tests_with precedence strips (rules ++ rule ∷ []) left ≡ tests_with precedence strips rules (t ∷ left)
one_more precedence strips rules t left rule e =
    ap (λ (rs : List sheet.SpaceRule). rs ++ map (space_rule precedence strips) (map test_of left)) (map-append space_rule_of rules (rule ∷ []))
    ∙ append_assoc (map space_rule_of rules) (space_rule_of rule ∷ []) (map (space_rule precedence strips) (map test_of left))
    ∙ ap (λ (r : sheet.SpaceRule). map space_rule_of rules ++ r ∷ map (space_rule precedence strips) (map test_of left)) e
