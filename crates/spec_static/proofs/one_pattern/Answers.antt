use Rattle.std.proofs.Common.{◌≡◌, List, Option, None, Some, Result, Ok, Err, refl, ap, arith}
use Rattle.spec_document.specs.Scope.{Scope}
use Rattle.spec_expression.specs.declared.ExpressionRefusal.{ExpressionRefusal}
use Rattle.spec_expression.specs.declared.ExpressionRefusal.TheVariants.{Syntax, Depth, Number, Prefix}
use Rattle.spec_expression.specs.Token.{Token, tokens}
use Rattle.spec_stylesheet.specs.Pattern.{Pattern, Alternative}
use Rattle.spec_static.specs.PatternGrammar.{Gives, Uncut}
use Rattle.spec_static.proofs.PatternUnique.{same_alternatives}
use Rattle.spec_static.proofs.one_pattern.Goals as goal

one_gives : (scope : Scope) (ts : List Token) (r s : Result Pattern ExpressionRefusal) → Gives scope ts r → Gives scope ts s → r ≡ s
one_gives scope ts (Ok e) (Ok f) h g = ap (λ (xs : List Alternative). Ok (record { alternatives = xs })) (same_alternatives h.0.pattern (omega arith) g.0.pattern (omega arith)).0
one_gives scope ts (Ok e) (Err Syntax) h g = absurd (g.1 e h.0.pattern)
one_gives scope ts (Ok e) (Err Depth) h g = let a = h.0.shallow in cc
one_gives scope ts (Ok e) (Err Number) h g = cc
one_gives scope ts (Ok e) (Err Prefix) h g = cc
one_gives scope ts (Err Syntax) (Ok e) h g = absurd (h.1 e g.0.pattern)
one_gives scope ts (Err Syntax) (Err Syntax) h g = refl
one_gives scope ts (Err Syntax) (Err Depth) h g = cc
one_gives scope ts (Err Syntax) (Err Number) h g = absurd (h.1 g.0 g.1.pattern)
one_gives scope ts (Err Syntax) (Err Prefix) h g = absurd (h.1 g.0 g.1.pattern)
one_gives scope ts (Err Depth) (Ok e) h g = let a = g.0.shallow in cc
one_gives scope ts (Err Depth) (Err Syntax) h g = cc
one_gives scope ts (Err Depth) (Err Depth) h g = refl
one_gives scope ts (Err Depth) (Err Number) h g = let a = g.1.shallow in cc
one_gives scope ts (Err Depth) (Err Prefix) h g = let a = g.1.shallow in cc
one_gives scope ts (Err Number) (Ok e) h g = cc
one_gives scope ts (Err Number) (Err Syntax) h g = absurd (g.1 h.0 h.1.pattern)
one_gives scope ts (Err Number) (Err Depth) h g = let a = h.1.shallow in cc
one_gives scope ts (Err Number) (Err Number) h g = refl
one_gives scope ts (Err Number) (Err Prefix) h g = cc
one_gives scope ts (Err Prefix) (Ok e) h g = cc
one_gives scope ts (Err Prefix) (Err Syntax) h g = absurd (g.1 h.0 h.1.pattern)
one_gives scope ts (Err Prefix) (Err Depth) h g = let a = h.1.shallow in cc
one_gives scope ts (Err Prefix) (Err Number) h g = cc
one_gives scope ts (Err Prefix) (Err Prefix) h g = refl

one_uncut : (r s : Result Pattern ExpressionRefusal) → Uncut r → Uncut s → r ≡ s
one_uncut (Err Syntax) (Err Syntax) h g = refl
one_uncut (Ok e) s h g = absurd h
one_uncut (Err Depth) s h g = absurd h
one_uncut (Err Number) s h g = absurd h
one_uncut (Err Prefix) s h g = absurd h
one_uncut (Err Syntax) (Ok e) h g = absurd g
one_uncut (Err Syntax) (Err Depth) h g = absurd g
one_uncut (Err Syntax) (Err Number) h g = absurd g
one_uncut (Err Syntax) (Err Prefix) h g = absurd g

one : (scope : Scope) (cut : Option (List Token)) (r s : Result Pattern ExpressionRefusal)
    → (elim cut as (λ _. Type 0) [ None ↦ Uncut r | Some ts ↦ Gives scope ts r ]) → (elim cut as (λ _. Type 0) [ None ↦ Uncut s | Some ts ↦ Gives scope ts s ]) → r ≡ s
one scope None r s h g = one_uncut r s h g
one scope (Some ts) r s h g = one_gives scope ts r s h g

pub returns : goal.returns
returns c scope text r s h g = one scope (tokens text) r s h g
