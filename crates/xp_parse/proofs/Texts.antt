-- How deep tokens nest, step by step, and what a text gives by its tokens.
use Rattle.std.proofs.Common.{◌≡◌, ℕ, ◌<◌, ◌≤◌, Bool, true, false, ◌||◌, List, [], ◌∷◌, Option, None, Some, Result, Ok, Err, refl, ap, sym, ◌∙◌, subst, arith}
use Rattle.std.specs.Prelude.{nat_lt}
use Rattle.std.proofs.lemmas.Bool.Decides.{nat_tests}
use Rattle.spec_document.specs.Scope.{Scope}
use Rattle.spec_expression.specs.declared.ExpressionRefusal.{ExpressionRefusal}
use Rattle.spec_expression.specs.declared.ExpressionRefusal.TheVariants.{Syntax}
use Rattle.spec_expression.specs.Token.{Token, tokens, depth_behind, is_deep}
use Rattle.spec_expression.specs.Syntax as tree
use Rattle.spec_expression.specs.Grammar.{Gives, Uncut}
use Rattle.xt_syntax.specs.declared.expr.Expr.{Expr}
use Rattle.xt_syntax.specs.View.{expr_of}
use Rattle.xp_parse.specs.declared.fault.ParseFault.{ParseFault}
use Rattle.xp_parse.specs.declared.fault.ParseFault.TheVariants.{Memory, Refused}
use Rattle.xp_parse.specs.Parsed.{Given, Parsed}

not_over : (e : ℕ) → e ≤ 64 → nat_lt 64 e ≡ false
not_over e h = grind (arith, nat_tests)

over : (e : ℕ) → 64 < e → nat_lt 64 e ≡ true
over e h = grind (arith, nat_tests)

pub deep_on : (d e : ℕ) (t : Token) (ts : List Token) → e ≡ depth_behind d t → e ≤ 64 → is_deep d (t ∷ ts) ≡ is_deep e ts
unfolding is_deep
deep_on d e t ts i h = ap (λ (k : ℕ). nat_lt 64 k || is_deep k ts) (sym i) ∙ ap (λ (b : Bool). b || is_deep e ts) (not_over e h)

pub deep_here : (d e : ℕ) (t : Token) (ts : List Token) → e ≡ depth_behind d t → 64 < e → is_deep d (t ∷ ts) ≡ true
unfolding is_deep
deep_here d e t ts i h = ap (λ (k : ℕ). nat_lt 64 k || is_deep k ts) (sym i) ∙ ap (λ (b : Bool). b || is_deep e ts) (over e h)

pub deep_none : (d : ℕ) → is_deep d [] ≡ false
unfolding is_deep
deep_none d = refl

at_tokens : (scope : Scope) (cut : Option (List Token)) (ts : List Token) (r : Result tree.Expr ExpressionRefusal) → cut ≡ Some ts → Gives scope ts r
    → elim cut as (λ _. Type 0) [ None ↦ Uncut r | Some us ↦ Gives scope us r ]
at_tokens scope cut ts r e h = subst (λ (o : Option (List Token)). elim o as (λ _. Type 0) [ None ↦ Uncut r | Some us ↦ Gives scope us r ]) (sym e) h

pub parsed_some : (scope : Scope) (text : List ℕ) (ts : List Token) (result : Result Expr ParseFault) → tokens text ≡ Some ts → Given scope ts result
    → Parsed scope text result
parsed_some scope text ts (Ok e) i h = at_tokens scope (tokens text) ts (Ok (expr_of e)) i h
parsed_some scope text ts (Err Memory) i h = tt
parsed_some scope text ts (Err (Refused why)) i h = at_tokens scope (tokens text) ts (Err why) i h

pub parsed_none : (scope : Scope) (text : List ℕ) → tokens text ≡ None → Parsed scope text (Err (Refused Syntax))
parsed_none scope text e = subst (λ (o : Option (List Token)). elim o as (λ _. Type 0) [ None ↦ Uncut (Err Syntax) | Some us ↦ Gives scope us (Err Syntax) ])
    (sym e) tt
