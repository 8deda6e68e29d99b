-- What a text gives by its tokens.
use Rattle.std.proofs.Common.{◌≡◌, ℕ, false, List, [], Option, None, Some, Result, Ok, Err, sym, subst}
use Rattle.spec_document.specs.Scope.{Scope}
use Rattle.spec_expression.specs.declared.ExpressionRefusal.{ExpressionRefusal}
use Rattle.spec_expression.specs.declared.ExpressionRefusal.TheVariants.{Syntax}
use Rattle.spec_expression.specs.Token.{Token, tokens, is_deep}
use Rattle.spec_stylesheet.specs.Pattern as trees
use Rattle.spec_static.specs.PatternGrammar.{Gives, Uncut, HasTree, ReadsAlternatives}
use Rattle.xt_syntax.specs.declared.pattern.Pattern.{Pattern}
use Rattle.xt_syntax.specs.PartView.{pattern_of}
use Rattle.xt_pattern.specs.declared.fault.PatternFault.{PatternFault}
use Rattle.xt_pattern.specs.declared.fault.PatternFault.TheVariants.{Memory, Refused}
use Rattle.xt_pattern.specs.Parsed.{Given, Parsed}

at_tokens : (scope : Scope) (cut : Option (List Token)) (ts : List Token) (r : Result trees.Pattern ExpressionRefusal) → cut ≡ Some ts → Gives scope ts r
    → elim cut as (λ _. Type 0) [ None ↦ Uncut r | Some us ↦ Gives scope us r ]
at_tokens scope cut ts r e h = subst (λ (o : Option (List Token)). elim o as (λ _. Type 0) [ None ↦ Uncut r | Some us ↦ Gives scope us r ]) (sym e) h

pub parsed_some : (scope : Scope) (text : List ℕ) (ts : List Token) (result : Result Pattern PatternFault) → tokens text ≡ Some ts → Given scope ts result
    → Parsed scope text result
parsed_some scope text ts (Ok p) i h = at_tokens scope (tokens text) ts (Ok (pattern_of p)) i h
parsed_some scope text ts (Err Memory) i h = tt
parsed_some scope text ts (Err (Refused why)) i h = at_tokens scope (tokens text) ts (Err why) i h

pub parsed_none : (scope : Scope) (text : List ℕ) → tokens text ≡ None → Parsed scope text (Err (Refused Syntax))
parsed_none scope text e = subst (λ (o : Option (List Token)). elim o as (λ _. Type 0) [ None ↦ Uncut (Err Syntax) | Some us ↦ Gives scope us (Err Syntax) ])
    (sym e) tt

-- all the tokens were read
pub all_tokens : {s : Scope} {ts us : List Token} {xs : List trees.Alternative} → is_deep 0 ts ≡ false → us ≡ [] → ReadsAlternatives s ts xs us
    → HasTree s ts (record { alternatives = xs })
all_tokens {s = s} {ts = ts} {xs = xs} d e r = record { shallow = d; pattern = subst (λ (vs : List Token). ReadsAlternatives s ts xs vs) e r }
