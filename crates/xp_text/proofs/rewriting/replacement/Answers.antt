use Rattle.std.proofs.Common.{◌≡◌, ℕ, ◌==◌, List, ◌∷◌, [], Option, Some, None, ap, sym, ◌∙◌, rules, tests, eqb}
use Rattle.std.specs.Str.{chars}
use Rattle.std.specs.Option.{option_map, option_map_or, option_to_list}
use Rattle.std.specs.List.{position, slice_get}
use Rattle.std.proofs.lemmas.Iterator.{YieldsList-from_chars}
use Rattle.std.proofs.lemmas.Iterator.Search.{position_from_yields_List}
use Rattle.std.proofs.lemmas.Iterator.Consumers.{nth_from_yields_List}
use Rattle.spec_expression.specs.Strings.{translation_of}
use Rattle.xp_text.proofs.rewriting.replacement.Goals as goal

itself : (o r : Option ℕ) → option_map (λ c. c) o ≡ r → o ≡ r
itself None r e = e
itself (Some c) r e = e

at_place : (from to : List ℕ) (c : ℕ) (o : Option ℕ) → position (λ d. d == c) from ≡ o
    → option_map_or (λ place. option_to_list (slice_get to place)) o (c ∷ []) ≡ translation_of from to c
at_place from to c o e = ap (λ place. option_map_or (λ p. option_to_list (slice_get to p)) place (c ∷ [])) (sym e)

pub returns-in-Some : goal.returns-in-Some
returns-in-Some c =
    let found = position_from_yields_List (λ d. eqb d c.args.character) _ _ _ c.position.ensures.ran (YieldsList-from_chars c.args.from.now c.utf8.from cc)
    (λ x b q k. search (rules, tests)) in
    let taken = nth_from_yields_List c.nth.result _ c.in-Some.place c.nth.ensures.ran (YieldsList-from_chars c.args.to.now c.utf8.to cc) in
    ap option_to_list (itself _ _ taken)
    ∙ at_place (chars c.args.from.now) (chars c.args.to.now) c.args.character (Some c.in-Some.place) (sym found ∙ c.in-Some.is)

pub returns-in-None : goal.returns-in-None
returns-in-None c =
    let found = position_from_yields_List (λ d. eqb d c.args.character) _ _ _ c.position.ensures.ran (YieldsList-from_chars c.args.from.now c.utf8.from cc)
    (λ x b q k. search (rules, tests)) in
    at_place (chars c.args.from.now) (chars c.args.to.now) c.args.character None (sym found ∙ c.in-None.is)
