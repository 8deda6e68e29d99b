-- What was read of a value template, with what is read next.
use Rattle.std.proofs.Common.{◌≡◌, ℕ, zero, ◌∷◌, ◌++◌, [], List, Bool, true, false, cond, ◌==◌, Option, None, Some, Result, Ok, Err, refl, sym, ap, subst, ◌∙◌, append_assoc, length, map, arith}
use Rattle.std.specs.Prelude.{nat_lt}
use Rattle.std.proofs.lemmas.Bool.Decides.{nat_tests}
use Rattle.spec_document.specs.Scope.{Scope}
use Rattle.spec_expression.specs.declared.ExpressionRefusal.{ExpressionRefusal}
use Rattle.spec_expression.specs.Code.{static_number}
use Rattle.spec_expression.specs.Syntax.{Expr}
use Rattle.spec_expression.specs.Grammar.{Parses}
use Rattle.spec_stylesheet.specs.ValueTemplate.{AvtPart, Text, Value}
use Rattle.spec_static.specs.declared.refusal.TemplateRefusal.{TemplateRefusal}
use Rattle.spec_static.specs.declared.refusal.TemplateRefusal.TheVariants.{Braces}
use Rattle.spec_static.specs.TemplateGrammar.{Piece, Character, Enclosed, Stray, GiveParts, no_piece, character, stray, enclosed, least, refused, on_parts, with_character, with_value, template_code, template_by, pieces}
use Rattle.xt_syntax.specs.declared.avt.AvtPart as code
use Rattle.xt_syntax.specs.PartView.{avt_part_of}
use Rattle.xt_syntax.specs.declared.avt.Avt.{Avt}
use Rattle.xt_avt.specs.declared.fault.AvtFault.{AvtFault}
use Rattle.xt_avt.specs.declared.fault.AvtFault.TheVariants.{Memory, Refused}
use Rattle.xt_avt.specs.declared.parts.Parts.{Parts}
use Rattle.xt_avt.specs.Parsed.{Parsed}
use Rattle.xt_avt.specs.Reading.{Comes, Finishes, all_so, all_with, begins_text, with_text}

-- ---- texts in front of parts

pub with_text-empty : (more : List AvtPart) → with_text [] more ≡ more
unfolding with_text
with_text-empty more = refl

with_text-push : (text : List ℕ) (c : ℕ) (more : List AvtPart) → with_text (text ++ c ∷ []) more ≡ with_text text (with_character c more)
unfolding with_text
with_text-push [] c more = refl
with_text-push (d ∷ text) c more = ap (with_character d) (with_text-push text c more)

one_character : (c : ℕ) (more : List AvtPart) → begins_text more ≡ false → with_character c more ≡ Text (c ∷ []) ∷ more
one_character c [] h = refl
one_character c (Value e ∷ more) h = refl
one_character c (Text text ∷ more) h = absurd (cc)

pub with_text-some : (c : ℕ) (text : List ℕ) (more : List AvtPart) → begins_text more ≡ false → with_text (c ∷ text) more ≡ Text (c ∷ text) ∷ more
unfolding with_text
with_text-some c [] more h = one_character c more h
with_text-some c (d ∷ text) more h = ap (with_character c) (with_text-some d text more h)

-- a text becomes a part, where it is not empty
pub no_text : (parts more : List AvtPart) (text : List ℕ) → (length text == 0) ≡ true → parts ++ more ≡ parts ++ with_text text more
no_text parts more [] h = ap (λ ps. parts ++ ps) (sym (with_text-empty more))
no_text parts more (c ∷ text) h = absurd (grind (arith, nat_tests))

pub some_text : (parts more : List AvtPart) (text : List ℕ) → (length text == 0) ≡ false → begins_text more ≡ false
    → (parts ++ Text text ∷ []) ++ more ≡ parts ++ with_text text more
some_text parts more [] h g = absurd (cc)
some_text parts more (c ∷ text) h g = append_assoc parts (Text (c ∷ text) ∷ []) more ∙ ap (λ ps. parts ++ ps) (sym (with_text-some c text more g))

-- ---- the least of several refusals

abbrev by : (TemplateRefusal → ℕ) → TemplateRefusal → TemplateRefusal → TemplateRefusal
by k a b = cond (nat_lt (k b) (k a)) b a

associates : (k : TemplateRefusal → ℕ) (a b c : TemplateRefusal) (x y z : Bool) → nat_lt (k b) (k a) ≡ x → nat_lt (k c) (k b) ≡ y → nat_lt (k c) (k a) ≡ z
    → by k a (by k b c) ≡ by k (by k a b) c
associates k a b c true true true e f g = rw (f, e, f, g) refl
associates k a b c true true false e f g = absurd (grind (arith, nat_tests))
associates k a b c true false z e f g = rw (f, e, f) refl
associates k a b c false true z e f g = rw (f, e) refl
associates k a b c false false true e f g = absurd (grind (arith, nat_tests))
associates k a b c false false false e f g = rw (f, e, g) refl

least-least : (a b c : TemplateRefusal) → least a (least b c) ≡ least (least a b) c
least-least a b c = associates (λ why. static_number (template_code why)) a b c _ _ _ refl refl refl

refused-refused : (a b : TemplateRefusal) (r : Result (List AvtPart) TemplateRefusal) → refused a (refused b r) ≡ refused (least a b) r
refused-refused a b (Ok parts) = refl
refused-refused a b (Err c) = ap (λ w. Err w) (least-least a b c)

-- ---- one piece more

so_start : (r : Result (List AvtPart) TemplateRefusal) → all_so None [] [] r ≡ r
so_start (Ok more) = ap (λ ps. Ok ps) (with_text-empty more)
so_start (Err why) = refl

pub so_new : (parts : List code.AvtPart) (text : List ℕ) → parts ≡ [] → text ≡ [] → (r : Result (List AvtPart) TemplateRefusal)
    → all_so None (map avt_part_of parts) text r ≡ r
so_new parts text e f r =
    ap (λ ps. all_so None (map avt_part_of ps) text r) e ∙ ap (λ t. all_so None [] t r) f ∙ so_start r

pub so_character : (o : Option TemplateRefusal) (parts : List AvtPart) (text : List ℕ) (c : ℕ) (r : Result (List AvtPart) TemplateRefusal)
    → all_so o parts text (on_parts (with_character c) r) ≡ all_so o parts (text ++ c ∷ []) r
so_character None parts text c (Ok more) = ap (λ ps. Ok (parts ++ ps)) (sym (with_text-push text c more))
so_character None parts text c (Err why) = refl
so_character (Some w) parts text c (Ok more) = refl
so_character (Some w) parts text c (Err why) = refl

pub so_value : (o : Option TemplateRefusal) (parts after : List AvtPart) (text : List ℕ) (e : Expr) (r : Result (List AvtPart) TemplateRefusal)
    → ((more : List AvtPart) → begins_text more ≡ false → after ++ more ≡ parts ++ with_text text more)
    → all_so o parts text (with_value (Ok e) r) ≡ all_so o (after ++ Value e ∷ []) [] r
so_value None parts after text e (Ok more) h =
    ap (λ ps. Ok ps)
    (sym (h (Value e ∷ more) refl) ∙ sym (append_assoc after (Value e ∷ []) more)
    ∙ ap (λ ps. (after ++ Value e ∷ []) ++ ps) (sym (with_text-empty more)))
so_value None parts after text e (Err why) h = refl
so_value (Some w) parts after text e (Ok more) h = refl
so_value (Some w) parts after text e (Err why) h = refl

pub so_first_refusal : (parts : List AvtPart) (text : List ℕ) (why : TemplateRefusal) (r : Result (List AvtPart) TemplateRefusal)
    → all_so None parts text (refused why r) ≡ all_so (Some why) parts text r
so_first_refusal parts text why (Ok more) = refl
so_first_refusal parts text why (Err other) = refl

pub so_refusal : (before why : TemplateRefusal) (parts : List AvtPart) (text : List ℕ) (r : Result (List AvtPart) TemplateRefusal)
    → all_so (Some before) parts text (refused why r) ≡ all_so (Some (least before why)) parts text r
so_refusal before why parts text r = refused-refused before why r

-- ---- what is not read yet, with a piece more

comes_by : {scope : Scope} {old new : Parts} {p : Piece} {ps : List Piece} (f : Result (List AvtPart) TemplateRefusal → Result (List AvtPart) TemplateRefusal)
    → ((rest : Result (List AvtPart) TemplateRefusal) → GiveParts scope ps rest → GiveParts scope (p ∷ ps) (f rest))
    → ((r : Result (List AvtPart) TemplateRefusal) → all_with old (f r) ≡ all_with new r)
    → (r : Result (List AvtPart) TemplateRefusal) → Comes scope new ps r → Comes scope old (p ∷ ps) r
comes_by f g h r k = record { rest = f k.rest; given = g k.rest k.given; whole = k.whole ∙ sym (h k.rest) }

pub comes_character : {scope : Scope} {old new : Parts} (c : ℕ)
    → ((r : Result (List AvtPart) TemplateRefusal) → all_with old (on_parts (with_character c) r) ≡ all_with new r)
    → (ps : List Piece) (r : Result (List AvtPart) TemplateRefusal) → Comes scope new ps r → Comes scope old (Character c ∷ ps) r
comes_character c h ps r k = comes_by (on_parts (with_character c)) (λ rest g. character c g) h r k

pub comes_stray : {scope : Scope} {old new : Parts} → ((r : Result (List AvtPart) TemplateRefusal) → all_with old (refused Braces r) ≡ all_with new r)
    → (ps : List Piece) (r : Result (List AvtPart) TemplateRefusal) → Comes scope new ps r → Comes scope old (Stray ∷ ps) r
comes_stray h ps r k = comes_by (refused Braces) (λ rest g. stray g) h r k

pub comes_value : {scope : Scope} {old new : Parts} (text : List ℕ) (e : Result Expr ExpressionRefusal) → Parses scope text e
    → ((r : Result (List AvtPart) TemplateRefusal) → all_with old (with_value e r) ≡ all_with new r)
    → (ps : List Piece) (r : Result (List AvtPart) TemplateRefusal) → Comes scope new ps r → Comes scope old (Enclosed text ∷ ps) r
comes_value text e p h ps r k = comes_by (with_value e) (λ rest g. enclosed e p g) h r k

-- ---- the end

ended : (cs : List ℕ) → cs ≡ [] → pieces zero cs ≡ []
unfolding pieces
ended cs e = ap (pieces zero) e

pub finished : (scope : Scope) (p : Parts) (text rest : List ℕ) (result : Result Avt AvtFault)
    → ((r : Result (List AvtPart) TemplateRefusal) → Comes scope p (pieces zero rest) r → GiveParts scope (pieces zero text) r) → rest ≡ []
    → Finishes (all_with p (Ok [])) result → Parsed scope text result
finished scope p text rest result go e f = by_result result f
  where
    given : GiveParts scope (pieces zero text) (all_with p (Ok []))
    given = go (all_with p (Ok [])) (record {
      rest = Ok [];
      given = subst (λ ps. GiveParts scope ps (Ok [])) (sym (ended rest e)) no_piece;
      whole = refl;
    })

    by_result : (result : Result Avt AvtFault) → Finishes (all_with p (Ok [])) result → Parsed scope text result
    by_result (Ok avt) h = record { parts = all_with p (Ok []); given = given; whole = sym (ap template_by h) }
    by_result (Err Memory) h = tt
    by_result (Err (Refused why)) h = record { parts = all_with p (Ok []); given = given; whole = sym (ap template_by h) }
