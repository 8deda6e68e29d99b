-- Words that are compared, and the texts of arguments.
use Rattle.std.proofs.Common.{◌≡◌, ℕ, pos, ◌<◌, ◌≤◌, ◌-◌, zero, suc, Bool, true, false, ◌&&◌, ◌==◌, List, [], ◌∷◌, ◌++◌, length, get_or, refl, sym, ap, ◌∙◌, arith, if◌then◌else◌}
use Rattle.std.proofs.lemmas.Bool.{ne_eqb}
use Rattle.std.specs.Prelude.{codes}
use Rattle.std.specs.List.{concat}
use Rattle.std.specs.Str.{chars}
use Rattle.spec_document.specs.Scope.{xml_uri, xslt_uri}
use Rattle.spec_meaning.specs.Function.{is_empty}
use Rattle.spec_document.specs.Name.{Expanded, same_name}
use Rattle.spec_expression.specs.Number.{Whole}
use Rattle.spec_expression.specs.Syntax.{Named}
use Rattle.spec_meaning.specs.Value.{Number, Text}
use Rattle.spec_meaning.specs.Call.{concatenated, text_of_argument, system_property, xml_lang, xslt}
use Rattle.spec_node.specs.declared.node_ref.NodeRef.{NodeRef}

pub xslt_uri_chars : chars xslt_uri ≡ xslt_uri
unfolding chars
xslt_uri_chars = refl

pub xml_uri_chars : chars xml_uri ≡ xml_uri
unfolding chars
xml_uri_chars = refl

pub lang_chars : chars (codes "lang") ≡ codes "lang"
unfolding chars
lang_chars = refl

pub version_chars : chars (codes "version") ≡ codes "version"
unfolding chars
version_chars = refl

pub vendor_chars : chars (codes "vendor") ≡ codes "vendor"
unfolding chars
vendor_chars = refl

pub vendor_url_chars : chars (codes "vendor-url") ≡ codes "vendor-url"
unfolding chars
vendor_url_chars = refl

pub xt_chars : chars (codes "xt") ≡ codes "xt"
unfolding chars
xt_chars = refl

pub url_chars : chars (codes "http://xt.invalid/") ≡ codes "http://xt.invalid/"
unfolding chars
url_chars = refl

pub if_true : {A : Type 0} (x y : A) (b : Bool) → b ≡ true → (if b then x else y) ≡ x
if_true x y true h = refl
if_true x y false h = absurd (cc)

suc_zero : (n : ℕ) → (suc n == 0) ≡ false
suc_zero n = ne_eqb (suc n) 0 (λ e. absurd (omega (arith, e)))

pub argument_is : (ts : List (List ℕ)) (n : ℕ) (d : List ℕ) → n < length ts → text_of_argument ts n ≡ get_or ts n d
argument_is [] n d h = absurd (omega (arith, h))
argument_is (t ∷ ts) zero d h = refl
argument_is (t ∷ ts) (suc n) d h = let e : suc n - 1 ≡ n = omega arith in rw (suc_zero n, e) (argument_is ts n d (omega (arith, h)))

pub no_argument : (ts : List (List ℕ)) (n : ℕ) → length ts ≤ n → text_of_argument ts n ≡ []
no_argument [] n h = refl
no_argument (t ∷ ts) zero h = absurd (omega (arith, h))
no_argument (t ∷ ts) (suc n) h = let e : suc n - 1 ≡ n = omega arith in rw (suc_zero n, e) (no_argument ts n (omega (arith, h)))

pub all_is : (ts : List (List ℕ)) → concatenated ts ≡ concat ts
all_is [] = refl
all_is (t ∷ ts) = ap (λ rest. t ++ rest) (all_is ts)

pub empty_chars : chars [] ≡ []
unfolding chars
empty_chars = refl

pub and_is : {x y : Bool} (b r : Bool) → b ≡ x → b ≡ true → r ≡ y → r ≡ (x && y)
and_is {x = x} {y = y} b r e t f = f ∙ ap (λ (z : Bool). z && y) (sym t ∙ e)

pub and_not : {x : Bool} (y b : Bool) → b ≡ x → b ≡ false → b ≡ (x && y)
and_not {x = x} y b e t = t ∙ ap (λ (z : Bool). z && y) (sym t ∙ e)

pub empty_is : (t : List ℕ) → (length t == 0) ≡ is_empty t
empty_is [] = refl
empty_is (c ∷ cs) = ne_eqb (length (c ∷ cs)) 0 (λ e. absurd (omega (arith, e)))

pub lang_is : (n : Expanded) → n.uri ≡ xml_uri → n.local ≡ codes "lang" → Named n ≡ Named xml_lang
lang_is n e f = λ i. Named (record { uri = e i; local = f i })

if_false : {A : Type 0} (x y : A) (b : Bool) → b ≡ false → (if b then x else y) ≡ y
if_false x y true h = absurd (cc)
if_false x y false h = refl

-- ---- system properties
pub version_is : (n : Expanded) → same_name n (xslt (codes "version")) ≡ true → system_property {N = NodeRef} n ≡ Number (Whole (pos 1))
version_is n h = if_true _ _ _ h

pub vendor_is : (n : Expanded) → same_name n (xslt (codes "version")) ≡ false → same_name n (xslt (codes "vendor")) ≡ true → system_property {N = NodeRef} n ≡ Text (codes "xt")
vendor_is n g h = if_false _ _ _ g ∙ if_true _ _ _ h

pub url_is : (n : Expanded) → same_name n (xslt (codes "version")) ≡ false → same_name n (xslt (codes "vendor")) ≡ false
    → same_name n (xslt (codes "vendor-url")) ≡ true → system_property {N = NodeRef} n ≡ Text (codes "http://xt.invalid/")
url_is n f g h = if_false _ _ _ f ∙ if_false _ _ _ g ∙ if_true _ _ _ h

pub no_property : (n : Expanded) → same_name n (xslt (codes "version")) ≡ false → same_name n (xslt (codes "vendor")) ≡ false
    → same_name n (xslt (codes "vendor-url")) ≡ false → system_property {N = NodeRef} n ≡ Text []
no_property n f g h = if_false _ _ _ f ∙ if_false _ _ _ g ∙ if_false _ _ _ h

-- a name was tested
pub tested : (n : Expanded) (word : List ℕ) (r b : Bool) → chars word ≡ word → r ≡ same_name n (xslt (chars word)) → r ≡ b → same_name n (xslt word) ≡ b
tested n word r b w e t = ap (λ (l : List ℕ). same_name n (xslt l)) (sym w) ∙ sym e ∙ t
