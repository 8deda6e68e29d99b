-- Names in their parts, and tests that are put together.
use Rattle.std.proofs.Common.{◌≡◌, ◌==◌, refl, sym, ◌∙◌, ℕ, Bool, true, false, List, [], ◌∷◌, length, Option, None, Some, codes, bytes_eq, arith, Result, Ok, Err}
use Rattle.std.specs.Prelude.{not, ◌&&◌, ◌||◌, if◌then◌else◌, unwrap_or, IfOk}
use Rattle.std.proofs.lemmas.Bool.Decides.{nat_tests}
use Rattle.std.specs.Str.{chars}
use Rattle.spec_document.specs.Name.{QName}
use Rattle.spec_document.specs.Scope.{xml_uri}
use Rattle.spec_document.specs.Declaration.{is_there}
use Rattle.spec_result.specs.Shape.{prefix_for}

pub nothing_chars : chars (codes "") ≡ []
unfolding chars
nothing_chars = refl

pub declared_chars : chars (codes "xmlns:") ≡ codes "xmlns:"
unfolding chars
declared_chars = refl

pub made_chars : chars (codes "ns") ≡ codes "ns"
unfolding chars
made_chars = refl

abbrev pub prefix_in : Option QName → List ℕ
prefix_in o = elim o [ None ↦ [] | Some parts ↦ unwrap_or parts.prefix [] ]

pub is_there-length : (cs : List ℕ) → (length cs == 0) ≡ not (is_there cs)
is_there-length [] = refl
is_there-length (c ∷ cs) = grind (arith, nat_tests)

pub there : (cs : List ℕ) (b : Bool) → b ≡ (length cs == 0) → b ≡ false → is_there cs ≡ true
there [] b e h = absurd (cc)
there (c ∷ cs) b e h = refl

pub not_there : (cs : List ℕ) (b : Bool) → b ≡ (length cs == 0) → b ≡ true → cs ≡ []
not_there [] b e h = refl
not_there (c ∷ cs) b e h = let none : (length (c ∷ cs) == 0) ≡ false = grind (arith, nat_tests) in absurd (cc)

pub if_ok_weaker : {T E : Type 0} {P Q : T → Type 0} (r : Result T E) → ((x : T) → P x → Q x) → IfOk r P → IfOk r Q
if_ok_weaker (Ok value) f p = f value p
if_ok_weaker (Err error) f p = tt

-- the same, where the two are equal to a value each
pub if_ok_is : {T E : Type 0} (r : Result T E) (a b : T) → a ≡ b → IfOk r (λ x. x ≡ a) → IfOk r (λ x. x ≡ b)
if_ok_is (Ok value) a b e p = p ∙ e
if_ok_is (Err error) a b e p = tt

pub named : (a b p q : Bool) → a ≡ true → a ≡ p → b ≡ q → not b ≡ (p && not q)
named a b p q t e h = rw (sym e ∙ t, h) refl

pub no_prefix : (written uri : List ℕ) → uri ≡ [] → [] ≡ prefix_for written uri
no_prefix written uri e = rw e refl

pub xml_prefix : (written uri : List ℕ) → is_there uri ≡ true → bytes_eq uri xml_uri ≡ true → codes "xml" ≡ prefix_for written uri
xml_prefix written uri t e = rw (t, e) refl

pub own_prefix : (written uri : List ℕ) → is_there uri ≡ true → bytes_eq uri xml_uri ≡ false → written ≡ prefix_for written uri
own_prefix written uri t e = rw (t, e) refl

pub chosen : {X : Type 0} (b c : Bool) (x y : X) → b ≡ c → b ≡ true → x ≡ (if c then x else y)
chosen b c x y e h = rw (sym e ∙ h) refl

pub other : {X : Type 0} (b c : Bool) (x y : X) → b ≡ c → b ≡ false → y ≡ (if c then x else y)
other b c x y e h = rw (sym e ∙ h) refl

pub or_true : (a b p : Bool) → a ≡ true → a ≡ p → true ≡ (p || b)
or_true a b p t e = rw (sym e ∙ t) refl

pub or_other : (a p b q : Bool) → a ≡ false → a ≡ p → b ≡ q → b ≡ (p || q)
or_other a p b q f e h = rw (sym e ∙ f) h
