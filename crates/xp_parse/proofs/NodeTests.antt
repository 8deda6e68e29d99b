-- The productions of node tests.
use Rattle.std.proofs.Common.{◌≡◌, ℕ, ◌<◌, true, false, List, ◌∷◌, Some, None, refl, arith}
use Rattle.spec_document.specs.Name.{QName}
use Rattle.spec_document.specs.Scope.{Scope}
use Rattle.spec_expression.specs.declared.NodeType.{NodeType}
use Rattle.spec_expression.specs.declared.NodeType.TheVariants.{ProcessingInstruction}
use Rattle.spec_expression.specs.Token.{Token, Open, Close, Star, AnyOf, Name, Literal}
use Rattle.spec_expression.specs.Syntax.{Test, AnyName, InNamespace, Named, OfType, Instruction}
use Rattle.spec_expression.specs.Grammar as g
use Rattle.spec_expression.specs.Grammar.{type_of, uri_of, expanded, ReadsTest}
use Rattle.spec_expression.proofs.Rank.{head_rank}
use Rattle.xp_parse.specs.Reading.{Read, Nothing, IsNotNext, begins_test}

-- node tests
any_only : {s : Scope} {ts ws : List Token} {y : Test} → ReadsTest s (Star ∷ ts) y ws → (AnyName ≡ y) × (ts ≡ ws)
any_only g.any_name = (refl, refl)

pub any_read : {s : Scope} {ts : List Token} → Read (ReadsTest s) 11 (Star ∷ ts) AnyName ts
any_read = record { reads = g.any_name; only = λ y ws p h. any_only p }

in_namespace_only : {s : Scope} {ts ws : List Token} {p : List ℕ} {y : Test} → ReadsTest s (AnyOf p ∷ ts) y ws
    → (InNamespace (uri_of s (Some p)) ≡ y) × (ts ≡ ws)
in_namespace_only g.in_namespace = (refl, refl)

pub in_namespace_read : {s : Scope} {ts : List Token} {p : List ℕ} → Read (ReadsTest s) 11 (AnyOf p ∷ ts) (InNamespace (uri_of s (Some p))) ts
in_namespace_read = record { reads = g.in_namespace; only = λ y ws p h. in_namespace_only p }

named_only : {s : Scope} {ts ws : List Token} {q : QName} {y : Test} → type_of q ≡ None → ReadsTest s (Name q ∷ ts) y ws
    → (Named (expanded s q) ≡ y) × (ts ≡ ws)
named_only n g.named = (refl, refl)
named_only n (g.of_type e) = cc
named_only n (g.instruction e) = cc

pub named_read : {s : Scope} {ts : List Token} {q : QName} → type_of q ≡ None → Read (ReadsTest s) 11 (Name q ∷ ts) (Named (expanded s q)) ts
named_read n = record { reads = g.named; only = λ y ws p h. named_only n p }

named_alone : {s : Scope} {ts ws : List Token} {q : QName} {y : Test} → IsNotNext ts Open → ReadsTest s (Name q ∷ ts) y ws
    → (Named (expanded s q) ≡ y) × (ts ≡ ws)
named_alone n g.named = (refl, refl)
named_alone n (g.of_type e) = absurd (n.different _ refl)
named_alone n (g.instruction e) = absurd (n.different _ refl)

pub named_read_alone : {s : Scope} {ts : List Token} {q : QName} → IsNotNext ts Open → Read (ReadsTest s) 11 (Name q ∷ ts) (Named (expanded s q)) ts
named_read_alone n = record { reads = g.named; only = λ y ws p h. named_alone n p }

of_type_only : {s : Scope} {ts ws : List Token} {q : QName} {t : NodeType} {y : Test} → type_of q ≡ Some t → ReadsTest s (Name q ∷ Open ∷ Close ∷ ts) y ws
    → head_rank ws < 11 → (OfType t ≡ y) × (ts ≡ ws)
of_type_only n g.named h = absurd (omega arith)
of_type_only n (g.of_type e) h = (cc, refl)

pub of_type_read : {s : Scope} {ts : List Token} {q : QName} {t : NodeType} → type_of q ≡ Some t
    → Read (ReadsTest s) 11 (Name q ∷ Open ∷ Close ∷ ts) (OfType t) ts
of_type_read n = record { reads = g.of_type n; only = λ y ws p h. of_type_only n p h }

instruction_only : {s : Scope} {ts ws : List Token} {q : QName} {x : List ℕ} {y : Test} → ReadsTest s (Name q ∷ Open ∷ Literal x ∷ Close ∷ ts) y ws
    → head_rank ws < 11 → (Instruction x ≡ y) × (ts ≡ ws)
instruction_only g.named h = absurd (omega arith)
instruction_only (g.instruction e) h = (refl, refl)

pub instruction_read : {s : Scope} {ts : List Token} {q : QName} {x : List ℕ} → type_of q ≡ Some ProcessingInstruction
    → Read (ReadsTest s) 11 (Name q ∷ Open ∷ Literal x ∷ Close ∷ ts) (Instruction x) ts
instruction_read n = record { reads = g.instruction n; only = λ y ws p h. instruction_only p h }

test_head : {s : Scope} {ts us : List Token} {t : Test} → ReadsTest s ts t us → begins_test ts ≡ true
test_head g.any_name = refl
test_head g.in_namespace = refl
test_head g.named = refl
test_head (g.of_type h) = refl
test_head (g.instruction h) = refl

test_none : {s : Scope} {ts us : List Token} {t : Test} → begins_test ts ≡ false → ReadsTest s ts t us → ⊥
test_none b p = let e = test_head p in cc

pub test_fail : {s : Scope} {ts : List Token} → begins_test ts ≡ false → Nothing (ReadsTest s) 11 ts
test_fail b = record { none = λ y ws p h. test_none b p }
