-- The production of heads: `id` and `key` with their literals.
use Rattle.std.proofs.Common.{◌≡◌, ℕ, Bool, true, false, List, ◌∷◌, Option, None, Some, if◌then◌else◌, refl, ap}
use Rattle.std.specs.Prelude.{codes, bytes_eq}
use Rattle.std.proofs.lemmas.Slice.Eq.{bytes_eq-Decides}
use Rattle.spec_document.specs.Name.{QName, Expanded}
use Rattle.spec_document.specs.Scope.{Scope}
use Rattle.spec_expression.specs.Token.{Token, Open, Close, Comma, Name, Literal}
use Rattle.spec_expression.specs.Grammar.{type_of}
use Rattle.spec_stylesheet.specs.declared.pattern.Start.{Start}
use Rattle.spec_stylesheet.specs.declared.pattern.Start.TheVariants as starts
use Rattle.spec_static.specs.PatternGrammar as p
use Rattle.spec_static.specs.PatternGrammar.{is_word, key_name, ReadsHead}
use Rattle.spec_static.proofs.PatternParts.{id_is_no_type, key_is_no_type}
use Rattle.xp_parse.specs.Reading.{Read, Nothing, IsNotNext}
use Rattle.xt_pattern.specs.Reading.{word_named, head_word, NoHead, NoLiteral}
use Rattle.xt_pattern.specs.declared.head.HeadWord.{HeadWord}
use Rattle.xt_pattern.specs.declared.head.HeadWord.TheVariants.{Id, Key}

-- the words of names
by_word : (word local : List ℕ) (prefix : Option (List ℕ)) → (elim prefix [ None ↦ bytes_eq local word | Some x ↦ false ]) ≡ true
    → (elim prefix as (λ _. Option HeadWord) [ None ↦ word_named local | Some x ↦ None ]) ≡ word_named word
by_word word local None h = ap word_named ((bytes_eq-Decides local word).0 h)
by_word word local (Some prefix) h = cc

id_named : (q : QName) → is_word (codes "id") q ≡ true → head_word q ≡ Some Id
id_named q h = by_word (codes "id") q.local q.prefix h

key_named : (q : QName) → is_word (codes "key") q ≡ true → head_word q ≡ Some Key
key_named q h = by_word (codes "key") q.local q.prefix h

is_id : (a b : Bool) → (if a then Some Id else (if b then Some Key else None)) ≡ Some Id → a ≡ true
is_id true b h = refl
is_id false true h = cc
is_id false false h = cc

is_key : (a b : Bool) → (if a then Some Id else (if b then Some Key else None)) ≡ Some Key → b ≡ true
is_key true b h = cc
is_key false true h = refl
is_key false false h = cc

named_id : (local : List ℕ) (prefix : Option (List ℕ)) → (elim prefix as (λ _. Option HeadWord) [ None ↦ word_named local | Some x ↦ None ]) ≡ Some Id
    → (elim prefix [ None ↦ bytes_eq local (codes "id") | Some x ↦ false ]) ≡ true
named_id local None h = is_id _ _ h
named_id local (Some prefix) h = cc

named_key : (local : List ℕ) (prefix : Option (List ℕ)) → (elim prefix as (λ _. Option HeadWord) [ None ↦ word_named local | Some x ↦ None ]) ≡ Some Key
    → (elim prefix [ None ↦ bytes_eq local (codes "key") | Some x ↦ false ]) ≡ true
named_key local None h = is_key _ _ h
named_key local (Some prefix) h = cc

word_is_id : (q : QName) → head_word q ≡ Some Id → is_word (codes "id") q ≡ true
word_is_id q h = named_id q.local q.prefix h

word_is_key : (q : QName) → head_word q ≡ Some Key → is_word (codes "key") q ≡ true
word_is_key q h = named_key q.local q.prefix h

pub word_is_no_type : (q : QName) (word : HeadWord) → head_word q ≡ Some word → type_of q ≡ None
word_is_no_type q Id h = id_is_no_type q (word_is_id q h)
word_is_no_type q Key h = key_is_no_type q (word_is_key q h)

-- no head where no word stands
pub head_needs_word : {s : Scope} {ts us : List Token} {start : Start (List ℕ) Expanded} → NoHead ts → ReadsHead s ts start us → ⊥
head_needs_word n (p.of_id {q = q} e) = let i = n.none q _ refl in let j = id_named q e in cc
head_needs_word n (p.of_key {q = q} e) = let i = n.none q _ refl in let j = key_named q e in cc

-- `id`
id_only : {s : Scope} {q : QName} {id : List ℕ} {ts ws : List Token} {y : Start (List ℕ) Expanded} → ReadsHead s (Name q ∷ Open ∷ Literal id ∷ Close ∷ ts) y ws
    → (starts.Id id ≡ y) × (ts ≡ ws)
id_only (p.of_id e) = (refl, refl)

pub id_read : {s : Scope} {q : QName} {id : List ℕ} {ts : List Token} → head_word q ≡ Some Id
    → Read (ReadsHead s) 10 (Name q ∷ Open ∷ Literal id ∷ Close ∷ ts) (starts.Id id) ts
id_read {q = q} h = record { reads = p.of_id (word_is_id q h); only = λ y ws r k. id_only r }

no_literal : {s : Scope} {q : QName} {ts ws : List Token} {y : Start (List ℕ) Expanded} → NoLiteral ts → ReadsHead s (Name q ∷ Open ∷ ts) y ws → ⊥
no_literal n (p.of_id e) = n.none _ _ refl
no_literal n (p.of_key e) = n.none _ _ refl

pub literal_fail : {s : Scope} {q : QName} {ts : List Token} → NoLiteral ts → Nothing (ReadsHead s) 10 (Name q ∷ Open ∷ ts)
literal_fail n = record { none = λ y ws r k. no_literal n r }

id_unclosed : {s : Scope} {q : QName} {id : List ℕ} {ts ws : List Token} {y : Start (List ℕ) Expanded} → head_word q ≡ Some Id → IsNotNext ts Close
    → ReadsHead s (Name q ∷ Open ∷ Literal id ∷ ts) y ws → ⊥
id_unclosed h n (p.of_id e) = n.different _ refl
id_unclosed h n (p.of_key {q = q} e) = let i = key_named q e in cc

pub id_fail : {s : Scope} {q : QName} {id : List ℕ} {ts : List Token} → head_word q ≡ Some Id → IsNotNext ts Close
    → Nothing (ReadsHead s) 10 (Name q ∷ Open ∷ Literal id ∷ ts)
id_fail h n = record { none = λ y ws r k. id_unclosed h n r }

-- `key`
key_only : {s : Scope} {q : QName} {name value : List ℕ} {ts ws : List Token} {y : Start (List ℕ) Expanded}
    → ReadsHead s (Name q ∷ Open ∷ Literal name ∷ Comma ∷ Literal value ∷ Close ∷ ts) y ws → (starts.Key (key_name s name) value ≡ y) × (ts ≡ ws)
key_only (p.of_key e) = (refl, refl)

pub key_read : {s : Scope} {q : QName} {name value : List ℕ} {ts : List Token} → head_word q ≡ Some Key
    → Read (ReadsHead s) 10 (Name q ∷ Open ∷ Literal name ∷ Comma ∷ Literal value ∷ Close ∷ ts) (starts.Key (key_name s name) value) ts
key_read {q = q} h = record { reads = p.of_key (word_is_key q h); only = λ y ws r k. key_only r }

no_comma : {s : Scope} {q : QName} {name : List ℕ} {ts ws : List Token} {y : Start (List ℕ) Expanded} → head_word q ≡ Some Key → IsNotNext ts Comma
    → ReadsHead s (Name q ∷ Open ∷ Literal name ∷ ts) y ws → ⊥
no_comma h n (p.of_id {q = q} e) = let i = id_named q e in cc
no_comma h n (p.of_key e) = n.different _ refl

pub comma_fail : {s : Scope} {q : QName} {name : List ℕ} {ts : List Token} → head_word q ≡ Some Key → IsNotNext ts Comma
    → Nothing (ReadsHead s) 10 (Name q ∷ Open ∷ Literal name ∷ ts)
comma_fail h n = record { none = λ y ws r k. no_comma h n r }

no_value : {s : Scope} {q : QName} {name : List ℕ} {ts ws : List Token} {y : Start (List ℕ) Expanded} → NoLiteral ts
    → ReadsHead s (Name q ∷ Open ∷ Literal name ∷ Comma ∷ ts) y ws → ⊥
no_value n (p.of_key e) = n.none _ _ refl

pub value_fail : {s : Scope} {q : QName} {name : List ℕ} {ts : List Token} → NoLiteral ts
    → Nothing (ReadsHead s) 10 (Name q ∷ Open ∷ Literal name ∷ Comma ∷ ts)
value_fail n = record { none = λ y ws r k. no_value n r }

key_unclosed : {s : Scope} {q : QName} {name value : List ℕ} {ts ws : List Token} {y : Start (List ℕ) Expanded} → IsNotNext ts Close
    → ReadsHead s (Name q ∷ Open ∷ Literal name ∷ Comma ∷ Literal value ∷ ts) y ws → ⊥
key_unclosed n (p.of_key e) = n.different _ refl

pub key_fail : {s : Scope} {q : QName} {name value : List ℕ} {ts : List Token} → IsNotNext ts Close
    → Nothing (ReadsHead s) 10 (Name q ∷ Open ∷ Literal name ∷ Comma ∷ Literal value ∷ ts)
key_fail n = record { none = λ y ws r k. key_unclosed n r }
