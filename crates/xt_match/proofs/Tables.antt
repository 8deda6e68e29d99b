-- Lists of rules that may match, in a map, and those of the rules.
use Rattle.std.proofs.Common.{◌≡◌, ◌<◌, ◌≤◌, ℕ, ◌+◌, Bool, true, false, cond, List, [], ◌∷◌, ◌++◌, length, map, Option, None, Some, Result, Ok, Err, refl, sym, ap, ◌∙◌}
use Rattle.std.specs.Prelude.{slice_get, get_or, if◌then◌else◌, OnOk, OnErr}
use Rattle.std.specs.Global.{Global}
use Rattle.std.specs.Option.{option_map}
use Rattle.std.specs.declared.vec.Vec.{Vec}
use Rattle.std.proofs.lemmas.List.{append_assoc}
use Rattle.std.proofs.lemmas.Option.{slice_get-map, slice_get_read, slice_get_past}
use Rattle.spec_stylesheet.specs.Sheet as sheet
use Rattle.xt_syntax.specs.SheetView.{rule_of, rules_of}
use Rattle.xt_syntax.specs.declared.rule.Rule.{Rule}
use Rattle.xt_syntax.specs.declared.rules.Rules.{Rules}
use Rattle.xt_match.specs.CalledIn.{CalledIn, one_called, same_called}
use Rattle.xt_match.specs.Fitting.{may_match, numbers_from}
use Rattle.xt_match.specs.Tabled.{AreFitting, called_of, listed}
use Rattle.xt_match.specs.declared.called.CalledKey.{CalledKey}

-- a rule more: it is added if it may match
pub rule_added : (called : CalledIn) (done : List ℕ) (number : ℕ) (rule : sheet.Rule) (rules : List sheet.Rule) {b : Bool} {now : List ℕ}
    → b ≡ may_match called rule → now ≡ (if b then done ++ number ∷ [] else done)
    → now ++ numbers_from called (number + 1) rules ≡ done ++ numbers_from called number (rule ∷ rules)
rule_added called done number rule rules {b = b} h e =
    ap (λ (xs : List ℕ). xs ++ numbers_from called (number + 1) rules) e ∙ by b
    ∙ ap (λ (d : Bool). done ++ (if d then number ∷ numbers_from called (number + 1) rules else numbers_from called (number + 1) rules)) h
  where
    by : (b : Bool) → (if b then done ++ number ∷ [] else done) ++ numbers_from called (number + 1) rules
        ≡ done ++ (if b then number ∷ numbers_from called (number + 1) rules else numbers_from called (number + 1) rules)
    by true = append_assoc done (number ∷ []) (numbers_from called (number + 1) rules)
    by false = refl

pub rule_found : (rules : List Rule) (number : ℕ) (rule : Rule) → number < length rules → rule ≡ get_or rules number rule
    → slice_get (map rule_of rules) number ≡ Some (rule_of rule)
rule_found rules number rule fits is =
    slice_get-map rule_of rules number ∙ ap (λ (o : Option Rule). option_map rule_of o) (slice_get_read rules (length rules) number rule refl fits is)

pub rule_missing : (rules : List Rule) (number : ℕ) → length rules ≤ number → slice_get (map rule_of rules) number ≡ None
rule_missing rules number past =
    slice_get-map rule_of rules number ∙ ap (λ (o : Option Rule). option_map rule_of o) (slice_get_past rules number past)

-- ---- the map
pub none_listed : (rules : Rules) {entries : List (CalledKey × Vec ℕ Global)} → entries ≡ [] → AreFitting rules entries
none_listed rules e called numbers found = absurd (let none : None ≡ Some numbers = sym (ap (λ es. listed es called) e) ∙ found in cc)

abbrev key_for : CalledIn → CalledKey
key_for called = record { mode = called.mode; kind = called.kind; name = called.name }

abbrev items_of : Option (Vec ℕ Global) → List ℕ
items_of None = []
items_of (Some numbers) = numbers.items

-- what follows of an insertion that succeeds and of one that does not
pub either_way : {X E P Q R : Type 0} (r : Result X E) → OnOk r P → OnErr r Q → (P → R) → (Q → R) → R
either_way (Ok x) p q f g = f p
either_way (Err e) p q f g = g q

-- one list more
pub one_listed : (rules : Rules) (old new : List (CalledKey × Vec ℕ Global)) (key : CalledKey) (numbers : Vec ℕ Global)
    → AreFitting rules old → numbers.items ≡ numbers_from (called_of key) 0 (rules_of rules).rules
    → ((q : CalledKey) → listed new (called_of q) ≡ cond (same_called (called_of key) (called_of q)) (Some numbers) (listed old (called_of q)))
    → AreFitting rules new
one_listed rules old new key numbers before is after called found at = by (same_called (called_of key) called) refl (sym (after (key_for called)) ∙ at)
  where
    by : (b : Bool) → same_called (called_of key) called ≡ b → cond b (Some numbers) (listed old called) ≡ Some found
        → found.items ≡ numbers_from called 0 (rules_of rules).rules
    by true same e = ap items_of (sym e) ∙ is ∙ ap (λ (k : CalledIn). numbers_from k 0 (rules_of rules).rules) (one_called (called_of key) called same)
    by false same e = before called found e
