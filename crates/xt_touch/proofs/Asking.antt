-- The modes whose rules ask more, rule by rule.
use Rattle.std.proofs.Common.{◌≡◌, ℕ, ◌+◌, ◌<◌, Bool, true, false, List, [], ◌∷◌, ◌++◌, Option, None, Some, bytes_eq, map, take, length, get_or, refl, sym, ap, ◌∙◌, subst}
use Rattle.std.specs.Prelude.{◌&&◌, ◌||◌, not}
use Rattle.std.proofs.lemmas.Bool.{and_parts}
use Rattle.std.proofs.lemmas.List.{take_more, map-append}
use Rattle.std.proofs.lemmas.List.Folds.{list_all-append, list_any-append}
use Rattle.std.proofs.lemmas.Slice.Eq.{bytes_eq-Decides}
use Rattle.spec_document.specs.Name.{Expanded}
use Rattle.spec_stylesheet.specs.Sheet as sheet
use Rattle.spec_touch.specs.Plain.{AreAsking, are_plain_in, is_mode_among, is_plain_in, is_plain_pattern}
use Rattle.spec_transform.specs.Choice.{same_mode}
use Rattle.xt_syntax.specs.SheetView.{rule_of}
use Rattle.xt_syntax.specs.declared.rule.Rule.{Rule}
use Rattle.xt_touch.specs.Asked.{AreAllAsking}

-- ---- All of them, and no others

none_then_plain : (plain among : Bool) → plain ≡ not among → among ≡ false → plain ≡ true
none_then_plain plain true e h = absurd (cc)
none_then_plain plain false e h = e

one_then_not : (plain among : Bool) → plain ≡ not among → among ≡ true → plain ≡ false
one_then_not plain true e h = e
one_then_not plain false e h = absurd (cc)

pub all_of : (modes : List (Option Expanded)) (rules : List sheet.Rule) → AreAllAsking modes rules → AreAsking modes rules
all_of modes rules h mode none = none_then_plain (are_plain_in mode rules) (is_mode_among modes mode) (h mode) none

pub no_others : (modes : List (Option Expanded)) (rules : List sheet.Rule) → AreAllAsking modes rules
    → (mode : Option Expanded) → is_mode_among modes mode ≡ true → are_plain_in mode rules ≡ false
no_others modes rules h mode one = one_then_not (are_plain_in mode rules) (is_mode_among modes mode) (h mode) one

-- ---- One more rule

and_true : (a p : Bool) → (a && (p && true)) ≡ (a && p)
and_true true true = refl
and_true true false = refl
and_true false p = refl

with_rule : (modes now : List (Option Expanded)) (rules : List sheet.Rule) (rule : sheet.Rule) → AreAllAsking modes rules
    → ((mode : Option Expanded) → (not (is_mode_among modes mode) && is_plain_in mode rule) ≡ not (is_mode_among now mode))
    → AreAllAsking now (rules ++ rule ∷ [])
with_rule modes now rules rule h step mode =
    list_all-append (is_plain_in mode) rules (rule ∷ []) ∙ (λ i. h mode i && (is_plain_in mode rule && true))
    ∙ and_true (not (is_mode_among modes mode)) (is_plain_in mode rule) ∙ step mode

plain_anywhere : (a s p : Bool) → p ≡ true → (not a && (not s || p)) ≡ not a
plain_anywhere true s p h = refl
plain_anywhere false true p h = h
plain_anywhere false false p h = refl

pub with_plain : (modes : List (Option Expanded)) (rules : List sheet.Rule) (rule : sheet.Rule) → is_plain_pattern rule.pattern ≡ true
    → AreAllAsking modes rules → AreAllAsking modes (rules ++ rule ∷ [])
with_plain modes rules rule plain h =
    with_rule modes modes rules rule h
    (λ mode. plain_anywhere (is_mode_among modes mode) (same_mode mode rule.mode) (is_plain_pattern rule.pattern) plain)

-- where it is in none of these modes
asks_anew : (a s p : Bool) → p ≡ false → (not a && (not s || p)) ≡ not (a || (s || false))
asks_anew true s p h = refl
asks_anew false true p h = h
asks_anew false false p h = refl

pub with_asking : (modes : List (Option Expanded)) (rules : List sheet.Rule) (rule : sheet.Rule) → is_plain_pattern rule.pattern ≡ false
    → AreAllAsking modes rules → AreAllAsking (modes ++ rule.mode ∷ []) (rules ++ rule ∷ [])
with_asking modes rules rule asks h =
    with_rule modes (modes ++ rule.mode ∷ []) rules rule h
    (λ mode. asks_anew (is_mode_among modes mode) (same_mode mode rule.mode) (is_plain_pattern rule.pattern) asks
    ∙ ap not (sym (list_any-append (same_mode mode) modes (rule.mode ∷ []))))

-- where it is in one of them
same_modes : (a b : Option Expanded) → same_mode a b ≡ true → a ≡ b
same_modes None None h = refl
same_modes (Some a) (Some b) h =
    let parts = and_parts (bytes_eq a.uri b.uri) (bytes_eq a.local b.local) h in
    let uri = (bytes_eq-Decides a.uri b.uri).0 parts.0 in
    let local = (bytes_eq-Decides a.local b.local).0 parts.1 in
    λ i. Some (record { uri = uri i; local = local i })
same_modes None (Some b) h = absurd (cc)
same_modes (Some a) None h = absurd (cc)

asks_again : (a s p : Bool) → p ≡ false → (s ≡ true → a ≡ true) → (not a && (not s || p)) ≡ not a
asks_again true s p h known = refl
asks_again false true p h known = h ∙ known refl
asks_again false false p h known = refl

pub with_known : (modes : List (Option Expanded)) (rules : List sheet.Rule) (rule : sheet.Rule) → is_plain_pattern rule.pattern ≡ false
    → is_mode_among modes rule.mode ≡ true → AreAllAsking modes rules → AreAllAsking modes (rules ++ rule ∷ [])
with_known modes rules rule asks known h =
    with_rule modes modes rules rule h
    (λ mode. asks_again (is_mode_among modes mode) (same_mode mode rule.mode) (is_plain_pattern rule.pattern) asks
    (λ s. ap (is_mode_among modes) (same_modes mode rule.mode s) ∙ known))

-- a turn of the rules
pub next_rule : (modes : List (Option Expanded)) (rules : List Rule) (i : ℕ) (rule : Rule) → i < length rules → rule ≡ get_or rules i rule
    → AreAllAsking modes (map rule_of (take i rules) ++ rule_of rule ∷ []) → AreAllAsking modes (map rule_of (take (i + 1) rules))
next_rule modes rules i rule l is h =
    subst (AreAllAsking modes)
    (ap (λ r. map rule_of (take i rules) ++ rule_of r ∷ []) is ∙ sym (map-append rule_of (take i rules) (get_or rules i rule ∷ []))
    ∙ ap (map rule_of) (sym (take_more rules i rule l))) h
