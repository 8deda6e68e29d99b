-- Faults that are kept one by one, and those of attributes.
use Rattle.std.proofs.Common.{◌≡◌, ℕ, ◌+◌, Bool, true, false, List, [], ◌∷◌, ◌++◌, drop, slice_index, bytes_eq, Option, refl, sym, ap}
use Rattle.std.proofs.Common.{◌∙◌, arith}
use Rattle.std.specs.Prelude.{◌||◌}
use Rattle.std.specs.List.{list_any}
use Rattle.std.proofs.lemmas.List.{get_or-drop, drop-drop}
use Rattle.spec_document.specs.Scope.{Scope}
use Rattle.spec_document.specs.Forest.{Written}
use Rattle.spec_document.specs.Declaration.{use_of}
use Rattle.spec_document.specs.Name.{same_expanded}
use Rattle.spec_document.specs.Fault.{Fault, least, fault_if}
use Rattle.spec_document.specs.NodeFaults.{is_wrong_use, expanded_by, is_same_attribute, attribute_faults}
use Rattle.xt_build.specs.Least.{merged}
use Rattle.xt_build.specs.Names.{expanded_names}
use Rattle.xt_build.proofs.Least.{merged-assoc, least-append}

-- some faults are kept, with those that are left
pub kept_one : (found now : Option Fault) (xs rest : List Fault) → now ≡ merged found (least xs)
    → merged now (least rest) ≡ merged found (least (xs ++ rest))
kept_one found now xs rest e =
    ap (λ f. merged f (least rest)) e ∙ merged-assoc found (least xs) (least rest) ∙ ap (merged found) (sym (least-append xs rest))

pub kept_two : (found next now : Option Fault) (xs ys rest : List Fault) → next ≡ merged found (least xs) → now ≡ merged next (least ys)
    → merged now (least rest) ≡ merged found (least ((xs ++ ys) ++ rest))
kept_two found next now xs ys rest e h = kept_one found now (xs ++ ys) rest (h ∙ kept_one found next xs ys e)

pub kept_three : (found first second now : Option Fault) (xs ys zs : List Fault) → first ≡ merged found (least xs) → second ≡ merged first (least ys)
    → now ≡ merged second (least zs) → now ≡ merged found (least ((xs ++ ys) ++ zs))
kept_three found first second now xs ys zs e h k = k ∙ kept_two found first second xs ys zs e h

or_false : (a : Bool) → (a || false) ≡ a
or_false true = refl
or_false false = refl

or_more : (a b c : Bool) → (a || (b || c)) ≡ ((a || b) || c)
or_more true b c = refl
or_more false b c = refl

either_way : (p q a b r : Bool) → r ≡ (a || b) → ((p || q) || r) ≡ ((p || a) || (q || b))
either_way true q a b r e = refl
either_way false true true b r e = refl
either_way false true false b r e = refl
either_way false false a b r e = e

-- the name as written and the expanded name may be looked for one after the other
pub double_is : (scope : Scope) (a : Written) (before : List Written) → list_any (λ b. is_same_attribute scope b a) before
    ≡ (list_any (λ b. bytes_eq b.name a.name) before || list_any (λ other. same_expanded other (expanded_by scope (use_of a.name)))
    (expanded_names scope before))
double_is scope a [] = refl
double_is scope a (b ∷ before) =
    either_way (bytes_eq b.name a.name) (same_expanded (expanded_by scope (use_of b.name)) (expanded_by scope (use_of a.name)))
    (list_any (λ b. bytes_eq b.name a.name) before) _ _ (double_is scope a before)

pub any_behind : {X : Type 0} (p : X → Bool) (xs : List X) (x : X) → list_any p (xs ++ x ∷ []) ≡ (list_any p xs || p x)
any_behind p [] x = or_false (p x)
any_behind p (y ∷ xs) x = ap (λ b. p y || b) (any_behind p xs x) ∙ or_more (p y) (list_any p xs) (p x)

-- one attribute more is gone through
pub passed : (scope : Scope) (before more : List Written) (a : Written) (lines : List ℕ) (i line : ℕ) (wrong double : Bool)
    (found next now : Option Fault)
    → line ≡ slice_index lines i → wrong ≡ is_wrong_use scope (use_of a.name) a.value
    → double ≡ list_any (λ b. is_same_attribute scope b a) before
    → next ≡ merged found (least (fault_if wrong 10 line)) → now ≡ merged next (least (fault_if double 14 line))
    → merged now (least (attribute_faults scope (before ++ a ∷ []) (drop (i + 1) lines) more))
    ≡ merged found (least (attribute_faults scope before (drop i lines) (a ∷ more)))
passed scope before more a lines i line wrong double found next now l w d e h =
    let rest = attribute_faults scope (before ++ a ∷ []) (drop (i + 1) lines) more in
    let faulty = fault_if (is_wrong_use scope (use_of a.name) a.value) 10 (slice_index (drop i lines) 0) in
    let doubled = fault_if (list_any (λ b. is_same_attribute scope b a) before) 14 (slice_index (drop i lines) 0) in
    let first : line ≡ slice_index (drop i lines) 0 = l ∙ sym (get_or-drop i lines 0 0 ∙ ap (λ k. slice_index lines k) (omega arith)) in
    kept_two found next now (fault_if wrong 10 line) (fault_if double 14 line) rest e h
    ∙ ap (λ k. merged found (least ((fault_if wrong 10 k ++ fault_if double 14 k) ++ rest))) first
    ∙ ap (λ b. merged found (least ((fault_if b 10 (slice_index (drop i lines) 0) ++ fault_if double 14 (slice_index (drop i lines) 0)) ++ rest))) w
    ∙ ap (λ b. merged found (least ((faulty ++ fault_if b 14 (slice_index (drop i lines) 0)) ++ rest))) d
    ∙ ap (λ ls. merged found (least ((faulty ++ doubled) ++ attribute_faults scope (before ++ a ∷ []) ls more))) (sym (drop-drop 1 i lines))
