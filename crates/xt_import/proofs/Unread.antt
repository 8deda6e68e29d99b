-- How many links are left to be read.
use Rattle.std.proofs.Common.{◌≡◌, ◌≤◌, ◌+◌, ◌||◌, ℕ, Bool, true, false, cond, List, [], ◌∷◌, ◌++◌, length, reverse, None, Some, bytes_eq, string_bytes, if◌then◌else◌, refl, sym, ap, subst, ◌∙◌, arith}
use Rattle.std.proofs.lemmas.List.{length-append, length-reverse, length-map}
use Rattle.std.proofs.lemmas.List.Folds.{list_any-append}
use Rattle.std.specs.Map.{lookup}
use Rattle.std.specs.Str.{chars}
use Rattle.std.specs.declared.alloc.Global.{Global}
use Rattle.std.specs.declared.string.String.{String}
use Rattle.spec_document.specs.Forest.{Document, plain}
use Rattle.spec_structure.specs.Modules.{is_among}
use Rattle.spec_structure.specs.Structure.{links_of}
use Rattle.xt_import.specs.Pending.{unread}
use Rattle.xt_import.specs.View.{is_name, hrefs_of}
use Rattle.xt_import.proofs.Keys.{equal, is_equal}

or_left : (a b : Bool) → a ≡ true → (a || b) ≡ true
or_left true b h = refl
or_left false b h = absurd (cc)

or_right : (a : Bool) → (a || (true || false)) ≡ true
or_right true = refl
or_right false = refl

pub kept : (key name : List ℕ) (done : List (List ℕ)) → is_among key done ≡ true → is_among key (done ++ name ∷ []) ≡ true
kept key name done h = list_any-append (bytes_eq key) done (name ∷ []) ∙ or_left _ _ h

pub added : (key name : List ℕ) (done : List (List ℕ)) → bytes_eq key name ≡ true → is_among key (done ++ name ∷ []) ≡ true
added key name done h =
    list_any-append (bytes_eq key) done (name ∷ []) ∙ ap (λ b. is_among key done || (b || false)) h ∙ or_right (is_among key done)

part : (a b : Bool) (n more r s : ℕ) → (a ≡ true → b ≡ true) → more + r ≤ s → more + ((if b then 0 else n) + r) ≤ (if a then 0 else n) + s
part true true n more r s f h = omega (arith, h)
part true false n more r s f h = let e = f refl in absurd (cc)
part false true n more r s f h = omega (arith, h)
part false false n more r s f h = omega (arith, h)

less : (a b : Bool) (n r s : ℕ) → (a ≡ true → b ≡ true) → r ≤ s → (if b then 0 else n) + r ≤ (if a then 0 else n) + s
less true true n r s f h = omega (arith, h)
less true false n r s f h = let e = f refl in absurd (cc)
less false true n r s f h = omega (arith, h)
less false false n r s f h = omega (arith, h)

-- a module that was read is not counted again
fewer : (done : List (List ℕ)) (name : List ℕ) (entries : List (String Global × Document ℕ)) → unread (done ++ name ∷ []) entries ≤ unread done entries
fewer done name [] = omega arith
fewer done name (e ∷ es) =
    less (is_among (chars (string_bytes e.0)) done) (is_among (chars (string_bytes e.0)) (done ++ name ∷ [])) (length (links_of 1 (plain e.1.nodes)))
    (unread (done ++ name ∷ []) es) (unread done es) (kept (chars (string_bytes e.0)) name done) (fewer done name es)

whole : (a b : Bool) (n r s : ℕ) → a ≡ false → b ≡ true → r ≤ s → n + ((if b then 0 else n) + r) ≤ (if a then 0 else n) + s
whole true b n r s f g h = absurd (cc)
whole false true n r s f g h = omega (arith, h)
whole false false n r s f g h = absurd (cc)

some_same : {X : Type 0} (x y : X) → Some x ≡ Some y → x ≡ y
some_same x y e = ap (λ o. elim o [ None ↦ x | Some z ↦ z ]) e

fewer_by : (done : List (List ℕ)) (name : List ℕ) (entries : List (String Global × Document ℕ)) (document : Document ℕ) → is_among name done ≡ false
    → lookup (is_name name) entries ≡ Some document
    → length (links_of 1 (plain document.nodes)) + unread (done ++ name ∷ []) entries ≤ unread done entries
fewer_by done name [] document h f = absurd (cc)
fewer_by done name (e ∷ es) document h f = by (is_name name e.0) refl f (fewer_by done name es document h)
  where
    key : List ℕ
    key = chars (string_bytes e.0)

    by : (b : Bool) → is_name name e.0 ≡ b → cond b (Some e.1) (lookup (is_name name) es) ≡ Some document
        → (lookup (is_name name) es ≡ Some document → length (links_of 1 (plain document.nodes)) + unread (done ++ name ∷ []) es ≤ unread done es)
        → length (links_of 1 (plain document.nodes)) + unread (done ++ name ∷ []) (e ∷ es) ≤ unread done (e ∷ es)
    by true k g more =
        subst (λ (d : Document ℕ). length (links_of 1 (plain d.nodes)) + unread (done ++ name ∷ []) (e ∷ es) ≤ unread done (e ∷ es)) (some_same e.1 document g)
        (whole (is_among key done) (is_among key (done ++ name ∷ [])) (length (links_of 1 (plain e.1.nodes))) (unread (done ++ name ∷ []) es) (unread done es)
        (ap (λ n. is_among n done) (sym (equal name key k)) ∙ h) (added key name done (is_equal key name (sym (equal name key k)))) (fewer done name es))
    by false k g more =
        part (is_among key done) (is_among key (done ++ name ∷ [])) (length (links_of 1 (plain e.1.nodes))) (length (links_of 1 (plain document.nodes)))
        (unread (done ++ name ∷ []) es) (unread done es) (kept key name done) (more g)

pub counted : (done now pending left : List (List ℕ)) (name : List ℕ) (entries : List (String Global × Document ℕ)) (document : Document ℕ)
    → is_among name done ≡ false → lookup (is_name name) entries ≡ Some document
    → now ≡ done ++ name ∷ [] → left ≡ pending ++ reverse (hrefs_of (links_of 1 (plain document.nodes)))
    → length left + unread now entries ≤ length pending + unread done entries
counted done now pending left name entries document h f n l =
    let hrefs = hrefs_of (links_of 1 (plain document.nodes)) in
    let long : length left ≡ length pending + length (links_of 1 (plain document.nodes))
    = ap length l ∙ length-append pending (reverse hrefs)
    ∙ ap (λ k. length pending + k) (length-reverse hrefs ∙ length-map (links_of 1 (plain document.nodes)) (λ l. l.href)) in
    let few : length (links_of 1 (plain document.nodes)) + unread now entries ≤ unread done entries
    = subst (λ (d : List (List ℕ)). length (links_of 1 (plain document.nodes)) + unread d entries ≤ unread done entries) (sym n)
    (fewer_by done name entries document h f) in
    omega (arith, long, few)
