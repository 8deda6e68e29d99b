-- What the sets of a name use.
use Rattle.std.proofs.Common.{◌≡◌, Bool, true, false, cond, List, [], ◌∷◌, ◌++◌, refl, sym, ap, ◌∙◌, None, Some}
use Rattle.std.specs.Prelude.{if◌then◌else◌}
use Rattle.std.specs.Borrow.{Bor}
use Rattle.std.specs.Map.{lookup}
use Rattle.std.specs.declared.alloc.Global.{Global}
use Rattle.std.specs.declared.vec.Vec.{Vec}
use Rattle.std.proofs.lemmas.Grind.{flat_map-append}
use Rattle.std.proofs.lemmas.List.{append-nil}
use Rattle.spec_document.specs.Name.{Expanded, same_name}
use Rattle.xt_scoping.specs.Laws.{same_is}
use Rattle.xt_scoping.specs.Reach.{all_in, all_of, used_among}
use Rattle.xt_scoping.specs.declared.key.Key.{Key}
use Rattle.xt_scoping.proofs.Sets.{is_key}

abbrev pub Lists : Type 0
Lists = Vec (Bor (List Expanded)) Global

abbrev pub named : Key → Expanded → Key
named key name = record { name = record key.name { now = name } }

pub added : (old removed after : List (Key × Lists)) (key : Key) (lists pushed : Lists) (slice : Bor (List Expanded)) (uses : List Expanded)
    → ((q : Key) → lookup (is_key q) removed ≡ cond (is_key key q) None (lookup (is_key q) old))
    → ((q : Key) → lookup (is_key q) after ≡ cond (is_key key q) (Some pushed) (lookup (is_key q) removed))
    → pushed.items ≡ lists.items ++ slice ∷ [] → slice.now ≡ uses → all_in lists.items ≡ all_of (lookup (is_key key) old)
    → (name : Expanded) → used_among after name ≡ used_among old name ++ (if same_name key.name.now name then uses else [])
added old removed after key lists pushed slice uses without with_it items is before name = by (same_name key.name.now name) refl
  where
    by : (b : Bool) → same_name key.name.now name ≡ b → used_among after name ≡ used_among old name ++ (if b then uses else [])
    by true e =
        ap all_of (with_it (named key name) ∙ ap (λ t. cond t (Some pushed) (lookup (is_key (named key name)) removed)) e)
        ∙ ap all_in items ∙ flat_map-append (λ (l : Bor (List Expanded)). l.now) lists.items (slice ∷ [])
        ∙ ap (λ xs. all_in lists.items ++ xs) (append-nil slice.now ∙ is)
        ∙ ap (λ xs. xs ++ uses) (before ∙ ap (λ n. used_among old n) ((same_is key.name.now name).0 e))
    by false e =
        ap all_of (with_it (named key name) ∙ ap (λ t. cond t (Some pushed) (lookup (is_key (named key name)) removed)) e
        ∙ without (named key name) ∙ ap (λ t. cond t None (lookup (is_key (named key name)) old)) e)
        ∙ sym (append-nil (used_among old name))
