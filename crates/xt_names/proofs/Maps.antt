-- Finite maps of entries in order.
use Rattle.std.proofs.Common.{◌≡◌, ℕ, Bool, true, false, ◌&&◌, bytes_eq, List, [], ◌∷◌, ◌++◌, None, Some, cond, length, Decides}
use Rattle.std.proofs.Common.{append_assoc, refl, sym, ap, ◌∙◌, subst, arith}
use Rattle.std.specs.List.{list_all}
use Rattle.std.specs.Ordering.{nat_cmp, is_eq, eq_by_cmp}
use Rattle.std.specs.Cmp.{tied_itself}
use Rattle.std.specs.Cmp.Lexicographic.{slice_cmp, nat_list_cmp_total}
use Rattle.std.specs.FinMap.{entries, empty, get, from_sorted, entries-from_sorted, entries-insert, same_entries_map, same_map, get-from_sorted, len-entries}
use Rattle.std.specs.FinMap.{len-empty, slice_cmp-IsAntisymmetric, nat_cmp-IsAntisymmetric}
use Rattle.std.specs.FinMap.Entries.{put, find, is_sorted-put}
use Rattle.std.specs.declared.cmp.Ordering.{Ordering}
use Rattle.std.specs.declared.cmp.Ordering.TheVariants.{Less, Equal, Greater}
use Rattle.std.proofs.lemmas.Bool.{and_parts}
use Rattle.std.proofs.lemmas.Slice.Eq.{bytes_eq-Decides}
use Rattle.spec_document.specs.Scope.{Scope, bound}
use Rattle.xt_names.specs.View.{Entry}
use Rattle.xt_names.specs.SearchTree.{IsOrdered, has_entry}
use Rattle.xt_names.proofs.Trees.{find-at}

no_length : {A : Type 0} (es : List A) → length es ≡ 0 → es ≡ []
no_length [] e = refl
no_length (x ∷ es) e = absurd (omega arith)

pub no_entry : from_sorted {R = slice_cmp nat_cmp} [] ≡ empty {X = List ℕ}
no_entry =
    same_entries_map _ _
    (entries-from_sorted (slice_cmp nat_cmp) [] tt ∙ sym (no_length _ (sym (len-entries empty) ∙ len-empty (slice_cmp nat_cmp) (List ℕ))))

pub ordered_put : (es fs : List Entry) (k v : List ℕ) → fs ≡ put (slice_cmp nat_cmp) k v es → IsOrdered es → IsOrdered fs
ordered_put es fs k v is h = subst IsOrdered (sym is) (record { rises = is_sorted-put (slice_cmp nat_cmp) nat_list_cmp_total k v es h.rises })

pub entries_are : (es : List Entry) (s : Scope) → from_sorted es ≡ s → IsOrdered es → entries s ≡ es
entries_are es s e h = ap entries (sym e) ∙ entries-from_sorted (slice_cmp nat_cmp) es h.rises

pub bound_is : (es fs : List Entry) (s : Scope) (k v : List ℕ) → from_sorted es ≡ s → IsOrdered es → fs ≡ put (slice_cmp nat_cmp) k v es
    → from_sorted fs ≡ bound s k v
bound_is es fs s k v e h is =
    same_entries_map _ _ (entries-from_sorted (slice_cmp nat_cmp) fs (ordered_put es fs k v is h).rises ∙ is
    ∙ ap (put (slice_cmp nat_cmp) k v) (sym (entries_are es s e h)) ∙ sym (entries-insert nat_list_cmp_total s k v))

pub found_is : (es : List Entry) (s : Scope) (q : List ℕ) → from_sorted es ≡ s → IsOrdered es → get s q ≡ find (slice_cmp nat_cmp) q es
found_is es s q e h = ap (λ m. get m q) (sym e) ∙ get-from_sorted (slice_cmp nat_cmp) es q h.rises

-- ---- Entries that stand among others

equal : (r : Ordering) → is_eq r ≡ true → r ≡ Equal
equal Less h = absurd (cc)
equal Equal h = refl
equal Greater h = absurd (cc)

has_found : (fs : List Entry) (e : Entry) → has_entry fs e ≡ true → find (slice_cmp nat_cmp) e.0 fs ≡ Some e.1
has_found fs e h =
    elim (find (slice_cmp nat_cmp) e.0 fs) as (λ o. (elim o [ None ↦ false | Some uri ↦ bytes_eq uri e.1 ]) ≡ true → o ≡ Some e.1) [
      | None ↦ λ b. absurd (cc)
      | Some uri ↦ λ b. ap Some ((bytes_eq-Decides uri e.1).0 b)
    ] h

found_has : (fs : List Entry) (e : Entry) → find (slice_cmp nat_cmp) e.0 fs ≡ Some e.1 → has_entry fs e ≡ true
found_has fs e h = rw (h, has_entry) ((bytes_eq-Decides e.1 e.1).1 refl)

found_too : (es fs : List Entry) (q v : List ℕ) → list_all (has_entry fs) es ≡ true → find (slice_cmp nat_cmp) q es ≡ Some v
    → find (slice_cmp nat_cmp) q fs ≡ Some v
found_too [] fs q v h f = absurd (cc)
found_too (e ∷ es) fs q v h f =
    let parts = and_parts (has_entry fs e) (list_all (has_entry fs) es) h in
    elim (eq_by_cmp (slice_cmp nat_cmp) q e.0) as (λ b. eq_by_cmp (slice_cmp nat_cmp) q e.0 ≡ b
    → cond b (Some e.1) (find (slice_cmp nat_cmp) q es) ≡ Some v → find (slice_cmp nat_cmp) q fs ≡ Some v) [
      | true ↦ λ t g. let same : q ≡ e.0 = slice_cmp-IsAntisymmetric nat_cmp-IsAntisymmetric q e.0 (equal _ t) in
          ap (λ k. find (slice_cmp nat_cmp) k fs) same ∙ has_found fs e parts.0 ∙ g
      | false ↦ λ t g. found_too es fs q v parts.1 g
    ] refl f

found_alike : (es fs : List Entry) (q : List ℕ) → list_all (has_entry fs) es ≡ true → list_all (has_entry es) fs ≡ true
    → find (slice_cmp nat_cmp) q es ≡ find (slice_cmp nat_cmp) q fs
found_alike es fs q h g =
    elim (find (slice_cmp nat_cmp) q es) as (λ o. find (slice_cmp nat_cmp) q es ≡ o → o ≡ find (slice_cmp nat_cmp) q fs) [
      | Some v ↦ λ e. sym (found_too es fs q v h e)
      | None ↦ λ e. elim (find (slice_cmp nat_cmp) q fs) as (λ p. find (slice_cmp nat_cmp) q fs ≡ p → None ≡ p) [
        | Some w ↦ λ f. sym e ∙ found_too fs es q w g f
        | None ↦ λ f. refl
      ] refl
    ] refl

both : (a b : Bool) → a ≡ true → b ≡ true → (a && b) ≡ true
both a b h g = rw (h, g) refl

within_itself : (before es : List Entry) → IsOrdered (before ++ es) → list_all (has_entry (before ++ es)) es ≡ true
within_itself before [] h = refl
within_itself before (e ∷ es) h =
    let whole : (before ++ e ∷ []) ++ es ≡ before ++ e ∷ es = append_assoc before (e ∷ []) es in
    both _ _ (found_has (before ++ e ∷ es) e (find-at (slice_cmp nat_cmp) nat_list_cmp_total e.0 before e es h.rises (tied_itself nat_list_cmp_total e.0)))
    (subst (λ all. list_all (has_entry all) es ≡ true) whole (within_itself (before ++ e ∷ []) es (subst IsOrdered (sym whole) h)))

pub same_scopes : (es fs : List Entry) (s t : Scope) → from_sorted es ≡ s → from_sorted fs ≡ t → IsOrdered es → IsOrdered fs
    → Decides (list_all (has_entry fs) es && list_all (has_entry es) fs) (s ≡ t)
same_scopes es fs s t e f h g = (
  λ b. let parts = and_parts (list_all (has_entry fs) es) (list_all (has_entry es) fs) b in
      same_map nat_list_cmp_total (slice_cmp-IsAntisymmetric nat_cmp-IsAntisymmetric) s t
      (λ q. found_is es s q e h ∙ found_alike es fs q parts.0 parts.1 ∙ sym (found_is fs t q f g)),
  λ same. let alike : es ≡ fs = sym (entries_are es s e h) ∙ ap entries same ∙ entries_are fs t f g in
      both _ _ (subst (λ all. list_all (has_entry all) es ≡ true) alike (within_itself [] es h))
      (subst (λ all. list_all (has_entry all) fs ≡ true) (sym alike) (within_itself [] fs g)),
)
