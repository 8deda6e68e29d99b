-- Elements at the top, one after another.
use Rattle.std.proofs.Common.{◌≡◌, ℕ, ◌+◌, ◌<◌, ◌≤◌, Bool, List, [], ◌∷◌, ◌++◌, map, length, take, drop, get_or, refl, sym, ap, ◌∙◌, append_assoc, add-one}
use Rattle.std.specs.Prelude.{◌==◌, ◌&&◌, ◌||◌}
use Rattle.std.specs.List.{flat_map, list_any}
use Rattle.std.proofs.Math.ListN.{drop_of_length-le}
use Rattle.std.proofs.Math.Seq.{take-suc}
use Rattle.std.proofs.lemmas.List.{map-append, append-nil}
use Rattle.std.proofs.lemmas.List.Folds.{list_any-append}
use Rattle.spec_document.specs.Name.{Expanded}
use Rattle.spec_expression.specs.declared.code.StaticCode.TheVariants as code
use Rattle.spec_compile.specs.Scoping as spec
use Rattle.spec_compile.specs.Scoping.{Violation, doubled, global_name, has_earlier, if_so, is_named, template_name, violations_from, violations_of}
use Rattle.spec_compile.specs.Unit.{Declaration}
use Rattle.xt_top_level.specs.View.{declaration_in, top_level_in}
use Rattle.xt_scoping.specs.Precedences.{is_declared}
use Rattle.xt_scoping.specs.Told.{IsTold, doubles_at, top_at}
use Rattle.xt_scoping.specs.View.{ranked_in}
use Rattle.xt_scoping.specs.declared.doubles.Earlier.{Earlier}
use Rattle.xt_scoping.specs.declared.tops.Tops.{Tops}
use Rattle.xt_scoping.specs.declared.violation.Ranked.{Ranked}
use Rattle.xt_scoping.proofs.Adding.{twice}
use Rattle.xt_scoping.proofs.Reaching.{or_false}
use Rattle.xt_scoping.proofs.Seeing.{first_left}
use Rattle.xt_scoping.proofs.Telling.{top_same}

-- what was found up to this element, and what was declared
pub record IsProgress (rs : List Ranked) (i : ℕ) (so_far : List Violation) (earlier : Earlier) : Type 0 where
  pub found : so_far ++ violations_from (spec.tops_of (map ranked_in rs)) (map ranked_in (take i rs)) (map ranked_in (drop i rs)) ≡ violations_of (map ranked_in rs)
  pub globals : (p : ℕ) (n : Expanded) → is_declared earlier.globals p n ≡ has_earlier global_name (map ranked_in (take i rs)) p n
  pub templates : (p : ℕ) (n : Expanded) → is_declared earlier.templates p n ≡ has_earlier template_name (map ranked_in (take i rs)) p n

pub next_taken : (rs : List Ranked) (i : ℕ) (x : Ranked) → i < length rs → x ≡ get_or rs i x
    → map ranked_in (take (i + 1) rs) ≡ map ranked_in (take i rs) ++ ranked_in x ∷ []
next_taken rs i x h is =
    ap (map ranked_in) (rw (add-one, take-suc rs i x) (ap (λ y. take i rs ++ y ∷ []) (sym is))) ∙ map-append ranked_in (take i rs) (x ∷ [])

later : (names_of : Declaration → List Expanded) (before : List spec.Ranked) (r : spec.Ranked) (p : ℕ) (n : Expanded)
    → (has_earlier names_of before p n || ((r.precedence == p) && is_named (names_of r.top_level.declaration) n)) ≡ has_earlier names_of (before ++ r ∷ []) p n
later names_of before r p n =
    let test : spec.Ranked → Bool = λ o. (o.precedence == p) && is_named (names_of o.top_level.declaration) n in
    sym (list_any-append test before (r ∷ []) ∙ ap (λ b. list_any test before || b) (or_false (test r)))

joined : (found after first second rest : List Violation) → after ≡ found ++ (first ++ second) → after ++ rest ≡ found ++ ((first ++ second) ++ rest)
joined found after first second rest e = ap (λ xs. xs ++ rest) e ∙ append_assoc found (first ++ second) rest

pub turn : (rs : List Ranked) (tops : Tops) → IsTold tops (spec.tops_of (map ranked_in rs)) → (i : ℕ) (x : Ranked) (found between after : List Violation)
    (earlier next : Earlier) → i < length rs → x ≡ get_or rs i x → IsProgress rs i found earlier
    → between ≡ found ++ doubles_at earlier (ranked_in x) → after ≡ between ++ top_at tops (top_level_in x.top_level)
    → ((p : ℕ) (n : Expanded) → is_declared next.globals p n
    ≡ (is_declared earlier.globals p n || ((x.precedence == p) && is_named (global_name (declaration_in x.top_level.declaration)) n)))
    → ((p : ℕ) (n : Expanded) → is_declared next.templates p n
    ≡ (is_declared earlier.templates p n || ((x.precedence == p) && is_named (template_name (declaration_in x.top_level.declaration)) n)))
    → IsProgress rs (i + 1) after next
turn rs tops told i x found between after earlier next h is so_far doubles tops_found globals templates =
    let all = spec.tops_of (map ranked_in rs) in
    let before = map ranked_in (take i rs) in
    let rest = map ranked_in (drop (i + 1) rs) in
    let r = ranked_in x in
    let grown = next_taken rs i x h is in
    let own : doubles_at earlier r ≡ doubled global_name code.DoubleGlobal before r ++ doubled template_name code.DoubleTemplate before r
    = λ j. flat_map (λ name. if_so (so_far.globals r.precedence name j) code.DoubleGlobal r.top_level.site) (global_name r.top_level.declaration)
    ++ flat_map (λ name. if_so (so_far.templates r.precedence name j) code.DoubleTemplate r.top_level.site) (template_name r.top_level.declaration) in
    let top = top_same told r.top_level in
    record {
      found = joined found after (doubles_at earlier r) (top_at tops r.top_level) (violations_from all (map ranked_in (take (i + 1) rs)) rest)
          (twice found between after (doubles_at earlier r) (top_at tops r.top_level) doubles tops_found)
          ∙ (λ j. found ++ ((own j ++ top j) ++ violations_from all (grown j) rest))
          ∙ ap (λ left. found ++ violations_from all before (map ranked_in left)) (sym (first_left rs i x h is)) ∙ so_far.found;
      globals = λ p n. globals p n
          ∙ ap (λ b. b || ((x.precedence == p) && is_named (global_name (declaration_in x.top_level.declaration)) n)) (so_far.globals p n)
          ∙ later global_name before r p n ∙ ap (λ rs. has_earlier global_name rs p n) (sym grown);
      templates = λ p n. templates p n
          ∙ ap (λ b. b || ((x.precedence == p) && is_named (template_name (declaration_in x.top_level.declaration)) n)) (so_far.templates p n)
          ∙ later template_name before r p n ∙ ap (λ rs. has_earlier template_name rs p n) (sym grown);
    }

pub starts : (rs : List Ranked) (earlier : Earlier) → earlier.globals ≡ [] → earlier.templates ≡ [] → IsProgress rs 0 [] earlier
starts rs earlier g t = record {
  found = refl;
  globals = λ p n. ap (λ ds. is_declared ds p n) g;
  templates = λ p n. ap (λ ds. is_declared ds p n) t;
}

pub ends : (rs : List Ranked) (i : ℕ) (found : List Violation) (earlier : Earlier) → length rs ≤ i → IsProgress rs i found earlier
    → found ≡ violations_of (map ranked_in rs)
ends rs i found earlier h p =
    sym (append-nil found)
    ∙ ap (λ left. found ++ violations_from (spec.tops_of (map ranked_in rs)) (map ranked_in (take i rs)) (map ranked_in left)) (sym (drop_of_length-le rs h))
    ∙ p.found
