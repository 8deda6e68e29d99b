-- That what the program holds tells what is declared.
use Rattle.std.proofs.Common.{◌≡◌, ℕ, zero, suc, Bool, true, false, not, List, [], ◌∷◌, ◌++◌, map, length, refl, sym, ap, ◌∙◌}
use Rattle.std.specs.Prelude.{◌||◌}
use Rattle.std.specs.List.{flat_map}
use Rattle.std.proofs.lemmas.List.{map-append}
use Rattle.std.proofs.lemmas.List.Folds.{flat_map-map}
use Rattle.spec_document.specs.Name.{Expanded}
use Rattle.spec_expression.specs.declared.code.StaticCode.TheVariants as code
use Rattle.spec_stylesheet.specs.Place.{Site}
use Rattle.spec_stylesheet.specs.Sheet.{AttributeSet}
use Rattle.spec_compile.specs.Content.{Uses, Outline, Nothing, AnElement}
use Rattle.spec_compile.specs.Scoping as spec
use Rattle.spec_compile.specs.Scoping.{global_name, if_so, in_list, is_named, outline_violations, reached, set_in, template_name, top_level_violations, use_violations, used_by, uses_itself}
use Rattle.spec_compile.specs.Unit.{Declaration, TopLevel}
use Rattle.xt_top_level.specs.View.{declaration_in}
use Rattle.xt_scoping.specs.Distinct.{with_names}
use Rattle.xt_scoping.specs.Reach.{reached_by, sets_in, used_in}
use Rattle.xt_scoping.specs.Steps.{declared_in, outline_at, set_name, uses_at}
use Rattle.xt_scoping.specs.Told.{IsTold, top_at}
use Rattle.xt_scoping.specs.View.{ranked_in}
use Rattle.xt_scoping.specs.declared.tops.Tops.{Tops}
use Rattle.xt_scoping.specs.declared.violation.Ranked.{Ranked}
use Rattle.xt_scoping.proofs.Reaching.{both_named, with_names-named}

-- ---- Names of what is declared

named_by : {A : Type 0} (names_of : Declaration → List A) (rs : List Ranked)
    → flat_map names_of (declared_in rs) ≡ flat_map (λ (r : spec.Ranked). names_of r.top_level.declaration) (map ranked_in rs)
named_by names_of rs =
    flat_map-map names_of (λ (r : Ranked). declaration_in r.top_level.declaration) rs
    ∙ sym (flat_map-map (λ (r : spec.Ranked). names_of r.top_level.declaration) ranked_in rs)

mapped : {A B C : Type 0} (f : B → C) (g : A → List B) (xs : List A) → flat_map (λ x. map f (g x)) xs ≡ map f (flat_map g xs)
mapped f g [] = refl
mapped f g (x ∷ xs) = ap (λ ys. map f (g x) ++ ys) (mapped f g xs) ∙ sym (map-append f (g x) (flat_map g xs))

told_names : (names all declared : List Expanded) → names ≡ with_names [] declared → declared ≡ all → (n : Expanded) → is_named names n ≡ is_named all n
told_names names all declared e h n = ap (λ ns. is_named ns n) e ∙ with_names-named [] declared n ∙ ap (λ ns. is_named ns n) h

pub told : (tops : Tops) (rs : List Ranked)
    → tops.known.globals ≡ with_names [] (flat_map global_name (declared_in rs))
    → tops.known.templates ≡ with_names [] (flat_map template_name (declared_in rs))
    → tops.known.sets ≡ with_names [] (flat_map set_name (declared_in rs))
    → (sets : List AttributeSet) → sets ≡ sets_in rs
    → ((n : Expanded) → used_in tops.graph n ≡ used_by sets n) → tops.rounds ≡ length sets
    → IsTold tops (spec.tops_of (map ranked_in rs))
told tops rs globals templates names sets are used rounds = record {
  globals = told_names tops.known.globals (spec.tops_of (map ranked_in rs)).globals _ globals (named_by global_name rs);
  templates = told_names tops.known.templates (spec.tops_of (map ranked_in rs)).templates _ templates (named_by template_name rs);
  sets = told_names tops.known.sets (map (λ (s : AttributeSet). s.name) (spec.tops_of (map ranked_in rs)).sets) _ names
      (mapped (λ (s : AttributeSet). s.name) set_in (declared_in rs) ∙ ap (map (λ (s : AttributeSet). s.name)) (named_by set_in rs));
  used = λ n. used n ∙ ap (λ ss. used_by ss n) (are ∙ named_by set_in rs);
  rounds = rounds ∙ ap length (are ∙ named_by set_in rs);
}

-- ---- Violations

turned_or : (a b : Bool) → (a || b) ≡ (b || a)
turned_or true true = refl
turned_or true false = refl
turned_or false true = refl
turned_or false false = refl

module _ {tops : Tops} {all : spec.Tops} (t : IsTold tops all) where
  pub uses_same : (locals others : List Expanded) → ((n : Expanded) → is_named locals n ≡ is_named others n) → (site : Site) (uses : Uses)
      → uses_at tops.known locals site uses ≡ use_violations all others site uses
  uses_same locals others same site uses = λ i.
      flat_map (λ name. if_so (not (same name i || t.globals name i)) code.NoVariable site) uses.variables
      ++ flat_map (λ name. if_so (not (t.templates name i)) code.NoTemplate site) uses.templates
      ++ flat_map (λ name. if_so (not (t.sets name i)) code.BadAttributeSet site) uses.sets

  bound : (locals others names : List Expanded) → ((n : Expanded) → is_named locals n ≡ is_named others n)
      → (n : Expanded) → is_named (with_names locals names) n ≡ is_named (names ++ others) n
  bound locals others names same n =
      with_names-named locals names n ∙ ap (λ b. b || is_named names n) (same n) ∙ turned_or (is_named others n) (is_named names n)
      ∙ sym (both_named names others n)

  pub outline_same : (locals others : List Expanded) → ((n : Expanded) → is_named locals n ≡ is_named others n) → (o : Outline)
      → outline_at tops.known locals o ≡ outline_violations all others o
  outline_same locals others same Nothing = refl
  outline_same locals others same (AnElement site uses binds children siblings) =
      let own = uses_same locals others same site uses in
      let below = outline_same locals others same children in
      let rest = outline_same (with_names locals (in_list binds)) (in_list binds ++ others) (bound locals others (in_list binds) same) siblings in
      λ i. own i ++ flat_map (λ name. if_so (same name i) code.ShadowedVariable site) (in_list binds) ++ below i ++ rest i

  reached_is : (sets : List AttributeSet) (k : ℕ) (names : List Expanded) → reached_by (used_by sets) k names ≡ reached sets k names
  reached_is sets zero names = refl
  reached_is sets (suc k) names = ap (λ more. names ++ more) (reached_is sets k (flat_map (used_by sets) names))

  itself_same : (s : AttributeSet) → is_named (reached_by (used_in tops.graph) tops.rounds s.sets) s.name ≡ uses_itself all.sets s
  itself_same s =
      let there : reached_by (used_in tops.graph) tops.rounds s.sets ≡ reached_by (used_by all.sets) (length all.sets) s.sets
      = λ i. reached_by (λ n. t.used n i) (t.rounds i) s.sets in
      ap (λ names. is_named names s.name) (there ∙ reached_is all.sets (length all.sets) s.sets)

  pub top_same : (top : TopLevel) → top_at tops top ≡ top_level_violations all top
  top_same top =
      let own = uses_same [] [] (λ n. refl) top.site top.uses in
      let below = outline_same [] [] (λ n. refl) top.outline in
      λ i. own i ++ flat_map (λ s. if_so (itself_same s i) code.BadAttributeSet top.site) (set_in top.declaration) ++ below i
