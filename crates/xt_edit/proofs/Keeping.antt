-- Elements keep their names where what is written under a name that declares nothing changes.
use Rattle.std.proofs.Common.{◌≡◌, ℕ, Bool, true, false, cond, List, [], ◌∷◌, ◌++◌, map, refl, ap, sym, subst, ◌∙◌}
use Rattle.std.specs.Prelude.{bytes_eq, codes, not}
use Rattle.std.specs.List.{list_any}
use Rattle.std.proofs.lemmas.Slice.Eq.{bytes_eq-Decides}
use Rattle.spec_document.specs.declared.usage.AttributeUse.TheVariants.{Declares, Names, NoName}
use Rattle.spec_document.specs.Declaration.{PlainUse, use_of, declared, declared_all}
use Rattle.spec_document.specs.Forest.{Written, Content, Element}
use Rattle.spec_document.specs.Scope.{Scope, bound}
use Rattle.spec_edit.specs.Edit.{is_named, makes_anew, set_in, with_attribute, without_attribute}
use Rattle.xt_edit.specs.Kept.{KeepsUnless}
use Rattle.xt_tree.specs.Edit.{KeepsNames}

abbrev declared_by : PlainUse → List ℕ → Scope → Scope
declared_by use_here value scope = elim use_here [ Declares prefix ↦ bound scope prefix value | Names name ↦ scope | NoName ↦ scope ]

abbrev anew_by : PlainUse → List ℕ → Bool
anew_by use_here name = elim use_here [ Declares prefix ↦ true | Names read ↦ bytes_eq name (codes "xml:space") | NoName ↦ false ]

undeclared_by : (use_here : PlainUse) (name value : List ℕ) (scope : Scope) → anew_by use_here name ≡ false → declared_by use_here value scope ≡ scope
undeclared_by (Declares prefix) name value scope e = absurd (cc)
undeclared_by (Names read) name value scope e = refl
undeclared_by NoName name value scope e = refl

-- what does not make anew declares nothing
undeclared : (name value : List ℕ) (scope : Scope) → makes_anew name ≡ false → declared (record { name = name; value = value }) scope ≡ scope
undeclared name value scope e = undeclared_by (use_of name) name value scope e

undeclared-named : (name : List ℕ) (a : Written) (scope : Scope) → makes_anew name ≡ false → is_named name a ≡ true → declared a scope ≡ scope
undeclared-named name a scope e named =
    let same : a.name ≡ name = (bytes_eq-Decides a.name name).0 named in
    undeclared a.name a.value scope (ap makes_anew same ∙ e)

-- ---- Set in its place

set-one : (name value : List ℕ) (a : Written) (scope : Scope) → makes_anew name ≡ false → (b : Bool) → is_named name a ≡ b
    → declared (cond b (record { name = name; value = value }) a) scope ≡ declared a scope
set-one name value a scope e true named = undeclared name value scope e ∙ sym (undeclared-named name a scope e named)
set-one name value a scope e false named = refl

set-all : (name value : List ℕ) (attributes : List Written) (scope : Scope) → makes_anew name ≡ false
    → declared_all (map (set_in name value) attributes) scope ≡ declared_all attributes scope
set-all name value [] scope e = refl
set-all name value (a ∷ attributes) scope e =
    ap (declared_all (map (set_in name value) attributes)) (set-one name value a scope e (is_named name a) refl)
    ∙ set-all name value attributes (declared a scope) e

-- ---- Put last

declared-last : (attributes : List Written) (a : Written) (scope : Scope)
    → declared_all (attributes ++ a ∷ []) scope ≡ declared a (declared_all attributes scope)
declared-last [] a scope = refl
declared-last (first ∷ attributes) a scope = declared-last attributes a (declared first scope)

with-all : (name value : List ℕ) (attributes : List Written) (scope : Scope) → makes_anew name ≡ false → (b : Bool)
    → declared_all (cond b (map (set_in name value) attributes) (attributes ++ record { name = name; value = value } ∷ [])) scope
    ≡ declared_all attributes scope
with-all name value attributes scope e true = set-all name value attributes scope e
with-all name value attributes scope e false =
    declared-last attributes (record { name = name; value = value }) scope ∙ undeclared name value (declared_all attributes scope) e

-- ---- Removed

without-one : (name : List ℕ) (a : Written) (kept : List Written) (scope : Scope) → makes_anew name ≡ false → (b : Bool) → is_named name a ≡ b
    → declared_all (cond (not b) (a ∷ kept) kept) scope ≡ declared_all kept (declared a scope)
without-one name a kept scope e true named = ap (declared_all kept) (sym (undeclared-named name a scope e named))
without-one name a kept scope e false named = refl

without-all : (name : List ℕ) (attributes : List Written) (scope : Scope) → makes_anew name ≡ false
    → declared_all (without_attribute name attributes) scope ≡ declared_all attributes scope
without-all name [] scope e = refl
without-all name (a ∷ attributes) scope e =
    without-one name a (without_attribute name attributes) scope e (is_named name a) refl ∙ without-all name attributes (declared a scope) e

-- ---- Elements

keeps-with : (own name value : List ℕ) (attributes : List Written)
    → KeepsUnless name (Element own attributes) (Element own (with_attribute name value attributes))
keeps-with own name value attributes e =
    record {
      inside = λ scope. with-all name value attributes scope e (list_any (is_named name) attributes);
      own = λ scope. refl;
      kind = refl;
    }

keeps-without : (own name : List ℕ) (attributes : List Written) → KeepsUnless name (Element own attributes) (Element own (without_attribute name attributes))
keeps-without own name attributes e =
    record {
      inside = λ scope. without-all name attributes scope e;
      own = λ scope. refl;
      kind = refl;
    }

-- the same for contents that are those
pub keeps-set : (own name value : List ℕ) (attributes : List Written) (old new : Content) → old ≡ Element own attributes
    → new ≡ Element own (with_attribute name value attributes) → KeepsUnless name old new
keeps-set own name value attributes old new was is e =
    subst (λ o. KeepsNames o new) (sym was) (subst (λ n. KeepsNames (Element own attributes) n) (sym is) (keeps-with own name value attributes e))

pub keeps-removed : (own name : List ℕ) (attributes : List Written) (old new : Content) → old ≡ Element own attributes
    → new ≡ Element own (without_attribute name attributes) → KeepsUnless name old new
keeps-removed own name attributes old new was is e =
    subst (λ o. KeepsNames o new) (sym was) (subst (λ n. KeepsNames (Element own attributes) n) (sym is) (keeps-without own name attributes e))
