-- How names that are put together of a prefix and a local part are read.
use Rattle.std.proofs.Common.{◌≡◌, ◌==◌, ◌∙◌, refl, sym, ap, ℕ, Bool, true, false, List, [], ◌∷◌, ◌++◌, Option, None, Some, codes}
use Rattle.std.specs.Prelude.{◌&&◌, ◌||◌, if◌then◌else◌}
use Rattle.std.specs.List.{list_all, list_any}
use Rattle.std.proofs.lemmas.Bool.{eqb-true}
use Rattle.spec_document.specs.Character.{is_name_start, is_name_part}
use Rattle.spec_document.specs.declared.usage.AttributeUse.TheVariants.{Declares, Names, NoName}
use Rattle.spec_document.specs.Name.{QName, is_ncname, is_colon, qname_of}
use Rattle.spec_document.specs.Declaration.{PlainUse, is_xmlns, use_of, use_of_qname}
use Rattle.spec_document.proofs.First.{before_first-at, after_first-at}

colon_start : is_name_start 0x3A ≡ false
unfolding is_name_start
colon_start = refl

colon_part : is_name_part 0x3A ≡ false
unfolding is_name_start is_name_part
colon_part = refl

pub no_colon : (p : ℕ → Bool) → p 0x3A ≡ false → (c : ℕ) → p c ≡ true → is_colon c ≡ false
no_colon p f c h = at (c == 0x3A) refl
  where
    at : (b : Bool) → (c == 0x3A) ≡ b → b ≡ false
    at false e = refl
    at true e = let same : c ≡ 0x3A = eqb-true c 0x3A e in let wrong : true ≡ false = sym h ∙ ap p same ∙ f in absurd (cc)

and_first : (a b : Bool) → (a && b) ≡ true → a ≡ true
and_first true b e = refl
and_first false b e = absurd (cc)

and_second : (a b : Bool) → (a && b) ≡ true → b ≡ true
and_second true b e = e
and_second false b e = absurd (cc)

and_no : (a b : Bool) → b ≡ false → (a && b) ≡ false
and_no true b e = e
and_no false b e = refl

neither : (a b : Bool) → a ≡ false → b ≡ false → (a || b) ≡ false
neither a b e h = rw (e, h) refl

parts_no_colon : (cs : List ℕ) → list_all is_name_part cs ≡ true → list_any is_colon cs ≡ false
parts_no_colon [] h = refl
parts_no_colon (c ∷ cs) h =
    neither _ _ (no_colon is_name_part colon_part c (and_first (is_name_part c) (list_all is_name_part cs) h))
    (parts_no_colon cs (and_second (is_name_part c) (list_all is_name_part cs) h))

name_no_colon : (name : List ℕ) → is_ncname name ≡ true → list_any is_colon name ≡ false
name_no_colon [] h = refl
name_no_colon (c ∷ cs) h =
    neither _ _ (no_colon is_name_start colon_start c (and_first (is_name_start c) (list_all is_name_part cs) h))
    (parts_no_colon cs (and_second (is_name_start c) (list_all is_name_part cs) h))

some_colon : (cs l : List ℕ) → list_all is_name_part (cs ++ 0x3A ∷ l) ≡ false
some_colon [] l = rw colon_part refl
some_colon (c ∷ cs) l = and_no (is_name_part c) _ (some_colon cs l)

not_plain : (p l : List ℕ) → is_ncname (p ++ 0x3A ∷ l) ≡ false
not_plain [] l = rw colon_start refl
not_plain (c ∷ cs) l = and_no (is_name_start c) _ (some_colon cs l)

pub qname_plain : (l : List ℕ) → is_ncname l ≡ true → qname_of l ≡ Some (record { prefix = None; local = l })
qname_plain l h = rw h refl

pub qname_prefixed : (p l : List ℕ) → is_ncname p ≡ true → is_ncname l ≡ true → qname_of (p ++ 0x3A ∷ l) ≡ Some (record { prefix = Some p; local = l })
qname_prefixed p l hp hl =
    let none = name_no_colon p hp in
    rw (not_plain p l, before_first-at is_colon p 0x3A l none refl, after_first-at is_colon p 0x3A l none refl, hp, hl) refl

abbrev use_at : Option QName → PlainUse
use_at o = elim o [ None ↦ NoName | Some name ↦ use_of_qname name ]

used : (b : Bool) (x y : PlainUse) → b ≡ false → (if b then x else y) ≡ y
used b x y e = rw e refl

pub use_plain : (l : List ℕ) → is_ncname l ≡ true → is_xmlns l ≡ false → use_of l ≡ Names (record { prefix = None; local = l })
use_plain l h x = ap use_at (qname_plain l h) ∙ used (is_xmlns l) (Declares []) (Names (record { prefix = None; local = l })) x

pub use_prefixed : (p l : List ℕ) → is_ncname p ≡ true → is_ncname l ≡ true → is_xmlns p ≡ false
    → use_of (p ++ 0x3A ∷ l) ≡ Names (record { prefix = Some p; local = l })
use_prefixed p l hp hl x = ap use_at (qname_prefixed p l hp hl) ∙ used (is_xmlns p) (Declares l) (Names (record { prefix = Some p; local = l })) x

xmlns_name : is_ncname (codes "xmlns") ≡ true
unfolding is_name_start is_name_part
xmlns_name = refl

pub use_default : use_of (codes "xmlns") ≡ Declares []
use_default = ap use_at (qname_plain (codes "xmlns") xmlns_name)

pub use_declares : (p : List ℕ) → is_ncname p ≡ true → use_of (codes "xmlns:" ++ p) ≡ Declares p
use_declares p h = ap use_at (qname_prefixed (codes "xmlns") p xmlns_name h)
