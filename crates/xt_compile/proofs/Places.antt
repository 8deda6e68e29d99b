-- The elements at the top of a module by their places.
use Rattle.std.proofs.Common.{◌≡◌, ℕ, Bool, true, false, List, [], ◌∷◌, ◌++◌, IfSome, Option, None, Some, bytes_eq, refl, sym, ap, subst, ◌∙◌}
use Rattle.std.specs.Prelude.{if◌then◌else◌}
use Rattle.std.specs.List.{filter}
use Rattle.std.specs.Map.{lookup}
use Rattle.std.specs.declared.alloc.Global.{Global}
use Rattle.std.specs.declared.vec.Vec.{Vec}
use Rattle.std.proofs.lemmas.List.{append-nil}
use Rattle.std.proofs.lemmas.List.Elements.{filter-append}
use Rattle.std.proofs.lemmas.Slice.Eq.{bytes_eq-Decides}
use Rattle.spec_compile.specs.Sheet.{is_at}
use Rattle.spec_compile.specs.Unit as unit
use Rattle.xt_top_level.specs.View.{top_levels_in}
use Rattle.xt_top_level.specs.declared.top_level.TopLevel.{TopLevel}
use Rattle.xt_compile.specs.Opened.{FitsAll, FitsLeft, IsLeft, IsOpened, is_path, items_of, kept_of}
use Rattle.xt_compile.specs.Placed.{is_none_left}
use Rattle.indexmap.specs.IndexMap.{insert_entry}
use Rattle.xt_compile.proofs.Inserted.{TellsKeys, lookup_inserted}
use Rattle.xt_compile.proofs.Stocked.{turned}

abbrev Entries : Type 0
Entries = List (Vec ℕ Global × Vec TopLevel Global)

pub tells_paths : (path : List ℕ) → TellsKeys (λ (j k : Vec ℕ Global). bytes_eq j.items k.items) (is_path path)
tells_paths path = record {
  same = λ j k e. ap (bytes_eq path) (sym ((bytes_eq-Decides j.items k.items).0 e));
  one = λ j k a b. (bytes_eq-Decides j.items k.items).1 (sym ((bytes_eq-Decides path j.items).0 a) ∙ (bytes_eq-Decides path k.items).0 b);
}

pub fits_kept : (there : List unit.TopLevel) (o : Option (Vec TopLevel Global)) → FitsAll there (items_of o) → kept_of o ≡ there
fits_kept there None e = sym e
fits_kept there (Some v) e = e

one_at : (q : List ℕ) (x : unit.TopLevel) (before : List unit.TopLevel) (b : Bool) → bytes_eq x.site.place.path q ≡ b
    → filter (is_at q) (before ++ x ∷ []) ≡ filter (is_at q) before ++ (if b then x ∷ [] else [])
one_at q x before b e = filter-append (is_at q) before (x ∷ []) ∙ ap (λ (t : Bool). filter (is_at q) before ++ (if t then x ∷ [] else [])) e

fits_more : (b : Bool) (q : List ℕ) (x : unit.TopLevel) (before there : List unit.TopLevel) (o : Option (List unit.TopLevel)) → bytes_eq q x.site.place.path ≡ b
    → there ≡ filter (is_at x.site.place.path) before ++ x ∷ [] → FitsAll (filter (is_at q) before) o
    → FitsAll (filter (is_at q) before ++ (if b then x ∷ [] else [])) (if b then Some there else o)
fits_more true q x before there o e all fits =
    all ∙ ap (λ (p : List ℕ). filter (is_at p) before ++ x ∷ []) (sym ((bytes_eq-Decides q x.site.place.path).0 e))
fits_more false q x before there None e all fits = append-nil (filter (is_at q) before) ∙ fits
fits_more false q x before there (Some kept) e all fits = fits ∙ sym (append-nil (filter (is_at q) before))

-- one more behind those at its place
pub added : (x : unit.TopLevel) (there before : List unit.TopLevel) (t : Option (Vec TopLevel Global)) (old mid new : Entries)
    → t ≡ lookup (is_path x.site.place.path) old → there ≡ kept_of t ++ x ∷ []
    → ((q : List ℕ) → items_of (lookup (is_path q) mid) ≡ (if bytes_eq q x.site.place.path then Some [] else items_of (lookup (is_path q) old)))
    → ((q : List ℕ) → items_of (lookup (is_path q) new) ≡ (if bytes_eq q x.site.place.path then Some there else items_of (lookup (is_path q) mid)))
    → IsOpened before old → IsOpened (before ++ x ∷ []) new
added x there before t old mid new found all taken put opened = record {
  so = λ q.
      let p = x.site.place.path in
      let kept = fits_kept (filter (is_at p) before) t (subst (λ (o : Option (Vec TopLevel Global)). FitsAll (filter (is_at p) before) (items_of o)) (sym found) (opened.so p)) in
      let whole : there ≡ filter (is_at p) before ++ x ∷ [] = all ∙ ap (λ (ts : List unit.TopLevel). ts ++ x ∷ []) kept in
      let here = put q ∙ both (bytes_eq q p) there (items_of (lookup (is_path q) mid)) (items_of (lookup (is_path q) old)) (taken q) in
      subst (λ (o : Option (List unit.TopLevel)). FitsAll (filter (is_at q) (before ++ x ∷ [])) o) (sym here)
      (subst (λ (ts : List unit.TopLevel). FitsAll ts (if bytes_eq q p then Some there else items_of (lookup (is_path q) old)))
      (sym (one_at q x before (bytes_eq q p) (turned p q)))
      (fits_more (bytes_eq q p) q x before there (items_of (lookup (is_path q) old)) refl whole (opened.so q)));
}
  where
    both : (b : Bool) (ts : List unit.TopLevel) (m o : Option (List unit.TopLevel)) → m ≡ (if b then Some [] else o)
        → (if b then Some ts else m) ≡ (if b then Some ts else o)
    both true ts m o e = refl
    both false ts m o e = e

-- ---- What is taken

fits_left : (there : List unit.TopLevel) (o : Option (List unit.TopLevel)) → FitsAll there o → FitsLeft there o
fits_left there None e = e
fits_left there (Some []) e = tt
fits_left there (Some (t ∷ ts)) e = e

pub all_left : (all : List unit.TopLevel) (es : Entries) → IsOpened all es → IsLeft all es
all_left all es opened = record { so = λ q. fits_left (filter (is_at q) all) (items_of (lookup (is_path q) es)) (opened.so q) }

left_if : (b : Bool) (there : List unit.TopLevel) (o : Option (List unit.TopLevel)) → FitsLeft there o → FitsLeft there (if b then Some [] else o)
left_if true there o fits = tt
left_if false there o fits = fits

pub still_left : (path : List ℕ) (all : List unit.TopLevel) (old new : Entries)
    → ((q : List ℕ) → items_of (lookup (is_path q) new) ≡ (if bytes_eq q path then Some [] else items_of (lookup (is_path q) old))) → IsLeft all old → IsLeft all new
still_left path all old new taken left = record {
  so = λ q.
      subst (λ (o : Option (List unit.TopLevel)). FitsLeft (filter (is_at q) all) o) (sym (taken q))
      (left_if (bytes_eq q path) (filter (is_at q) all) (items_of (lookup (is_path q) old)) (left.so q));
}

pub none_left : (path : List ℕ) (all : List unit.TopLevel) (old : Entries) → None ≡ lookup (is_path path) old → IsLeft all old → [] ≡ filter (is_at path) all
none_left path all old e left =
    sym (subst (λ (o : Option (Vec TopLevel Global)). FitsLeft (filter (is_at path) all) (items_of o)) (sym e) (left.so path))

some_fits : (there : List unit.TopLevel) (ts : List TopLevel) → is_none_left ts ≡ false → FitsLeft there (Some (top_levels_in ts)) → top_levels_in ts ≡ there
some_fits there [] n fits = absurd (cc)
some_fits there (t ∷ ts) n fits = fits

pub some_left : (path : List ℕ) (all : List unit.TopLevel) (old : Entries) (v : Vec TopLevel Global) → Some v ≡ lookup (is_path path) old → is_none_left v.items ≡ false
    → IsLeft all old → top_levels_in v.items ≡ filter (is_at path) all
some_left path all old v e n left =
    some_fits (filter (is_at path) all) v.items n
    (subst (λ (o : Option (Vec TopLevel Global)). FitsLeft (filter (is_at path) all) (items_of o)) (sym e) (left.so path))

-- of a module that was just opened
pub all_found : (path : List ℕ) (all : List unit.TopLevel) (old : Entries) (o : Option (Vec TopLevel Global)) → o ≡ lookup (is_path path) old → IsOpened all old
    → kept_of o ≡ filter (is_at path) all
all_found path all old o e opened =
    fits_kept (filter (is_at path) all) o (subst (λ (x : Option (Vec TopLevel Global)). FitsAll (filter (is_at path) all) (items_of x)) (sym e) (opened.so path))

-- ---- By the keys of places

pub at_key : {X : Type 0} (es : List (Vec ℕ Global × X)) {path : List ℕ} {o : Option X} (key : Vec ℕ Global) → key.items ≡ path
    → o ≡ lookup (λ (k : Vec ℕ Global). bytes_eq key.items k.items) es → o ≡ lookup (is_path path) es
at_key es key e h = h ∙ ap (λ (p : List ℕ). lookup (is_path p) es) e

items_if : (b : Bool) (v : Vec TopLevel Global) (o : Option (Vec TopLevel Global)) → items_of (if b then Some v else o) ≡ (if b then Some (top_levels_in v.items) else items_of o)
items_if true v o = refl
items_if false v o = refl

pub put_key : (es new : Entries) (key : Vec ℕ Global) (path : List ℕ) (v : Vec TopLevel Global) (ts : List unit.TopLevel) → key.items ≡ path → top_levels_in v.items ≡ ts
    → new ≡ insert_entry (λ (j k : Vec ℕ Global). bytes_eq j.items k.items) es key v
    → (q : List ℕ) → items_of (lookup (is_path q) new) ≡ (if bytes_eq q path then Some ts else items_of (lookup (is_path q) es))
put_key es new key path v ts e says h q =
    ap (λ (xs : Entries). items_of (lookup (is_path q) xs)) h ∙ ap items_of (lookup_inserted (tells_paths q) es key v)
    ∙ items_if (is_path q key) v (lookup (is_path q) es)
    ∙ (λ i. if bytes_eq q (e i) then Some (says i) else items_of (lookup (is_path q) es))

pub none_opened : (es : Entries) → es ≡ [] → IsOpened [] es
none_opened es e = record { so = λ q. subst (λ (xs : Entries). FitsAll [] (items_of (lookup (is_path q) xs))) (sym e) refl }

-- what is found where a part is left
pub if_left : (path : List ℕ) (old : Entries) (v : Vec TopLevel Global) (o : Option (Vec TopLevel Global)) → Some v ≡ lookup (is_path path) old
    → IfSome o (λ some. (some ≡ v) × (is_none_left v.items ≡ false)) → IfSome o (λ ts. (all : List unit.TopLevel) → IsLeft all old → top_levels_in ts.items ≡ filter (is_at path) all)
if_left path old v None e h = tt
if_left path old v (Some ts) e h = λ all left. ap (λ (w : Vec TopLevel Global). top_levels_in w.items) h.0 ∙ some_left path all old v e h.1 left
