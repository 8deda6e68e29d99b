-- What the modules say that were read, by their names: what is added, and what is taken.
use Rattle.std.proofs.Common.{◌≡◌, ℕ, Bool, true, false, List, [], ◌∷◌, Option, None, Some, Result, Ok, Err, bytes_eq, string_bytes, is_some, refl, sym, ap, subst, ◌∙◌}
use Rattle.std.specs.Prelude.{◌||◌, if◌then◌else◌}
use Rattle.std.specs.Map.{lookup}
use Rattle.std.specs.Str.{chars}
use Rattle.std.specs.declared.alloc.Global.{Global}
use Rattle.std.specs.declared.string.String.{String}
use Rattle.std.specs.declared.vec.Vec.{Vec}
use Rattle.std.proofs.lemmas.Bool.Decides.{same_from_decides}
use Rattle.std.proofs.lemmas.Slice.Eq.{bytes_eq-Decides}
use Rattle.std.proofs.lemmas.Str.{IsUtf8-string_bytes}
use Rattle.xt_text.proofs.Chars.{same_chars}
use Rattle.spec_document.specs.Forest.{Plain}
use Rattle.spec_structure.specs.Modules.{Modules}
use Rattle.spec_structure.specs.Structure.{Fault}
use Rattle.spec_compile.specs.Reading.{Reads}
use Rattle.spec_compile.specs.Unit as unit
use Rattle.spec_compile.specs.Unit.{module_of}
use Rattle.spec_compile.specs.Sheet.{Said, said_by}
use Rattle.spec_compile.proofs.Readings.{OneAnswer, one_value}
use Rattle.xt_import.specs.View.{is_name}
use Rattle.xt_top_level.specs.View.{top_levels_in}
use Rattle.xt_top_level.specs.declared.top_level.TopLevel.{TopLevel}
use Rattle.xt_compile.specs.Stock.{Fits, IsStock, Says, in_slot, is_said}
use Rattle.indexmap.specs.IndexMap.{insert_entry}
use Rattle.xt_import.proofs.Keys.{by_characters}
use Rattle.xt_compile.proofs.Inserted.{TellsKeys, lookup_inserted}

pub turned : (a b : List ℕ) → bytes_eq a b ≡ bytes_eq b a
turned a b =
    let there = bytes_eq-Decides a b in
    let back = bytes_eq-Decides b a in
    same_from_decides (bytes_eq a b) (bytes_eq b a) there (λ h. sym (back.0 h), λ e. back.1 (sym e))

-- names are told apart by their characters as by their bytes
pub tells_names : (name : List ℕ) → TellsKeys (λ (j k : String Global). bytes_eq (string_bytes j) (string_bytes k)) (is_name name)
tells_names name = record {
  same = λ j k e. ap (λ (text : List ℕ). bytes_eq name (chars text)) (sym ((bytes_eq-Decides (string_bytes j) (string_bytes k)).0 e));
  one = λ j k a b.
      same_chars (string_bytes j) (string_bytes k) (IsUtf8-string_bytes j) (IsUtf8-string_bytes k)
      ∙ (bytes_eq-Decides (chars (string_bytes j)) (chars (string_bytes k))).1
      (sym ((bytes_eq-Decides name (chars (string_bytes j))).0 a) ∙ (bytes_eq-Decides name (chars (string_bytes k))).0 b);
}

said_if_not : (name : List ℕ) (s : Said) (more : List Said) (b : Bool) → bytes_eq s.module_name name ≡ b → (b || is_said name more) ≡ false
    → (is_said name more ≡ false → said_by name more ≡ []) → (if b then s.top_levels else said_by name more) ≡ []
said_if_not name s more true e h rest = absurd (cc)
said_if_not name s more false e h rest = rest h

-- nothing is said by a module that was not read
pub said_by_none : (name : List ℕ) (said : List Said) → is_said name said ≡ false → said_by name said ≡ []
said_by_none name [] h = refl
said_by_none name (s ∷ more) h = said_if_not name s more (bytes_eq s.module_name name) refl h (λ g. said_by_none name more g)

-- ---- One more is added

fits_if : (b : Bool) (name : List ℕ) (s : Said) (more : List Said) (v : Vec TopLevel Global) (old : Option (Option (Vec TopLevel Global)))
    → bytes_eq s.module_name name ≡ b → top_levels_in v.items ≡ s.top_levels → Fits name more old
    → Fits name (s ∷ more) (if b then Some (Some v) else old)
fits_if true name s more v old e says fits = (ap (λ x. x || is_said name more) e, rw e says)
fits_if false name s more v None e says fits = rw e fits
fits_if false name s more v (Some None) e says fits = rw e fits
fits_if false name s more v (Some (Some w)) e says fits = (rw e fits.0, rw e fits.1)

pub put_in : (s : Said) (v : Vec TopLevel Global) (others : List Said) (old new : List (String Global × Option (Vec TopLevel Global))) → top_levels_in v.items ≡ s.top_levels
    → ((q : List ℕ) → lookup (is_name q) new ≡ (if bytes_eq q s.module_name then Some (Some v) else lookup (is_name q) old)) → IsStock others old → IsStock (s ∷ others) new
put_in s v others old new says found stock = record {
  so = λ q.
      subst (λ (o : Option (Option (Vec TopLevel Global))). Fits q (s ∷ others) o) (sym (found q))
      (fits_if (bytes_eq q s.module_name) q s others v (lookup (is_name q) old) (turned s.module_name q) says (stock.so q));
}

pub none_put : (entries : List (String Global × Option (Vec TopLevel Global))) → entries ≡ [] → IsStock [] entries
none_put entries e = record { so = λ q. subst (λ (es : List (String Global × Option (Vec TopLevel Global))). Fits q [] (lookup (is_name q) es)) (sym e) refl }

-- ---- By characters

pub old_found : {X : Type 0} (es : List (String Global × X)) {name : List ℕ} {o : Option X} (key : String Global) → chars (string_bytes key) ≡ name
    → o ≡ lookup (λ (k : String Global). bytes_eq (string_bytes key) (string_bytes k)) es → o ≡ lookup (is_name name) es
old_found es key e h = h ∙ by_characters (string_bytes key) (IsUtf8-string_bytes key) es ∙ ap (λ (n : List ℕ). lookup (is_name n) es) e

pub put_found : {X : Type 0} (es new : List (String Global × X)) (key : String Global) (name : List ℕ) (v : X) → chars (string_bytes key) ≡ name
    → new ≡ insert_entry (λ (j k : String Global). bytes_eq (string_bytes j) (string_bytes k)) es key v
    → (q : List ℕ) → lookup (is_name q) new ≡ (if bytes_eq q name then Some v else lookup (is_name q) es)
put_found {X} es new key name v e h q =
    ap (lookup (is_name q)) h ∙ lookup_inserted (tells_names q) es key v
    ∙ ap (λ (n : List ℕ). if bytes_eq q n then Some v else lookup (is_name q) es) e

-- ---- One is taken

was_said : (name : List ℕ) (said : List Said) (o : Option (Option (Vec TopLevel Global))) → is_some o ≡ true → Fits name said o → is_said name said ≡ true
was_said name said None some fits = absurd (cc)
was_said name said (Some None) some fits = fits
was_said name said (Some (Some v)) some fits = fits.0

left_if : (b : Bool) (q name : List ℕ) (said : List Said) (o : Option (Option (Vec TopLevel Global))) → bytes_eq q name ≡ b → is_said name said ≡ true
    → Fits q said o → Fits q said (if b then Some None else o)
left_if true q name said o e there fits = ap (λ (n : List ℕ). is_said n said) ((bytes_eq-Decides q name).0 e) ∙ there
left_if false q name said o e there fits = fits

pub taken_out : (name : List ℕ) (said : List Said) (old new : List (String Global × Option (Vec TopLevel Global)))
    → ((q : List ℕ) → lookup (is_name q) new ≡ (if bytes_eq q name then Some None else lookup (is_name q) old)) → is_some (lookup (is_name name) old) ≡ true
    → IsStock said old → IsStock said new
taken_out name said old new found some stock = record {
  so = λ q.
      subst (λ (o : Option (Option (Vec TopLevel Global))). Fits q said o) (sym (found q))
      (left_if (bytes_eq q name) q name said (lookup (is_name q) old) refl (was_said name said (lookup (is_name name) old) some (stock.so name)) (stock.so q));
}

pub said_there : (name : List ℕ) (said : List Said) (old : List (String Global × Option (Vec TopLevel Global))) → is_some (lookup (is_name name) old) ≡ true
    → IsStock said old → is_said name said ≡ true
said_there name said old some stock = was_said name said (lookup (is_name name) old) some (stock.so name)

none_fits : (name : List ℕ) (said : List Said) (o : Option (Option (Vec TopLevel Global))) → is_some o ≡ false → Fits name said o → is_said name said ≡ false
none_fits name said None none fits = fits
none_fits name said (Some slot) none fits = absurd (cc)

pub not_there : (name : List ℕ) (said : List Said) (old : List (String Global × Option (Vec TopLevel Global))) → is_some (lookup (is_name name) old) ≡ false
    → IsStock said old → [] ≡ said_by name said
not_there name said old none stock = sym (said_by_none name said (none_fits name said (lookup (is_name name) old) none (stock.so name)))

slot_fits : (name : List ℕ) (said : List Said) (o : Option (Option (Vec TopLevel Global))) (v : Vec TopLevel Global) → Some v ≡ in_slot o → Fits name said o
    → top_levels_in v.items ≡ said_by name said
slot_fits name said None v e fits = absurd (cc)
slot_fits name said (Some None) v e fits = absurd (cc)
slot_fits name said (Some (Some w)) v e fits = ap (λ (u : Vec TopLevel Global). top_levels_in u.items) (some_is e) ∙ fits.1
  where
    some_is : Some v ≡ in_slot (Some (Some w)) → v ≡ w
    some_is h = cc

pub slot_says : (name : List ℕ) (said : List Said) (old : List (String Global × Option (Vec TopLevel Global))) (v : Vec TopLevel Global)
    → Some v ≡ in_slot (lookup (is_name name) old) → IsStock said old → top_levels_in v.items ≡ said_by name said
slot_says name said old v e stock = slot_fits name said (lookup (is_name name) old) v e (stock.so name)

-- ---- A module is read again

abbrev pub ok_of : Result (List unit.TopLevel) Fault → List unit.TopLevel
ok_of (Ok says) = says
ok_of (Err why) = []

pub says_same : (modules : Modules) (name : List ℕ) (tree : Plain) (said : List Said) (r : Result (List unit.TopLevel) Fault) → OneAnswer → modules name ≡ Some tree
    → Reads (module_of name 1 tree) r → Says modules said → is_said name said ≡ true → r ≡ Ok (said_by name said)
says_same modules name tree said r one is reading says there =
    let again = says.so name there in
    let same : tree ≡ again.tree = some_same (sym is ∙ again.is) in
    one_value one (module_of name 1 again.tree) r (Ok (said_by name said)) (subst (λ (t : Plain). Reads (module_of name 1 t) r) same reading) again.reading
  where
    some_same : {a b : Plain} → Some a ≡ Some b → a ≡ b
    some_same e = cc
