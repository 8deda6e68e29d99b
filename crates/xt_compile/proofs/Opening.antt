-- Modules that are opened, by their names: one is found, changed or added.
use Rattle.std.proofs.Common.{◌≡◌, ℕ, Bool, true, false, cond, List, [], ◌∷◌, Option, None, Some, Result, Ok, Err, IfOk, IfSome, bytes_eq, string_bytes, refl, sym, ap, subst, ◌∙◌}
use Rattle.std.specs.Prelude.{if◌then◌else◌}
use Rattle.std.specs.HashMap.{HashMap}
use Rattle.std.specs.List.{filter}
use Rattle.std.specs.Map.{lookup, set_value}
use Rattle.std.specs.Str.{chars}
use Rattle.std.specs.declared.alloc.Global.{Global}
use Rattle.std.specs.declared.string.String.{String}
use Rattle.std.specs.declared.vec.Vec.{Vec}
use Rattle.std.proofs.lemmas.Slice.Eq.{bytes_eq-Decides}
use Rattle.spec_compile.specs.Sheet.{Said, said_by, is_at}
use Rattle.spec_compile.specs.Unit as unit
use Rattle.xt_import.specs.View.{is_name}
use Rattle.xt_text.specs.declared.memory.Memory.{Memory}
use Rattle.xt_top_level.specs.View.{top_levels_in}
use Rattle.xt_top_level.specs.declared.top_level.TopLevel.{TopLevel}
use Rattle.xt_compile.specs.Opened.{IsLeft}
use Rattle.xt_compile.specs.Placed.{AreOpened, MayBeLeft}

-- a module that is opened, and all of them by their names
abbrev Opened : Type 0 → Type 0
Opened S = HashMap (Vec ℕ Global) (Vec TopLevel Global) S

abbrev Entries : Type 0 → Type 0
Entries S = List (String Global × Opened S)

pub no_module_opened : {S : Type 0} (said : List Said) (es : Entries S) → es ≡ [] → AreOpened said es
no_module_opened {S} said es e = record { so = λ name. subst (λ (xs : Entries S). MayBeLeft (said_by name said) (lookup (is_name name) xs)) (sym e) tt }

-- ---- One is found

pub is_left : {S : Type 0} (name : List ℕ) (said : List Said) (es : Entries S) (o : Opened S) → lookup (is_name name) es ≡ Some o → AreOpened said es
    → IsLeft (said_by name said) o.entries
is_left {S} name said es o e opened = subst (λ (x : Option (Opened S)). MayBeLeft (said_by name said) x) e (opened.so name)

pub found_opened : {S : Type 0} {P : List Said → Type 0} (r : Result (Option (Vec TopLevel Global)) Memory) (name path : List ℕ) (es : Entries S) (o : Opened S)
    → lookup (is_name name) es ≡ Some o → ((said : List Said) → P said → AreOpened said es)
    → IfOk r (λ at. IfSome at (λ ts. (all : List unit.TopLevel) → IsLeft all o.entries → top_levels_in ts.items ≡ filter (is_at path) all))
    → IfOk r (λ at. IfSome at (λ ts. (said : List Said) → P said → top_levels_in ts.items ≡ filter (is_at path) (said_by name said)))
found_opened (Ok (Some ts)) name path es o e opened h = λ said p. h (said_by name said) (is_left name said es o e (opened said p))
found_opened (Ok None) name path es o e opened h = tt
found_opened (Err why) name path es o e opened h = tt

-- ---- It is changed

replaced : {X : Type 0} (M : Option X → Type 0) (b : Bool) (old new : X) (more : Option X) → (b ≡ true → M (Some new)) → M (cond b (Some old) more) → M (cond b (Some new) more)
replaced M true old new more fits h = fits refl
replaced M false old new more fits h = h

kept : {X : Type 0} (M : Option X → Type 0) (b : Bool) (first : X) (old new : Option X) → (M old → M new) → M (cond b (Some first) old) → M (cond b (Some first) new)
kept M true first old new more h = h
kept M false first old new more h = more h

set_first : {K X : Type 0} (M : Option X → Type 0) (test given : K → Bool) (e : K × X) (es : List (K × X)) (o : X) (b : Bool) → given e.0 ≡ b
    → ((k : K) → given k ≡ true → test k ≡ true → M (Some o)) → (M (lookup test es) → M (lookup test (set_value given es o)))
    → M (lookup test (e ∷ es)) → M (lookup test (cond b ((e.0, o) ∷ es) (e ∷ set_value given es o)))
set_first M test given e es o true is fits more h = replaced M (test e.0) e.1 o (lookup test es) (λ t. fits e.0 is t) h
set_first M test given e es o false is fits more h = kept M (test e.0) e.1 (lookup test es) (lookup test (set_value given es o)) more h

-- what holds of what a test finds holds still where another value is written, of which it holds
set_fits : {K X : Type 0} (M : Option X → Type 0) (test given : K → Bool) (es : List (K × X)) (o : X)
    → ((k : K) → given k ≡ true → test k ≡ true → M (Some o)) → M (lookup test es) → M (lookup test (set_value given es o))
set_fits M test given [] o fits h = h
set_fits M test given (e ∷ es) o fits h = set_first M test given e es o (given e.0) refl fits (set_fits M test given es o fits) h

same_name : (text name q : List ℕ) (k : String Global) → chars text ≡ name → bytes_eq text (string_bytes k) ≡ true → is_name q k ≡ true → name ≡ q
same_name text name q k is given sought =
    sym is ∙ ap chars ((bytes_eq-Decides text (string_bytes k)).0 given) ∙ sym ((bytes_eq-Decides q (chars (string_bytes k))).0 sought)

pub changed : {S : Type 0} (text name : List ℕ) (said : List Said) (es new : Entries S) (o : Opened S) → chars text ≡ name
    → new ≡ set_value (λ (key : String Global). bytes_eq text (string_bytes key)) es o → IsLeft (said_by name said) o.entries → AreOpened said es → AreOpened said new
changed {S} text name said es new o is set left opened = record {
  so = λ q.
      subst (λ (xs : Entries S). MayBeLeft (said_by q said) (lookup (is_name q) xs)) (sym set)
      (set_fits (λ (x : Option (Opened S)). MayBeLeft (said_by q said) x) (is_name q) (λ (key : String Global). bytes_eq text (string_bytes key)) es o
      (λ k given sought. subst (λ (n : List ℕ). IsLeft (said_by n said) o.entries) (same_name text name q k is given sought) left) (opened.so q));
}

-- ---- One is added

opened_if : {S : Type 0} (b : Bool) (name q : List ℕ) (said : List Said) (o : Opened S) (old : Option (Opened S)) → bytes_eq q name ≡ b → IsLeft (said_by name said) o.entries
    → MayBeLeft (said_by q said) old → MayBeLeft (said_by q said) (if b then Some o else old)
opened_if true name q said o old is left h = subst (λ (n : List ℕ). IsLeft (said_by n said) o.entries) (sym ((bytes_eq-Decides q name).0 is)) left
opened_if false name q said o old is left h = h

pub opened_more : {S : Type 0} (name : List ℕ) (said : List Said) (es new : Entries S) (o : Opened S)
    → ((q : List ℕ) → lookup (is_name q) new ≡ (if bytes_eq q name then Some o else lookup (is_name q) es)) → IsLeft (said_by name said) o.entries → AreOpened said es
    → AreOpened said new
opened_more {S} name said es new o put left opened = record {
  so = λ q.
      subst (λ (x : Option (Opened S)). MayBeLeft (said_by q said) x) (sym (put q))
      (opened_if (bytes_eq q name) name q said o (lookup (is_name q) es) refl left (opened.so q));
}
