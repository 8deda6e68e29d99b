-- Modules of which one was taken out, and put back.
use Rattle.std.proofs.Common.{◌≡◌, ℕ, Bool, true, false, cond, List, [], ◌∷◌, Option, None, Some, Result, bytes_eq, string_bytes, refl, sym, ap, subst, ◌∙◌}
use Rattle.std.specs.Prelude.{IfOk, IfSome}
use Rattle.std.proofs.lemmas.Slice.Eq.{bytes_eq-Decides}
use Rattle.std.proofs.lemmas.Str.{IsUtf8-string_bytes}
use Rattle.std.specs.Map.{AreApart, IsKeyTest, KeepsOthers, lookup, lookup_key}
use Rattle.std.specs.Option.{option_map}
use Rattle.std.specs.Str.{chars, IsUtf8}
use Rattle.std.specs.String.{string_eq}
use Rattle.std.specs.declared.alloc.Global.{Global}
use Rattle.std.specs.declared.string.String.{String}
use Rattle.indexmap.specs.IndexMap.{insert_entry}
use Rattle.spec_document.specs.Forest.{Document}
use Rattle.spec_cost.specs.Numbers as numbers
use Rattle.spec_structure.specs.Modules.{Modules}
use Rattle.xt_text.proofs.Chars.{same_chars}
use Rattle.xt_text.specs.declared.memory.Memory.{Memory}
use Rattle.xt_edit.specs.View.{AreBelow}
use Rattle.xt_import.specs.View.{is_name, modules_in, plain_of}
use Rattle.xt_world.proofs.Keys.{by_characters, lookup-insert}
use Rattle.xt_held.specs.Called.{numbered_modules}
use Rattle.xt_held.specs.StylesheetView.{AreCompiled, without_one}
use Rattle.xt_held.specs.Tried.{AreSame}
use Rattle.xt_held.specs.View.{AreAllBelow}
use Rattle.xt_held.specs.declared.stylesheet.Compiled.{Compiled}

abbrev by_text : List ℕ → String Global → Bool
by_text text key = bytes_eq text (string_bytes key)

equal : (a b : List ℕ) → bytes_eq a b ≡ true → a ≡ b
equal a b e = (bytes_eq-Decides a b).0 e

-- ---- Taken out

-- what is told of a map after the key of this text was taken out
pub record IsTaken (text : List ℕ) (old new : List (String Global × Document ℕ)) : Type 0 where
  pub gone : lookup (λ key. bytes_eq text (string_bytes key)) new ≡ None
  pub others : KeepsOthers string_eq (λ key. bytes_eq text (string_bytes key)) old new

-- names tell keys apart as keys do
by_name : (name : List ℕ) → IsKeyTest string_eq (is_name name)
by_name name x y is =
    ap (λ (n : List ℕ). bytes_eq n (chars (string_bytes y))) (equal name (chars (string_bytes x)) is)
    ∙ sym (same_chars (string_bytes x) (string_bytes y) (IsUtf8-string_bytes x) (IsUtf8-string_bytes y))

apart : (text : List ℕ) → IsUtf8 text → (name : List ℕ) → bytes_eq name (chars text) ≡ false → AreApart (by_text text) (is_name name)
apart text utf8 name other key is =
    let same : chars text ≡ chars (string_bytes key)
    = equal (chars text) (chars (string_bytes key)) (sym (same_chars text (string_bytes key) utf8 (IsUtf8-string_bytes key)) ∙ is) in
    ap (bytes_eq name) (sym same) ∙ other

pub taken : (text : List ℕ) → IsUtf8 text → (old new : List (String Global × Document ℕ)) → IsTaken text old new → (name : List ℕ)
    → lookup (is_name name) new ≡ cond (bytes_eq name (chars text)) None (lookup (is_name name) old)
unfolding KeepsOthers
taken text utf8 old new is name = by (bytes_eq name (chars text)) refl
  where
    by : (b : Bool) → bytes_eq name (chars text) ≡ b → lookup (is_name name) new ≡ cond b None (lookup (is_name name) old)
    by true e = ap (λ (n : List ℕ). lookup (is_name n) new) (equal name (chars text) e) ∙ sym (by_characters text utf8 new) ∙ is.gone
    by false e = is.others (is_name name) (by_name name) (apart text utf8 name e)

map-without : {X Y : Type 0} (f : X → Y) (b : Bool) (o : Option X) → option_map f (cond b None o) ≡ cond b None (option_map f o)
map-without f true o = refl
map-without f false o = refl

pub modules-taken : (text : List ℕ) → IsUtf8 text → (name : List ℕ) → chars text ≡ name → (old new : List (String Global × Document ℕ))
    → IsTaken text old new → modules_in new ≡ without_one name (modules_in old)
modules-taken text utf8 name same old new is =
    let at : (other : List ℕ) → modules_in new other ≡ without_one (chars text) (modules_in old) other
    = λ other. ap (option_map plain_of) (taken text utf8 old new is other)
    ∙ map-without plain_of (bytes_eq other (chars text)) (lookup (is_name other) old) in
    let all : modules_in new ≡ without_one (chars text) (modules_in old) = λ i other. at other i in
    all ∙ ap (λ (n : List ℕ). without_one n (modules_in old)) same

-- the same with the numbers of their nodes
pub numbered-taken : (text : List ℕ) → IsUtf8 text → (name : List ℕ) → chars text ≡ name → (old new : List (String Global × Document ℕ))
    → IsTaken text old new → numbered_modules new ≡ numbers.with_one name None (numbered_modules old)
numbered-taken text utf8 name same old new is =
    let all : numbered_modules new ≡ numbers.with_one (chars text) None (numbered_modules old) = λ i other. taken text utf8 old new is other i in
    all ∙ ap (λ (n : List ℕ). numbers.with_one n None (numbered_modules old)) same

pub taken_below : (text : List ℕ) → IsUtf8 text → (first : ℕ) (source : Option (Document ℕ)) (old new : List (String Global × Document ℕ))
    → IsTaken text old new → AreAllBelow first source old → AreAllBelow first source new
taken_below text utf8 first source old new is below = record {
  source = below.source;
  modules = λ name. subst (λ (o : Option (Document ℕ)). IfSome o (AreBelow first)) (sym (taken text utf8 old new is name))
      (by (bytes_eq name (chars text)) (lookup (is_name name) old) (below.modules name));
}
  where
    by : (b : Bool) (o : Option (Document ℕ)) → IfSome o (AreBelow first) → IfSome (cond b None o) (AreBelow first)
    by true o h = tt
    by false o h = h

-- ---- Put back

key_next : (test : String Global → Bool) (key : String Global) (e : String Global × Document ℕ) (rest : Option (String Global)) (b : Bool) → test e.0 ≡ b
    → (rest ≡ Some key → test key ≡ true) → cond b (Some e.0) rest ≡ Some key → test key ≡ true
key_next test key e rest true is more h = let same : e.0 ≡ key = cc in ap test (sym same) ∙ is
key_next test key e rest false is more h = more h

-- a key that is found passes the test
key_passes : (test : String Global → Bool) (key : String Global) (es : List (String Global × Document ℕ)) → lookup_key test es ≡ Some key → test key ≡ true
key_passes test key [] h = absurd (cc)
key_passes test key (e ∷ es) h = key_next test key e (lookup_key test es) (test e.0) refl (key_passes test key es) h

pub put_again : (text : List ℕ) → IsUtf8 text → (old new : List (String Global × Document ℕ)) → IsTaken text old new → (key : String Global) (document : Document ℕ)
    → lookup_key (λ key. bytes_eq text (string_bytes key)) old ≡ Some key → lookup (λ key. bytes_eq text (string_bytes key)) old ≡ Some document
    → AreSame old (insert_entry string_eq new key document)
put_again text utf8 old new is key document found value = record {
  so = λ name. lookup-insert name key document new
      ∙ ap (λ (n : List ℕ). cond (bytes_eq name n) (Some document) (lookup (is_name name) new)) chars_same
      ∙ by name (bytes_eq name (chars text)) refl;
}
  where
    chars_same : chars (string_bytes key) ≡ chars text
    chars_same = ap chars (sym (equal text (string_bytes key) (key_passes (by_text text) key old found)))

    by : (name : List ℕ) (b : Bool) → bytes_eq name (chars text) ≡ b → cond b (Some document) (lookup (is_name name) new) ≡ lookup (is_name name) old
    by name true e = sym value ∙ by_characters text utf8 old ∙ ap (λ (n : List ℕ). lookup (is_name n) old) (sym (equal name (chars text) e))
    by name false e = taken text utf8 old new is name ∙ ap (λ (c : Bool). cond c None (lookup (is_name name) old)) e

pub same_entries : (old new : List (String Global × Document ℕ)) → new ≡ old → AreSame old new
same_entries old new e = record { so = λ name. ap (lookup (is_name name)) e }

-- ---- What the modules are then

pub compiled_as : (r : Result (Option Compiled) Memory) (modules others : Modules) → modules ≡ others → IfOk r (λ compiled. AreCompiled modules compiled)
    → IfOk r (λ compiled. AreCompiled others compiled)
compiled_as r modules others e h = subst (λ (ms : Modules). IfOk r (λ compiled. AreCompiled ms compiled)) e h

pub same_modules : (old new : List (String Global × Document ℕ)) → AreSame old new → modules_in new ≡ modules_in old
same_modules old new same = λ i name. option_map plain_of (same.so name i)

pub same_numbered : (old new : List (String Global × Document ℕ)) → AreSame old new → numbered_modules new ≡ numbered_modules old
same_numbered old new same = λ i name. same.so name i

pub same_below : (first : ℕ) (source : Option (Document ℕ)) (old new : List (String Global × Document ℕ)) → AreSame old new → AreAllBelow first source old
    → AreAllBelow first source new
same_below first source old new same below = record {
  source = below.source;
  modules = λ name. subst (λ (o : Option (Document ℕ)). IfSome o (AreBelow first)) (sym (same.so name)) (below.modules name);
}
