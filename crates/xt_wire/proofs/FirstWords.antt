-- Texts that are cut at their first space.
use Rattle.std.proofs.Common.{◌≡◌, ℕ, ◌==◌, Bool, true, false, not, List, [], ◌∷◌, length, bytes_eq, Option, None, Some, refl, sym, ap}
use Rattle.std.proofs.Common.{◌∙◌, arith}
use Rattle.std.specs.Prelude.{codes}
use Rattle.std.specs.List.{list_any}
use Rattle.std.specs.Option.{option_and_then}
use Rattle.std.specs.Str.{IsUtf8, chars}
use Rattle.std.proofs.lemmas.Bool.Decides.{nat_tests}
use Rattle.xt_text.proofs.Chars.{no_chars}
use Rattle.spec_document.specs.Pyx.{is_blank}
use Rattle.spec_document.specs.Declaration.{is_there}
use Rattle.spec_document.proofs.First.{before_first-none}
use Rattle.spec_session.specs.Request.{words_of, only_word, document_named, module_named, SourceName, ModuleName}

pub uncut : (text : List ℕ) → list_any is_blank text ≡ false → words_of text ≡ record { first = text; rest = None }
uncut text h = rw (before_first-none is_blank text h, h) refl

there : (cs : List ℕ) → is_there cs ≡ not (length cs == 0)
there [] = refl
there (c ∷ cs) = grind (arith, nat_tests)

pub is_there-bytes : (bytes : List ℕ) (r : Bool) → IsUtf8 bytes → r ≡ (length bytes == 0) → not r ≡ is_there (chars bytes)
is_there-bytes bytes r u e = ap not (e ∙ no_chars bytes u) ∙ sym (there (chars bytes))

-- ---- Names

pub names_source : (word : List ℕ) → bytes_eq word (codes "source") ≡ true → document_named word ≡ SourceName
names_source word h = rw h refl

pub names_module : (word : List ℕ) → bytes_eq word (codes "source") ≡ false → document_named word ≡ ModuleName word
names_module word h = rw h refl

pub no_module : (rest : Option (List ℕ)) (word : List ℕ) → Some word ≡ only_word rest → bytes_eq word (codes "source") ≡ true
    → option_and_then module_named (only_word rest) ≡ None
no_module rest word e h = ap (option_and_then module_named) (sym e) ∙ rw h refl

pub a_module : (rest : Option (List ℕ)) (word : List ℕ) → Some word ≡ only_word rest → bytes_eq word (codes "source") ≡ false
    → option_and_then module_named (only_word rest) ≡ Some word
a_module rest word e h = ap (option_and_then module_named) (sym e) ∙ rw h refl
