-- What namespaces, and the uses of attribute names, stand for.
use Rattle.std.specs.Prelude.{ℕ, List, map}
use Rattle.std.specs.Borrow.{Bor}
use Rattle.std.specs.Str.{chars}
use Rattle.std.specs.declared.rc.Rc.{Rc}
use Rattle.std.specs.declared.alloc.Global.{Global}
use Rattle.spec_document.specs.declared.usage.AttributeUse.{AttributeUse}
use Rattle.spec_document.specs.declared.usage.AttributeUse.TheVariants.{Declares, Names, NoName}
use Rattle.spec_document.specs.Name.{QName}
use Rattle.spec_document.specs.Declaration.{PlainUse}
use Rattle.xt_names.specs.declared.namespace.Namespace.{Namespace}

-- a prefix and its URI
abbrev pub Entry : Type 0
Entry = List ℕ × List ℕ

abbrev pub entry_of : Namespace → Entry
entry_of n = (n.prefix, n.uri)

abbrev pub entries_of : List (Rc Namespace Global) → List Entry
entries_of namespaces = map (λ n. entry_of n.value) namespaces

-- a use whose prefix is borrowed
abbrev pub use_in : AttributeUse (Bor (List ℕ)) QName → PlainUse
use_in (Declares prefix) = Declares (chars prefix.now)
use_in (Names name) = Names name
use_in NoName = NoName
