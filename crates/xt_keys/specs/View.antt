-- What an index of keys stands for, and what is found on the way to it.
use Rattle.std.specs.Prelude.{ℕ, ◌≡◌, Bool, true, false, List, [], ◌∷◌, ◌++◌, map, Option, None, Some, Vec, Result, bytes_eq, string_bytes, if◌then◌else◌}
use Rattle.std.specs.List.{filter, list_any}
use Rattle.std.specs.Map.{lookup}
use Rattle.std.specs.Str.{chars}
use Rattle.std.specs.declared.alloc.Global.{Global}
use Rattle.std.specs.declared.string.String.{String}
use Rattle.spec_meaning.specs.Naming.{AreApart}
use Rattle.spec_meaning.specs.Program.{Program, Give, Supply, State, then}
use Rattle.spec_transform.specs.Key.{KeyAt, Entry}
use Rattle.spec_node.specs.declared.node_ref.NodeRef.{NodeRef}
use Rattle.spec_node.specs.Naming.{same_ref}
use Rattle.xt_syntax.specs.PartView.{site_of}
use Rattle.xt_syntax.specs.SheetView.{key_of}
use Rattle.xt_syntax.specs.declared.site.Site.{Site}
use Rattle.xt_syntax.specs.declared.unit.Key.{Key}
use Rattle.xt_questions.specs.Runs.{Runs, itself}
use Rattle.xt_questions.specs.View.{context_of}
use Rattle.xt_questions.specs.declared.context.Context.{Context}
use Rattle.xt_questions.specs.declared.context.Focus.{Focus}
use Rattle.xt_questions.specs.declared.fault.EvalFault.{EvalFault}
use Rattle.xt_match.specs.Context.{at}
use Rattle.xt_keys.specs.declared.groups.KeyIndex.{KeyIndex}

-- each of these nodes is the same as itself, and another than all behind it
abbrev pub AreNodesApart : List NodeRef → Type 0
AreNodesApart nodes = AreApart itself same_ref nodes

-- ---- One key at one node

-- the key whose element is this site
abbrev pub key_at : Site → Key → KeyAt
key_at site key = record { site = site_of site; key = key_of key }

-- a node that is the only one of its list
abbrev pub alone : NodeRef → Focus
alone node = record { node = node; position = Some 1; size = Some 1 }

-- this is where the pattern of a key at the site stands for a node, and its use
pub record IsContextOf (site : Site) (node : NodeRef) (c : Context) : Type 0 where
  pub pattern : context_of (at node) c ≡ record { node = node; current = node; position = None; size = None; bindings = []; scope = site.scope }
  pub value : context_of (alone node) c ≡ record { node = node; current = node; position = Some 1; size = Some 1; bindings = []; scope = site.scope }
  pub depth : c.depth ≡ 0

-- ---- The texts of each of some nodes

abbrev pub texts_in : Vec (Vec (List ℕ) Global) Global → List (List (List ℕ))
texts_in lists = map (λ l. l.items) lists.items

-- those of a node among entries
abbrev pub texts_at : List (Entry NodeRef) → NodeRef → List (List ℕ)
texts_at entries node = map (λ e. e.text) (filter (λ e. same_ref node e.node) entries)

abbrev pub all_texts : List NodeRef → List (Entry NodeRef) → List (List (List ℕ))
all_texts nodes entries = map (texts_at entries) nodes

-- from the texts of some entries to those of the entries that a program makes of them
pub record Fills {X : Type 0} (supply : Supply NodeRef) (p : List (Entry NodeRef) → Program NodeRef (List (Entry NodeRef))) (nodes : List NodeRef) (old new : List (List (List ℕ)))
    (s t : State NodeRef) (result : Result X EvalFault) : Type 0 where
  pub runs : (done : List (Entry NodeRef)) → old ≡ all_texts nodes done
      → Runs (λ nothing. new) supply 0 ((then) (p done) (λ entries. Give (all_texts nodes entries))) s t result

-- the nodes that have a text
abbrev pub having : List ℕ → List NodeRef → List (List (List ℕ)) → List NodeRef
having text [] lists = []
having text (n ∷ ns) [] = []
having text (n ∷ ns) (ts ∷ lists) = if list_any (λ t. bytes_eq t text) ts then n ∷ having text ns lists else having text ns lists

-- ---- The nodes of each text

-- whether a key has these characters
abbrev pub has_text : List ℕ → String Global → Bool
has_text text key = bytes_eq (chars (string_bytes key)) text

abbrev pub nodes_in : Option (Vec NodeRef Global) → List NodeRef
nodes_in None = []
nodes_in (Some nodes) = nodes.items

-- what `find` gives for a text
abbrev pub nodes_found : List ℕ → KeyIndex → List NodeRef
nodes_found text index = nodes_in (lookup (has_text text) index.groups.entries)

-- whether the last is this node
abbrev pub is_last : NodeRef → List NodeRef → Bool
is_last node [] = false
is_last node (n ∷ []) = same_ref n node
is_last node (n ∷ m ∷ more) = is_last node (m ∷ more)

-- with a node at the end, unless the last is the same
abbrev pub with_node : NodeRef → List NodeRef → List NodeRef
with_node node nodes = if is_last node nodes then nodes else nodes ++ node ∷ []

-- what is found for a text after a node was added to those of each of these texts
abbrev pub with_each : List ℕ → NodeRef → List (List ℕ) → List NodeRef → List NodeRef
with_each text node [] nodes = nodes
with_each text node (t ∷ ts) nodes = with_each text node ts (if bytes_eq t text then with_node node nodes else nodes)

-- ---- One node

-- the list at the end
abbrev pub last_list : List (List (List ℕ)) → List (List ℕ)
last_list [] = []
last_list (l ∷ []) = l
last_list (l ∷ m ∷ lists) = last_list (m ∷ lists)
