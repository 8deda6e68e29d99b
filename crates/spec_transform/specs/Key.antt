-- Keys (XSLT 1.0, section 12.2): a node has a value in the keys of a name where it matches one of their patterns and the value is one of those of
-- its use: the string-value of each node of a node-set, or the string of anything else. All of the keys are asked for all nodes at once: so it
-- is the same refusal, whichever value is asked for, and it stands at the xsl:key.
use Rattle.std.specs.Prelude.{ℕ, Bool, ◌&&◌, List, [], ◌∷◌, ◌++◌, map, bytes_eq, None, Some, if◌then◌else◌}
use Rattle.std.specs.List.{filter, flat_map, list_any}
use Rattle.spec_document.specs.Name.{Expanded, same_name}
use Rattle.spec_stylesheet.specs.Place.{Place, Site}
use Rattle.spec_stylesheet.specs.Sheet as sheet
use Rattle.spec_meaning.specs.Value as value
use Rattle.spec_meaning.specs.Value.{Value}
use Rattle.spec_meaning.specs.Question as question
use Rattle.spec_meaning.specs.Question.{Answer, Refusal, Here, At}
use Rattle.spec_meaning.specs.Program.{Program, Give, Refuse, Ask, Need, Supply, Said, Gives, Refuses, Lacks, ◌>>=◌}
use Rattle.spec_meaning.specs.Supplies.{at_hand}
use Rattle.spec_meaning.specs.Context.{Context}
use Rattle.spec_meaning.specs.Convert.{text_at, to_text}
use Rattle.spec_meaning.specs.Meaning.{meaning}
use Rattle.spec_transform.specs.Match.{matches}

-- ---- The keys of a name, in the order of the stylesheet

pub record KeyAt : Type 0 where
  pub site : Site
  pub key : sheet.Key

abbrev pub key_in : Expanded → sheet.Unit → sheet.Declared → List KeyAt
key_in name u (sheet.AKey k) = if same_name k.name name then record { site = u.site; key = k } ∷ [] else []
key_in name u (sheet.ATemplate t) = []
key_in name u (sheet.AGlobal g) = []
key_in name u (sheet.ASet s) = []

abbrev pub keys_named : Expanded → List sheet.Unit → List KeyAt
keys_named name units = flat_map (λ u. key_in name u u.declared) units

-- where patterns and keys are asked no global is at hand. Position and size are never asked of the run: a predicate has its own
abbrev pub no_globals : {N : Type 0} → Supply N
no_globals = at_hand (record { position = 1; size = 1; rule = None; globals = [] }) 0

-- ---- The values of one node in one key

-- where its pattern and its use stand: the node is the current one, for the use the only one of its list, and there are no variables
abbrev pub pattern_context : {N : Type 0} → KeyAt → N → Context N
pattern_context k n = record { node = n; current = n; position = None; size = None; bindings = []; scope = k.site.scope }

abbrev pub use_context : {N : Type 0} → KeyAt → N → Context N
use_context k n = record { node = n; current = n; position = Some 1; size = Some 1; bindings = []; scope = k.site.scope }

-- the string-values of nodes, after those before them
abbrev pub texts_of : {N : Type 0} → List (List ℕ) → List N → Program N (List (List ℕ))
texts_of done [] = Give done
texts_of done (n ∷ ns) = text_at n >>= λ t. texts_of (done ++ t ∷ []) ns

abbrev pub values_of : {N : Type 0} → Value N → Program N (List (List ℕ))
values_of (value.Nodes ns) = texts_of [] ns
values_of (value.Number n) = to_text (value.Number n) >>= λ t. Give (t ∷ [])
values_of (value.Text t) = Give (t ∷ [])
values_of (value.Boolean b) = to_text (value.Boolean b) >>= λ t. Give (t ∷ [])
values_of (value.Fragment s) = to_text (value.Fragment s) >>= λ t. Give (t ∷ [])

-- what is refused is refused at this element
abbrev pub refusal_there : Place → Refusal → Refusal
refusal_there place (Here code) = At code place
refusal_there place (At code other) = At code other

unfoldable pub refused_there : {N A : Type 0} → Place → Program N A → Program N A
refused_there place (Give v) = Give v
refused_there place (Refuse why) = Refuse (refusal_there place why)
refused_there place (Ask asked next) = Ask asked (λ a. refused_there place (next a))
refused_there place (Need wanted next) = Need wanted (λ g. refused_there place (next g))

-- where the node matches
abbrev pub used : {N : Type 0} → KeyAt → N → Bool → Program N (List (List ℕ))
used k n matches =
    if matches then refused_there k.site.place (meaning k.key.value (use_context k n) >>= λ v. values_of v) else Give []

abbrev pub values_at : {N : Type 0} → (N → N → Bool) → KeyAt → N → Program N (List (List ℕ))
values_at same k n = matches same (pattern_context k n) k.key.pattern n >>= λ b. used k n b

-- ---- The index of all nodes

-- a node with one of its values
pub record Entry (N : Type 0) : Type 0 where
  pub node : N
  pub text : List ℕ

abbrev pub entry : {N : Type 0} → N → List ℕ → Entry N
entry n t = record { node = n; text = t }

-- by one key, for these nodes in their order, after the entries before
abbrev pub indexed_by : {N : Type 0} → (N → N → Bool) → KeyAt → List N → List (Entry N) → Program N (List (Entry N))
indexed_by same k [] done = Give done
indexed_by same k (n ∷ ns) done = values_at same k n >>= λ ts. indexed_by same k ns (done ++ map (entry n) ts)

-- by all keys, in their order
abbrev pub indexed : {N : Type 0} → (N → N → Bool) → List KeyAt → List N → List (Entry N) → Program N (List (Entry N))
indexed same [] nodes done = Give done
indexed same (k ∷ ks) nodes done = indexed_by same k nodes done >>= λ more. indexed same ks nodes more

-- ---- The nodes that have a value: of all nodes in document order those that have such an entry

abbrev pub has : {N : Type 0} → (N → N → Bool) → List (Entry N) → List ℕ → N → Bool
has same entries text n = list_any (λ e. same n e.node && bytes_eq e.text text) entries

abbrev pub keyed : {N : Type 0} → (N → N → Bool) → List N → List ℕ → Said (List (Entry N)) → Answer N
keyed same nodes text (Gives entries) = question.SomeNodes (filter (has same entries text) nodes)
keyed same nodes text (Refuses why) = question.Refused why
keyed same nodes text (Lacks wanted) = question.SomeNodes []
