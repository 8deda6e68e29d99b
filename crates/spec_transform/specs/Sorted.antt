-- Sorting (XSLT 1.0, section 10). A key compares as text, by code points, or as numbers, of which NaN is the least; each key counts where those
-- before it do not tell two nodes apart, and where none does the node that was first stays first. A descending key turns its own order, and not
-- that of the nodes.
use Rattle.std.specs.Prelude.{ℕ, int_lt, nat_lt, ◌==◌, Bool, true, false, not, ◌&&◌, ◌||◌, List, [], ◌∷◌, map, bytes_eq, codes, if◌then◌else◌}
use Rattle.std.specs.List.Sorted.{IsPermutation, IsSortedBy, IsStableBy}
use Rattle.spec_expression.specs.declared.code.DynCode.TheVariants.{BadSort}
use Rattle.spec_expression.specs.Number.{Number, Whole, NaN, number_of}
use Rattle.spec_stylesheet.specs.Instruction.{SortKey}
use Rattle.spec_meaning.specs.Question.{Here}
use Rattle.spec_meaning.specs.Program.{Program, Give, Refuse, ◌>>=◌}
use Rattle.spec_meaning.specs.Context.{Context}
use Rattle.spec_meaning.specs.Convert.{given, to_text}
use Rattle.spec_meaning.specs.Meaning.{meaning}
use Rattle.spec_transform.specs.Expansion.{expanded}

-- ---- What an xsl:sort says

-- how its keys compare
pub record Criterion : Type 0 where
  pub is_number : Bool
  pub descends : Bool

-- one of two words, tried as soon as it is there
abbrev pub second_of : {N : Type 0} → (first second text : List ℕ) → Program N Bool
second_of first second text = if bytes_eq text first then Give false else (if bytes_eq text second then Give true else Refuse (Here BadSort))

abbrev pub data_type_meant : {N : Type 0} → SortKey → Context N → Program N Bool
data_type_meant key c = expanded key.data_type c >>= λ t. second_of (codes "text") (codes "number") t

abbrev pub order_meant : {N : Type 0} → SortKey → Context N → Program N Bool
order_meant key c = expanded key.order c >>= λ t. second_of (codes "ascending") (codes "descending") t

abbrev pub criterion_meant : {N : Type 0} → SortKey → Context N → Program N Criterion
criterion_meant key c = data_type_meant key c >>= λ n. order_meant key c >>= λ d. Give (record { is_number = n; descends = d })

-- ---- The key of a node: the string of its value, or the number of that

pub data KeyValue : Type 0 where
  AText : (text : List ℕ) → KeyValue
  ANumber : (number : Number) → KeyValue

abbrev pub key_of_text : {N : Type 0} → (is_number : Bool) → List ℕ → Program N KeyValue
key_of_text is_number text = if is_number then (given (number_of text) >>= λ n. Give (ANumber n)) else Give (AText text)

abbrev pub key_meant : {N : Type 0} → SortKey → Criterion → Context N → Program N KeyValue
key_meant key criterion c = meaning key.select c >>= λ v. to_text v >>= λ t. key_of_text criterion.is_number t

-- ---- Which comes before which

abbrev pub text_before : List ℕ → List ℕ → Bool
text_before a [] = false
text_before [] (d ∷ ds) = true
text_before (c ∷ cs) (d ∷ ds) = nat_lt c d || (c == d && text_before cs ds)

abbrev pub number_before : Number → Number → Bool
number_before NaN NaN = false
number_before NaN (Whole z) = true
number_before (Whole z) NaN = false
number_before (Whole y) (Whole z) = int_lt y z

-- Keys of one xsl:sort are all of one kind. Numbers stand before texts only so that this is an order of all keys.
abbrev pub key_before : KeyValue → KeyValue → Bool
key_before (AText s) (AText t) = text_before s t
key_before (ANumber m) (ANumber n) = number_before m n
key_before (ANumber m) (AText t) = true
key_before (AText s) (ANumber n) = false

abbrev pub before_by : Criterion → KeyValue → KeyValue → Bool
before_by c v w = if c.descends then key_before w v else key_before v w

-- By the first key that tells them apart. A node has as many keys as there are criteria; fewer stand before more, so that this is an order too.
abbrev pub keys_before : List Criterion → List KeyValue → List KeyValue → Bool
keys_before (c ∷ cs) (v ∷ vs) (w ∷ ws) = before_by c v w || (not (before_by c w v) && keys_before cs vs ws)
keys_before (c ∷ cs) [] (w ∷ ws) = true
keys_before _ _ _ = false

-- ---- Nodes with their keys, in order

pub record Row (N : Type 0) : Type 0 where
  pub node : N
  pub keys : List KeyValue

abbrev pub row : {N : Type 0} → N → List KeyValue → Row N
row n vs = record { node = n; keys = vs }

-- a row among those behind it, which are in order: in front of all that do not come before it
abbrev pub put_in : {N : Type 0} → List Criterion → Row N → List (Row N) → List (Row N)
put_in cs r [] = r ∷ []
put_in cs r (s ∷ more) = if keys_before cs s.keys r.keys then s ∷ put_in cs r more else r ∷ s ∷ more

abbrev pub in_order : {N : Type 0} → List Criterion → List (Row N) → List (Row N)
in_order cs [] = []
in_order cs (r ∷ rs) = put_in cs r (in_order cs rs)

abbrev pub nodes_in_order : {N : Type 0} → List Criterion → List (Row N) → List N
nodes_in_order cs rows = map (λ r. r.node) (in_order cs rows)

-- ---- That this is their order, and the only one

abbrev pub row_before : {N : Type 0} → List Criterion → Row N → Row N → Bool
row_before cs r s = keys_before cs r.keys s.keys

-- all the old rows, none of which comes before its neighbour in front, and those that no key tells apart as they stood
pub record IsSorted {N : Type 0} (cs : List Criterion) (old new : List (Row N)) : Type 0 where
  pub permutation : IsPermutation old new
  pub sorted : IsSortedBy (row_before cs) new
  pub stable : IsStableBy (row_before cs) old new
