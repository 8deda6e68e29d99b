-- The values of one node by itself.
use Rattle.std.proofs.Common.{◌≡◌, ℕ, List, [], ◌∷◌, ◌++◌, map, Option, Some, refl, sym, ap, ◌∙◌}
use Rattle.std.specs.Prelude.{Vec, option_to_list}
use Rattle.std.specs.Global.{Global}
use Rattle.spec_meaning.specs.Program.{Program, Give, then}
use Rattle.spec_transform.specs.Key.{Entry}
use Rattle.spec_node.specs.declared.node_ref.NodeRef.{NodeRef}
use Rattle.xt_keys.specs.View.{all_texts, last_list, texts_at}
use Rattle.xt_keys.proofs.Programs.{made_of}

-- the texts of one node are the only ones of a list
pub only_one : (node : NodeRef) (p : Program NodeRef (List (Entry NodeRef)))
    → then (then p (λ entries. Give (all_texts (node ∷ []) entries))) (λ lists. Give (last_list lists)) ≡ then p (λ entries. Give (texts_at entries node))
only_one node p = made_of p (all_texts (node ∷ [])) last_list

-- the last of a vector of lists
last_list_of : (lists : List (Vec (List ℕ) Global)) (l : Vec (List ℕ) Global) → l.items ≡ last_list (map (λ v. v.items) (lists ++ l ∷ []))
last_list_of [] l = refl
last_list_of (m ∷ []) l = refl
last_list_of (m ∷ n ∷ lists) l = last_list_of (n ∷ lists) l

pub last_is : {all : List (Vec (List ℕ) Global)} {o : Option (Vec (List ℕ) Global)} (before : List (Vec (List ℕ) Global)) (l : Vec (List ℕ) Global) → o ≡ Some l → all ≡ before ++ option_to_list o
    → l.items ≡ last_list (map (λ v. v.items) all)
last_is {all = all} {o = o} before l is same =
    last_list_of before l
    ∙ ap (λ (x : Option (Vec (List ℕ) Global)). last_list (map (λ v. v.items) (before ++ option_to_list x))) (sym is)
    ∙ ap (λ (x : List (Vec (List ℕ) Global)). last_list (map (λ v. v.items) x)) (sym same)
