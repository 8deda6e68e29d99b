-- The values of all nodes at once are those of each by itself.
use Rattle.std.proofs.Common.{◌≡◌, ℕ, List, [], ◌∷◌, ◌++◌, map, refl, sym, ap, ◌∙◌}
use Rattle.spec_meaning.specs.Naming.{AllDiffer}
use Rattle.spec_meaning.specs.Program.{Program, Give, Said, Gives, Refuses, Lacks, outcome_of, then}
use Rattle.spec_meaning.specs.Question.{Question, Answer}
use Rattle.spec_transform.specs.Key.{KeyAt, Entry, entry, indexed, indexed_by, no_globals, values_at}
use Rattle.spec_node.specs.Naming.{same_ref}
use Rattle.spec_node.specs.declared.node_ref.NodeRef.{NodeRef}
use Rattle.xt_questions.specs.Runs.{itself}
use Rattle.xt_match.proofs.Together.{then_then}
use Rattle.xt_keys.specs.View.{AreNodesApart, texts_at, all_texts}
use Rattle.xt_keys.proofs.Entries.{another, its_own}
use Rattle.xt_keys.proofs.Programs.{given_on}
use Rattle.xt_own.proofs.Outcomes.{gives_first, gives_then}

-- the values of a node in some keys, after these entries
abbrev pub texts_from : List KeyAt → NodeRef → List (Entry NodeRef) → Program NodeRef (List (List ℕ))
texts_from ks node before = then (indexed same_ref ks (node ∷ []) before) (λ entries. Give (texts_at entries node))

pub record GivesAt (ask : Question NodeRef → Answer NodeRef) (ks : List KeyAt) (done : List (Entry NodeRef)) (node : NodeRef) (texts : List (List ℕ)) : Type 0 where
  pub before : List (Entry NodeRef)
  pub same : texts_at before node ≡ texts_at done node
  pub gives : outcome_of ask no_globals (texts_from ks node before) ≡ Gives texts

abbrev pub AllGive : (Question NodeRef → Answer NodeRef) → List KeyAt → List (Entry NodeRef) → List NodeRef → List (List (List ℕ)) → Type 0
AllGive ask ks done [] [] = Unit {0}
AllGive ask ks done [] (texts ∷ lists) = ⊥
AllGive ask ks done (n ∷ ns) [] = ⊥
AllGive ask ks done (n ∷ ns) (texts ∷ lists) = GivesAt ask ks done n texts × AllGive ask ks done ns lists

pub record AllTold (ask : Question NodeRef → Answer NodeRef) (ks : List KeyAt) (done : List (Entry NodeRef)) (nodes : List NodeRef) (lists : List (List (List ℕ))) : Type 0 where
  pub entries : List (Entry NodeRef)
  pub gives : outcome_of ask no_globals (indexed same_ref ks nodes done) ≡ Gives entries
  pub texts : all_texts nodes entries ≡ lists

-- the first key, and then the others
first_key : (k : KeyAt) (ks : List KeyAt) (n : NodeRef) (before : List (Entry NodeRef))
    → texts_from (k ∷ ks) n before ≡ then (values_at same_ref k n) (λ ts. texts_from ks n (before ++ map (entry n) ts))
first_key k ks n before =
    then_then (indexed_by same_ref k (n ∷ []) before) (λ more. indexed same_ref ks (n ∷ []) more) (λ es. Give (texts_at es n))
    ∙ then_then (values_at same_ref k n) (λ ts. Give (before ++ map (entry n) ts)) (λ more. texts_from ks n more)
    ∙ (λ i. then (values_at same_ref k n) (λ ts. given_on (before ++ map (entry n) ts) (λ more. texts_from ks n more) i))

-- the values of another node are as before
moved : (ask : Question NodeRef → Answer NodeRef) (ks : List KeyAt) (n : NodeRef) (ns : List NodeRef) (lists : List (List (List ℕ))) (done : List (Entry NodeRef))
    (ts : List (List ℕ)) → AllDiffer itself same_ref n ns → AllGive ask ks done ns lists → AllGive ask ks (done ++ map (entry n) ts) ns lists
moved ask ks n [] [] done ts others all = tt
moved ask ks n [] (l ∷ lists) done ts others all = absurd all
moved ask ks n (m ∷ ns) [] done ts others all = absurd all
moved ask ks n (m ∷ ns) (l ∷ lists) done ts others all =
    (record { before = all.0.before; same = all.0.same ∙ sym (another m n done ts others.1); gives = all.0.gives }, moved ask ks n ns lists done ts others.2 all.1)

-- one key for all nodes
record Added (ask : Question NodeRef → Answer NodeRef) (k : KeyAt) (ks : List KeyAt) (done : List (Entry NodeRef)) (ns : List NodeRef) (lists : List (List (List ℕ))) : Type 0 where
  entries : List (Entry NodeRef)
  gives : outcome_of ask no_globals (indexed_by same_ref k ns done) ≡ Gives entries
  all : AllGive ask ks entries ns lists
  others : (m : NodeRef) → AllDiffer itself same_ref m ns → texts_at entries m ≡ texts_at done m

by_key : (ask : Question NodeRef → Answer NodeRef) (k : KeyAt) (ks : List KeyAt) (ns : List NodeRef) (lists : List (List (List ℕ))) (done : List (Entry NodeRef))
    → AreNodesApart ns → AllGive ask (k ∷ ks) done ns lists → Added ask k ks done ns lists
by_key ask k ks [] [] done apart all = record { entries = done; gives = refl; all = tt; others = λ m d. refl }
by_key ask k ks [] (l ∷ lists) done apart all = absurd all
by_key ask k ks (n ∷ ns) [] done apart all = absurd all
by_key ask k ks (n ∷ ns) (l ∷ lists) done apart all =
    let before = all.0.before in
    let on = gives_first ask no_globals (values_at same_ref k n) (λ ts. texts_from ks n (before ++ map (entry n) ts)) l
    (sym (ap (λ (p : Program NodeRef (List (List ℕ))). outcome_of ask no_globals p) (first_key k ks n before)) ∙ all.0.gives) in
    let ts = on.value in
    let rest = by_key ask k ks ns lists (done ++ map (entry n) ts) apart.2 (moved ask (k ∷ ks) n ns lists done ts apart.1 all.1) in
    record {
      entries = rest.entries;
      gives = gives_then ask no_globals (values_at same_ref k n) (λ more. indexed_by same_ref k ns (done ++ map (entry n) more)) ts rest.entries on.first rest.gives;
      all = (
        record {
          before = before ++ map (entry n) ts;
          same = its_own n before ts apart.0 ∙ ap (λ x. x ++ ts) all.0.same ∙ sym (its_own n done ts apart.0) ∙ sym (rest.others n apart.1);
          gives = on.later;
        },
        rest.all,
      );
      others = λ m d. rest.others m d.2 ∙ another m n done ts d.0;
    }

abbrev value_of : {A : Type 0} → A → Said A → A
value_of other (Gives v) = v
value_of other (Refuses w) = other
value_of other (Lacks w) = other

-- after the last key
none_left : (ask : Question NodeRef → Answer NodeRef) (ns : List NodeRef) (lists : List (List (List ℕ))) (done : List (Entry NodeRef))
    → AllGive ask [] done ns lists → all_texts ns done ≡ lists
none_left ask [] [] done all = refl
none_left ask [] (l ∷ lists) done all = absurd all
none_left ask (n ∷ ns) [] done all = absurd all
none_left ask (n ∷ ns) (l ∷ lists) done all =
    let before = all.0.before in
    let same = sym (ap (λ (p : Program NodeRef (List (List ℕ))). outcome_of ask no_globals p) (given_on before (λ es. Give (texts_at es n)))) ∙ all.0.gives in
    let here : texts_at done n ≡ l = sym all.0.same ∙ ap (value_of l) same in
    λ i. here i ∷ none_left ask ns lists done all.1 i

pub all_at_once : (ask : Question NodeRef → Answer NodeRef) (ks : List KeyAt) (ns : List NodeRef) (lists : List (List (List ℕ))) (done : List (Entry NodeRef))
    → AreNodesApart ns → AllGive ask ks done ns lists → AllTold ask ks done ns lists
all_at_once ask [] ns lists done apart all = record { entries = done; gives = refl; texts = none_left ask ns lists done all }
all_at_once ask (k ∷ ks) ns lists done apart all =
    let first = by_key ask k ks ns lists done apart all in
    let rest = all_at_once ask ks ns lists first.entries apart first.all in
    record {
      entries = rest.entries;
      gives = gives_then ask no_globals (indexed_by same_ref k ns done) (λ more. indexed same_ref ks ns more) first.entries rest.entries first.gives rest.gives;
      texts = rest.texts;
    }
