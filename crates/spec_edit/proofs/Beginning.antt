-- Documents as they are read: without faults, normal, shallow, and their numbers distinct.
use Rattle.std.proofs.Common.{◌≡◌, ◌≤◌, arith, ℕ, ◌+◌, ◌-◌, ◌==◌, Bool, true, false, List, [], ◌∷◌, ◌++◌, Option, None, Some, refl, ap, ◌∙◌}
use Rattle.std.proofs.Common.{subst, length, map, drop}
use Rattle.std.specs.Prelude.{Result, Ok, Err, slice_index}
use Rattle.std.proofs.lemmas.Bool.{eqb-true}
use Rattle.std.proofs.lemmas.List.{length-map}
use Rattle.spec_document.specs.Scope.{Scope, root_scope}
use Rattle.spec_document.specs.Forest.{Forest, Document, labels, numbered, size, height, IsNormal}
use Rattle.spec_document.specs.Fault.{Fault}
use Rattle.spec_document.specs.NodeFaults.{greatest_depth, node_faults}
use Rattle.spec_document.specs.Numbering.{number_limit, number_faults}
use Rattle.spec_document.specs.Top.{top_faults, without_texts, element_faults, elements_at_top, text_faults}
use Rattle.spec_document.specs.Body.{events_at, line_faults}
use Rattle.spec_document.specs.Balance.{LineNumbers, forest_of, unbalanced_line}
use Rattle.spec_document.specs.Document.{document_of, document_by}
use Rattle.spec_edit.specs.Edit.{element_count}
use Rattle.spec_edit.specs.Valid.{IsValid}
use Rattle.spec_edit.specs.Depth.{ElementsFit}
use Rattle.spec_edit.proofs.Shapes.{ok_same, answer_ok, append_none}
use Rattle.spec_edit.proofs.Numbers.{AreOnce, AreBelow, one_if, occurs, occurs-labels, unlike, numbered-again, size-numbered, within_limit, length-labels}
use Rattle.spec_edit.proofs.Numbers.{added-once, added-earlier, added-later}
use Rattle.spec_edit.proofs.Depths.{unfaulted-fit, fit-numbered, fit-without, height-fits, height-numbered, height-without}
use Rattle.spec_edit.proofs.Normal.{read-normal, numbered-normal, without-normal}
use Rattle.spec_edit.proofs.Faultless.{fine-lines, fine-numbered, fine-without, fine-to, no-texts-to, no-texts-numbered, no-texts-without}
use Rattle.spec_edit.proofs.Faultless.{elements-numbered, elements-top, one-there}

pub record IsBegun (scope : Scope) (first : ℕ) (body : List (List ℕ)) (document : Document ℕ) : Type 0 where
  pub forest : Forest LineNumbers
  pub balanced : forest_of (events_at body) ≡ Some forest
  pub top : top_faults (Some 0) forest ≡ []
  pub unfaulted : node_faults scope 1 forest ≡ []
  pub limited : number_faults first (0 ∷ map (λ l. l.first) (labels (without_texts forest))) ≡ []
  pub is : record { root = first; nodes = numbered (first + 1) (without_texts forest) } ≡ document

begun-steps : (scope : Scope) (first : ℕ) (body : List (List ℕ)) (document : Document ℕ) (o : Option (Forest LineNumbers)) → forest_of (events_at body) ≡ o
    → elim o as (λ _. Result (Document ℕ) Fault) [
      | None ↦ Err (record { number = 9; line = unbalanced_line None [] (events_at body) })
      | Some forest ↦ document_by scope first forest
    ] ≡ Ok document
    → IsBegun scope first body document
begun-steps scope first body document None e h = absurd (cc)
begun-steps scope first body document (Some forest) e h =
    let top = top_faults (Some 0) forest in
    let names = node_faults scope 1 forest in
    let numbers = number_faults first (0 ∷ map (λ l. l.first) (labels (without_texts forest))) in
    let a = answer_ok (top ++ names ++ numbers) (Ok (record { root = first; nodes = numbered (first + 1) (without_texts forest) })) document h in
    let outer = append_none (top ++ names) numbers a.0 in
    let inner = append_none top names outer.0 in
    record {
      forest = forest;
      balanced = e;
      top = inner.0;
      unfaulted = inner.1;
      limited = outer.1;
      is = ok_same (record { root = first; nodes = numbered (first + 1) (without_texts forest) }) document a.1;
    }

pub begun : (scope : Scope) (first : ℕ) (body : List (List ℕ)) (document : Document ℕ) → document_of scope first body ≡ Ok document
    → IsBegun scope first body document
begun scope first body document e =
    let a = answer_ok (line_faults body) _ document e in begun-steps scope first body document (forest_of (events_at body)) refl a.1

pub record Begins (first : ℕ) (document : Document ℕ) : Type 0 where
  pub root : document.root ≡ first
  pub valid : IsValid document.nodes
  pub normal : IsNormal document.nodes
  pub levels : height document.nodes ≤ greatest_depth + 1
  pub elements : ElementsFit 1 document.nodes
  pub once : AreOnce (document.root ∷ labels document.nodes)
  pub below : AreBelow (first + 1 + size document.nodes) (document.root ∷ labels document.nodes)
  pub limit : first + 1 + size document.nodes ≤ number_limit

-- a root and the nodes below it, numbered in document order
once-begun : (first : ℕ) (f : Forest ℕ) → numbered (first + 1) f ≡ f → AreOnce (first ∷ labels f)
once-begun first f e = record { at = λ n. by n (first == n) refl }
  where
    by : (n : ℕ) (b : Bool) → (first == n) ≡ b → one_if (first == n) + occurs (λ m. m == n) (labels f) ≤ 1
    by n true h =
        let own : one_if (first == n) ≡ 1 = ap one_if h in
        let same = eqb-true first n h in
        let is = occurs-labels (λ m. m == n) f in
        let none = added-earlier n (first + 1) f e (omega arith) in
        omega arith
    by n false h =
        let own : one_if (first == n) ≡ 0 = ap one_if h in
        let is = occurs-labels (λ m. m == n) f in
        let one = added-once n (first + 1) f e in
        omega arith

below-begun : (first : ℕ) (f : Forest ℕ) → numbered (first + 1) f ≡ f → AreBelow (first + 1 + size f) (first ∷ labels f)
below-begun first f e =
    record {
      at = λ n h. (
          let own : one_if (first == n) ≡ 0 = ap one_if (unlike first n (λ same. omega arith)) in
          let is = occurs-labels (λ m. m == n) f in
          let none = added-later n (first + 1) f e h in
          omega arith
          );
    }

begins-so : (first : ℕ) (body : List (List ℕ)) (forest : Forest LineNumbers) → forest_of (events_at body) ≡ Some forest → top_faults (Some 0) forest ≡ []
    → node_faults root_scope 1 forest ≡ []
    → number_faults first (0 ∷ map (λ l. l.first) (labels (without_texts forest))) ≡ []
    → Begins first (record { root = first; nodes = numbered (first + 1) (without_texts forest) })
begins-so first body forest balanced top unfaulted limited =
    let f = without_texts forest in
    let nodes = numbered (first + 1) f in
    let lines = elements_at_top forest in
    let normal = read-normal (events_at body) forest balanced in
    let fit = unfaulted-fit root_scope 1 forest unfaulted in
    let faults = append_none (element_faults 0 lines) (text_faults forest) top in
    let one : 0 + length lines ≡ 1 = one-there (0 + length lines) (slice_index (drop (1 - 0) lines) 0) faults.0 in
    let many : element_count nodes ≡ length lines = elements-numbered (first + 1) f ∙ elements-top forest in
    let most : 1 + height forest ≤ greatest_depth + 2 = height-fits 1 forest normal fit (omega arith) in
    let less = height-without forest in
    let levels = height-numbered (first + 1) f in
    let count : length (map (λ (l : LineNumbers). l.first) (labels f)) ≡ size f = length-map (labels f) (λ l. l.first) ∙ length-labels f in
    let limit = within_limit first (0 ∷ map (λ l. l.first) (labels f)) limited (omega arith) in
    let sizes = size-numbered (first + 1) f in
    record {
      root = refl;
      valid = record {
        unfaulted = fine-to root_scope 1 nodes
            (fine-numbered root_scope 1 (first + 1) f (fine-without root_scope 1 forest (fine-lines root_scope 1 forest unfaulted)));
        one_element = omega arith;
        no_text = no-texts-to nodes (no-texts-numbered (first + 1) f (no-texts-without forest));
      };
      normal = numbered-normal (first + 1) f (without-normal forest normal);
      levels = omega arith;
      elements = fit-numbered 1 (first + 1) f (fit-without 1 forest fit);
      once = once-begun first nodes (numbered-again (first + 1) (first + 1) f);
      below = below-begun first nodes (numbered-again (first + 1) (first + 1) f);
      limit = omega arith;
    }

pub begins : (first : ℕ) (body : List (List ℕ)) (document : Document ℕ) → document_of root_scope first body ≡ Ok document → Begins first document
begins first body document e =
    let b = begun root_scope first body document e in subst (Begins first) b.is (begins-so first body b.forest b.balanced b.top b.unfaulted b.limited)
