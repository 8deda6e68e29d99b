-- Answers of other kinds than were asked for, and kinds of nodes.
use Rattle.std.proofs.Common.{◌≡◌, ℕ, List, [], Option, refl}
use Rattle.spec_document.specs.declared.kind.Kind.{Kind}
use Rattle.spec_document.specs.declared.kind.Kind.TheVariants as kind
use Rattle.spec_document.specs.Name.{Expanded}
use Rattle.spec_stylesheet.specs.Place.{Place}
use Rattle.spec_meaning.specs.Stream.{Ended}
use Rattle.spec_meaning.specs.Question as question
use Rattle.spec_meaning.specs.Value as value
use Rattle.spec_expression.specs.Number.{Number, text_of}
use Rattle.spec_meaning.specs.Convert.{text_of_boolean}
use Rattle.spec_run.specs.Plan.{Plan, Put, Inquire, lift}
use Rattle.spec_run.specs.Copy.{stream_in}
use Rattle.spec_run.specs.Content.{Here, kind_in, copied_as, value_copied, text_item}
use Rattle.xt_questions.specs.declared.answer.Answer.{Answer}
use Rattle.xt_questions.specs.declared.answer.Answer.TheVariants as answers
use Rattle.xt_questions.specs.View.{answer_of}
use Rattle.spec_node.specs.declared.node_ref.NodeRef.{NodeRef}
use Rattle.xt_instructions.specs.Copied.{element_copied}

pub copied_number : (n : Number) (after : Plan NodeRef) → value_copied (value.Number n) after ≡ Put (text_item (text_of n)) after
unfolding lift
copied_number n after = refl

pub copied_boolean : (b : _) (after : Plan NodeRef) → value_copied (value.Boolean b) after ≡ Put (text_item (text_of_boolean b)) after
unfolding lift
copied_boolean b after = refl

pub no_copy : (a : Answer) → ((f : _) → a ≡ answers.Copied f → ⊥) → stream_in (answer_of a) ≡ Ended
no_copy answers.Gone n = refl
no_copy (answers.Refused why) n = refl
no_copy (answers.Nodes nodes) n = refl
no_copy (answers.Text text) n = refl
no_copy (answers.Named k name written) n = refl
no_copy (answers.Chosen rule) n = refl
no_copy (answers.Copied f) n = absurd (n f refl)
no_copy (answers.Resolved unit) n = refl
no_copy (answers.Passed v) n = refl

-- an answer that tells no kind and no names
pub record Nameless (a : question.Answer NodeRef) : Type 0 where
  pub kind : kind_in a ≡ kind.Comment
  pub written : question.written_in a ≡ []
  pub uri : question.uri_in a ≡ []
  pub local : question.local_in a ≡ []

pub no_name : (a : Answer) → ((k : Kind) (name : Option Expanded) (written : List ℕ) → a ≡ answers.Named k name written → ⊥) → Nameless (answer_of a)
no_name answers.Gone n = record { kind = refl; written = refl; uri = refl; local = refl }
no_name (answers.Refused why) n = record { kind = refl; written = refl; uri = refl; local = refl }
no_name (answers.Nodes nodes) n = record { kind = refl; written = refl; uri = refl; local = refl }
no_name (answers.Text text) n = record { kind = refl; written = refl; uri = refl; local = refl }
no_name (answers.Named k name written) n = absurd (n k name written refl)
no_name (answers.Chosen rule) n = record { kind = refl; written = refl; uri = refl; local = refl }
no_name (answers.Copied f) n = record { kind = refl; written = refl; uri = refl; local = refl }
no_name (answers.Resolved unit) n = record { kind = refl; written = refl; uri = refl; local = refl }
no_name (answers.Passed v) n = record { kind = refl; written = refl; uri = refl; local = refl }

-- an xsl:copy of a node of this kind
abbrev pub copied_of : Kind → Place → Here NodeRef → List Expanded → question.Answer NodeRef → (Plan NodeRef → Plan NodeRef) → Plan NodeRef → Plan NodeRef
copied_of kind.Root by h sets a inside after = inside after
copied_of kind.Element by h sets a inside after = element_copied by h sets a inside after
copied_of kind.Attribute by h sets a inside after = Inquire (question.Copy h.node) (λ c. Put (stream_in c) after)
copied_of kind.Namespace by h sets a inside after = Inquire (question.Copy h.node) (λ c. Put (stream_in c) after)
copied_of kind.Text by h sets a inside after = Inquire (question.Copy h.node) (λ c. Put (stream_in c) after)
copied_of kind.Comment by h sets a inside after = Inquire (question.Copy h.node) (λ c. Put (stream_in c) after)
copied_of kind.Instruction by h sets a inside after = Inquire (question.Copy h.node) (λ c. Put (stream_in c) after)

pub copied_is : (k : Kind) (by : Place) (h : Here NodeRef) (sets : List Expanded) (a : question.Answer NodeRef) (inside : Plan NodeRef → Plan NodeRef) (after : Plan NodeRef) → k ≡ kind_in a → copied_of k by h sets a inside after ≡ copied_as by h sets a inside after
copied_is kind.Root by h sets a inside after e = rw (← e, copied_as) refl
copied_is kind.Element by h sets a inside after e = rw (← e, copied_as) refl
copied_is kind.Attribute by h sets a inside after e = rw (← e, copied_as) refl
copied_is kind.Namespace by h sets a inside after e = rw (← e, copied_as) refl
copied_is kind.Text by h sets a inside after e = rw (← e, copied_as) refl
copied_is kind.Comment by h sets a inside after e = rw (← e, copied_as) refl
copied_is kind.Instruction by h sets a inside after e = rw (← e, copied_as) refl
