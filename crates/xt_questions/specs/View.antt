-- What questions, answers and contexts of the program stand for.
use Rattle.std.specs.Prelude.{List, [], ◌∷◌, map}
use Rattle.std.specs.Option.{option_map}
use Rattle.spec_meaning.specs.Question as plain
use Rattle.spec_meaning.specs.Program as program
use Rattle.spec_meaning.specs.Context as context
use Rattle.spec_meaning.specs.Supplies as supplies
use Rattle.xt_syntax.specs.View.{test_of}
use Rattle.xt_syntax.specs.PartView.{place_of}
use Rattle.xt_syntax.specs.SheetView.{alias_of, unit_of}
use Rattle.xt_tree.specs.ValueView.{value_of}
use Rattle.spec_node.specs.declared.node_ref.NodeRef.{NodeRef}
use Rattle.xt_questions.specs.declared.question.Candidates.{Candidates}
use Rattle.xt_questions.specs.declared.question.Candidates.TheVariants as candidates
use Rattle.xt_questions.specs.declared.question.Question.{Question}
use Rattle.xt_questions.specs.declared.question.Question.TheVariants as questions
use Rattle.xt_questions.specs.declared.question.CurrentRule.{CurrentRule}
use Rattle.xt_questions.specs.declared.question.Wanted.{Wanted}
use Rattle.xt_questions.specs.declared.question.Wanted.TheVariants as wanted
use Rattle.xt_questions.specs.declared.question.Given.{Given}
use Rattle.xt_questions.specs.declared.question.Given.TheVariants as given
use Rattle.xt_questions.specs.declared.answer.NamedTemplate.{NamedTemplate}
use Rattle.xt_questions.specs.declared.answer.NamedSets.{NamedSets}
use Rattle.xt_questions.specs.declared.answer.ResolvedUnit.{ResolvedUnit}
use Rattle.xt_questions.specs.declared.answer.ChosenRule.{ChosenRule}
use Rattle.xt_questions.specs.declared.answer.Answer.{Answer}
use Rattle.xt_questions.specs.declared.answer.Answer.TheVariants as answers
use Rattle.xt_names.specs.View.{entry_of}
use Rattle.xt_questions.specs.Piece as flat
use Rattle.xt_questions.specs.declared.pieces.Piece.{Piece}
use Rattle.xt_questions.specs.declared.pieces.Piece.TheVariants as pieces
use Rattle.xt_questions.specs.declared.read.Read.{Read}
use Rattle.xt_questions.specs.declared.read.Read.TheVariants as reads
use Rattle.xt_questions.specs.declared.fault.Refusal.{Refusal}
use Rattle.xt_questions.specs.declared.fault.Refusal.TheVariants as refusals
use Rattle.xt_questions.specs.declared.context.Focus.{Focus}
use Rattle.xt_questions.specs.declared.context.Bindings.{Bindings, Bindings-F, fold-Bindings}
use Rattle.xt_questions.specs.declared.context.Binding.{Binding-F}
use Rattle.xt_questions.specs.declared.context.Context.{Context}
use Rattle.xt_questions.specs.declared.context.Known.{Known}
use Rattle.xt_questions.specs.declared.context.Supplies.{Supplies}

abbrev pub refusal_of : Refusal → plain.Refusal
refusal_of (refusals.Here code) = plain.Here code
refusal_of (refusals.At code place) = plain.At code (place_of place)

abbrev pub candidates_of : Candidates → plain.Candidates
candidates_of candidates.AllRules = plain.AllRules
candidates_of (candidates.Imported first last) = plain.Imported first last

abbrev pub question_of : Question → plain.Question NodeRef
question_of (questions.Step node axis test) = plain.Step node axis (test_of test)
question_of (questions.Text node) = plain.Text node
question_of (questions.Name node) = plain.Name node
question_of (questions.Place node) = plain.Place node
question_of (questions.Order nodes) = plain.Order nodes.items
question_of (questions.Key name value) = plain.Key name value
question_of (questions.Choice node mode rules) = plain.Choice node mode (candidates_of rules)
question_of (questions.Copy node) = plain.Copy node
question_of (questions.Unit element) = plain.Unit element
question_of (questions.External name) = plain.External name

abbrev pub template_of : NamedTemplate → plain.NamedTemplate NodeRef
template_of t = record { name = t.name; element = t.element }

abbrev pub sets_of : NamedSets → plain.NamedSets NodeRef
sets_of s = record { name = s.name; elements = s.elements.items }

abbrev pub resolved_of : ResolvedUnit → plain.ResolvedUnit NodeRef
resolved_of u = record {
  unit = unit_of u.unit.value;
  templates = map template_of u.templates.items;
  sets = map sets_of u.sets.items;
  aliases = map alias_of u.aliases.value.items;
  counts = u.counts;
}

abbrev pub chosen_of : ChosenRule → plain.ChosenRule NodeRef
chosen_of r = record { element = r.element; first = r.first; last = r.last }

abbrev pub answer_of : Answer → plain.Answer NodeRef
answer_of answers.Gone = plain.Gone
answer_of (answers.Refused why) = plain.Refused (refusal_of why)
answer_of (answers.Nodes nodes) = plain.SomeNodes nodes.items
answer_of (answers.Text text) = plain.SomeText text
answer_of (answers.Named kind name written) = plain.Named kind name written
answer_of (answers.Chosen rule) = plain.Chosen (option_map chosen_of rule)
answer_of (answers.Copied copy) = plain.Copied copy
answer_of (answers.Resolved unit) = plain.Resolved (resolved_of unit.value)
answer_of (answers.Passed value) = plain.Passed value

abbrev pub current_of : CurrentRule → program.CurrentRule
current_of r = record { mode = r.mode; first = r.first; last = r.last }

abbrev pub wanted_of : Wanted → program.Wanted
wanted_of wanted.Position = program.Position
wanted_of wanted.Size = program.Size
wanted_of wanted.Rule = program.Rule
wanted_of (wanted.Global name) = program.Global name

abbrev pub given_of : Given → program.Given NodeRef
given_of (given.Counted number) = program.Counted number
given_of (given.Ruled rule) = program.Ruled (option_map current_of rule)
given_of (given.Valued value) = program.Valued (value_of value)

abbrev pub read_of : Read → program.Read NodeRef
read_of (reads.Asked question answer) = program.Asked (question_of question) (answer_of answer)
read_of (reads.Saw wanted depth given) = program.Saw (wanted_of wanted) depth (given_of given)

abbrev pub piece_of : Piece → flat.Piece
piece_of (pieces.Element name uri namespaces) = flat.Element name.now uri.now (map entry_of namespaces.now)
piece_of pieces.Nameless = flat.Nameless
piece_of (pieces.Attribute name uri) = flat.Attribute name.now uri.now
piece_of (pieces.Namespace namespace) = flat.Namespace namespace.now.prefix namespace.now.uri
piece_of (pieces.Text text) = flat.Text text.now
piece_of pieces.Comment = flat.Comment
piece_of (pieces.Instruction target) = flat.Instruction target.now
piece_of pieces.Message = flat.Message
piece_of pieces.Hole = flat.Hole
piece_of pieces.End = flat.End

-- variables, innermost first
abbrev pub bindings_step : Bindings-F (List (context.Bound NodeRef)) (List (context.Bound NodeRef)) → List (context.Bound NodeRef)
bindings_step Bindings-F.Empty = []
bindings_step (Bindings-F.More binding) = binding.value

abbrev pub binding_step : Binding-F (List (context.Bound NodeRef)) (List (context.Bound NodeRef)) → List (context.Bound NodeRef)
binding_step b = (record { name = b.name; value = value_of b.value }) ∷ b.outer

abbrev pub bindings_of : Bindings → List (context.Bound NodeRef)
bindings_of = fold-Bindings (List (context.Bound NodeRef)) (List (context.Bound NodeRef)) bindings_step binding_step

abbrev pub context_of : Focus → Context → context.Context NodeRef
context_of f c = record { node = f.node; current = c.current; position = f.position; size = f.size; bindings = bindings_of c.bindings; scope = c.scope }

abbrev pub known_of : Known → supplies.Known NodeRef
known_of k = record { name = k.name; depth = k.depth; value = value_of k.value }

abbrev pub supplies_of : Supplies → supplies.Supplies NodeRef
supplies_of s = record { position = s.position; size = s.size; rule = option_map current_of s.rule; globals = map known_of s.globals.items }
