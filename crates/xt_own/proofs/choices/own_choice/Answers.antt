use Rattle.std.proofs.Common.{List, map, ap, ◌∙◌, subst}
use Rattle.spec_meaning.specs.Program.{reads_of}
use Rattle.spec_transform.specs.Key.{no_globals}
use Rattle.xt_questions.specs.View.{candidates_of, read_of}
use Rattle.xt_questions.specs.declared.read.Read.{Read as CodeRead}
use Rattle.xt_spared.specs.View.{questions_of}
use Rattle.xt_own.specs.Asking.{Asking, choice_among}
use Rattle.xt_own.specs.View.{AreAsked}
use Rattle.xt_own.proofs.Logging.{own_decided}
use Rattle.xt_own.proofs.choices.own_choice.Goals as goal

pub returns-in-Some-clause-decided : goal.returns-in-Some-clause-decided
returns-in-Some-clause-decided c = λ parameters document is.
    let s = c.args.stylesheet.now in
    let mode = c.args.mode.now in
    let candidates = candidates_of c.args.candidates in
    let asked = rw c.in-Some.is at c.in_ok-asked.ensures in
    own_decided c.of_choice.result s parameters document c.args.node mode candidates (questions_of c.in-Some.reads.items) _ c.of_choice.ensures
    (subst (λ (rs : List CodeRead). AreAsked (questions_of c.in-Some.reads.items) (map read_of rs)) c.as_slice.ensures.value asked)
    (c.in_ok-reads.ensures.reads ∙ ap (λ (asking : Asking). reads_of asking.source no_globals 0 (choice_among asking.rules s c.args.node mode candidates)) is)
