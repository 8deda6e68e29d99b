use Rattle.xt_own.proofs.moved.add_choices.Goals as goal

pub returns : goal.returns
returns c = λ parameters are.
    c.add_from-added.ensures parameters c.args.document.now c.new-choosing.ensures are
