use Rattle.xt_own.proofs.gathering.gather_choices.Goals as goal

pub returns : goal.returns
returns c = λ parameters carries are.
    c.gather_from-gathered.ensures parameters c.args.document.now c.new-choosing.ensures carries are
