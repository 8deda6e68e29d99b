use Rattle.spec_session.proofs.Steps.{replies_agree, states_agree}
use Rattle.spec_session.proofs.laws.steps_agree.Goals as goal

pub returns-clause-replies : goal.returns-clause-replies
returns-clause-replies c =
    λ old command reply other new another differs s t m n. replies_agree c.one_outcome.ensures old command reply other new another differs s t m n

pub returns-clause-states : goal.returns-clause-states
returns-clause-states c = λ old command reply other new another s t m n. states_agree old command reply other new another s t m n
