use Rattle.spec_result.proofs.Texts.{shaped_texts}
use Rattle.spec_result.proofs.laws.texts_are_those_of_the_stream.Goals as goal

pub returns : goal.returns
returns c = shaped_texts
