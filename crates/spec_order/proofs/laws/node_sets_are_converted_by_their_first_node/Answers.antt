use Rattle.std.proofs.Common.{◌≡◌, refl}
use Rattle.spec_meaning.specs.Value as value
use Rattle.spec_meaning.specs.Convert.{text_at, to_text, to_number}
use Rattle.spec_order.specs.First.{number_at}
use Rattle.spec_order.proofs.Firsts.{begins}
use Rattle.spec_order.proofs.laws.node_sets_are_converted_by_their_first_node.Goals as goal

pub returns-clause-texts : goal.returns-clause-texts
returns-clause-texts c = λ first nodes order is. begins (λ n ns. to_text (value.Nodes ns) ≡ text_at n) (λ n ns. refl) first nodes order is

pub returns-clause-numbers : goal.returns-clause-numbers
returns-clause-numbers c = λ first nodes order is. begins (λ n ns. to_number (value.Nodes ns) ≡ number_at n) (λ n ns. refl) first nodes order is
