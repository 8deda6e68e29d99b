use Rattle.spec_document.specs.Order.{entries_of, is_same_place}
use Rattle.spec_meaning.specs.Naming.{unlabelled}
use Rattle.spec_meaning.proofs.Matching.{matching, meaning_match}
use Rattle.spec_meaning.proofs.Named.{worlds, documents_alike, places_apart}
use Rattle.spec_node.specs.Naming.{ref_of, same_ref}
use Rattle.xp_axes.proofs.Told.{all_told}
use Rattle.xp_axes.proofs.laws.same_meaning.Goals as goal

pub returns : goal.returns
returns c = λ document expr context named supply others depth numbered at supplied.
    matching _ _ _ _ supply others depth
    (worlds (λ e. e.place) is_same_place ref_of same_ref (entries_of (unlabelled document)) (entries_of document) (documents_alike document)
    (places_apart (unlabelled document)) (all_told document numbered))
    supplied _ _ (meaning_match expr at)
