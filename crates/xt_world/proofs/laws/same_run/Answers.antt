use Rattle.std.proofs.Common.{refl, sym}
use Rattle.spec_document.specs.Order.{entries_of}
use Rattle.spec_meaning.specs.Naming.{unlabelled, first}
use Rattle.spec_meaning.proofs.Named.{documents_alike, places_apart}
use Rattle.spec_run.specs.World.{InSource, InModule, same_node, setting_of}
use Rattle.spec_run.proofs.Copies.{documents_copied}
use Rattle.spec_run.proofs.Truths.{in_source, settings}
use Rattle.spec_run.proofs.Meanings.{same_run}
use Rattle.spec_node.specs.Naming.{ref_of, same_ref}
use Rattle.xp_axes.proofs.Told.{all_told}
use Rattle.xt_world.specs.Numbered.{element_called, setting_by_numbers}
use Rattle.xt_world.proofs.Elements.{elements_told}
use Rattle.xt_world.proofs.Listed.{strangers_at_places, nodes_apart, strangers_at_numbers}
use Rattle.xt_world.proofs.laws.same_run.Goals as goal

pub returns : goal.returns
returns c = λ numbers sheet parameters document naming numbered.
    sym (same_run (setting_of sheet parameters (unlabelled document)) (setting_by_numbers numbers sheet parameters document)
    (settings (λ e. InSource e.place) same_node InModule ref_of same_ref (element_called numbers) sheet parameters
    (entries_of (unlabelled document)) (entries_of document) (documents_alike document) (documents_copied document)
    (nodes_apart (entries_of (unlabelled document)) (places_apart (unlabelled document))) (all_told document numbered)
    (strangers_at_places sheet.units (entries_of (unlabelled document))) (strangers_at_numbers numbers sheet.units document)
    (elements_told numbers sheet.units naming) (in_source (record { entry = _; other = _; beside = first; named = refl; also_named = refl }))))
