-- Which names stand in a result: those of elements are QNames, and copied namespace nodes undeclare no prefix (Namespaces in XML 1.0,
-- sections 4 to 6); and of which documents that is said.
use Rattle.std.specs.Prelude.{◌≡◌, ℕ, true, List, Some}
use Rattle.spec_document.specs.Name.{is_ncname}
use Rattle.spec_document.specs.Scope.{Scope, root_scope}
use Rattle.spec_document.specs.Forest.{Plain}
use Rattle.spec_edit.specs.Valid.{IsValid}
use Rattle.spec_stylesheet.specs.Sheet.{Sheet}
use Rattle.spec_seen.specs.Seen.{seen}
use Rattle.spec_meaning.specs.Stream.{Stream}
use Rattle.spec_result.specs.Recovery.{Standing, Nothing, AnElement, AText, AComment, AnInstruction, standing}
use Rattle.spec_result.specs.Shape.{begun, settle, needing, with_nodes, prefix_for, opened, shaped}
use Rattle.spec_result.specs.Named.{IsPrefix, AreNodes, HasRoom, IsNamed}
use Rattle.spec_run.specs.Documents.{Parameters, Documents}
use Rattle.spec_run.specs.Meaning.{run_of}
use Rattle.spec_run.specs.Outcome.{document_of}
use Rattle.spec_run.specs.World.{setting_of}

-- ---- Documents without faults, as all are that are held

pub record AreValid (documents : Documents) : Type 0 where
  pub source : (nodes : Plain) → documents.source ≡ Some nodes → IsValid nodes
  pub modules : (name : List ℕ) (nodes : Plain) → documents.modules name ≡ Some nodes → IsValid nodes

-- ---- What stands of a stream

-- the names of elements are QNames, whose prefix may be none, and a copied namespace node undeclares no prefix
abbrev pub IsNamedWell : Standing → Type 0
IsNamedWell Nothing = Unit {0}
IsNamedWell (AnElement prefix local uri namespaces attributes children siblings) =
    IsPrefix prefix × (is_ncname local ≡ true) × AreNodes namespaces × IsNamedWell children × IsNamedWell siblings
IsNamedWell (AText text siblings) = IsNamedWell siblings
IsNamedWell (AComment text siblings) = IsNamedWell siblings
IsNamedWell (AnInstruction target text siblings) = IsNamedWell siblings

-- wherever a prefix may have to be made for an attribute, fewer than 2^63 namespaces are in scope
abbrev pub HaveRoom : Scope → Standing → Type 0
HaveRoom scope Nothing = Unit {0}
HaveRoom scope (AnElement prefix local uri namespaces attributes children siblings) =
    let own = prefix_for prefix uri in
    HasRoom attributes (with_nodes namespaces (settle own (needing own uri (begun scope))))
    × HaveRoom (opened scope own uri namespaces attributes).scope children × HaveRoom scope siblings
HaveRoom scope (AText text siblings) = HaveRoom scope siblings
HaveRoom scope (AComment text siblings) = HaveRoom scope siblings
HaveRoom scope (AnInstruction target text siblings) = HaveRoom scope siblings

-- ---- Results

-- the stream that the run of a stylesheet writes for a source, up to its end or its refusal
abbrev pub stream_of : Sheet → Parameters → Plain → Stream
stream_of sheet parameters source = (run_of (setting_of sheet parameters (seen sheet.space_rules.rules (document_of source)))).content

-- a result is the tree of what stands of this stream, and its names, read with the declarations in force there, are those that stand
pub record IsNamedResult (stream : Stream) (result : Plain) : Type 0 where
  pub tree : result ≡ shaped stream
  pub well : IsNamedWell (standing stream)
  pub names : HaveRoom root_scope (standing stream) → IsNamed root_scope (standing stream) result
