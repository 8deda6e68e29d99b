use Rattle.std.proofs.Common.{ℕ, List, codes, ap, ◌∙◌}
use Rattle.std.specs.FinMap.{empty}
use Rattle.std.specs.Str.{chars}
use Rattle.spec_document.specs.Scope.{Scope, bound, xml_uri}
use Rattle.xt_names.proofs.Maps.{no_entry}
use Rattle.xt_names.proofs.Words.{xml_chars, xml_uri_chars}
use Rattle.xt_names.proofs.scope.Scope.root.Goals as goal

pub returns : goal.returns
returns c =
    c.in_ok-bind.ensures.ok ∙ ap (λ (s : Scope). bound s (chars (codes "xml")) (chars xml_uri)) no_entry
    ∙ ap (λ (k : List ℕ). bound empty k (chars xml_uri)) xml_chars ∙ ap (λ (v : List ℕ). bound empty (codes "xml") v) xml_uri_chars
