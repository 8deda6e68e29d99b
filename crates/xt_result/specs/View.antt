-- What the start of an element, and attributes by their names, stand for.
use Rattle.std.specs.Prelude.{map}
use Rattle.std.specs.declared.alloc.Global.{Global}
use Rattle.std.specs.declared.string.String.{String}
use Rattle.xt_names.specs.NamesSoFar.{text_in, texts_in, is_written}
use Rattle.xt_tree.specs.View.{written_of}
use Rattle.spec_result.specs.Recovery as spec
use Rattle.spec_result.specs.Shape as shape
use Rattle.xt_result.specs.declared.attributes.Given.{Given}
use Rattle.xt_result.specs.declared.opening.Opening.{Opening}

-- an attribute: the key has its URI and its local part
abbrev pub given_of : (String Global × String Global) × Given → spec.Given
given_of e = record { prefix = e.1.prefix; local = text_in e.0.1; uri = text_in e.0.0; value = e.1.value }

abbrev pub opening_of : Opening → shape.Opening
opening_of o =
    record {
      declarations = map written_of o.declarations.items;
      attributes = map written_of o.attributes.items;
      scope = o.scope;
      settled = λ prefix. is_written (texts_in o.settled.keys) prefix;
    }
