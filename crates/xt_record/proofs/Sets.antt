-- What plans at the nodes of the code are made of has equations of one proof.
use Rattle.std.proofs.Common.{ℕ}
use Rattle.std.specs.Coded.{Coded, Coded-set, codes}
use Rattle.spec_stylesheet.specs.Place.{Place}
use Rattle.spec_meaning.specs.Question.{Question}
use Rattle.spec_meaning.specs.Program.{Wanted}
use Rattle.spec_run.specs.Plan.{Call}
use Rattle.spec_run.specs.Direct.{Ending}
use Rattle.spec_node.specs.declared.node_ref.NodeRef.{NodeRef}
use Rattle.xt_tree.specs.StreamCode.{stream_code}
use Rattle.xt_record.proofs.Lasting.{AreSets}

question_code : Coded (Question NodeRef)
question_code = hlevel codes

call_code : Coded (Call NodeRef)
call_code = hlevel (codes, stream_code)

wanted_code : Coded Wanted
wanted_code = hlevel codes

place_code : Coded Place
place_code = hlevel codes

number_code : Coded ℕ
number_code = hlevel codes

ending_code : Coded (Ending NodeRef)
ending_code = hlevel (codes, stream_code)

pub sets : AreSets NodeRef
sets = record {
  questions = Coded-set question_code;
  calls = Coded-set call_code;
  wanted = Coded-set wanted_code;
  numbers = Coded-set number_code;
  places = Coded-set place_code;
  streams = Coded-set stream_code;
  endings = Coded-set ending_code;
}
