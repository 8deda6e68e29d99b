use Rattle.std.proofs.Common.{ap, ◌∙◌}
use Rattle.xt_held.specs.View.{counts_by, counts_in}
use Rattle.xt_held.proofs.Making.{IsAdopted, IsPut, adopted_current, adopted_pending, adopted_present, adopted_so}
use Rattle.xt_held.proofs.Paying.{adopted_past}
use Rattle.xt_held.proofs.held.Held.adopt.Goals as goal

pub returns-clause-documents : goal.returns-clause-documents
returns-clause-documents c =
    let ready = c.args.ready in
    let held = c.args.self.now in
    let put : IsPut ready.change held c.put.new.self = record {
      documents = c.put.ensures.documents;
      compiled = c.put.ensures.compiled;
      source = c.put.ensures.source;
      modules = c.put.ensures.modules;
      last = c.put.ensures.last;
      batch = c.put.ensures.batch;
      told = c.put.ensures.told;
      below = c.put.ensures.below;
    } in
    let is : IsAdopted ready held c.take_over.new.self = adopted_so ready held c.put.new.self c.take_over.new.self c.take_over.ensures put c.requires.others c.requires.below in
    is.documents

pub returns-clause-present : goal.returns-clause-present
returns-clause-present c =
    let ready = c.args.ready in
    let held = c.args.self.now in
    let put : IsPut ready.change held c.put.new.self = record {
      documents = c.put.ensures.documents;
      compiled = c.put.ensures.compiled;
      source = c.put.ensures.source;
      modules = c.put.ensures.modules;
      last = c.put.ensures.last;
      batch = c.put.ensures.batch;
      told = c.put.ensures.told;
      below = c.put.ensures.below;
    } in
    let is : IsAdopted ready held c.take_over.new.self = adopted_so ready held c.put.new.self c.take_over.new.self c.take_over.ensures put c.requires.others c.requires.below in
    adopted_present ready held c.take_over.new.self is

pub returns-clause-pending : goal.returns-clause-pending
returns-clause-pending c =
    let ready = c.args.ready in
    let held = c.args.self.now in
    let put : IsPut ready.change held c.put.new.self = record {
      documents = c.put.ensures.documents;
      compiled = c.put.ensures.compiled;
      source = c.put.ensures.source;
      modules = c.put.ensures.modules;
      last = c.put.ensures.last;
      batch = c.put.ensures.batch;
      told = c.put.ensures.told;
      below = c.put.ensures.below;
    } in
    let is : IsAdopted ready held c.take_over.new.self = adopted_so ready held c.put.new.self c.take_over.new.self c.take_over.ensures put c.requires.others c.requires.below in
    adopted_pending ready held c.take_over.new.self is

pub returns-clause-made : goal.returns-clause-made
returns-clause-made c =
    let ready = c.args.ready in
    let held = c.args.self.now in
    let put : IsPut ready.change held c.put.new.self = record {
      documents = c.put.ensures.documents;
      compiled = c.put.ensures.compiled;
      source = c.put.ensures.source;
      modules = c.put.ensures.modules;
      last = c.put.ensures.last;
      batch = c.put.ensures.batch;
      told = c.put.ensures.told;
      below = c.put.ensures.below;
    } in
    let is : IsAdopted ready held c.take_over.new.self = adopted_so ready held c.put.new.self c.take_over.new.self c.take_over.ensures put c.requires.others c.requires.below in
    is.made

pub returns-clause-outcome : goal.returns-clause-outcome
returns-clause-outcome c =
    let ready = c.args.ready in
    let held = c.args.self.now in
    let put : IsPut ready.change held c.put.new.self = record {
      documents = c.put.ensures.documents;
      compiled = c.put.ensures.compiled;
      source = c.put.ensures.source;
      modules = c.put.ensures.modules;
      last = c.put.ensures.last;
      batch = c.put.ensures.batch;
      told = c.put.ensures.told;
      below = c.put.ensures.below;
    } in
    let is : IsAdopted ready held c.take_over.new.self = adopted_so ready held c.put.new.self c.take_over.new.self c.take_over.ensures put c.requires.others c.requires.below in
    is.outcome

pub returns-clause-last : goal.returns-clause-last
returns-clause-last c =
    let ready = c.args.ready in
    let held = c.args.self.now in
    let put : IsPut ready.change held c.put.new.self = record {
      documents = c.put.ensures.documents;
      compiled = c.put.ensures.compiled;
      source = c.put.ensures.source;
      modules = c.put.ensures.modules;
      last = c.put.ensures.last;
      batch = c.put.ensures.batch;
      told = c.put.ensures.told;
      below = c.put.ensures.below;
    } in
    let is : IsAdopted ready held c.take_over.new.self = adopted_so ready held c.put.new.self c.take_over.new.self c.take_over.ensures put c.requires.others c.requires.below in
    is.last

pub returns-clause-current : goal.returns-clause-current
returns-clause-current c =
    let ready = c.args.ready in
    let held = c.args.self.now in
    let put : IsPut ready.change held c.put.new.self = record {
      documents = c.put.ensures.documents;
      compiled = c.put.ensures.compiled;
      source = c.put.ensures.source;
      modules = c.put.ensures.modules;
      last = c.put.ensures.last;
      batch = c.put.ensures.batch;
      told = c.put.ensures.told;
      below = c.put.ensures.below;
    } in
    let is : IsAdopted ready held c.take_over.new.self = adopted_so ready held c.put.new.self c.take_over.new.self c.take_over.ensures put c.requires.others c.requires.below in
    adopted_current ready held c.take_over.new.self is c.requires

pub returns-clause-counts : goal.returns-clause-counts
returns-clause-counts c = ap counts_in c.take_over.ensures ∙ ap (counts_by c.args.ready.coming) c.put.ensures.told.counts

pub returns-clause-past : goal.returns-clause-past
returns-clause-past c = λ marks tells before past.
    let ready = c.args.ready in
    let held = c.args.self.now in
    let put : IsPut ready.change held c.put.new.self = record {
      documents = c.put.ensures.documents;
      compiled = c.put.ensures.compiled;
      source = c.put.ensures.source;
      modules = c.put.ensures.modules;
      last = c.put.ensures.last;
      batch = c.put.ensures.batch;
      told = c.put.ensures.told;
      below = c.put.ensures.below;
    } in
    let is : IsAdopted ready held c.take_over.new.self = adopted_so ready held c.put.new.self c.take_over.new.self c.take_over.ensures put c.requires.others c.requires.below in
    adopted_past ready held c.take_over.new.self is c.requires marks tells before past
