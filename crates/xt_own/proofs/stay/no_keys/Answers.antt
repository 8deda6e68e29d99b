use Rattle.std.proofs.Common.{List, subst, sym}
use Rattle.xt_spared.specs.View.{KeysStay}
use Rattle.xt_spared.specs.declared.spared.KeyThatStays.{KeyThatStays}
use Rattle.xt_world.proofs.Holding.{none_found}
use Rattle.xt_world.specs.View.{truth_in}
use Rattle.xt_own.specs.Keys.{AllKeys}
use Rattle.xt_own.specs.declared.own_key.OwnKey.{OwnKey}
use Rattle.xt_own.proofs.KeysStaying.{no_keys}
use Rattle.xt_own.proofs.stay.no_keys.Goals as goal

pub returns : goal.returns
returns c = λ s was parameters document.
    let ask = truth_in s parameters document in
    record {
      stay = subst (λ (ks : List KeyThatStays). KeysStay was ask ks) (sym c.new.ensures.items) (no_keys was ask);
      keys = subst (λ (ks : List OwnKey). AllKeys s ask ks) (sym c.new-2.ensures.items) tt;
      found = none_found s document _ c.new-3.ensures.items;
    }
