use Rattle.std.proofs.Common.{◌<◌, ◌++◌, length, map, get_or, refl, ◌∙◌, arith}
use Rattle.std.proofs.lemmas.List.{length-set}
use Rattle.spec_meaning.specs.Program.{Give}
use Rattle.spec_transform.specs.Key.{entry}
use Rattle.spec_node.specs.declared.node_ref.NodeRef.{NodeRef}
use Rattle.spec_node.specs.declared.node_ref.Part.TheVariants as part
use Rattle.xt_questions.proofs.Steps.{runs_stop, runs_gives, runs_memory, runs_from, goes_on, last_turn, exits}
use Rattle.xt_match.proofs.Together.{continues_as}
use Rattle.xt_keys.specs.View.{all_texts, key_at, texts_in}
use Rattle.xt_keys.proofs.Entries.{filled_at, list_filled}
use Rattle.xt_keys.proofs.Programs.{given_on, left_of_key, node_turn}
use Rattle.xt_keys.proofs.filling.fill.Goals as goal

abbrev none : NodeRef
none = record { node = record { number = 0 }; part = part.Itself }

pub returns-in_err-texts-clause-runs : goal.returns-in_err-texts-clause-runs
returns-in_err-texts-clause-runs g c = record {
  runs = λ first is.
      let before = c.loop-i.invariant.filled first is in
      let turn = node_turn c.args.nodes.now (key_at c.args.site.now c.args.key.now) c.loop-i.i _ before.done (omega arith) before.same in
      exits _ c.from_residual.ensures.1 (runs_from turn (runs_stop _ c.in_err-texts.ensures.runs));
}

pub returns-in_err-add_all-clause-runs : goal.returns-in_err-add_all-clause-runs
returns-in_err-add_all-clause-runs g c = record {
  runs = λ first is.
      let before = c.loop-i.invariant.filled first is in
      let turn = node_turn c.args.nodes.now (key_at c.args.site.now c.args.key.now) c.loop-i.i _ before.done (omega arith) before.same in
      exits _ c.from_residual-in_err-add_all.ensures.1 (runs_from (goes_on _ turn c.in_ok-texts.ensures.runs) (runs_memory refl refl));
}

pub returns-clause-runs : goal.returns-clause-runs
returns-clause-runs g c = record {
  runs = λ first is.
      let nodes = c.args.nodes.now in
      let before = c.loop-i.invariant.filled first is in
      let last = last_turn (λ rest. left_of_key nodes (key_at c.args.site.now c.args.key.now) rest before.done) nodes c.loop-i.i (omega arith) before.same in
      runs_from (continues_as (given_on before.done (λ entries. Give (all_texts nodes entries))) last) (runs_gives before.texts);
}

pub loop-i-preserved : goal.loop-i-preserved
loop-i-preserved g c =
    let nodes = c.args.nodes.now in
    let i = c.loop-i.i in
    let key = key_at c.args.site.now c.args.key.now in
    let lists = c.loop-i.found.items in
    let within : i < length nodes = omega arith in
    let among : i < length lists = omega (arith, within, c.loop-i.invariant.each) in
    let texts = c.in_ok-texts.texts.items in
    record {
      each = length-set lists i c.add_all.new.list ∙ c.loop-i.invariant.each;
      filled = λ first is.
          let before = c.loop-i.invariant.filled first is in
          record {
            done = before.done ++ map (entry (get_or nodes i none)) texts;
            texts = filled_at nodes i none before.done texts (texts_in c.loop-i.found) _ c.requires.apart within before.texts
                (list_filled lists i c.index_mut.result.now c.add_all.new.list texts among c.index_mut.ensures.value c.in_ok-add_all.ensures);
            same = goes_on _ (node_turn nodes key i none before.done within before.same) c.in_ok-texts.ensures.runs;
          };
      name = c.values_at.ensures.name ∙ c.loop-i.invariant.name;
    }
