use Rattle.std.proofs.Common.{◌≡◌, map, get_or, ◌∙◌, refl, None, arith}
use Rattle.std.proofs.lemmas.List.{length-map, get_or_default}
use Rattle.ten_form.specs.vl_design.specs.Trees.{row_of}
use Rattle.cell_emit.specs.Envs.{env_of}
use Rattle.ten_form.specs.vl_runs.specs.Computed.{is_computed}
use Rattle.cell_waves.proofs.Joining.{joining-none, joining-more, joining-all, computed-kind}
use Rattle.cell_waves.proofs.begin_begin.join.Goals as goal

pub loop-number-init : goal.loop-number-init
loop-number-init c = record {
  joined = joining-none (map row_of c.args.signals.now) c.args.nets.now.slots.items c.args.at.now.slots.items;
  first = refl;
  time = refl;
  answer = refl;
  here = refl;
  away = refl;
}

pub loop-number-preserved : goal.loop-number-preserved
loop-number-preserved c =
    let l = c.loop-number.invariant in
    let n = c.loop-number.number in
    let signals = c.args.signals.now in
    let nets = c.args.nets.now.slots.items in
    let others = c.args.at.now.slots.items in
    let slots = c.loop-number.at.slots.items in
    let x = c.index-signals-number.result in
    let below = c.loop-number-test.true in
    let size = c.requires.others in
    let size' = c.requires.nets in
    let many = l.joined.many in
    let kind = computed-kind signals n x below c.index-signals-number.is in
    let net : c.index.result.now ≡ get_or nets n None = c.index.ensures ∙ get_or_default nets n _ None (omega (arith, below, size')) in
    let other : c.index-in-loop-number.result.now ≡ get_or slots n None = c.index-in-loop-number.ensures ∙ get_or_default slots n _ None (omega (arith, below, size, many)) in
    let is = rw (net, other, ← c.index-signals-number.is) at c.entry_of-entry.ensures in
    record {
      joined = joining-more (map row_of signals) nets others slots n (is_computed x.kind) c.entry_of-entry.result (omega (arith, below, size)) kind is l.joined;
      first = l.first;
      time = l.time;
      answer = l.answer;
      here = l.here;
      away = l.away;
    }

pub returns : goal.returns
returns c =
    let l = c.loop-number.invariant in
    let n = c.loop-number.number in
    let signals = c.args.signals.now in
    let over = c.loop-number-test.false in
    let long = length-map signals row_of in
    joining-all (map row_of signals) (env_of c.args.nets.now) (env_of c.args.at.now) (env_of c.loop-number.at) n (omega (arith, over, long)) c.requires.nets_first c.requires.first l.first l.time l.answer l.here l.away l.joined
