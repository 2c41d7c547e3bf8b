use Rattle.std.proofs.Common.{◌+◌, ◌≤◌, ◌∙◌, sym, subst, map, take, length}
use Rattle.vl_bits.specs.vl_design.specs.Trees.{proc_of}
use Rattle.vl_bits.specs.Seen.{names_seen}
use Rattle.vl_bits.proofs.Sounds.{process-there}
use Rattle.cell_level.specs.Netting.{AreNetsOf}
use Rattle.cell_level.proofs.Netted.{nets-none, nets-next, nets-all}
use Rattle.cell_level.proofs.level.nets_of.Goals as goal

pub loop-a-init : goal.loop-a-init
loop-a-init c = record {
  long = c.requires.long;
  clear = c.requires.clear;
  nets = nets-none (names_seen c.args.m.now) _ c.new-nets.ensures.items;
}

pub net_of-requires-clause-sound : goal.net_of-requires-clause-sound
net_of-requires-clause-sound c =
    (process-there c.args.design.now (names_seen c.args.m.now) c.as_slice-processes.result.now c.loop-a.a-index c.a-item.result c.requires.names c.as_slice-processes.ensures c.loop-a-test.true c.a-item.is c.requires.sound).body

pub loop-a-preserved : goal.loop-a-preserved
loop-a-preserved c = record {
  long = c.in_ok-net.ensures.long ∙ c.loop-a.invariant.long;
  clear = c.in_ok-net.ensures.clear;
  nets =
      let names = names_seen c.args.m.now in
      let all = nets-next names c.as_slice-processes.result.now c.loop-a.nets.items c.loop-a.a-index c.a-item.result c.in_ok-net.net c.loop-a-test.true c.a-item.is
      (subst (λ ps. AreNetsOf names (map proc_of (take c.loop-a.a-index ps)) c.loop-a.nets.items) (sym c.as_slice-processes.ensures) c.loop-a.invariant.nets) c.in_ok-net.ensures.net in
      subst (λ ps. AreNetsOf names (map proc_of (take (c.loop-a.a-index + 1) ps)) c.push.new.self.items) c.as_slice-processes.ensures
      (subst (AreNetsOf names (map proc_of (take (c.loop-a.a-index + 1) c.as_slice-processes.result.now))) (sym c.in_ok-push.ensures.items) all);
}

pub returns : goal.returns
returns c =
    let names = names_seen c.args.m.now in
    nets-all names c.args.design.now.processes c.loop-a.nets.items c.loop-a.a-index (subst (λ ps. length ps ≤ c.loop-a.a-index) c.as_slice-processes.ensures c.loop-a-test.false) c.loop-a.invariant.nets
