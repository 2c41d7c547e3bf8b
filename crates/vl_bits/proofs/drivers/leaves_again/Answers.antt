use Rattle.std.proofs.Common.{◌≡◌, true, map, refl, sym, ap, ◌∙◌, subst, List}
use Rattle.std.specs.Prelude.{◌||◌, ◌↔◌}
use Rattle.std.proofs.lemmas.List.{take_all}
use Rattle.vl_design.specs.Sound.{IsSoundTarget}
use Rattle.vl_paths.specs.Bits.{Bit}
use Rattle.vl_bits.specs.Seen.{names_seen}
use Rattle.vl_bits.specs.Masks.{in_masks}
use Rattle.vl_bits.proofs.Lists.{or_none}
use Rattle.vl_design.specs.Firsts.{Somewhere}
use Rattle.vl_bits.specs.declared.leaves.Leaf.{Leaf}
use Rattle.vl_bits.specs.Drivers.{some_drives}
use Rattle.vl_bits.specs.SeenOfDrivers.{leaf_of, IsAgainIn}
use Rattle.vl_bits.proofs.Sounds.{there-map}
use Rattle.vl_bits.proofs.Following.{again-none, again-more, drives-more}
use Rattle.vl_bits.proofs.drivers.leaves_again.Goals as goal

pub loop-leaf-init : goal.loop-leaf-init
loop-leaf-init c = record {
  long = refl;
  again = again-none c.args.m.now.signals.now (names_seen c.args.m.now) (in_masks c.args.known.now.items);
  known = λ b. sym (or_none (in_masks c.args.known.now.items b));
}

pub leaf_again-requires-clause-sound : goal.leaf_again-requires-clause-sound
leaf_again-requires-clause-sound c = there-map leaf_of (IsSoundTarget (names_seen c.args.m.now)) c.args.ts.now c.loop-leaf.leaf-index c.leaf-item.result c.loop-leaf-test.true c.leaf-item.is c.requires.sound

pub leaf_again-requires-clause-long : goal.leaf_again-requires-clause-long
leaf_again-requires-clause-long c = c.loop-leaf.invariant.long ∙ c.requires.long

pub loop-leaf-preserved : goal.loop-leaf-preserved
loop-leaf-preserved c =
    let names = names_seen c.args.m.now in
    let among : Bit → _ = in_masks c.args.known.now.items in
    let ts = c.args.ts.now in
    let i = c.loop-leaf.leaf-index in
    let y = c.leaf-item.result in
    let v = c.loop-leaf.invariant in
    let e = c.in_ok-here.ensures in
    record {
      long = e.long ∙ v.long;
      again = again-more c.args.m.now.signals.now names among c.loop-leaf.known.items ts i y c.loop-leaf.again c.in_ok-here.here c.one_of-again.result c.loop-leaf-test.true c.leaf-item.is v.known v.again e.again c.one_of-again.ensures;
      known = λ b. drives-more names b ts i y (in_masks c.loop-leaf.known.items b) (in_masks c.leaf_again.new.known.items b) (among b) c.loop-leaf-test.true c.leaf-item.is (e.known b) (v.known b);
    }

pub returns-clause-again : goal.returns-clause-again
returns-clause-again c =
    let ts = c.args.ts.now in
    let P = IsAgainIn c.args.m.now.signals.now (names_seen c.args.m.now) (in_masks c.args.known.now.items) in
    subst (λ (zs : List Leaf). (c.loop-leaf.again ≡ true) ↔ Somewhere P (map leaf_of zs)) (take_all c.loop-leaf.leaf-index ts c.loop-leaf-test.false) c.loop-leaf.invariant.again

pub returns-clause-known : goal.returns-clause-known
returns-clause-known c b =
    c.loop-leaf.invariant.known b
    ∙ ap (λ (zs : List Leaf). in_masks c.args.known.now.items b || some_drives (names_seen c.args.m.now) (map leaf_of zs) b) (take_all c.loop-leaf.leaf-index c.args.ts.now c.loop-leaf-test.false)
