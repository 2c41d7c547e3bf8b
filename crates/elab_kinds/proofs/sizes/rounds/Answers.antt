use Rattle.std.proofs.Common.{ap, ◌∙◌, subst, ◌+◌, Bool, map, length, arith}
use Rattle.elab_plain.specs.SeenItems.{seen_module}
use Rattle.elab_kinds.specs.Sized.{Grows}
use Rattle.elab_kinds.proofs.Sizing.{upto-none, upto-more, settled}
use Rattle.elab_kinds.proofs.sizes.rounds.Goals as goal

pub loop-depth-init : goal.loop-depth-init
loop-depth-init c = record {
  upto = upto-none c.args.index.now (map seen_module c.args.modules.now) c.new-rounds.result.items c.new-rounds.ensures.items;
  many = ap length c.new-rounds.ensures.items;
}

pub loop-depth-preserved : goal.loop-depth-preserved
loop-depth-preserved c =
    let ms = map seen_module c.args.modules.now in
    let old = c.loop-depth.rounds.items in
    let new = c.add_round.new.rounds.items in
    let grown = subst (λ (b : Bool). Grows c.args.index.now ms old new b) c.if-not-branch.false c.in_ok-add_round.ensures in
    let more = upto-more c.args.index.now ms old new c.requires.places c.loop-depth.invariant.upto grown in
    record { upto = more.0; many = more.1 ∙ ap (λ n. n + 1) c.loop-depth.invariant.many }

pub returns-then-not-branch : goal.returns-then-not-branch
returns-then-not-branch c = λ n l.
    let ms = map seen_module c.args.modules.now in
    let old = c.loop-depth.rounds.items in
    let new = c.add_round.new.rounds.items in
    let same = subst (λ (b : Bool). Grows c.args.index.now ms old new b) c.if-not-branch.true c.in_ok-add_round.ensures in
    settled c.args.index.now ms old new c.requires.places c.loop-depth.invariant.upto same n

pub returns : goal.returns
returns c = λ n l. c.loop-depth.invariant.upto n (omega (arith, l, c.loop-depth.invariant.many, c.loop-depth-test.false))
