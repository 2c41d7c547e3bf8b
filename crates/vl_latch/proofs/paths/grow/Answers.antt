use Rattle.std.proofs.Common.{length, ap, arith}
use Rattle.std.proofs.lemmas.List.{length_push}
use Rattle.vl_latch.proofs.Designs.{clear-push}
use Rattle.vl_latch.proofs.paths.grow.Goals as goal

pub loop-preserved : goal.loop-preserved
loop-preserved c = record {
  long = let e = ap length c.in_ok-push.ensures.items in let n = length_push c.loop.known.items 0 in let m = c.loop.invariant.long in omega (arith, e, n, m);
  clear = clear-push c.loop.known.items c.push.new.self.items c.in_ok-push.ensures.items c.loop.invariant.clear;
}
