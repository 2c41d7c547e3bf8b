use Rattle.std.proofs.Common.{refl, ◌∙◌, arith}
use Rattle.snap_form.proofs.Numbers.{put-byte}
use Rattle.snap_form.proofs.writing.put_number.Goals as goal

pub loop-place-preserved : goal.loop-place-preserved
loop-place-preserved c = (
  omega (arith, c.loop-place-test.true),
  c.in_ok-push.ensures.items ∙ put-byte c.args.n c.loop-place.place c.args.number c.args.out.now.items c.loop-place.out.items _ c.loop-place-test.true refl c.loop-place.invariant.1,
)
