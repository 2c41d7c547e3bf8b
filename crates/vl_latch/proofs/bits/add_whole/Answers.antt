use Rattle.std.proofs.Common.{◌<◌, ℕ, length, arith, subst}
use Rattle.std.specs.Prelude.{⊤}
use Rattle.vl_design.specs.Sound.{IsNamed}
use Rattle.vl_bits.specs.Seen.{names_seen}
use Rattle.vl_bits.proofs.Lists.{pushed_within}
use Rattle.vl_latch.proofs.Naming.{named_there}
use Rattle.vl_latch.proofs.Testing.{part_signal, whole_added}
use Rattle.vl_latch.proofs.bits.add_whole.Goals as goal

pub returns-in_ok-push-clause-bits : goal.returns-in_ok-push-clause-bits
returns-in_ok-push-clause-bits c =
    let w = c.has_bit.ensures.0 c.if-has_bit.true in
    λ b. rw (c.in_ok-push.ensures.items) (whole_added (names_seen c.args.m.now) c.args.part c.whole.result c.args.all.now.items c.whole.ensures.bits w.0 w.1 b)

pub returns-in_ok-push-clause-within : goal.returns-in_ok-push-clause-within
returns-in_ok-push-clause-within c =
    let names = names_seen c.args.m.now in
    let w = c.has_bit.ensures.0 c.if-has_bit.true in
    let n : IsNamed names c.args.part.signal = subst (λ (k : ℕ). IsNamed names k) (part_signal c.args.part w.0 w.1) (c.requires w.0 w.1) in
    let there = named_there (λ kind. ⊤) names.rows c.args.part.signal n in
    let l : c.whole.result.signal < length names.rows = omega (arith, there, c.whole.ensures.signal) in
    λ h. rw (c.in_ok-push.ensures.items) (pushed_within (length names.rows) c.args.all.now.items c.whole.result h l)
