use Rattle.std.proofs.Common.{◌<◌, length, arith}
use Rattle.elab_plain.specs.SeenItems.{seen_declared, seen_type}
use Rattle.elab_kinds.specs.Facts.{facts_of}
use Rattle.elab_instance.specs.Known.{kinds_by, known, with_signal}
use Rattle.elab_instance.proofs.Turns.{fold-turn}
use Rattle.elab_instance.proofs.signals.add_signals.Goals as goal

pub loop-one-preserved : goal.loop-one-preserved
loop-one-preserved c =
    let below : c.loop-one.one-index < length c.args.declared.now = omega arith in
    fold-turn (with_signal (kinds_by (facts_of c.args.roles.now) c.args.above.now)) (seen_declared (seen_type c.args.kind.now)) (known c.args.names.now c.args.next) (known c.loop-one.names c.loop-one.next) (known c.add_signal.new.names c.in_ok-next.next)
    c.args.declared.now c.loop-one.one-index c.one-item.result below c.one-item.is c.loop-one.invariant c.in_ok-next.ensures
