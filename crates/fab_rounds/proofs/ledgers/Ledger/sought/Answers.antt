use Rattle.std.proofs.Common.{Option, subst}
use Rattle.fab_core.specs.fab_model.specs.declared.transit.Transit.{Transit}
use Rattle.fab_rounds.specs.Tries.{DidSeek, Seeks}
use Rattle.fab_rounds.proofs.Ordered.{seeks_on, seeks_same, sought_ledger}
use Rattle.fab_rounds.proofs.ledgers.Ledger.sought.Goals as goal

pub loop-fabric-init : goal.loop-fabric-init
loop-fabric-init g c = record { ledger = c.requires.ledger; seeks = seeks_same c.args.desks.now c.args.self.now c.requires.ledger }

pub loop-fabric-preserved : goal.loop-fabric-preserved
loop-fabric-preserved g c =
    let v = c.loop-fabric.invariant in let desks = c.args.desks.now in let now = c.take_at.new.self in
    let s : Seeks c.args.desks.now c.loop-fabric.self c.take_at.new.self = subst (λ (r : Option Transit). DidSeek c.args.desks.now c.args.tenant c.loop-fabric.fabric r c.loop-fabric.self c.take_at.new.self) c.in_default.is c.in_ok-transit.ensures in record {
      ledger = sought_ledger desks c.loop-fabric.self now v.ledger s;
      seeks = seeks_on desks c.args.self.now c.loop-fabric.self now v.seeks s;
    }

pub returns-in-Some : goal.returns-in-Some
returns-in-Some g c = (
  c.loop-fabric.self,
  c.loop-fabric.invariant.seeks,
  subst (λ (r : Option Transit). DidSeek c.args.desks.now c.args.tenant c.loop-fabric.fabric r c.loop-fabric.self c.take_at.new.self) c.in-Some.is c.in_ok-transit.ensures,
)
