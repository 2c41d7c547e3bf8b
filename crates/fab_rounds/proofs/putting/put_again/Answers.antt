use Rattle.std.proofs.Common.{◌≡◌, ◌≤◌, None, sym, ap, ◌∙◌, subst, arith}
use Rattle.fab_core.specs.fab_model.specs.Points.{ended, Point}
use Rattle.fab_core.specs.fab_model.specs.Fabrics.{within}
use Rattle.fab_core.specs.Standing.{IsPointOf}
use Rattle.fab_core.specs.fab_model.specs.declared.transit.Transit.{Transit}
use Rattle.fab_core.specs.fab_model.specs.Tokens.{token_of}
use Rattle.fab_core.specs.ten_parcel.specs.Parcels.{cost_of, number_of, ticks_of}
use Rattle.fab_desk.specs.Desks.{DeskView}
use Rattle.fab_rounds.specs.Ledgers.{reach}
use Rattle.fab_rounds.proofs.Steps.{never_large, put_far, put_outs, put_puts, put_reach, refused_outs, refused_puts, refused_reach}
use Rattle.fab_rounds.proofs.putting.put_again.Goals as goal

pub put-requires-clause-transit : goal.put-requires-clause-transit
put-requires-clause-transit g c = subst (λ (t : Transit). (p : Point) × IsPointOf t.parcel p × (ended p ≡ None)) (sym c.loop.invariant.transit) c.requires.point

pub returns-in-Ok-clause-puts : goal.returns-in-Ok-clause-puts
returns-in-Ok-clause-puts g c = λ f.
    omega (arith, put_puts c.args.desk.now.label c.loop.transit c.loop.seat.view c.put.new.seat.view _ c.in-Ok.ensures.put f, c.loop.invariant.puts f, ap (λ (t : Transit). f (token_of t)) c.loop.invariant.transit)

pub returns-in-Ok-clause-outs : goal.returns-in-Ok-clause-outs
returns-in-Ok-clause-outs g c = λ f.
    omega (arith, put_outs c.args.desk.now.label c.loop.transit c.loop.seat.view c.put.new.seat.view _ c.in-Ok.ensures.put f, c.loop.invariant.outs f)

pub unreachable-requires : goal.unreachable-requires
unreachable-requires g c = never_large c.args.desk.now.label c.loop.transit c.loop.seat.view c.put.new.seat.view c.in-Err.refused c.in-TooLarge.field-0 c.in-TooLarge.field-1 c.in-Err.ensures.refused c.in-TooLarge.is
    (ap (λ (t : Transit). within (cost_of t.parcel) c.args.desk.now.label.capacity) c.loop.invariant.transit ∙ c.requires.place)

pub returns-in-Ok-clause-reach : goal.returns-in-Ok-clause-reach
returns-in-Ok-clause-reach g c = λ t. let a = put_reach c.args.desk.now.label c.loop.transit c.loop.seat c.put.new.seat _ c.in-Ok.ensures.put t in let b = c.loop.invariant.reach t in omega (arith, a, b)

pub returns-in-Ok-clause-there : goal.returns-in-Ok-clause-there
returns-in-Ok-clause-there g c = subst (λ (t : Transit). ticks_of t.parcel ≤ reach (number_of t.parcel) c.put.new.seat) c.loop.invariant.transit (put_far c.args.desk.now.label c.loop.transit c.loop.seat c.put.new.seat _ c.in-Ok.ensures.put)

pub loop-preserved : goal.loop-preserved
loop-preserved g c =
    let v = c.loop.invariant in let r = c.in-Err.ensures.refused in let label = c.args.desk.now.label in record {
      first = (c.put.ensures.seat, ap (λ (x : DeskView). x.low) r.view ∙ v.first.1);
      puts = λ f. refused_puts label c.loop.transit c.loop.seat.view c.put.new.seat.view c.in-Err.refused r f ∙ v.puts f;
      outs = λ f. refused_outs label c.loop.transit c.loop.seat.view c.put.new.seat.view c.in-Err.refused r f ∙ v.outs f;
      reach = λ t. let a = refused_reach label c.loop.transit c.loop.seat c.put.new.seat c.in-Err.refused r t in let b = v.reach t in omega (arith, a, b);
      transit = r.back ∙ v.transit;
    }

pub returns-in-Memory-clause-reach : goal.returns-in-Memory-clause-reach
returns-in-Memory-clause-reach g c = λ t. let a = refused_reach c.args.desk.now.label c.loop.transit c.loop.seat c.put.new.seat c.in-Err.refused c.in-Err.ensures.refused t in let b = c.loop.invariant.reach t in omega (arith, a, b)
