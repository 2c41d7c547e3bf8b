use Rattle.std.proofs.Common.{Bool, ap, ◌∙◌, subst, arith}
use Rattle.fab_core.specs.fab_model.specs.declared.transit.Transit.{Transit}
use Rattle.fab_core.specs.ten_parcel.specs.Parcels.{ticks_of}
use Rattle.std.specs.Prelude.{length}
use Rattle.fab_rounds.specs.Tries.{IsNext}
use Rattle.fab_rounds.proofs.Answered.{may_tell_ended}
use Rattle.fab_rounds.proofs.Ordered.{ended_there, next_tenant, seeks_same}
use Rattle.fab_rounds.proofs.Taken.{on_ok}
use Rattle.fab_rounds.proofs.ledgers.Ledger.finish.Goals as goal

pub index-requires : goal.index-requires
index-requires c = let l = c.args.self.now in let a = c.requires.all.count in let b = next_tenant l c.args.next.tenant c.args.next.watch c.requires.ledger.kept c.requires.next in omega (arith, a, b, l.done.ok.0)

pub tell-requires-clause-tells : goal.tell-requires-clause-tells
tell-requires-clause-tells c = let l = c.args.self.now in let t = c.args.next.tenant in
    may_tell_ended l t c.ticks-ticks.result (subst (λ (w : Bool). IsNext c.args.next.tenant w c.args.self.now.orders.items) c.if-next.false c.requires.next)
    (ended_there l.done.items (length l.loaded.value.items) t c.ticks-ticks.result c.index.result.now c.requires.all (next_tenant l t c.args.next.watch c.requires.ledger.kept c.requires.next)
    (c.ticks-ticks.ensures ∙ ap (λ (x : Transit). ticks_of x.parcel) c.index.ensures))

pub returns : goal.returns
returns c = on_ok c.tell.result (λ t. (c.args.self.now, seeks_same c.args.desks.now c.args.self.now c.requires.ledger, t)) c.tell.ensures
