use Rattle.std.proofs.Common.{◌<◌, length, refl, subst}
use Rattle.std.specs.Vec.{with_item}
use Rattle.std.proofs.lemmas.Option.{slice_get_read}
use Rattle.fab_bay.proofs.Onward.{goes-none}
use Rattle.fab_bay.proofs.Places.{berths_many}
use Rattle.fab_bay.proofs.Ran.{none-one, none-runs, ran-one, ran-runs, noted_at, ran-goes, ran-kept, ran-set, still-set, wrote, Read}
use Rattle.fab_bay.proofs.noted.NotedCore.ran_one.Goals as goal

pub resident-tenant-requires : goal.resident-tenant-requires
resident-tenant-requires c =
    let f = c.requires.fabric.0 in
    let h = c.requires.fabric.1 in
    let x = c.args.self.now in
    (f, h.core, subst (λ k. c.args.place < k) (berths_many x.label.tenants x.berths.items f.residents h.residents) c.requires.place)

pub returns-then-from-tick-clause-goes : goal.returns-then-from-tick-clause-goes
returns-then-from-tick-clause-goes c =
    let x = c.args.self.now in
    let i = c.args.place in
    let old = c.index.result.now in
    let m = c.index_mut.result.now in
    let who = c.resident-tenant.result.0 in
    let tick = c.resident-tenant.result.1 in
    let w = c.write.new.self in
    let e = c.write.ensures in
    let v = with_item w.berths i (noted_at tick m) in
    let r : Read x i old who tick = record { here = slice_get_read x.berths.items (length x.berths.items) i old refl c.requires.place c.index.ensures; resident = c.resident-tenant.ensures; inside = c.requires.place } in
    let n = wrote c.args.number x w i old m who tick c.ran.result v r c.if-from-tick.true c.ran.ensures.entry (record { label = e.label; core = e.core; waiting = e.waiting; notes = e.notes; told = e.told }) e.berths c.index_mut.ensures.value refl in
    ran-goes c.args.number x (record w { berths = v }) i old who tick c.ran.result r n c.requires.fabric.0 c.requires.fabric.1

pub returns-then-from-tick-clause-kept : goal.returns-then-from-tick-clause-kept
returns-then-from-tick-clause-kept c =
    let x = c.args.self.now in
    let i = c.args.place in
    let old = c.index.result.now in
    let m = c.index_mut.result.now in
    let who = c.resident-tenant.result.0 in
    let tick = c.resident-tenant.result.1 in
    let w = c.write.new.self in
    let e = c.write.ensures in
    let v = with_item w.berths i (noted_at tick m) in
    let r : Read x i old who tick = record { here = slice_get_read x.berths.items (length x.berths.items) i old refl c.requires.place c.index.ensures; resident = c.resident-tenant.ensures; inside = c.requires.place } in
    let n = wrote c.args.number x w i old m who tick c.ran.result v r c.if-from-tick.true c.ran.ensures.entry (record { label = e.label; core = e.core; waiting = e.waiting; notes = e.notes; told = e.told }) e.berths c.index_mut.ensures.value refl in
    ran-kept c.args.number x (record w { berths = v }) i old who tick c.ran.result r n

pub returns-then-from-tick-clause-noted : goal.returns-then-from-tick-clause-noted
returns-then-from-tick-clause-noted c =
    let x = c.args.self.now in
    let i = c.args.place in
    let old = c.index.result.now in
    let m = c.index_mut.result.now in
    let who = c.resident-tenant.result.0 in
    let tick = c.resident-tenant.result.1 in
    let w = c.write.new.self in
    let e = c.write.ensures in
    let v = with_item w.berths i (noted_at tick m) in
    let r : Read x i old who tick = record { here = slice_get_read x.berths.items (length x.berths.items) i old refl c.requires.place c.index.ensures; resident = c.resident-tenant.ensures; inside = c.requires.place } in
    let n = wrote c.args.number x w i old m who tick c.ran.result v r c.if-from-tick.true c.ran.ensures.entry (record { label = e.label; core = e.core; waiting = e.waiting; notes = e.notes; told = e.told }) e.berths c.index_mut.ensures.value refl in
    ran-set c.args.number x (record w { berths = v }) i old who tick c.ran.result r n

pub returns-then-from-tick-clause-runs : goal.returns-then-from-tick-clause-runs
returns-then-from-tick-clause-runs c =
    let x = c.args.self.now in
    let i = c.args.place in
    let old = c.index.result.now in
    let m = c.index_mut.result.now in
    let who = c.resident-tenant.result.0 in
    let tick = c.resident-tenant.result.1 in
    let w = c.write.new.self in
    let e = c.write.ensures in
    let v = with_item w.berths i (noted_at tick m) in
    let r : Read x i old who tick = record { here = slice_get_read x.berths.items (length x.berths.items) i old refl c.requires.place c.index.ensures; resident = c.resident-tenant.ensures; inside = c.requires.place } in
    let n = wrote c.args.number x w i old m who tick c.ran.result v r c.if-from-tick.true c.ran.ensures.entry (record { label = e.label; core = e.core; waiting = e.waiting; notes = e.notes; told = e.told }) e.berths c.index_mut.ensures.value refl in
    ran-runs c.args.number x (record w { berths = v }) i old who tick c.ran.result r n

pub returns-then-from-tick-clause-one : goal.returns-then-from-tick-clause-one
returns-then-from-tick-clause-one c =
    let x = c.args.self.now in
    let i = c.args.place in
    let old = c.index.result.now in
    let m = c.index_mut.result.now in
    let who = c.resident-tenant.result.0 in
    let tick = c.resident-tenant.result.1 in
    let w = c.write.new.self in
    let e = c.write.ensures in
    let v = with_item w.berths i (noted_at tick m) in
    let r : Read x i old who tick = record { here = slice_get_read x.berths.items (length x.berths.items) i old refl c.requires.place c.index.ensures; resident = c.resident-tenant.ensures; inside = c.requires.place } in
    let n = wrote c.args.number x w i old m who tick c.ran.result v r c.if-from-tick.true c.ran.ensures.entry (record { label = e.label; core = e.core; waiting = e.waiting; notes = e.notes; told = e.told }) e.berths c.index_mut.ensures.value refl in
    ran-one c.args.number x (record w { berths = v }) i old who tick c.ran.result r n c.requires.fabric.0 c.requires.fabric.1

pub returns-then-from-tick-clause-room : goal.returns-then-from-tick-clause-room
returns-then-from-tick-clause-room c = λ n h. let r = c.write.ensures.room n h in record { notes = r.notes; told = r.told }

pub returns-else-from-tick-clause-goes : goal.returns-else-from-tick-clause-goes
returns-else-from-tick-clause-goes c = λ out. let x = c.args.self.now in goes-none c.args.number x x out (record { label = refl; notes = refl; told = refl }) (λ f h. h)

pub returns-else-from-tick-clause-noted : goal.returns-else-from-tick-clause-noted
returns-else-from-tick-clause-noted c = λ f p b core stands at.
    let x = c.args.self.now in
    let old = c.index.result.now in
    let i = c.args.place in
    still-set x f c.requires.fabric.0 i old c.resident-tenant.result.0 c.resident-tenant.result.1 p b
    (record { here = slice_get_read x.berths.items (length x.berths.items) i old refl c.requires.place c.index.ensures; resident = c.resident-tenant.ensures; inside = c.requires.place })
    c.requires.fabric.1 c.if-from-tick.false core stands at

pub returns-else-from-tick-clause-runs : goal.returns-else-from-tick-clause-runs
returns-else-from-tick-clause-runs c = λ added e. none-runs c.args.self.now added e

pub returns-else-from-tick-clause-one : goal.returns-else-from-tick-clause-one
returns-else-from-tick-clause-one c = λ t added who e. none-one c.args.self.now t added e
