use Rattle.std.proofs.Common.{◌<◌, ◌≤◌, ◌-◌, suc, length, [], refl, sym, ap, ◌∙◌, subst, arith}
use Rattle.std.specs.Prelude.{slice_get}
use Rattle.fab_core.specs.fab_model.specs.Points.{tick_of}
use Rattle.fab_core.specs.declared.cores.FabCore.{FabCore}
use Rattle.fab_core.specs.Standing.{IsFabric}
use Rattle.fab_bay.proofs.Events.{room-by}
use Rattle.fab_bay.proofs.Onward.{goes-none, goes-then}
use Rattle.fab_bay.proofs.Ran.{behind, get-set-other, noted_at, room_less, settled-all, settled-more}
use Rattle.fab_bay.specs.declared.berth.Berth.{Berth}
use Rattle.fab_bay.proofs.Places.{some-equal}
use Rattle.fab_bay.proofs.Wholes.{noted-apart, once-more, once-none}
use Rattle.fab_bay.proofs.noted.NotedCore.settle.Goals as goal

pub loop-place-init : goal.loop-place-init
loop-place-init c =
    let x = c.args.self.now in
    record {
      goes = λ out. goes-none c.args.number x x out (record { label = refl; notes = refl; told = refl }) (λ f h. h);
      kept = λ f h. h;
      core = refl;
      long = refl;
      room = λ m e. room-by (length x.berths.items) m x (omega (arith, e)) c.requires.room;
      once = λ added e. once-none x added e;
      settled = λ f core j b p lt at stands. let z : ⊥ = omega (arith, lt) in absurd z;
    }

pub ran_one-requires-clause-room : goal.ran_one-requires-clause-room
ran_one-requires-clause-room c =
    let s = c.loop-place.self in
    let i = c.loop-place.place in
    let n = length c.args.self.now.berths.items in
    let lt : i < n = omega arith in
    room_less 1 (n - i) s (omega (arith, lt)) (c.loop-place.invariant.room (n - i) (omega (arith, lt)))

pub loop-place-preserved : goal.loop-place-preserved
loop-place-preserved c =
    let x = c.args.self.now in
    let s = c.loop-place.self in
    let i = c.loop-place.place in
    let y = c.ran_one.new.self in
    let v = c.loop-place.invariant in
    let e = c.ran_one.ensures in
    let f = c.requires.fabric.0 in
    let h = v.kept f c.requires.fabric.1 in
    let lt : i < length s.berths.items = omega arith in
    let b = behind s y f i h lt e.noted in
    record {
      goes = λ out. goes-then c.args.number 0 0 x s y out out out (v.goes out) (e.goes out);
      kept = λ g k. e.kept g (v.kept g k);
      core = e.core ∙ v.core;
      long = b.long ∙ v.long;
      room = λ m eq. e.room m (v.room (suc m) (omega (arith, eq)));
      once = λ added eq.
          let a = v.goes [] in
          let d = e.goes [] in
          once-more x s y i _ b.old a.added d.added added (noted-apart s f h) b.at (omega arith)
          (λ j lt. ap (λ bs. slice_get bs j) b.set ∙ get-set-other s.berths.items i j (noted_at (tick_of b.point) b.old) (λ same. let z : ⊥ = omega (arith, lt, same) in absurd z))
          a.notes d.notes eq (v.once a.added a.notes)
          (e.one b.old.tenant d.added (λ c at. ap (λ (w : Berth). w.tenant) (some-equal c b.old (sym at ∙ b.at))) d.notes);
      settled = λ g core.
          settled-more i s.berths.items y.berths.items g.residents b.old b.at lt (v.settled g core)
          (λ p stands. e.noted g p b.old (subst (λ (k : FabCore). IsFabric k g) (sym v.core) core) stands b.at)
          (λ j ne. ap (λ bs. slice_get bs j) b.set ∙ get-set-other s.berths.items i j (noted_at (tick_of b.point) b.old) ne);
    }

pub returns-clause-settled : goal.returns-clause-settled
returns-clause-settled c = λ f h.
    let s = c.loop-place.self in
    let v = c.loop-place.invariant in
    let long = v.long in
    let past : length c.args.self.now.berths.items ≤ c.loop-place.place = omega arith in
    settled-all s.label.tenants s.berths.items f.residents h.residents (λ j b p lt at stands. v.settled f (subst (λ (k : FabCore). IsFabric k f) v.core h.core) j b p (omega (arith, lt, long, past)) at stands)

pub returns-clause-whole : goal.returns-clause-whole
returns-clause-whole c = λ added e. (c.loop-place.invariant.once added e).whole
