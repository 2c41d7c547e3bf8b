use Rattle.std.proofs.Common.{◌≡◌, ◌<◌, ◌+◌, suc, Some, List, length, [], ◌∷◌, refl, sym, ap, ◌∙◌, subst, arith}
use Rattle.std.specs.Prelude.{slice_get, ◌==◌, position}
use Rattle.std.specs.declared.alloc.Global.{Global}
use Rattle.std.specs.declared.vec.Vec.{Vec}
use Rattle.std.proofs.lemmas.Option.{slice_get-get_or, slice_get_read}
use Rattle.fab_core.specs.fab_model.specs.Points.{tick_of}
use Rattle.fab_core.specs.fab_lock.specs.declared.entry.Entry.{Entry}
use Rattle.fab_core.specs.fab_model.specs.Tokens.{out_at, put_at}
use Rattle.fab_bay.specs.declared.berth.Berth.{Berth}
use Rattle.fab_bay.proofs.Events.{berthed, has-place}
use Rattle.fab_bay.specs.Marks.{is_run, mark_at}
use Rattle.fab_bay.proofs.Going.{closed-by, closed-run}
use Rattle.fab_bay.proofs.Gone.{place_first}
use Rattle.fab_bay.proofs.Kept.{written_of, written_one, written_then}
use Rattle.fab_bay.proofs.Saves.{saved_at}
use Rattle.fab_bay.proofs.Places.{some-equal}
use Rattle.fab_bay.proofs.Ran.{behind, berth-at, noted_at, room_less, saved-noted}
use Rattle.fab_bay.proofs.noted.NotedCore.saved_one.Goals as goal

pub unreachable-requires : goal.unreachable-requires
unreachable-requires c =
    let x = c.args.self.now in
    let f = c.requires.fabric.0 in
    has-place x.label.tenants c.args.tenant x.berths.items f.residents c.requires.fabric.1 c.requires.fabric.2.residents c.requires.fabric.3 (ap (λ (bs : List Berth). position (λ b. b.tenant == c.args.tenant) bs) (sym c.deref.ensures.value) ∙ (sym c.berth_of.ensures ∙ c.in_default.is))

pub ran_one-requires-clause-fabric : goal.ran_one-requires-clause-fabric
ran_one-requires-clause-fabric c = (c.requires.fabric.0, c.requires.fabric.2)

pub ran_one-requires-clause-place : goal.ran_one-requires-clause-place
ran_one-requires-clause-place c = (berthed c.args.tenant c.args.self.now c.in-Some.place (ap (λ (bs : List Berth). position (λ b. b.tenant == c.args.tenant) bs) (sym c.deref.ensures.value) ∙ (sym c.berth_of.ensures ∙ c.in-Some.is))).inside

pub ran_one-requires-clause-room : goal.ran_one-requires-clause-room
ran_one-requires-clause-room c = room_less 1 2 c.args.self.now (omega arith) c.requires.room

pub index-requires : goal.index-requires
index-requires c =
    let x = c.args.self.now in
    let i = c.in-Some.place in
    let b = berthed c.args.tenant x i (ap (λ (bs : List Berth). position (λ b. b.tenant == c.args.tenant) bs) (sym c.deref.ensures.value) ∙ (sym c.berth_of.ensures ∙ c.in-Some.is)) in
    let d = behind x c.ran_one.new.self c.requires.fabric.0 i c.requires.fabric.2 b.inside c.ran_one.ensures.noted in
    let y = c.ran_one.new.self in
    let lt : i < length y.berths.items = subst (λ n. i < n) (sym d.long) b.inside in
    let long = y.berths.ok.0 in
    omega (arith, lt, long)

pub write-requires : goal.write-requires
write-requires c = let r = c.ran_one.ensures.room 1 c.requires.room in record { room = record { notes = r.notes; told = r.told } }

pub returns-clause-written : goal.returns-clause-written
returns-clause-written c =
    let x = c.args.self.now in
    let y = c.ran_one.new.self in
    let z = c.write.new.self in
    let i = c.in-Some.place in
    let n = c.saved.result in
    let m = c.index.result.now in
    let e = c.write.ensures in
    let k = c.args.number in
    let t = c.args.tenant in
    let f = c.requires.fabric.0 in
    let found = ap (λ (bs : List Berth). position (λ b. b.tenant == c.args.tenant) bs) (sym c.deref.ensures.value) ∙ (sym c.berth_of.ensures ∙ c.in-Some.is) in
    let b = berthed t x i found in
    let d = behind x y f i c.requires.fabric.2 b.inside c.ran_one.ensures.noted in
    let inside : i < length y.berths.items = subst (λ k. i < k) (sym d.long) b.inside in
    let at : slice_get y.berths.items i ≡ Some m = slice_get_read y.berths.items (length y.berths.items) i m refl inside c.index.ensures in
    let who : m.tenant ≡ t = ap (λ (w : Berth). w.tenant) (some-equal m (noted_at (tick_of d.point) d.old) (sym at ∙ d.here)) ∙ b.tenant d.old d.at in
    let h = c.ran_one.ensures.kept f c.requires.fabric.2 in
    let few = (berth-at y.label.tenants y.berths.items f.residents i m d.point h.residents at d.stands).few in
    let entry = c.saved.ensures.entry in
    let ran = c.ran_one.ensures.goes [] in (
      m.noted,
      written_then k x y z [] [] [] (saved_at t m.noted ∷ []) (written_of k x y ran (c.ran_one.ensures.runs ran.added ran.notes))
          (written_one k y z n [] (saved_at t m.noted ∷ []) e.label e.notes e.told (ap (λ (w : Entry). w.seat) entry)
          (subst (λ k. k < y.label.tenants) (who ∙ sym (ap (λ (w : Entry). w.tenant) entry)) few) (ap (λ (w : Entry). put_at w.kind n) entry) (ap (λ (w : Entry). out_at w.kind n) entry)
          (ap (λ (w : Entry). mark_at w.kind w) entry)),
      λ g p j first.
          let there = behind x y g i j b.inside c.ran_one.ensures.noted in
          let spot = place_first t i x g found j in
          let here : there.point ≡ p = some-equal there.point p (sym there.stands ∙ (slice_get-get_or g.residents i p spot.there ∙ (sym (spot.first p) ∙ first))) in
          ap (λ (w : Berth). w.noted) (some-equal m (noted_at (tick_of there.point) there.old) (sym at ∙ there.here)) ∙ ap tick_of here,
    )

pub returns-clause-closed : goal.returns-clause-closed
returns-clause-closed c = λ added eq.
    let x = c.args.self.now in
    let y = c.ran_one.new.self in
    let z = c.write.new.self in
    let i = c.in-Some.place in
    let n = c.saved.result in
    let t = c.args.tenant in
    let b = berthed t x i (ap (λ (bs : List Berth). position (λ b. b.tenant == c.args.tenant) bs) (sym c.deref.ensures.value) ∙ (sym c.berth_of.ensures ∙ c.in-Some.is)) in
    let d = c.ran_one.ensures.goes [] in
    let entry = c.saved.ensures.entry in
    closed-by x.notes.items y.notes.items z.notes.items d.added (n ∷ []) added d.notes c.write.ensures.notes eq
    (closed-run t d.added n (c.ran_one.ensures.one t d.added b.tenant d.notes) (ap (λ (w : Entry). w.tenant) entry) (ap (λ (w : Entry). is_run w.kind) entry))

pub returns-clause-kept : goal.returns-clause-kept
returns-clause-kept c = λ g k.
    let x = c.args.self.now in
    let y = c.ran_one.new.self in
    let z = c.write.new.self in
    let i = c.in-Some.place in
    let n = c.saved.result in
    let m = c.index.result.now in
    let e = c.write.ensures in
    let b = berthed c.args.tenant x i (ap (λ (bs : List Berth). position (λ b. b.tenant == c.args.tenant) bs) (sym c.deref.ensures.value) ∙ (sym c.berth_of.ensures ∙ c.in-Some.is)) in
    let d = behind x y g i k b.inside c.ran_one.ensures.noted in
    let inside : i < length y.berths.items = subst (λ j. i < j) (sym d.long) b.inside in
    let at : slice_get y.berths.items i ≡ Some m = slice_get_read y.berths.items (length y.berths.items) i m refl inside c.index.ensures in
    let who : m.tenant ≡ c.args.tenant = ap (λ (w : Berth). w.tenant) (some-equal m (noted_at (tick_of d.point) d.old) (sym at ∙ d.here)) ∙ b.tenant d.old d.at in
    let entry = c.saved.ensures.entry in
    saved-noted y z g i m n (c.ran_one.ensures.kept g k) at
    (record { kind = ap (λ (w : Entry). w.kind) entry; tenant = ap (λ (w : Entry). w.tenant) entry ∙ sym who; from_is = ap (λ (w : Entry). w.from) entry; to_is = ap (λ (w : Entry). w.to) entry })
    (record { label = e.label; core = e.core; waiting = e.waiting; notes = e.notes; told = e.told }) e.berths

pub returns-clause-long : goal.returns-clause-long
returns-clause-long c =
    let x = c.args.self.now in
    let i = c.in-Some.place in
    let b = berthed c.args.tenant x i (ap (λ (bs : List Berth). position (λ b. b.tenant == c.args.tenant) bs) (sym c.deref.ensures.value) ∙ (sym c.berth_of.ensures ∙ c.in-Some.is)) in
    let d = behind x c.ran_one.new.self c.requires.fabric.0 i c.requires.fabric.2 b.inside c.ran_one.ensures.noted in
    ap (λ (v : Vec Berth Global). length v.items) c.write.ensures.berths ∙ d.long

pub returns-clause-room : goal.returns-clause-room
returns-clause-room c = λ n h. c.write.ensures.room n (c.ran_one.ensures.room (suc n) (room_less (suc (suc n)) (n + 2) c.args.self.now (omega arith) h))

pub returns-clause-core : goal.returns-clause-core
returns-clause-core c = c.write.ensures.core ∙ c.ran_one.ensures.core

pub returns-clause-waiting : goal.returns-clause-waiting
returns-clause-waiting c = c.write.ensures.waiting ∙ c.ran_one.ensures.waiting
