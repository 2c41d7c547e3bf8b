use Rattle.std.proofs.Common.{◌++◌, ◌∷◌, [], sym, ap, ◌∙◌, subst, refl, arith}
use Rattle.std.specs.Prelude.{vec_len, vec_capacity}
use Rattle.fab_core.specs.declared.cores.FabCore.{FabCore}
use Rattle.fab_core.specs.fab_model.specs.Fabrics.{rebuilt}
use Rattle.fab_core.specs.Standing.{IsFabric}
use Rattle.fab_bay.specs.declared.noted.NotedCore.{NotedCore}
use Rattle.fab_bay.proofs.Coming.{coming_more, coming_room, coming_start, coming_there, joined_many, many_join, noted_rebuilt, rebuilt_goes, start_many, start_of, IsCame, IsRebuilt}
use Rattle.fab_bay.proofs.Kept.{still_goes, IsStill}
use Rattle.fab_bay.proofs.Near.{none-rebuilt, none-still}
use Rattle.fab_bay.proofs.Places.{berths_many}
use Rattle.fab_bay.proofs.noted.NotedCore.join.Goals as goal

pub rebuild-requires : goal.rebuild-requires
rebuild-requires c = let f = c.requires.fabric.0 in let h = c.requires.fabric.1 in (f, h.core, c.requires.rest f h)

pub returns-in-Err : goal.returns-in-Err
returns-in-Err c =
    let x = c.args.self.now in
    let z : NotedCore = record x { core = c.rebuild.new.self } in
    let s : IsStill x z = record { label = refl; core = c.in-Err.ensures.err; berths = refl; waiting = refl; notes = refl; told = refl } in
    record {
      goes = λ out. still_goes c.args.number x z out s;
      near = let f = c.requires.fabric.0 in let h = c.requires.fabric.1 in none-still x z f h.core (c.in-Err.ensures.err f h.core);
      rebuilt = tt;
      room = let r = c.requires.room in let a = r.notes in let b = r.told in record { notes = omega (arith, a); told = omega (arith, b) };
    }

pub overflow_sub-count : goal.overflow_sub-count
overflow_sub-count c =
    let x = c.args.self.now in
    let f = c.requires.fabric.0 in
    let h = c.requires.fabric.1 in
    let a = c.residents-total.ensures _ (c.in-Ok.ensures.fabric f h.core) in
    let m = berths_many x.label.tenants x.berths.items f.residents h.residents in
    let j = joined_many f in
    let k = x.berths.ok.0 in
    let l = c.len-before.ensures in
    omega (arith, a, m, j, k, l)

pub loop-place-init : goal.loop-place-init
loop-place-init c =
    let x = c.args.self.now in
    let y : NotedCore = record x { core = c.rebuild.new.self } in
    let r : IsRebuilt x y = record { label = refl; core = c.in-Ok.ensures.fabric; berths = refl; waiting = refl; notes = refl; told = refl } in
    let f = c.requires.fabric.0 in
    let h = c.requires.fabric.1 in
    let room = c.requires.room in
    let k = x.berths.ok.0 in
    let l = c.len-before.ensures in
    record {
      most = omega arith;
      joins = λ g n. many_join x y g c.residents-total.result c.len-before.result _ r n c.residents-total.ensures (omega (arith, k, l)) refl;
      coming = coming_start c.args.number x y f r h (record { notes = room.notes; told = room.told }) c.requires.free;
    }

pub remove-berth-requires : goal.remove-berth-requires
remove-berth-requires c =
    let x = c.args.self.now in
    let y : NotedCore = record x { core = c.rebuild.new.self } in
    let r : IsRebuilt x y = record { label = refl; core = c.in-Ok.ensures.fabric; berths = refl; waiting = refl; notes = refl; told = refl } in
    let f = c.requires.fabric.0 in
    let h = c.requires.fabric.1 in
    let v = c.loop-place.invariant in
    let j = v.joins f h in
    let t = c.loop-place-test.true in
    let s = start_of x y f r h in
    let e = coming_there c.args.number c.loop-place.place y c.loop-place.self f s (omega (arith, j, t)) v.coming in
    let m = start_many y f s in
    let k = c.loop-place.self.waiting.ok.0 in
    omega (arith, e, m, j, t, k)

pub write-requires : goal.write-requires
write-requires c =
    let x = c.args.self.now in
    let y : NotedCore = record x { core = c.rebuild.new.self } in
    let r : IsRebuilt x y = record { label = refl; core = c.in-Ok.ensures.fabric; berths = refl; waiting = refl; notes = refl; told = refl } in
    let f = c.requires.fabric.0 in
    let h = c.requires.fabric.1 in
    let v = c.loop-place.invariant in
    let j = v.joins f h in
    let t = c.loop-place-test.true in
    let m = start_many y f (start_of x y f r h) in
    let q = v.coming.room 1 (omega (arith, m, j, t)) in
    record { room = record { notes = q.notes; told = q.told } }

pub push_reserved-requires : goal.push_reserved-requires
push_reserved-requires c =
    let x = c.args.self.now in
    let y : NotedCore = record x { core = c.rebuild.new.self } in
    let r : IsRebuilt x y = record { label = refl; core = c.in-Ok.ensures.fabric; berths = refl; waiting = refl; notes = refl; told = refl } in
    let f = c.requires.fabric.0 in
    let h = c.requires.fabric.1 in
    let v = c.loop-place.invariant in
    let j = v.joins f h in
    let t = c.loop-place-test.true in
    let m = start_many y f (start_of x y f r h) in
    let free = v.coming.free in
    let a = ap vec_len c.write.ensures.berths in
    let b = ap vec_capacity c.write.ensures.berths in
    omega (arith, m, j, t, free, a, b)

pub loop-place-preserved : goal.loop-place-preserved
loop-place-preserved c =
    let x = c.args.self.now in
    let y : NotedCore = record x { core = c.rebuild.new.self } in
    let r : IsRebuilt x y = record { label = refl; core = c.in-Ok.ensures.fabric; berths = refl; waiting = refl; notes = refl; told = refl } in
    let f = c.requires.fabric.0 in
    let h = c.requires.fabric.1 in
    let v = c.loop-place.invariant in
    let j = v.joins f h in
    let t = c.loop-place-test.true in
    let at = c.loop-place.self in
    let b = c.remove-berth.result in
    let n = c.came-note.result in
    let w = c.write.new.self in
    let z : NotedCore = record w { berths = c.push_reserved.new.self } in
    let len = c.push_reserved.ensures.len in
    let wide = c.push_reserved.ensures.capacity in
    let a = ap vec_len c.write.ensures.berths in
    let d = ap vec_capacity c.write.ensures.berths in
    let came : IsCame c.args.number at z b n = record {
      read = c.remove-berth.ensures.value;
      entry = c.came-note.ensures.entry;
      label = c.write.ensures.label;
      core = c.write.ensures.core;
      notes = c.write.ensures.notes;
      told = c.write.ensures.told;
      waiting = ap (λ g. g.items) c.write.ensures.waiting ∙ c.remove-berth.ensures.items;
      berths = c.push_reserved.ensures.items ∙ ap (λ g. g.items ++ b ∷ []) c.write.ensures.berths;
      room = λ m q. let o = c.write.ensures.room m (record { notes = q.notes; told = q.told }) in record { notes = o.notes; told = o.told };
      free = omega (arith, len, a);
      wide = omega (arith, wide, d);
    } in
    record {
      most = omega (arith, t);
      joins = v.joins;
      coming = coming_more c.args.number c.loop-place.place y at z f b n (start_of x y f r h) (omega (arith, j, t)) v.coming came;
    }

pub returns-after-loop-place : goal.returns-after-loop-place
returns-after-loop-place c =
    let x = c.args.self.now in
    let y : NotedCore = record x { core = c.rebuild.new.self } in
    let r : IsRebuilt x y = record { label = refl; core = c.in-Ok.ensures.fabric; berths = refl; waiting = refl; notes = refl; told = refl } in
    let f = c.requires.fabric.0 in
    let h = c.requires.fabric.1 in
    let v = c.loop-place.invariant in
    let t = c.loop-place-test.false in
    let most = v.most in
    let i = c.loop-place.place in
    record {
      goes = λ out. rebuilt_goes c.args.number x y c.loop-place.self i r v.coming out c.requires.rest (λ g n. let j = v.joins g n in omega (arith, j, t, most));
      near = none-rebuilt x c.loop-place.self f h.core (subst (λ (k : FabCore). IsFabric k (rebuilt f)) (sym v.coming.core) (c.in-Ok.ensures.fabric f h.core));
      rebuilt = λ g n. let j = v.joins g n in noted_rebuilt c.args.number x y c.loop-place.self i r v.coming g n (omega (arith, j, t, most));
      room = let j = v.joins f h in coming_room c.args.number i x y c.loop-place.self f r h (omega (arith, j, t, most)) v.coming;
    }
