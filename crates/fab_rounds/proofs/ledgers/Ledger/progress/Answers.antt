use Rattle.std.proofs.Common.{rules, ◌≡◌, ◌<◌, ◌≤◌, length, get_or, set, length-set, get_or-set_same, get_or-set_other, refl, sym, ap, ◌∙◌, subst, arith}
use mathlib.Core.Logic.{dite}
use native.Mathlib.Decide.{ℕ_discrete}
use Rattle.std.specs.Vec.{with_item}
use Rattle.std.proofs.lemmas.List.{get_or_default}
use Rattle.fab_rounds.specs.Ledgers.{reach}
use Rattle.fab_rounds.specs.Tries.{Seeks}
use Rattle.fab_rounds.proofs.Looks.{desk_tenant, glanced_most, glanced_seeks}
use Rattle.fab_rounds.proofs.Ordered.{seeks_on, seeks_same, sought_ledger}
use Rattle.fab_rounds.proofs.Reach.{glanced_all, glanced_reach, reach_within}
use Rattle.fab_rounds.proofs.ledgers.Ledger.progress.Goals as goal

pub loop-place-init : goal.loop-place-init
loop-place-init c = record {
  ledger = c.requires.ledger;
  seeks = seeks_same c.args.desks.now c.args.self.now c.requires.ledger;
  count = refl;
  each = λ i d l. omega arith;
  before = λ i d l. absurd (omega (arith, l));
  most = omega arith;
}

pub progress-ticks-requires-clause-tenant : goal.progress-ticks-requires-clause-tenant
progress-ticks-requires-clause-tenant c =
    let v = c.loop-place.invariant in
    let lt : c.loop-place.place < length c.args.desks.now = search rules in
    desk_tenant c.args.desks.now c.loop-place.self v.ledger c.loop-place.place lt c.index-desks-place.result c.index-desks-place.is c.args.tenant
    (subst (λ x. c.args.tenant < length x.loaded.value.items) (sym v.seeks.rest) c.requires.tenant)

pub loop-place-preserved : goal.loop-place-preserved
loop-place-preserved c =
    let v = c.loop-place.invariant in let desks = c.args.desks.now in let l = c.loop-place.self in let i = c.loop-place.place in let n = c.args.tenant in let k = c.progress-ticks.result in
    let desk = c.index-desks-place.result in let is = c.index-desks-place.is in let old = c.index_mut.result.now in let was = c.index_mut.ensures.value in let seat = c.progress-ticks.new.seat in let e = c.progress-ticks.ensures in
    let lt : c.loop-place.place < length c.args.desks.now = search rules in
    let in' : c.loop-place.place < length c.loop-place.self.firsts.items = (let a = v.ledger.firsts.count in omega (arith, a, lt)) in
    let s : Seeks c.args.desks.now c.loop-place.self (record (c.loop-place.self) { firsts = with_item c.loop-place.self.firsts c.loop-place.place c.progress-ticks.new.seat }) =
    glanced_seeks desks l v.ledger i lt desk is old was seat e.seat n k e.view (with_item c.loop-place.self.firsts c.loop-place.place c.progress-ticks.new.seat) refl in
    let up : reach c.args.tenant c.index_mut.result.now ≤ reach c.args.tenant c.progress-ticks.new.seat = glanced_reach old seat n k e.view n in
    let all : reach c.args.tenant c.index_mut.result.now ≤ c.progress-ticks.result = glanced_all old seat n k e.view e.seen e.known in
    let m = c.greater-most.ensures in record {
      ledger = sought_ledger desks l _ v.ledger s;
      seeks = seeks_on desks c.args.self.now l _ v.seeks s;
      count = length-set l.firsts.items i seat ∙ v.count;
      each = λ j d lj. let a = v.each j d lj in dite (ℕ_discrete j i)
          (λ same.
          let b : get_or c.loop-place.self.firsts.items j d ≡ c.index_mut.result.now = ap (λ q. get_or l.firsts.items q d) same ∙ get_or_default l.firsts.items i d old in' ∙ sym was in
          let f : get_or (set c.loop-place.self.firsts.items c.loop-place.place c.progress-ticks.new.seat) j d ≡ c.progress-ticks.new.seat = ap (λ q. get_or (set l.firsts.items i seat) q d) same ∙ get_or-set_same l.firsts.items i seat d in' in
          omega (arith, a, up, ap (reach n) b, ap (reach n) f))
          (λ other. omega (arith, a, ap (reach n) (get_or-set_other l.firsts.items i j seat d other)));
      before = λ j d lj. dite (ℕ_discrete j i)
          (λ same.
          let b : get_or c.loop-place.self.firsts.items j d ≡ c.index_mut.result.now = ap (λ q. get_or l.firsts.items q d) same ∙ get_or_default l.firsts.items i d old in' ∙ sym was in
          let a = v.each j d (let x = v.count in omega (arith, x, in', same)) in
          omega (arith, a, ap (reach n) b, all, m))
          (λ other. let a = v.before j d (omega (arith, lj, other)) in omega (arith, a, m));
      most = let a = glanced_most desks l v.ledger i lt desk is old was seat e.seat n k e.view c.loop-place.most v.most in omega (arith, a, m);
    }

pub returns-clause-above : goal.returns-clause-above
returns-clause-above c = let v = c.loop-place.invariant in let e : length c.args.desks.now ≤ c.loop-place.place = search rules in let n = c.requires.ledger.firsts.count in
    reach_within c.args.tenant c.loop-place.most c.args.self.now.firsts.items (λ i d l. v.before i d (omega (arith, l, n, e)))
