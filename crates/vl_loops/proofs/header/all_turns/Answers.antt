use Rattle.std.proofs.Common.{◌≡◌, ◌-◌, ◌≤◌, ℕ, List, [], map, refl, sym, ap, ◌∙◌, subst, slice_set, arith}
use Rattle.std.proofs.lemmas.List.{set-get_or}
use Rattle.vl_design.specs.Plainly.{stm}
use Rattle.vl_design.specs.Seen.{stm_of}
use Rattle.vl_design.specs.Trees.{exp_of}
use Rattle.vl_loops.specs.Rooms.{scope_of, rows_of, state_of, AreNumbers}
use Rattle.std.specs.Prelude.{All}
use Rattle.std.proofs.lemmas.List.Elements.{All-nil}
use Rattle.vl_loops.proofs.Turning.{Leads, fits-push, leads-init, leads-stay, leads-end, leads-push}
use Rattle.vl_loops.proofs.header.all_turns.Goals as goal

pub loop-turn-init : goal.loop-turn-init
loop-turn-init c =
    let scope = scope_of c.args.room.now in
    let test = exp_of c.args.test.now in
    let step = stm [] (stm_of c.args.step.now) in
    let s = state_of c.args.numbers.now in
    record {
      numbers = c.requires.numbers;
      others = λ v. refl;
      fits = subst (All (λ (v : ℕ). AreNumbers (rows_of c.args.room.now) (slice_set c.args.numbers.now c.args.variable v))) (sym c.new-all.ensures.items) (All-nil (λ (v : ℕ). AreNumbers (rows_of c.args.room.now) (slice_set c.args.numbers.now c.args.variable v)));
      left = 4096;
      sum = refl;
      leads = subst (λ (z : List ℕ). Leads scope test step 4096 s (map (λ v. state_of (slice_set c.args.numbers.now c.args.variable v)) z) 4096 s) (sym c.new-all.ensures.items) (leads-init scope test step 4096 s);
    }

pub returns-then-not-holds-clause-turns : goal.returns-then-not-holds-clause-turns
returns-then-not-holds-clause-turns c =
    let i = c.loop-turn.invariant in
    leads-stay (scope_of c.args.room.now) (exp_of c.args.test.now) (stm [] (stm_of c.args.step.now)) 4096 (state_of c.args.numbers.now) _ i.left (state_of c.loop-turn.numbers) i.leads (sym c.holds.ensures ∙ c.if-not-holds.true)

pub loop-turn-preserved : goal.loop-turn-preserved
loop-turn-preserved c =
    let i = c.loop-turn.invariant in
    let t = c.loop-turn-test.true in
    let sum = i.sum in
    let positive : 1 ≤ i.left = omega arith in
    record {
      numbers = c.assign.ensures.numbers;
      others = λ v. i.others v ∙ c.assign.ensures.others v;
      fits = fits-push (rows_of c.args.room.now) c.args.numbers.now c.loop-turn.numbers c.args.variable c.loop-turn.all.items _ _ i.fits i.numbers c.in_ok-push.ensures.items (i.others _ ∙ set-get_or c.loop-turn.numbers c.args.variable 0);
      left = i.left - 1;
      sum = omega arith;
      leads = leads-push (scope_of c.args.room.now) (exp_of c.args.test.now) (stm [] (stm_of c.args.step.now)) 4096 (state_of c.args.numbers.now) c.args.numbers.now c.loop-turn.numbers _ c.args.variable c.loop-turn.all.items _ i.left _ c.holds.result
          i.leads c.holds.ensures c.if-not-holds.false c.assign.ensures.state c.in_ok-push.ensures.items (i.others _ ∙ set-get_or c.loop-turn.numbers c.args.variable 0) positive;
    }

pub returns-clause-turns : goal.returns-clause-turns
returns-clause-turns c =
    let i = c.loop-turn.invariant in
    let sum = i.sum in
    let end = c.loop-turn-test.false in
    let none : i.left ≡ 0 = omega arith in
    leads-end (scope_of c.args.room.now) (exp_of c.args.test.now) (stm [] (stm_of c.args.step.now)) 4096 (state_of c.args.numbers.now) _ i.left (state_of c.loop-turn.numbers) c.holds-2.result none i.leads c.holds-2.ensures
