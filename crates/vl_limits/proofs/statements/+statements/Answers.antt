use Rattle.std.proofs.Common.{◌≡◌, ◌<◌, ◌+◌, ℕ, List, min, slice_set, length, sym, ap, ◌∙◌, subst, get_or, arith, rules}
use Rattle.std.specs.Prelude.{All, IfOk, if◌then◌else◌, nat_lt}
use Rattle.vl_design.specs.declared.design.Stmt.{Stmt}
use Rattle.vl_design.specs.declared.design.CaseItem.{CaseItem}
use Rattle.vl_design.specs.declared.design.StmtNode.{the_lemmas}
use Rattle.vl_design.specs.Exec.{most_turns}
use Rattle.vl_design.specs.Seen.{stm_of, stms_of, exp_of, node_stm}
use Rattle.vl_design.proofs.TreeLemmas.{placed-Seq}
use Rattle.vl_loops.specs.Limits.{stm_count}
use Rattle.vl_loops.specs.Loops.{HasHeads, HaveHeads, ItemsHaveHeads}
use Rattle.vl_loops.specs.Rooms.{rows_of, scope_of, state_of, AreNumbers}
use Rattle.vl_loops.proofs.SteppingOfHeader.{loop-there, others-set}
use Rattle.vl_limits.specs.Tallies.{counted_of}
use Rattle.vl_limits.specs.Walks.{items_of}
use Rattle.vl_limits.proofs.Adding.{turn-step}
use Rattle.vl_limits.proofs.Counting.{case-of, loop-sum, repeat-arith}
use Rattle.vl_limits.proofs.statements.+statements.Goals as goal

pub stm_sum-stms_sum-requires : goal.stm_sum-stms_sum-requires
stm_sum-stms_sum-requires t c =
    let rows = rows_of c.args.room.now in
    let h = subst (λ (z : List Stmt). HaveHeads rows (stms_of z)) (sym c.as_slice.ensures.value) (subst (HasHeads rows) (placed-Seq c.args.a.now c.in-Seq.parts c.in-Seq.is) c.requires.heads) in
    (search (rules, the_lemmas), (h, c.requires.numbers))

pub stm_sum-items_sum-requires : goal.stm_sum-items_sum-requires
stm_sum-items_sum-requires t c =
    let rows = rows_of c.args.room.now in
    let h = subst (λ (z : List CaseItem). ItemsHaveHeads rows (items_of z)) (sym c.as_slice-in-Case.ensures.value) (subst (HasHeads rows) (case-of c.args.a.now c.in-Case.subject c.in-Case.items c.in-Case.field-2 c.in-Case.is) c.requires.heads) in
    (search (rules, the_lemmas), (h, c.requires.numbers))

pub stm_sum-turns_sum-requires : goal.stm_sum-turns_sum-requires
stm_sum-turns_sum-requires t c =
    let rows = rows_of c.args.room.now in
    let j = c.in-For.variable in
    let h = subst (HasHeads rows) (ap (node_stm c.args.a.now.place) c.in-For.is) c.requires.heads in
    let kept = sym c.in_ok-all-in-For.ensures.kept in
    let body = subst (λ (z : Stmt). HasHeads rows (stm_of z)) (sym c.deref-in-For-4.ensures) h.1 in
    let there = subst (λ (z : List ℕ). j < length z) kept (loop-there rows c.args.numbers.now j c.requires.numbers h.0.variable) in
    let fits = subst (λ (z : List ℕ). All (λ (v : ℕ). AreNumbers rows (slice_set z j v)) c.deref-in-For-3.result.now) kept
    (subst (λ (z : List ℕ). All (λ (v : ℕ). AreNumbers rows (slice_set c.args.numbers.now j v)) z) (sym c.deref-in-For-3.ensures.value) c.in_ok-all-in-For.ensures.fits) in
    (search (rules, the_lemmas), (body, (there, fits)))

pub stm_sum-returns-in_ok-all-in-For-clause-sum : goal.stm_sum-returns-in_ok-all-in-For-clause-sum
stm_sum-returns-in_ok-all-in-For-clause-sum t c =
    let rows = rows_of c.args.room.now in
    let f = c.in-For in
    subst (λ (n : ℕ). IfOk c.turns_sum.result (λ r. r ≡ n))
    (loop-sum (counted_of c.args.tally.now) (scope_of c.args.room.now) c.args.a.now.place f.variable (stm_of f.start.value) (exp_of f.test) (stm_of f.step.value) (stm_of f.body.value) (stm_of c.deref-in-For-4.result.now) (stm_of c.args.a.now)
    c.args.numbers.now c.turns_of.new.numbers c.in_ok-all-in-For.all.numbers.items c.deref-in-For-3.result.now c.in_ok-all-in-For.all.endless c.args.tally.now.cap c.args.sum c.plus-own.result c.endless_sum-ended.result
    (ap (node_stm c.args.a.now.place) f.is) c.plus-own.ensures c.endless_sum-ended.ensures (search rules) c.in_ok-all-in-For.ensures.kept c.deref-in-For-3.ensures.value (ap stm_of c.deref-in-For-4.ensures))
    c.turns_sum.ensures.sum

pub stm_sum-returns-in_ok-once-in-Repeat-clause-sum : goal.stm_sum-returns-in_ok-once-in-Repeat-clause-sum
stm_sum-returns-in_ok-once-in-Repeat-clause-sum t c =
    let k = counted_of c.args.tally.now in
    let scope = scope_of c.args.room.now in
    let e = state_of c.args.numbers.now in
    repeat-arith c.args.tally.now.cap c.args.sum c.args.tally.now.statement c.plus-own.result c.in_ok-once-in-Repeat.once (stm_count k scope (stm_of c.in-Repeat.body.value) e) (if nat_lt most_turns c.in-Repeat.count then c.args.tally.now.endless else 0) c.in-Repeat.count c.repeated_sum.result
    c.plus-own.ensures
    (c.in_ok-once-in-Repeat.ensures.sum ∙ ap (λ z. min c.args.tally.now.cap (0 + stm_count k scope (stm_of z) e)) c.deref-in-Repeat.ensures)
    c.repeated_sum.ensures
    ∙ sym (ap (λ z. min c.args.tally.now.cap (c.args.sum + stm_count k scope z e)) (ap (node_stm c.args.a.now.place) c.in-Repeat.is))

pub turns_sum-loop-number-preserved : goal.turns_sum-loop-number-preserved
turns_sum-loop-number-preserved t c =
    let i = c.loop-number.invariant in
    let s = c.in_ok-all.ensures.sum in
    let j = c.args.variable in
    let number = get_or c.args.turns.now c.loop-number.number-index 0 in
    let count = λ (z : List ℕ). stm_count (counted_of c.args.tally.now) (scope_of c.args.room.now) (stm_of c.args.body.now) (state_of z) in
    record {
      small = omega (arith, s);
      others = λ v. ap (λ z. slice_set z j v) c.in_ok-all.ensures.kept ∙ (sym (others-set c.loop-number.numbers j number v) ∙ i.others v);
      fits = i.fits;
      rest = turn-step c.args.tally.now.cap (λ v. count (slice_set c.args.numbers.now j v)) c.args.turns.now c.loop-number.number-index c.loop-number.all c.in_ok-all.all _ _ c.loop-number-test.true (ap count (i.others number)) s i.rest;
    }
