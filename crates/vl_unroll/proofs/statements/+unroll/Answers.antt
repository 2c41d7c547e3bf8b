use Rattle.std.proofs.Common.{rules, ◌≡◌, ◌∙◌, ap, sym, subst, ℕ, List, [], map, replicate, get_or, slice_set}
use Rattle.std.specs.Prelude.{All, IfOk}
use Rattle.vl_design.specs.declared.design.Stmt.{Stmt}
use Rattle.vl_design.specs.declared.design.CaseItem.{CaseItem}
use Rattle.vl_design.specs.declared.design.StmtNode.{the_lemmas}
use Rattle.vl_design.specs.declared.design.StmtNode.TheBlock.{hidden-the_row-CaseItem-1}
use Rattle.vl_design.specs.Placed as p
use Rattle.vl_design.specs.Plainly as plain
use Rattle.vl_design.specs.Seen.{exp_of, stm_of, node_stm, row_items}
use Rattle.vl_design.specs.Exec.{exec, most_turns}
use Rattle.vl_loops.specs.Placed.{exp_put, stm_unrolled}
use Rattle.vl_loops.specs.Loops.{HasHeads}
use Rattle.vl_loops.specs.Rooms.{rows_of, scope_of, values_of, state_of}
use Rattle.vl_loops.proofs.SteppingOfHeader.{set-twice}
use Rattle.vl_unroll.specs.Heads.{AreReady}
use Rattle.vl_unroll.specs.Listed.{put_of, stm_unrolled_of, Item, item_unrolled_of}
use Rattle.vl_unroll.proofs.Rows.{exps-put}
use Rattle.vl_unroll.proofs.Names.{turns-ready}
use Rattle.vl_unroll.proofs.Lists.{list-unrolled, list-copies, list-turns, list-items, list-heads, case-heads, map-more}
use Rattle.vl_unroll.proofs.statements.+unroll.Goals as goal

pub item-returns-clause-text : goal.item-returns-clause-text
item-returns-clause-text t c =
    let rows = rows_of c.args.room.now in
    let values = values_of c.args.numbers.now in
    let one = c.args.one.now in
    let with_labels : p.Exps → Item = λ z. record { labels = z; body = stm_of c.in_ok-body.body } in
    let with_body : p.Stm → Item = λ z. record { labels = (item_unrolled_of (scope_of c.args.room.now) (state_of c.args.numbers.now) one).labels; body = z } in
    ap with_labels (exps-put rows values c.in_ok-labels.labels.items one.labels.items (c.in_ok-labels.ensures ∙ ap (map (put_of rows values)) c.as_slice.ensures.value))
    ∙ ap with_body c.in_ok-body.ensures.text

pub loop_unrolled-turns-requires : goal.loop_unrolled-turns-requires
loop_unrolled-turns-requires t c =
    let rows = rows_of c.args.room.now in
    let j = c.args.variable in
    let now = c.turns_of.new.numbers in
    let kept : now ≡ c.args.numbers.now = c.in_ok-values.ensures.kept in
    let vs = c.in_ok-values.values.numbers.items in
    let fits = subst (λ (z : List ℕ). All (λ (v : ℕ). AreReady rows (slice_set z j v)) vs) (sym kept) (turns-ready rows c.args.numbers.now j vs c.requires.ready c.in_ok-values.ensures.fits) in (
      search (rules, the_lemmas),
      (
        c.requires.header.variable,
        (
          subst (AreReady rows) (sym kept) c.requires.ready,
          (
            subst (λ (z : List ℕ). All (λ (v : ℕ). AreReady rows (slice_set now j v)) z) (sym c.as_slice.ensures.value) fits,
            c.requires.heads,
          ),
        ),
      ),
    )

pub loop_unrolled-returns-clause-text : goal.loop_unrolled-returns-clause-text
loop_unrolled-returns-clause-text t c =
    let scope = scope_of c.args.room.now in
    let old = c.args.numbers.now in
    let j = c.args.variable in
    let body = stm_of c.args.body.now in
    let kept : c.turns_of.new.numbers ≡ old = c.in_ok-values.ensures.kept in
    let text = c.in_ok-all.ensures.text in
    ap (p.Seq c.args.place) (list-turns scope (plain.exp (exp_of c.args.test.now)) (plain.stm [] (stm_of c.args.step.now)) body most_turns
    (exec scope (plain.stm [] (stm_of c.args.start.now)) (state_of old)) old j c.in_ok-values.values.numbers.items c.in_ok-values.values.endless c.in_ok-all.all c.in_ok-values.ensures.turns
    (text
    ∙ (ap (λ (z : List ℕ). map (λ (n : ℕ). stm_unrolled scope body (state_of (slice_set z j n))) c.as_slice.result.now) kept
    ∙ ap (map (λ (n : ℕ). stm_unrolled scope body (state_of (slice_set old j n)))) c.as_slice.ensures.value)))

pub statement-statements-requires : goal.statement-statements-requires
statement-statements-requires t c =
    let rows = rows_of c.args.room.now in
    let h = subst (λ n. HasHeads rows (node_stm c.args.s.now.place n)) c.in-Seq.is c.requires.heads in (
      search (rules, the_lemmas),
      (
        c.requires.ready,
        subst (λ (z : List Stmt). All (λ (x : Stmt). HasHeads rows (stm_of x)) z) (sym c.as_slice.ensures.value) (list-heads rows c.in-Seq.list h),
      ),
    )

pub statement-items-requires : goal.statement-items-requires
statement-items-requires t c =
    let rows = rows_of c.args.room.now in
    let h = subst (λ n. HasHeads rows (node_stm c.args.s.now.place n)) c.in-Case.is c.requires.heads in (
      search (rules, the_lemmas),
      (
        c.requires.ready,
        subst (λ (z : List CaseItem). All (λ (x : CaseItem). HasHeads rows (stm_of x.body)) z) (sym c.as_slice-in-Case.ensures.value) (case-heads rows c.in-Case.list h),
      ),
    )

pub statement-returns-in_ok-list-in-Seq-clause-text : goal.statement-returns-in_ok-list-in-Seq-clause-text
statement-returns-in_ok-list-in-Seq-clause-text t c =
    let scope = scope_of c.args.room.now in
    let e = state_of c.args.numbers.now in
    let at = c.args.s.now.place in
    ap (p.Seq at) (list-unrolled scope e c.in_ok-list-in-Seq.list c.in-Seq.list (c.in_ok-list-in-Seq.ensures.text ∙ ap (map (stm_unrolled_of scope e)) c.as_slice.ensures.value))
    ∙ sym (ap (λ n. stm_unrolled scope (node_stm at n) e) c.in-Seq.is)

pub statement-returns-in_ok-subject-in-Case-clause-text : goal.statement-returns-in_ok-subject-in-Case-clause-text
statement-returns-in_ok-subject-in-Case-clause-text t c =
    let scope = scope_of c.args.room.now in
    let e = state_of c.args.numbers.now in
    let at = c.args.s.now.place in
    let v = c.in_ok-list-in-Case.list in
    let x = exp_put (rows_of c.args.room.now) (values_of c.args.numbers.now) (exp_of c.in-Case.subject) in
    let kept : c.items.new.numbers ≡ c.args.numbers.now = c.in_ok-list-in-Case.ensures.kept in
    let subject : exp_of c.in_ok-subject-in-Case.subject ≡ exp_put (rows_of c.args.room.now) (values_of c.items.new.numbers) (exp_of c.in-Case.subject) = c.in_ok-subject-in-Case.ensures in
    ap (λ z. p.Case at z (row_items (hidden-the_row-CaseItem-1 v)) c.in-Case.wild) (subject ∙ ap (λ (z : List ℕ). exp_put (rows_of c.args.room.now) (values_of z) (exp_of c.in-Case.subject)) kept)
    ∙ (ap (λ z. p.Case at x z c.in-Case.wild) (list-items scope e v c.in-Case.list (c.in_ok-list-in-Case.ensures.text ∙ ap (map (item_unrolled_of scope e)) c.as_slice-in-Case.ensures.value))
    ∙ sym (ap (λ n. stm_unrolled scope (node_stm at n) e) c.in-Case.is))

pub statement-returns-in-For-clause-text : goal.statement-returns-in-For-clause-text
statement-returns-in-For-clause-text t c =
    let scope = scope_of c.args.room.now in
    let e = state_of c.args.numbers.now in
    let at = c.args.s.now.place in
    let k = c.in-For.variable in
    let test = exp_of c.in-For.test in
    let is =
    ap (λ (z : Stmt). p.For at k (stm_of c.deref-in-For-2.result.now) test (stm_of c.deref-in-For-3.result.now) (stm_of z)) c.deref-in-For.ensures
    ∙ (ap (λ (z : Stmt). p.For at k (stm_of z) test (stm_of c.deref-in-For-3.result.now) (stm_of c.in-For.body.value)) c.deref-in-For-2.ensures
    ∙ (ap (λ (z : Stmt). p.For at k (stm_of c.in-For.start.value) test (stm_of z) (stm_of c.in-For.body.value)) c.deref-in-For-3.ensures
    ∙ sym (ap (node_stm at) c.in-For.is))) in
    subst (λ (z : p.Stm). IfOk c.loop_unrolled.result (λ x. stm_of x ≡ stm_unrolled scope z e)) is c.loop_unrolled.ensures.text

pub statement-returns-in_ok-list-in-Repeat-clause-text : goal.statement-returns-in_ok-list-in-Repeat-clause-text
statement-returns-in_ok-list-in-Repeat-clause-text t c =
    let scope = scope_of c.args.room.now in
    let e = state_of c.args.numbers.now in
    let at = c.args.s.now.place in
    let body = stm_unrolled scope (stm_of c.in-Repeat.body.value) e in
    ap (p.Seq at) (list-copies c.in-Repeat.count body c.in_ok-list-in-Repeat.list
    (c.in_ok-list-in-Repeat.ensures.text ∙ ap (λ (z : Stmt). replicate c.in-Repeat.count (stm_unrolled scope (stm_of z) e)) c.deref-in-Repeat.ensures))
    ∙ sym (ap (λ n. stm_unrolled scope (node_stm at n) e) c.in-Repeat.is)

pub turns-loop-number-preserved : goal.turns-loop-number-preserved
turns-loop-number-preserved t c =
    let scope = scope_of c.args.room.now in
    let j = c.args.variable in
    let i = c.loop-number.invariant in
    let body = stm_of c.args.body.now in
    let x = get_or c.args.all_numbers.now c.loop-number.number-index 0 in
    let kept : c.turn.new.numbers ≡ slice_set c.loop-number.numbers j x = c.in_ok-turn.ensures.kept in
    record {
      ready = subst (AreReady (rows_of c.args.room.now)) (sym (kept ∙ i.others x)) (c.requires.fits c.loop-number.number-index 0 c.loop-number-test.true);
      others = λ v. ap (λ (z : List ℕ). slice_set z j v) kept ∙ (set-twice c.loop-number.numbers j x v ∙ i.others v);
      text = map-more (λ (n : ℕ). stm_unrolled scope body (state_of (slice_set c.args.numbers.now j n))) c.loop-number.all.items _ c.in_ok-turn.field-0 c.args.all_numbers.now c.loop-number.number-index c.loop-number-test.true
          c.in_ok-push.ensures.items i.text (c.in_ok-turn.ensures.text ∙ ap (λ (z : List ℕ). stm_unrolled scope body (state_of z)) (i.others x));
    }
