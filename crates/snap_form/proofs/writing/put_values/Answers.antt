use Rattle.snap_form.proofs.Loops.{row-long, row-others, row-next, row-done, row_width_at}
use Rattle.snap_form.proofs.writing.put_values.Goals as goal

pub split_at-requires : goal.split_at-requires
split_at-requires c = row-long c.args.rows.now c.loop-row.row-index c.word_count.result _ c.loop-row.left.now c.loop-row-test.true c.row-item.is c.word_count.ensures c.loop-row.invariant.0

pub put_words-requires : goal.put_words-requires
put_words-requires c = row_width_at c.args.rows.now c.loop-row.row-index _ c.requires.rows c.loop-row-test.true c.row-item.is

pub loop-row-preserved : goal.loop-row-preserved
loop-row-preserved c = (
  row-others c.args.rows.now c.loop-row.row-index c.word_count.result _ c.loop-row.left.now _ c.loop-row-test.true c.row-item.is c.word_count.ensures c.split_at.ensures.back c.loop-row.invariant.0,
  rw c.in_ok-put_words.ensures (row-next c.args.rows.now c.loop-row.row-index c.word_count.result _ _ _ c.loop-row.left.now c.loop-row.out.items _ c.loop-row-test.true c.row-item.is c.word_count.ensures c.loop-row.invariant.0 c.split_at.ensures.front c.split_at.ensures.back c.loop-row.invariant.1),
)

pub returns : goal.returns
returns c = row-done c.args.rows.now c.loop-row.row-index c.loop-row.left.now c.loop-row.out.items _ c.loop-row-test.false c.loop-row.invariant.0 c.loop-row.invariant.1
