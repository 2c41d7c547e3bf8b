use Rattle.std.proofs.Common.{ℕ, ◌+◌, length, ap, ◌∙◌, arith}
use Rattle.std.proofs.lemmas.List.{length_push}
use Rattle.vl_check.specs.Tables.{rows_of}
use Rattle.vl_check.proofs.Freeing.{nets-none, nets-more}
use Rattle.vl_check.proofs.Tabling.{row-at}
use Rattle.vl_check.proofs.free.nets.Goals as goal

pub loop-f-init : goal.loop-f-init
loop-f-init c = record {
  long = ap length c.new-nets.ensures.items;
  nets = nets-none (rows_of c.args.table.now) c.new-nets.result.items;
}

pub loop-f-preserved : goal.loop-f-preserved
loop-f-preserved c =
    let v = c.loop-f.invariant in
    let table = c.args.table.now in
    record {
      long = ap length c.in_ok-push.ensures.items ∙ length_push c.loop-f.nets.items c.in_ok-net.net ∙ ap (λ (n : ℕ). n + 1) v.long;
      nets = nets-more (rows_of table) c.loop-f.nets.items c.push.new.self.items c.in_ok-net.net c.loop-f.f c.as_slice.result.now c.in_ok-push.ensures.items v.long
          (row-at table c.loop-f.f c.index-table-f.result c.as_slice.result.now c.loop-f-test.true c.index-table-f.is c.as_slice.ensures.value) c.in_ok-net.ensures v.nets;
    }

pub returns-clause-nets : goal.returns-clause-nets
returns-clause-nets c f l = let m = c.loop-f-test.false in c.loop-f.invariant.nets f (omega (arith, l, m))
