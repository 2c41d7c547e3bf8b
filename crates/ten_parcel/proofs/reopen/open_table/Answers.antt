use Rattle.std.proofs.Common.{take, add-one, sym, ap, ◌∙◌}
use Rattle.vl_eval.specs.vl_base.specs.Files.{closed, descriptor, with_file}
use Rattle.ten_parcel.proofs.Opening.{open-at, next-open}
use Rattle.ten_parcel.proofs.reopen.open_table.Goals as goal

pub reopen-requires-clause-there : goal.reopen-requires-clause-there
reopen-requires-clause-there c = open-at c.args.files.now 0 c.args.list.now c.loop-file.file-index c.file-item.result c.requires c.loop-file-test.true c.file-item.is

pub loop-file-preserved : goal.loop-file-preserved
loop-file-preserved c =
    let xs = c.args.list.now in
    let i = c.loop-file.file-index in
    let x = c.file-item.result in
    record {
      opened = c.reopen.ensures.table
          ∙ (ap (λ table. with_file x (closed table (descriptor x.slot))) c.loop-file.invariant.opened
          ∙ (next-open c.args.files.now 0 xs i x c.requires c.loop-file-test.true c.file-item.is ∙ ap (λ n. take n xs) (sym (add-one i))));
      fits = c.reopen.ensures.fits;
    }
