use Rattle.std.proofs.Common.{length}
use Rattle.vl_eval.specs.vl_design.specs.Trees.{flat_of}
use Rattle.ten_core.specs.cell_form.specs.Views.{bank_of}
use Rattle.sub_nodes.specs.Early.{early_from}
use Rattle.ten_form.specs.Registers.{register_count}
use Rattle.ten_parcel.proofs.Banking.{bank-fits, bank-holds}
use Rattle.ten_parcel.proofs.bank.boundary_bank.Goals as goal

pub returns : goal.returns
returns c =
    let image = c.args.image.now in
    let d = flat_of image.design in
    let m = c.args.m.now in
    let b = bank_of c.in_ok-bank.bank in
    let is = c.in_ok-bank.ensures.bank in
    let are = c.stores_are_of_memories.ensures.first d (register_count (length d.rows)) (early_from d) c.requires.sound c.requires.unrolled in
    record {
      fits = bank-fits d m image.stores image.slots image.rise b is c.requires.fine c.requires.stores;
      holds = bank-holds d m image.stores image.slots image.rise b is c.requires.fine are c.requires.few c.in_ok-bank.ensures.small;
    }
