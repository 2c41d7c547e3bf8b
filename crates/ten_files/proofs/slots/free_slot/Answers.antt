use Rattle.std.proofs.Common.{◌≡◌, ◌∙◌, sym, true, false, arith}
use Rattle.vl_base.specs.Files.{is_taken}
use Rattle.ten_files.proofs.Tables.{slot-free, slot-past}
use Rattle.ten_files.specs.Tables.{open_files}
use Rattle.ten_files.proofs.Rows.{taken-at}
use Rattle.ten_files.proofs.slots.free_slot.Goals as goal

pub returns-then-is_none-clause-lowest : goal.returns-then-is_none-clause-lowest
returns-then-is_none-clause-lowest c =
    λ files.
    let slot = c.loop-slot.slot in
    let table = open_files files c.args.rows.now in
    let free : is_taken table slot ≡ false
    = taken-at files c.args.rows.now 0 slot slot (omega arith) (omega (arith, c.loop-slot-test.true)) ∙ c.if-is_none.ensures in
    sym (c.loop-slot.invariant files ∙ slot-free table slot c.loop-slot-test.true free)

pub loop-slot-preserved : goal.loop-slot-preserved
loop-slot-preserved c =
    λ files.
    let slot = c.loop-slot.slot in
    let table = open_files files c.args.rows.now in
    let taken : is_taken table slot ≡ true
    = taken-at files c.args.rows.now 0 slot slot (omega arith) (omega (arith, c.loop-slot-test.true)) ∙ c.if-is_none.ensures in
    c.loop-slot.invariant files ∙ slot-past table slot c.loop-slot-test.true taken
