use Rattle.std.proofs.Common.{ℕ, ℤ, ◌<◌, ◌^◌, ◌∙◌, ◌≤◌, sym, subst, rules, arith, w64, SFits, to_z, of_z}
use Rattle.std.specs.Int.RustNames.{unsigned_abs}
use Rattle.std.proofs.lemmas.Int.{to_z-of_z}
use Rattle.vl_base.specs.Value.{truth}
use Rattle.vl_design.specs.Trees.{row_of}
use Rattle.vl_eval.specs.Rooms.{names_of}
use Rattle.cell_emit.specs.cell_form.specs.Views.{list_of}
use Rattle.cell_emit.specs.Slots.{held, Gives, Nothing}
use Rattle.cell_emit.proofs.Frames.{grows-then, in-stays}
use Rattle.cell_emit.proofs.Staying.{is-slot-stays, always-stays, gives-slot}
use Rattle.cell_expr.specs.Words.{found_in}
use Rattle.cell_expr.proofs.Addressing.{fits-small, chosen}
use Rattle.cell_expr.proofs.Holding.{resizes-most}
use Rattle.cell_expr.proofs.Words.{lowered}
use Rattle.cell_expr.proofs.address.choose.Goals as goal

pub resize-requires-clause-there : goal.resize-requires-clause-there
resize-requires-clause-there c = c.requires.address

pub returns-in_err-wide-clause-grows : goal.returns-in_err-wide-clause-grows
returns-in_err-wide-clause-grows c = c.resize.ensures.grows

pub moved-requires : goal.moved-requires
moved-requires c = record { slot = gives-slot Nothing _ (list_of c.args.cells.now) (list_of c.resize.new.cells) c.in_ok-wide.wide 128 _ c.in_ok-wide.ensures.gives }

pub returns-in_err-far-clause-grows : goal.returns-in_err-far-clause-grows
returns-in_err-far-clause-grows c = grows-then (list_of c.args.cells.now) (list_of c.resize.new.cells) (list_of c.moved.new.cells) c.in_ok-wide.ensures.grows c.moved.ensures.grows

pub found-requires-clause-wide : goal.found-requires-clause-wide
found-requires-clause-wide c =
    let l1 = list_of c.resize.new.cells in
    is-slot-stays l1 (list_of c.moved.new.cells) c.in_ok-wide.wide 128 c.in_ok-far.ensures.grows (gives-slot Nothing _ (list_of c.args.cells.now) l1 c.in_ok-wide.wide 128 _ c.in_ok-wide.ensures.gives)

pub found-requires-clause-moved : goal.found-requires-clause-moved
found-requires-clause-moved c = gives-slot Nothing 2 (list_of c.resize.new.cells) (list_of c.moved.new.cells) c.in_ok-far.far 128 _ c.in_ok-far.ensures.gives

pub returns-in_err-there-clause-grows : goal.returns-in_err-there-clause-grows
returns-in_err-there-clause-grows c =
    let l0 = list_of c.args.cells.now in
    let l1 = list_of c.resize.new.cells in
    let l2 = list_of c.moved.new.cells in
    let l3 = list_of c.found.new.cells in
    grows-then l0 l1 l3 c.in_ok-wide.ensures.grows (grows-then l1 l2 l3 c.in_ok-far.ensures.grows c.found.ensures.grows)

pub enabled-requires-clause-slot : goal.enabled-requires-clause-slot
enabled-requires-clause-slot c = gives-slot Nothing 2 (list_of c.moved.new.cells) (list_of c.found.new.cells) c.in_ok-there.there 1 _ c.in_ok-there.ensures.gives

pub returns-in_err-enable-clause-grows : goal.returns-in_err-enable-clause-grows
returns-in_err-enable-clause-grows c =
    let l0 = list_of c.args.cells.now in
    let l1 = list_of c.resize.new.cells in
    let l2 = list_of c.moved.new.cells in
    let l3 = list_of c.found.new.cells in
    let l4 = list_of c.enabled.new.cells in
    grows-then l0 l1 l4 c.in_ok-wide.ensures.grows (grows-then l1 l2 l4 c.in_ok-far.ensures.grows (grows-then l2 l3 l4 c.in_ok-there.ensures.grows c.enabled.ensures.grows))

pub resize-requires-2-clause-there : goal.resize-requires-2-clause-there
resize-requires-2-clause-there c =
    let l2 = list_of c.moved.new.cells in
    let l3 = list_of c.found.new.cells in
    let l4 = list_of c.enabled.new.cells in
    in-stays l2 l4 c.in_ok-far.far (grows-then l2 l3 l4 c.in_ok-there.ensures.grows c.in_ok-enable.ensures.grows) c.in_ok-far.ensures.gives.there

pub returns-in_err-number-clause-grows : goal.returns-in_err-number-clause-grows
returns-in_err-number-clause-grows c =
    let l0 = list_of c.args.cells.now in
    let l1 = list_of c.resize.new.cells in
    let l2 = list_of c.moved.new.cells in
    let l3 = list_of c.found.new.cells in
    let l4 = list_of c.enabled.new.cells in
    let l5 = list_of c.resize-2.new.cells in
    grows-then l0 l1 l5 c.in_ok-wide.ensures.grows
    (grows-then l1 l2 l5 c.in_ok-far.ensures.grows (grows-then l2 l3 l5 c.in_ok-there.ensures.grows (grows-then l3 l4 l5 c.in_ok-enable.ensures.grows c.resize-2.ensures.grows)))

pub enabled-requires-clause-here : goal.enabled-requires-clause-here
enabled-requires-clause-here c =
    let l0 = list_of c.args.cells.now in
    let l1 = list_of c.resize.new.cells in
    let l2 = list_of c.moved.new.cells in
    let l3 = list_of c.found.new.cells in
    is-slot-stays l0 l3 c.args.here 1 (grows-then l0 l1 l3 c.in_ok-wide.ensures.grows (grows-then l1 l2 l3 c.in_ok-far.ensures.grows c.in_ok-there.ensures.grows)) c.requires.here

pub enabled-requires-clause-zero : goal.enabled-requires-clause-zero
enabled-requires-clause-zero c =
    let l0 = list_of c.args.cells.now in
    let l1 = list_of c.resize.new.cells in
    let l2 = list_of c.moved.new.cells in
    let l3 = list_of c.found.new.cells in
    always-stays l0 l3 c.args.here 0 (grows-then l0 l1 l3 c.in_ok-wide.ensures.grows (grows-then l1 l2 l3 c.in_ok-far.ensures.grows c.in_ok-there.ensures.grows)) c.requires.here.there c.requires.zero

pub enabled-requires-clause-off : goal.enabled-requires-clause-off
enabled-requires-clause-off c =
    let l0 = list_of c.args.cells.now in
    let l1 = list_of c.resize.new.cells in
    let l2 = list_of c.moved.new.cells in
    let l3 = list_of c.found.new.cells in
    is-slot-stays l0 l3 c.args.off 1 (grows-then l0 l1 l3 c.in_ok-wide.ensures.grows (grows-then l1 l2 l3 c.in_ok-far.ensures.grows c.in_ok-there.ensures.grows)) c.requires.off

pub returns-clause-grows : goal.returns-clause-grows
returns-clause-grows c =
    let l0 = list_of c.args.cells.now in
    let l1 = list_of c.resize.new.cells in
    let l2 = list_of c.moved.new.cells in
    let l3 = list_of c.found.new.cells in
    let l4 = list_of c.enabled.new.cells in
    let l5 = list_of c.resize-2.new.cells in
    grows-then l0 l1 l5 c.in_ok-wide.ensures.grows
    (grows-then l1 l2 l5 c.in_ok-far.ensures.grows (grows-then l2 l3 l5 c.in_ok-there.ensures.grows (grows-then l3 l4 l5 c.in_ok-enable.ensures.grows c.in_ok-number.ensures.grows)))

pub returns-clause-chooses : goal.returns-clause-chooses
returns-clause-chooses c =
    let l0 = list_of c.args.cells.now in
    let l1 = list_of c.resize.new.cells in
    let l2 = list_of c.moved.new.cells in
    let l3 = list_of c.found.new.cells in
    let l4 = list_of c.enabled.new.cells in
    let l5 = list_of c.resize-2.new.cells in
    let row = c.signal_at-row.result.now in
    let lowest = c.lower-lowest.result in
    let a = c.args.address in
    let wide = c.in_ok-wide.wide in
    let far = c.in_ok-far.far in
    let there = c.in_ok-there.there in
    let fits : SFits w64 lowest = search rules in
    let z = to_z w64 (of_z w64 lowest) in
    let same = to_z-of_z w64 lowest fits in
    let value = c.word_count-words.ensures.value in
    let narrow = c.word_count-words.ensures.narrow in
    let many : (row_of row).words ≤ 2 ^ 32 = omega (arith, value, narrow) in
    let small = subst (λ (y : ℤ). unsigned_abs y < 2 ^ 64) (sym same) (fits-small lowest fits) in
    let found = subst (λ (n : ℕ). Gives Nothing 2 l2 l3 there 1 (λ b. truth (found_in a.signed z n (held b l2 wide) (held b l2 far)))) value c.in_ok-there.ensures.gives in
    chosen (names_of c.args.room.now).rows c.args.memory (row_of row) a c.args.off wide far there c.in_ok-enable.enable c.in_ok-number.number _ _ z l0 l1 l2 l3 l4 l5
    c.signal_at-row.ensures (same ∙ lowered lowest row.first row.last c.lower-lowest.ensures (search rules) (search rules)) small many c.requires.address c.requires.off.there (resizes-most _ 128) (resizes-most _ 32)
    c.in_ok-wide.ensures.gives c.in_ok-far.ensures.gives found c.in_ok-enable.ensures.gives c.in_ok-number.ensures.gives
