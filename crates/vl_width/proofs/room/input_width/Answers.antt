use Rattle.std.proofs.Common.{refl, ◌∙◌, ap, sym, subst, arith}
use Rattle.vl_design.specs.Sound.{IsWidth}
use Rattle.vl_width.specs.Room.{names_of}
use Rattle.vl_width.proofs.Owning.{input-there, input-at}
use Rattle.vl_width.proofs.room.input_width.Goals as goal

pub bounds-room-function : goal.bounds-room-function
bounds-room-function c = input-there (names_of c.args.room.now) c.args.room.now.functions.now c.args.function c.args.i refl c.requires.within

pub signal_form-requires : goal.signal_form-requires
signal_form-requires c =
    let names = names_of c.args.room.now in
    let there = input-there names c.args.room.now.functions.now c.args.function c.args.i refl c.requires.within in
    let at = input-at names c.args.room.now.functions.now c.args.function c.args.i c.index-room-function.result refl there c.requires.within in
    rw (c.as_slice.ensures, c.as_slice-2.ensures) (subst IsWidth at (c.requires.inputs c.args.function c.args.i 0 c.requires.within))

pub returns-clause-value : goal.returns-clause-value
returns-clause-value c =
    let names = names_of c.args.room.now in
    let there = input-there names c.args.room.now.functions.now c.args.function c.args.i refl c.requires.within in
    let at = input-at names c.args.room.now.functions.now c.args.function c.args.i c.index-room-function.result refl there c.requires.within in
    let e = c.signal_form.ensures in
    ap (λ f. f.width) (rw (c.as_slice.ensures, c.as_slice-2.ensures) at e) ∙ sym at

pub returns-clause-small : goal.returns-clause-small
returns-clause-small c =
    let names = names_of c.args.room.now in
    let there = input-there names c.args.room.now.functions.now c.args.function c.args.i refl c.requires.within in
    let at = input-at names c.args.room.now.functions.now c.args.function c.args.i c.index-room-function.result refl there c.requires.within in
    let e = c.signal_form.ensures in
    let w = ap (λ f. f.width) (rw (c.as_slice.ensures, c.as_slice-2.ensures) at e) ∙ sym at in
    let n = (c.requires.inputs c.args.function c.args.i 0 c.requires.within).narrow in
    rw w (omega arith)
