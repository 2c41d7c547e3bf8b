use Rattle.std.proofs.Common.{◌∙◌, ap, arith}
use Rattle.vl_design.specs.declared.design.Form.{Form}
use Rattle.vl_design.specs.Sized.{sized_of}
use Rattle.vl_design.specs.Trees.{exp_of}
use Rattle.vl_design.specs.Width.{form}
use Rattle.vl_design.specs.Sound.{IsWidth}
use Rattle.vl_width.specs.Sizing.{own, read_at}
use Rattle.vl_width.specs.Room.{names_of}
use Rattle.vl_width.proofs.Forms.{Fits, form-is}
use Rattle.vl_width.proofs.WellFormed.{well, kept}
use Rattle.vl_width.proofs.size.size.Goals as goal

pub returns-clause-value : goal.returns-clause-value
returns-clause-value c =
    let names = names_of c.args.room.now in
    let e = exp_of c.args.e.now in
    let context : Form = record { width = c.args.width; signed = c.args.signed } in
    let is = c.read_at.ensures ∙ (ap (λ x. read_at x (record { width = c.from.result; signed = c.args.signed })) c.in_ok-x.ensures ∙ ap (λ w. read_at (own names e) (record { width = w; signed = c.args.signed })) c.from.ensures) in
    let fits : Fits (form names e) context = record { wide = c.requires.wide; signed = c.requires.signed } in
    kept names e context (sized_of c.read_at.new.x) c.requires.sound fits is

pub returns-clause-sized : goal.returns-clause-sized
returns-clause-sized c =
    let names = names_of c.args.room.now in
    let e = exp_of c.args.e.now in
    let context : Form = record { width = c.args.width; signed = c.args.signed } in
    let is = c.read_at.ensures ∙ (ap (λ x. read_at x (record { width = c.from.result; signed = c.args.signed })) c.in_ok-x.ensures ∙ ap (λ w. read_at (own names e) (record { width = w; signed = c.args.signed })) c.from.ensures) in
    let fits : Fits (form names e) context = record { wide = c.requires.wide; signed = c.requires.signed } in
    let k = (form-is names e c.requires.sound).wide in
    let w = c.requires.wide in
    let width : IsWidth c.args.width = record { wide = omega arith; narrow = c.requires.narrow } in
    well names c.requires.inputs e context (sized_of c.read_at.new.x) c.requires.sound width fits is
