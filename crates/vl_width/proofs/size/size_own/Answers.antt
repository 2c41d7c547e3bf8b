use Rattle.std.proofs.Common.{◌∙◌, ap, sym}
use Rattle.vl_design.specs.Value.{value}
use Rattle.vl_design.specs.Sized.{sized_of}
use Rattle.vl_design.specs.Trees.{exp_of}
use Rattle.vl_design.specs.Width.{form}
use Rattle.vl_width.specs.Widths.{form_of}
use Rattle.vl_width.specs.Sizing.{own, read_at}
use Rattle.vl_width.specs.Room.{names_of}
use Rattle.vl_width.proofs.Forms.{form-is, itself}
use Rattle.vl_width.proofs.WellFormed.{well, kept}
use Rattle.vl_width.proofs.size.size_own.Goals as goal

pub returns-clause-value : goal.returns-clause-value
returns-clause-value c =
    let names = names_of c.args.room.now in
    let e = exp_of c.args.e.now in
    let is = c.read_at.ensures ∙ (ap (λ x. read_at x c.form_of-form.result) c.in_ok-x.ensures ∙ ap (read_at (own names e)) (c.form_of-form.ensures.value ∙ ap form_of c.in_ok-x.ensures)) in
    λ scope s n. kept names e (form names e) (sized_of c.read_at.new.x) c.requires.sound (itself (form names e)) is scope s n ∙ ap (λ names. value scope s e (form names e)) (sym n)

pub returns-clause-sized : goal.returns-clause-sized
returns-clause-sized c =
    let names = names_of c.args.room.now in
    let e = exp_of c.args.e.now in
    let is = c.read_at.ensures ∙ (ap (λ x. read_at x c.form_of-form.result) c.in_ok-x.ensures ∙ ap (read_at (own names e)) (c.form_of-form.ensures.value ∙ ap form_of c.in_ok-x.ensures)) in
    well names c.requires.inputs e (form names e) (sized_of c.read_at.new.x) c.requires.sound (form-is names e c.requires.sound) (itself (form names e)) is
