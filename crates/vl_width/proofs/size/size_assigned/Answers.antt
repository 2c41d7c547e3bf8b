use Rattle.std.proofs.Common.{◌≡◌, ◌∙◌, ap, max}
use Rattle.vl_design.specs.Sized.{sized_of}
use Rattle.vl_design.specs.Trees.{exp_of}
use Rattle.vl_design.specs.Width.{form, assigned}
use Rattle.vl_width.specs.Widths.{form_of}
use Rattle.vl_width.specs.Sizing.{own, read_at}
use Rattle.vl_width.specs.Room.{names_of}
use Rattle.vl_width.proofs.Forms.{form-is}
use Rattle.vl_width.proofs.Keeping.{assigned-fits}
use Rattle.vl_width.proofs.WellFormed.{well, kept, assigned-wide}
use Rattle.vl_width.proofs.size.size_assigned.Goals as goal

pub returns-clause-value : goal.returns-clause-value
returns-clause-value c =
    let names = names_of c.args.room.now in
    let e = exp_of c.args.e.now in
    let f : c.form_of-form.result ≡ form names e = c.form_of-form.ensures.value ∙ ap form_of c.in_ok-x.ensures in
    let w : c.max.result ≡ max c.args.width c.form_of-form.result.width = c.max.ensures ∙ ap (λ w. max w c.form_of-form.result.width) c.from.ensures in
    let is = c.read_at.ensures ∙ (ap (λ x. read_at x (record { width = c.max.result; signed = c.form_of-form.result.signed })) c.in_ok-x.ensures
    ∙ (ap (λ w. read_at (own names e) (record { width = w; signed = c.form_of-form.result.signed })) w ∙ ap (λ f. read_at (own names e) (assigned c.args.width f)) f)) in
    kept names e (assigned c.args.width (form names e)) (sized_of c.read_at.new.x) c.requires.sound (assigned-fits c.args.width (form names e)) is

pub returns-clause-sized : goal.returns-clause-sized
returns-clause-sized c =
    let names = names_of c.args.room.now in
    let e = exp_of c.args.e.now in
    let f : c.form_of-form.result ≡ form names e = c.form_of-form.ensures.value ∙ ap form_of c.in_ok-x.ensures in
    let w : c.max.result ≡ max c.args.width c.form_of-form.result.width = c.max.ensures ∙ ap (λ w. max w c.form_of-form.result.width) c.from.ensures in
    let is = c.read_at.ensures ∙ (ap (λ x. read_at x (record { width = c.max.result; signed = c.form_of-form.result.signed })) c.in_ok-x.ensures
    ∙ (ap (λ w. read_at (own names e) (record { width = w; signed = c.form_of-form.result.signed })) w ∙ ap (λ f. read_at (own names e) (assigned c.args.width f)) f)) in
    well names c.requires.inputs e (assigned c.args.width (form names e)) (sized_of c.read_at.new.x) c.requires.sound
    (assigned-wide c.args.width (form names e) c.requires.narrow (form-is names e c.requires.sound)) (assigned-fits c.args.width (form names e)) is
