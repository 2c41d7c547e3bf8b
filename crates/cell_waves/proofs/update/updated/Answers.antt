use Rattle.std.proofs.Common.{Some, subst}
use Rattle.cell_emit.specs.cell_form.specs.Views.{list_of}
use Rattle.cell_waves.proofs.Replacing.{six-longer, update-held}
use Rattle.cell_waves.specs.Applies.{HoldsUpdate}
use Rattle.cell_waves.proofs.update.updated.Goals as goal

pub returns-in_ok-slot-in-Some-clause-longer : goal.returns-in_ok-slot-in-Some-clause-longer
returns-in_ok-slot-in-Some-clause-longer c =
    let g1 = rw c.register.ensures at c.in_ok-old-in-Some.ensures.gives in
    let g2 = rw c.register-in-Some-2.ensures at c.in_ok-new-in-Some.ensures.gives in
    let g3 = rw c.register-in-Some-4.ensures at c.in_ok-mask-in-Some.ensures.gives in
    six-longer c.in-Some.width c.args.number c.in_ok-old-in-Some.old c.in_ok-new-in-Some.new c.in_ok-mask-in-Some.mask c.in_ok-slot-in-Some.slot (list_of c.args.cells.now) (list_of c.register-in-Some.new.cells)
    (list_of c.register-in-Some-3.new.cells) (list_of c.register-in-Some-5.new.cells) (list_of c.replaced.new.cells) g1 g2 g3 c.in_ok-slot-in-Some.ensures.gives

pub returns-in_ok-slot-in-Some-clause-updates : goal.returns-in_ok-slot-in-Some-clause-updates
returns-in_ok-slot-in-Some-clause-updates c v n w =
    let g1 = rw c.register.ensures at c.in_ok-old-in-Some.ensures.gives in
    let g2 = rw c.register-in-Some-2.ensures at c.in_ok-new-in-Some.ensures.gives in
    let g3 = rw c.register-in-Some-4.ensures at c.in_ok-mask-in-Some.ensures.gives in
    subst (λ x. HoldsUpdate x c.args.number (list_of c.replaced.new.cells) (Some c.in_ok-slot-in-Some.slot)) c.in-Some.ensures.within.0
    (update-held c.in-Some.width c.args.number c.in_ok-old-in-Some.old c.in_ok-new-in-Some.new c.in_ok-mask-in-Some.mask c.in_ok-slot-in-Some.slot (list_of c.args.cells.now) (list_of c.register-in-Some.new.cells)
    (list_of c.register-in-Some-3.new.cells) (list_of c.register-in-Some-5.new.cells) (list_of c.replaced.new.cells) g1 g2 g3 c.in_ok-slot-in-Some.ensures.gives)
