use Rattle.std.proofs.Common.{refl, ap, ◌∙◌, List, [], ◌∷◌, ◌++◌, Vec}
use Rattle.std.specs.declared.alloc.Global.{Global}
use Rattle.fab_desk.specs.fab_bay.specs.declared.leaving.Leaving.{Leaving}
use Rattle.fab_rounds.proofs.Steps.{nothing_low, nothing_outs, steps_idle, steps_out, turn_low, turn_out, turn_outs}
use Rattle.fab_rounds.proofs.workers.Worker.step.Goals as goal

pub returns-then-is_err : goal.returns-then-is_err
returns-then-is_err g c = steps_idle c.args.desk.now c.args.self.now _ c.requires c.requires.seat refl c.reserve.ensures.items refl (λ f. refl)

pub returns-in_default : goal.returns-in_default
returns-in_default g c = let d = c.in_default.ensures.err in let w = c.args.self.now in
    steps_idle c.args.desk.now w _ c.requires c.turn.ensures.seat refl c.reserve.ensures.items (nothing_low c.args.desk.now.label w.seat.view c.turn.new.seat.view d)
    (nothing_outs c.args.desk.now.label w.seat.view c.turn.new.seat.view d)

pub returns : goal.returns
returns g c = let d = c.in-Ok.ensures.turned in let w = c.args.self.now in let label = c.args.desk.now.label in
    steps_out c.args.desk.now w _ c.in-Ok.turn.leaving c.requires c.turn.ensures.seat refl (c.push_reserved.ensures.items ∙ ap (λ (l : List (Vec Leaving Global)). l ++ c.in-Ok.turn.leaving ∷ []) c.reserve.ensures.items)
    (turn_low label 4096 w.seat.view c.turn.new.seat.view c.in-Ok.turn d)
    (turn_out label 4096 w.seat.view c.turn.new.seat.view c.in-Ok.turn d)
    (turn_outs label 4096 w.seat.view c.turn.new.seat.view c.in-Ok.turn d)
