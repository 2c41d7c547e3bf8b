use Rattle.std.proofs.Common.{subst, sym, ◌∙◌}
use Rattle.fab_core.specs.ten_shell.specs.declared.shell.Why.{Why}
use Rattle.fab_rounds.specs.Ledgers.{IsLeft}
use Rattle.fab_rounds.proofs.Taken.{left_ended, left_moves, on_ok, takes_done, takes_moving}
use Rattle.fab_rounds.proofs.ledgers.Ledger.take_one.Goals as goal

pub returns-in-Move : goal.returns-in-Move
returns-in-Move c = let l = c.args.self.now in let t = c.args.leaving.transit in
    on_ok c.insert_moving.result (takes_moving l c.insert_moving.new.moving _ c.requires.kept
    (left_moves l.loaded.value.items l.labels.value.items t c.in-Move.fabric c.requires.kept.starts (subst (λ (y : Why). IsLeft l.loaded.value.items (record { transit = t; why = y })) c.in-Move.is c.requires.left) c.points_tell_of_tenants.ensures.ended))
    c.insert_moving.ensures

pub returns-in-Ended : goal.returns-in-Ended
returns-in-Ended c = let l = c.args.self.now in let t = c.args.leaving.transit in
    on_ok c.insert_done.result (takes_done l c.insert_done.new.done t c.requires.kept
    (left_ended l.loaded.value.items l.answers.items t c.in-Ended.field-0 c.ended.result (subst (λ (y : Why). IsLeft l.loaded.value.items (record { transit = t; why = y })) c.in-Ended.is c.requires.left) (sym c.is_some-ended.ensures ∙ c.if-prove.false) c.ended.ensures.ends))
    c.insert_done.ensures
