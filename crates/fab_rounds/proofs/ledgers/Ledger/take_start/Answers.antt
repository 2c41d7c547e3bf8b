use Rattle.std.proofs.Common.{sym, ◌∙◌}
use Rattle.fab_rounds.proofs.Taken.{on_ok, start_ended, start_moves, takes_done, takes_moving}
use Rattle.fab_rounds.proofs.ledgers.Ledger.take_start.Goals as goal

pub returns-then-is_some : goal.returns-then-is_some
returns-then-is_some c = let l = c.args.self.now in let s = c.args.start in
    on_ok c.insert_done.result (takes_done l c.insert_done.new.done s.transit c.requires.kept
    (start_ended l.loaded.value.items l.labels.value.items l.answers.items s c.ended.result c.requires.start c.requires.loaded (sym c.is_some.ensures ∙ c.if-is_some.true) c.ended.ensures.ends))
    c.insert_done.ensures

pub returns-else-is_some : goal.returns-else-is_some
returns-else-is_some c = let l = c.args.self.now in let s = c.args.start in let told = c.points_tell_of_tenants.ensures in
    on_ok c.insert_moving.result (takes_moving l c.insert_moving.new.moving _ c.requires.kept
    (start_moves l.loaded.value.items l.labels.value.items s.fabric s.transit c.ended.result c.requires.start c.requires.loaded (sym c.is_some.ensures ∙ c.if-is_some.false)
    c.tenants_at_rest_have_points.ensures told.boundary told.ended c.ended.ensures.reason c.ended.ensures.tenant))
    c.insert_moving.ensures
