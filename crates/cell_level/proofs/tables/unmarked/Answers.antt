use Rattle.std.proofs.Common.{sym, ◌∙◌}
use Rattle.cell_level.proofs.Users.{among_users}
use Rattle.cell_level.proofs.tables.unmarked.Goals as goal

pub is_on-requires : goal.is_on-requires
is_on-requires c =
    let common = c.meet.ensures.yes c.if-meet.true in
    c.requires _ common.0 (among_users c.args.users.now c.loop-user.user-index _ common.0 c.loop-user-test.true common.1)

pub returns-then-not-is_on-clause-some : goal.returns-then-not-is_on-clause-some
returns-then-not-is_on-clause-some c =
    let common = c.meet.ensures.yes c.if-meet.true in
    (sym c.is_on.ensures ∙ c.if-not-is_on.true, (common.0, among_users c.args.users.now c.loop-user.user-index _ common.0 c.loop-user-test.true common.1, common.2))
