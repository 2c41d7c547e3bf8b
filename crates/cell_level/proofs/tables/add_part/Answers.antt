use Rattle.cell_level.proofs.Users.{put_in}
use Rattle.cell_level.proofs.tables.add_part.Goals as goal

pub returns-clause-part : goal.returns-clause-part
returns-clause-part c =
    put_in c.args.table.now.items c.args.part c.args.net c.index_mut.result.now c.push.new.self c.requires c.index_mut.ensures.value c.in_ok-push.ensures.items
