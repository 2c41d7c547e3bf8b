use Rattle.std.proofs.Common.{sym, ◌∙◌}
use Rattle.elab_plain.specs.SeenItems.{seen_connection}
use Rattle.elab_instance.specs.Tables.{joined}
use Rattle.elab_instance.proofs.Joins.{connect-known, joined-insert, joined-some}
use Rattle.elab_instance.proofs.connections.connect.Goals as goal

pub returns-then-contains_key : goal.returns-then-contains_key
returns-then-contains_key c = sym (connect-known (joined c.args.table.now) c.args.name.now (seen_connection c.args.connection.now)
    (sym (joined-some c.args.table.now c.args.name.now) ∙ sym c.contains_key.ensures ∙ c.if-contains_key.true))

pub returns : goal.returns
returns c = joined-insert c.args.table.now c.insert.new.self c.args.name.now c.args.connection c.in_ok-insert.ensures.updates
    (sym (joined-some c.args.table.now c.args.name.now) ∙ sym c.contains_key.ensures ∙ c.if-contains_key.false)
