use Rattle.std.proofs.Common.{◌≡◌, sym, ◌∙◌, map, subst, IfOk}
use Rattle.elab_plain.specs.SeenItems.{seen_connection}
use Rattle.elab_instance.specs.Tables.{Joined, joined, nows}
use Rattle.elab_instance.proofs.Joins.{among-law, in_order-law}
use Rattle.elab_instance.proofs.connections.connections_of.Goals as goal

pub returns-then-by_name : goal.returns-then-by_name
returns-then-by_name c = subst (λ (z : Joined). IfOk c.among.result (λ table. joined table ≡ z)) (among-law (nows c.args.names.now) (map seen_connection c.args.list.now) (sym c.by_name.ensures ∙ c.if-by_name.true)) c.among.ensures

pub returns-else-by_name : goal.returns-else-by_name
returns-else-by_name c = subst (λ (z : Joined). IfOk c.in_order.result (λ table. joined table ≡ z)) (in_order-law (nows c.args.names.now) (map seen_connection c.args.list.now) (sym c.by_name.ensures ∙ c.if-by_name.false)) c.in_order.ensures
