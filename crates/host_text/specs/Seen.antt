-- The statements that the program's values stand for.
use Rattle.std.specs.Prelude.{ℕ, Bool, Option, Result, Ok, Err, option_map}
use Rattle.host_text.specs.declared.statement.Order.{Order as Written_order}
use Rattle.host_text.specs.declared.statement.Order.TheVariants as o
use Rattle.host_text.specs.declared.statement.Statement.{Statement as Written}
use Rattle.host_text.specs.declared.statement.Statement.TheVariants as w
use Rattle.host_text.specs.Statements as s

abbrev pub order_seen : Written_order → s.Order
order_seen (o.Move fabric) = s.Move fabric.now
order_seen (o.Save name) = s.Save name.now
order_seen o.Stop = s.Stop

abbrev pub seen_order : Bool × Written_order → Bool × s.Order
seen_order a = (a.0, order_seen a.1)

abbrev pub seen : Written → s.Statement
seen (w.Fabric name capacity) = s.Fabric name.now capacity
seen (w.Tenant name source fabric budget) = s.Tenant name.now source.now fabric.now budget
seen (w.File tenant name path) = s.File tenant.now name.now path.now
seen (w.Resume tenant path) = s.Resume tenant.now path.now
seen (w.At tenant tick order) = s.At tenant.now tick (order_seen order)
seen (w.Free tenant order) = s.Free tenant.now (order_seen order)
seen (w.Watch tenant) = s.Watch tenant.now

abbrev pub seen_answer : Result Written ℕ → Result s.Statement ℕ
seen_answer (Ok a) = Ok (seen a)
seen_answer (Err cause) = Err cause

abbrev pub seen_said : Result (Option Written) ℕ → Result (Option s.Statement) ℕ
seen_said (Ok a) = Ok (option_map seen a)
seen_said (Err cause) = Err cause
