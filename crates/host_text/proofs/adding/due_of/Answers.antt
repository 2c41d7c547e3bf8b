use Rattle.std.proofs.Common.{Option, ℕ, unwrap_or, ap, sym, ◌∙◌}
use Rattle.host_text.specs.declared.statement.Order.{Order}
use Rattle.host_text.specs.Seen.{order_seen}
use Rattle.ten_plan.specs.declared.plan.Due.TheVariants as due
use Rattle.host_text.specs.Scripts.{due_of}
use Rattle.host_text.specs.Drafts.{drafted}
use Rattle.host_text.proofs.adding.due_of.Goals as goal

pub returns-in-Move : goal.returns-in-Move
returns-in-Move c = ap due.Move (c.unwrap_or.ensures ∙ ap (λ (o : Option ℕ). unwrap_or o 0) (c.number.ensures ∙ c.requires.fabrics c.in-Move.fabric.now))
    ∙ ap (λ (o : Order). due_of (drafted c.args.reading.now) (order_seen o)) (sym c.in-Move.is)
