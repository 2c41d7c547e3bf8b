use Rattle.host_text.proofs.Ordered.{like-with}
use Rattle.host_text.proofs.text_laws.errands_keep_their_order.Goals as goal

pub returns : goal.returns
returns c = λ es e d h. like-with d e es h
