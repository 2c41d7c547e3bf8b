use Rattle.vl_design.proofs.Agreeing.{agrees}
use Rattle.vl_design.proofs.laws.acts_agree_with_the_queue.Goals as goal

pub returns : goal.returns
returns c = λ o k q u h b. agrees o u h b
