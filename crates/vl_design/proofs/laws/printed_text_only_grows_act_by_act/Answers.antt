use Rattle.vl_design.proofs.Acting.{acts_grow}
use Rattle.vl_design.proofs.laws.printed_text_only_grows_act_by_act.Goals as goal

pub returns : goal.returns
returns c = λ o b c p r x y h. acts_grow x y h
