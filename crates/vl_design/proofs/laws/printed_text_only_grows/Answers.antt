use Rattle.vl_design.proofs.Rising.{boundaries_grow}
use Rattle.vl_design.proofs.laws.printed_text_only_grows.Goals as goal

pub returns : goal.returns
returns c = λ o j k a b x y h. boundaries_grow x y h
