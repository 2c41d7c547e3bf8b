use Rattle.std.proofs.Common.{sym, ◌∙◌}
use Rattle.vl_bits.proofs.Testing.{met_bits, unmet_bits}
use Rattle.vl_bits.proofs.meets.is_met.Goals as goal

pub returns-then-is_net : goal.returns-then-is_net
returns-then-is_net c = met_bits c.args.signals.now c.args.known.now.items c.args.part c.known_of.result c.has_bit.result (sym c.is_net.ensures ∙ c.if-is_net.true) c.known_of.ensures.bits c.has_bit.ensures

pub returns-else-is_net : goal.returns-else-is_net
returns-else-is_net c = unmet_bits c.args.signals.now c.args.known.now.items c.args.part (sym c.is_net.ensures ∙ c.if-is_net.false)
