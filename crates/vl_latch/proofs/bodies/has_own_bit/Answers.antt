use Rattle.std.proofs.Common.{◌≡◌, true, sym, ◌∙◌}
use Rattle.vl_design.specs.Trees.{fun_of}
use Rattle.vl_bits.specs.Seen.{names_seen}
use Rattle.vl_latch.specs.Partly.{is_own}
use Rattle.vl_latch.proofs.Testing.{no_own_bit, not_both, own_bit}
use Rattle.vl_latch.proofs.bodies.has_own_bit.Goals as goal

pub returns-then-is_own : goal.returns-then-is_own
returns-then-is_own c = own_bit (λ k. is_own (names_seen c.args.m.now) (fun_of c.args.f.now) k ≡ true) c.args.part c.has_bit.result (sym c.is_own.ensures ∙ c.if-is_own.true) c.has_bit.ensures

pub returns-else-is_own : goal.returns-else-is_own
returns-else-is_own c = no_own_bit (λ k. is_own (names_seen c.args.m.now) (fun_of c.args.f.now) k ≡ true) c.args.part (λ h. not_both c.is_own.result (c.is_own.ensures ∙ h) c.if-is_own.false)
