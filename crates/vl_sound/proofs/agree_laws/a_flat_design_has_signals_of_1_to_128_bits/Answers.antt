use Rattle.vl_sound.proofs.WidthsOfAgree.{widths}
use Rattle.vl_sound.proofs.agree_laws.a_flat_design_has_signals_of_1_to_128_bits.Goals as goal

pub returns : goal.returns
returns c = record { signals = λ s d e. (widths s d e).signals; locals = λ s d e. (widths s d e).locals }
