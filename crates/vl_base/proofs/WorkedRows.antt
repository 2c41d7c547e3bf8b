-- Worked rows of the definitions, computed by the prover.
use Rattle.std.proofs.Common.{◌≡◌, ◌+◌, ◌-◌, ◌^◌, true, false, [], ◌∷◌, refl}
use Rattle.std.specs.Prelude.{pos, negsuc, codes}
use Rattle.std.specs.Fmt.{digits}
use Rattle.vl_base.specs.declared.bits.UnOp.TheVariants.{Neg, RedXor}
use Rattle.vl_base.specs.declared.bits.BinOp.TheVariants.{Sub, Div, Rem, Xnor, Shl, Sshr, Lt}
use Rattle.vl_base.specs.Value.{unary_value, binary_value}
use Rattle.vl_base.specs.Selects.{picked, placed}
use Rattle.vl_base.specs.Display.{letter_text}
use Rattle.vl_base.specs.Files.{opened, at_end, read}

-- -12 / 3 in 32 bits, as signed and as unsigned numbers
row-1 : binary_value Div true 32 0xffff_fff4 3 ≡ 0xffff_fffc
row-1 = refl

row-2 : binary_value Div false 32 0xffff_fff4 3 ≡ 1431655761
row-2 = refl

row-3 : binary_value Rem true 32 0xffff_fff4 5 ≡ 0xffff_fffe
row-3 = refl

row-4 : binary_value Rem true 128 (2 ^ 128 - 7) (2 ^ 128 - 4) ≡ 2 ^ 128 - 3
row-4 = refl

row-5 : binary_value Shl false 128 1 (2 ^ 127) ≡ 0
row-5 = refl

row-6 : binary_value Sshr true 128 (2 ^ 127) (2 ^ 127) ≡ 2 ^ 128 - 1
row-6 = refl

row-7 : binary_value Sshr true 8 0x90 2 ≡ 0xe4
row-7 = refl

row-8 : binary_value Sshr false 8 0x90 2 ≡ 0x24
row-8 = refl

row-9 : binary_value Sub false 128 1 2 ≡ 2 ^ 128 - 1
row-9 = refl

row-10 : binary_value Lt true 128 (2 ^ 128 - 1) 0 ≡ 1
row-10 = refl

row-11 : unary_value RedXor 128 (2 ^ 127 + 2 ^ 64 + 1) ≡ 1
row-11 = refl

row-12 : unary_value Neg 128 (2 ^ 127) ≡ 2 ^ 127
row-12 = refl

row-13 : picked 8 0xa5 (pos 4) 8 ≡ 0x0a
row-13 = refl
