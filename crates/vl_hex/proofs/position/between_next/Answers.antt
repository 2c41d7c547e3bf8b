use Rattle.std.proofs.Common.{refl, [], ℕ, List}
use Rattle.std.specs.Prelude.{None}
use Rattle.vl_design.specs.ReadHex as h
use Rattle.vl_hex.proofs.Reading.{not-equal, ends-not, no-digit, some-digit}
use Rattle.vl_hex.proofs.position.between_next.Goals as goal

pub returns-in-None-hex_digit : goal.returns-in-None-hex_digit
returns-in-None-hex_digit c w =
    let xs : List h.Step = [] in
    let other = h.digit_next h.InWord 0 (h.hex_digit c.args.byte) in
    let z = not-equal c.args.byte 64 c.if-byte-eq64.false in
    rw z
    (ends-not w c.args.byte xs other (h.end_next xs c.args.byte other) None refl (c.in-None.ensures w xs other tt)
    (no-digit w 0 c.args.byte h.InWord c.in-None-hex_digit.ensures.value))
