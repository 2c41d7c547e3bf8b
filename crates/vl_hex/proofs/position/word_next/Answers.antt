use Rattle.std.proofs.Common.{refl, [], ◌∷◌}
use Rattle.std.specs.Prelude.{None}
use Rattle.vl_design.specs.ReadHex as h
use Rattle.vl_hex.proofs.Reading.{not-equal, ends-not, no-digit, some-digit}
use Rattle.vl_hex.proofs.position.word_next.Goals as goal

pub returns-in-None-hex_digit : goal.returns-in-None-hex_digit
returns-in-None-hex_digit c w v n e =
    let xs = h.Loads v ∷ [] in
    let other = h.digit_next h.InWord v (h.hex_digit c.args.byte) in
    let z = not-equal c.args.byte 95 c.if-byte-eq95.false in
    rw z
    (ends-not w c.args.byte xs other (h.end_next xs c.args.byte other) None refl (c.in-None.ensures w xs other (e, tt))
    (no-digit w v c.args.byte h.InWord c.in-None-hex_digit.ensures.value))
