use Rattle.std.proofs.Common.{refl, [], ◌∷◌}
use Rattle.std.specs.Prelude.{Some, None}
use Rattle.vl_hex.specs.declared.position.Position.TheVariants as p
use Rattle.vl_hex.specs.declared.position.Step.TheVariants as s
use Rattle.vl_design.specs.ReadHex as h
use Rattle.vl_hex.proofs.Reading.{not-equal, ends-not, no-digit, some-digit}
use Rattle.vl_hex.proofs.position.address_next.Goals as goal

pub returns-in-None-hex_digit : goal.returns-in-None-hex_digit
returns-in-None-hex_digit c w a n =
    let xs = h.Goes a ∷ [] in
    let other = h.digit_next h.InAddress a (h.hex_digit c.args.byte) in
    ends-not w c.args.byte xs other (h.end_next xs c.args.byte other) None refl (c.in-None.ensures w xs other (n, tt))
    (no-digit w a c.args.byte h.InAddress c.in-None-hex_digit.ensures.value)

pub returns-in-Some-hex_digit : goal.returns-in-Some-hex_digit
returns-in-Some-hex_digit c w a n =
    let xs = h.Goes a ∷ [] in
    let other = h.digit_next h.InAddress a (h.hex_digit c.args.byte) in
    let q = p.InAddress c.address_with_digit.result in
    rw c.on.ensures
    (ends-not w c.args.byte xs other (h.end_next xs c.args.byte other) (Some (record { step = s.Nothing; position = q })) refl (c.in-None.ensures w xs other (n, tt))
    (some-digit w a c.args.byte c.in-Some-hex_digit.digit h.InAddress q c.in-Some-hex_digit.ensures.value (c.address_with_digit.ensures a n)))
