-- What the lexer's own values stand for.
use Rattle.std.specs.Prelude.{Option, Some, None}
use Rattle.vl_lex.specs.declared.step.Step.{Step}
use Rattle.vl_lex.specs.declared.step.Step.TheVariants as s
use Rattle.vl_lex.specs.declared.numbers.Behind.{Behind}
use Rattle.vl_lex.specs.Reading.{Next, over, found, stuck, Parts}

abbrev pub seen : Step → Next
seen (s.Gap rest) = over rest.now
seen (s.Token kind rest) = found kind rest.now
seen (s.Fault cause) = stuck cause

abbrev pub parts_seen : Option Behind → Option Parts
parts_seen None = None
parts_seen (Some d) = Some (record { signed = d.signed; radix = d.radix; digits = d.digits.now; rest = d.rest.now })
