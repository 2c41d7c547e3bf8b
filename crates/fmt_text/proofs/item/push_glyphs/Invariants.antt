use Rattle.std.proofs.Common.{◌≡◌, ◌++◌, drop}
use Rattle.vl_design.specs.vl_base.specs.Display.{glyphs}
use Rattle.fmt_text.proofs.item.push_glyphs.Given as goal

abbrev pub invariant-loop-digit : goal.invariant-loop-digit
invariant-loop-digit l = l.printed.items ++ glyphs (drop l.digit-index l.digits) ≡ l.initial.printed.items ++ glyphs l.digits
