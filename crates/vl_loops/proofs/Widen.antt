-- Values in longer widths, and of repetitions.
use Rattle.std.proofs.Common.{◌≡◌, ◌≤◌, ◌<◌, ◌^◌, ℕ, arith}
use Rattle.std.proofs.Math.Pow.{pow_mono}
use Rattle.vl_design.specs.declared.design.Form.{Form}
use Rattle.vl_design.specs.Width.{joined}
use Rattle.vl_loops.proofs.Names.{joined-width, named-width, signal-named, named-there}
use Rattle.vl_loops.proofs.Nears.{near-picked}
pub use Rattle.vl_base.proofs.Numbers.{fits_wider as longer-fits}

pub ruleset longer = (longer-fits)

pub joined-left : (a b : Form) → a.width ≤ (joined a b).width
joined-left a b = omega arith

pub joined-right : (a b : Form) → b.width ≤ (joined a b).width
joined-right a b = omega arith

pub ruleset contexts = (joined-left, joined-right, joined-width, named-width, signal-named, named-there)

pub ruleset picks = (near-picked)
