-- Where a part of a source stands.
use Rattle.std.specs.Prelude.{ℕ, ◌+◌, true, false}
use Rattle.vl_tree.specs.declared.tree.SelectMark.{SelectMark}
use Rattle.vl_tree.specs.declared.tree.SelectMark.TheVariants as m
use Rattle.vl_uses.specs.declared.setting.Setting.{Setting}
use Rattle.vl_uses.specs.declared.setting.Side.{Side}
use Rattle.vl_uses.specs.declared.setting.Side.TheVariants as s

-- outside processes and constants, behind so many declared parameters
abbrev pub behind : ℕ → Setting
behind n = record { constant = false; timed = false; parameters = n }

-- in a constant place there
abbrev pub constantly : Setting → Setting
constantly k = record k { constant = true }

-- in an initial or a clocked process there
abbrev pub timely : Setting → Setting
timely k = record k { timed = true }

-- behind so many more parameters
abbrev pub later : Setting → ℕ → Setting
later k n = record k { parameters = k.parameters + n }

-- what stands before the mark of a select: a constant, where the mark is `:`; behind a mark stands a constant (clause 5.2.1)
abbrev pub before_mark : SelectMark → Setting → Setting
before_mark m.Range k = constantly k
before_mark m.Up k = k
before_mark m.Down k = k

-- the indices on a left side: constants, where the assignment is continuous (clause 6.1.3)
abbrev pub of_index : Side → Setting → Setting
of_index s.Continuous k = constantly k
of_index s.Procedural k = k
