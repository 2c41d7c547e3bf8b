-- What the evaluator's names, values and contexts stand for (IEEE 1364-2005, clauses 5 and 10.4).
use Rattle.std.specs.Prelude.{ℕ, ◌^◌, ◌<◌, List, [], ◌∷◌, ◌++◌, map, ⊤}
use Rattle.vl_base.specs.declared.files.File.{File}
use Rattle.vl_design.specs.Trees.{row_of, fun_of}
use Rattle.vl_design.specs.Width.{Names, Scope, result_form, input_widths}
use Rattle.vl_design.specs.Value as v
use Rattle.vl_eval.specs.declared.room.Room.{Room}
use Rattle.vl_eval.specs.declared.room.Sample.{Sample}

-- a design's signals with a function's locals behind them, and the design's functions
abbrev pub names_of : Room → Names
names_of r = record {
  rows = map row_of r.signals.now ++ map row_of r.locals.now;
  signals = map row_of r.signals.now;
  funs = map fun_of r.funcs.now;
}

-- what expressions read
abbrev pub sample_of : Sample → v.Sample
sample_of s = record { values = s.values.now; time = s.time; answer = s.answer }

-- the scope of these names, where calls mean this
abbrev pub scope_at : Names → List File → (ℕ → List ℕ → ℕ) → Scope
scope_at names files call = record { names = names; files = files; call = call }

-- values, each below 2 to the width at its place
abbrev pub Fit : List ℕ → List ℕ → Type 0
Fit [] widths = ⊤
Fit (v ∷ vs) [] = ⊥
Fit (v ∷ vs) (w ∷ ws) = (v < 2 ^ w) × Fit vs ws

-- what a call gives for arguments as assigned to the function's inputs has the width of its result
abbrev pub GivesFitting : Names → (ℕ → List ℕ → ℕ) → Type 0
GivesFitting names call = (f : ℕ) (args : List ℕ) → Fit args (input_widths names f) → call f args < 2 ^ (result_form names f).width
