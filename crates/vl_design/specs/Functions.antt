-- What a function gives (IEEE 1364-2005, clause 10.4).
use Rattle.std.specs.Prelude.{ℕ, zero, suc, false, List, [], ◌∷◌, length, map, replicate, slice_set, slice_get, Option, Some, None}
use Rattle.vl_base.specs.declared.files.File.{File}
use Rattle.vl_design.specs.Syntax.{Row, Fun, Flat}
use Rattle.vl_design.specs.Width.{Scope, names_in, names_of}
use Rattle.vl_design.specs.Value.{value_of}
use Rattle.vl_design.specs.State.{State}
use Rattle.vl_design.specs.Exec.{exec}

-- each word of each signal 0: what nothing has assigned to is 0 (own)
abbrev pub zeros : List Row → List (List ℕ)
zeros rows = map (λ r. replicate r.words 0) rows

-- a state with these values, in which nothing else has happened
abbrev pub fresh : List (List ℕ) → State
fresh values = record {
  values = values;
  later = [];
  printed = [];
  table = [];
  saves = [];
  answer = 0;
  ticks = 0;
  finished = false;
  count = 0;
}

abbrev pub with_inputs : List ℕ → List ℕ → List (List ℕ) → List (List ℕ)
with_inputs [] args values = values
with_inputs (k ∷ ks) [] values = values
with_inputs (k ∷ ks) (v ∷ vs) values = with_inputs ks vs (slice_set values k (v ∷ []))

-- the scope of a function's body
abbrev pub inner : Scope → Fun → Scope
inner scope f = record scope { names = names_in scope.names f }

-- the result: the inputs are assigned, all else is 0, and the body is executed
abbrev pub result_of : Scope → Option Fun → List ℕ → ℕ
result_of scope None args = 0
result_of scope (Some f) args =
    value_of (exec (inner scope f) f.body (fresh (with_inputs f.inputs args (zeros (inner scope f).names.rows)))).values f.result

-- the scope of a design over these files, where calls mean this
abbrev pub scope_with : Flat → List File → (ℕ → List ℕ → ℕ) → Scope
scope_with d files call = record { names = names_of d; files = files; call = call }

-- what calls give that nest at most so deep (own)
abbrev pub calls_within : Flat → List File → ℕ → ℕ → List ℕ → ℕ
calls_within d files zero f args = 0
calls_within d files (suc n) f args = result_of (scope_with d files (calls_within d files n)) (slice_get d.funs f) args

-- the scope of a design: no function calls itself, so calls nest as deep as there are functions
abbrev pub scope_of : Flat → List File → Scope
scope_of d files = scope_with d files (calls_within d files (length d.funs))
