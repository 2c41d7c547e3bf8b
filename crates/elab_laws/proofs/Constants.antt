-- The left sides of continuous assignments in a design: each index is constant.
use Rattle.std.proofs.Common.{◌≡◌, ℕ, Bool, true, false, true≢false, List, [], ◌∷◌, Option, Some, None, refl, sym, ap}
use Rattle.std.specs.Prelude.{⊤, ◌&&◌, not, fold}
use Rattle.std.proofs.lemmas.Bool.{and_parts}
use Rattle.vl_sound.specs.vl_base.specs.declared.bits.UnOp.{UnOp}
use Rattle.vl_sound.specs.vl_base.specs.declared.place.Place.{Place}
use Rattle.vl_sound.specs.vl_scope.specs.declared.kind.Class.{Class}
use Rattle.vl_sound.specs.vl_scope.specs.declared.kind.Class.TheVariants as c
use Rattle.ten_plan.specs.vl_design.specs.Nodes.{has, some_have}
use Rattle.ten_plan.specs.vl_design.specs.Placed as p
use Rattle.ten_plan.specs.vl_design.specs.Plainly as plain
use Rattle.ten_plan.specs.vl_design.proofs.Resting.{or_none}
use Rattle.vl_accept.specs.vl_paths.specs.Bits.{varies, is_constant}
use Rattle.vl_accept.specs.Built.{HasConstants, HaveConstants}
use Rattle.vl_sound.specs.vl_flat.specs.declared.binding.Binding.{Binding}
use Rattle.vl_sound.specs.vl_flat.specs.declared.binding.Binding.TheVariants as b
use Rattle.vl_sound.specs.vl_flat.specs.Surface as x
use Rattle.vl_sound.specs.vl_flat.specs.Scopes.{Env, plainly, number_of}
use Rattle.vl_sound.specs.vl_flat.specs.Expressions as e
use Rattle.vl_sound.specs.vl_flat.specs.Targets as t
use Rattle.vl_sound.specs.vl_flat.specs.Connections as cn
use Rattle.vl_sound.specs.Used.{Classes}
use Rattle.vl_sound.specs.Agreeing.{StandsAs, Agrees}
use Rattle.elab_laws.proofs.Leaves.{Has, ExsHave, SelectsHave, LeftAll, LeftsAll, IsParameter, IsFixed, IsDrivenName, IsDrivenLeft}
use Rattle.elab_laws.proofs.Lefts.{left-weaker, IsOutput}
use Rattle.elab_laws.proofs.Steps.{SelectsSo, StepsSo, steps-of, name-steps}

-- the expression reads nothing
abbrev IsStill : p.Exp → Type 0
IsStill a = has varies (plain.exp a) ≡ false

abbrev AreStill : p.Exps → Type 0
AreStill es = some_have varies (plain.exps es) ≡ false

still-constant : (a : p.Exp) → IsStill a → is_constant (plain.exp a) ≡ true
still-constant a h = ap not h

marked-still : (at : Place) (o : Option UnOp) (a : p.Exp) → IsStill a → IsStill (e.marked at o a)
marked-still at None a h = h
marked-still at (Some op) a h = h

module _ (env : Env) where
  abbrev exp-of : x.Ex → p.Exp
  exp-of a = e.exp (plainly env) a

  -- ---- constants by a test

  parameter-still : (at : Place) (o : Option Binding) → e.is_parameter o ≡ true → IsStill (e.whole at o)
  parameter-still at (Some (b.Constant a)) h = refl
  parameter-still at o h = absurd (true≢false (sym h))

  constant-still : (a : x.Ex) → e.is_constant env a ≡ true → IsStill (exp-of a)
  constant-still (x.Number at n) h = refl
  constant-still (x.Text at text) h = refl
  constant-still (x.Named at n x.NoSelects) h = parameter-still at (env n) h
  constant-still (x.Paren at a) h = constant-still a h
  constant-still (x.Unary at op a) h = marked-still at (e.unary_of op) (exp-of a) (constant-still a h)
  constant-still (x.Binary at op a y) h =
      let q = and_parts (e.is_constant env a) (e.is_constant env y) h in
      or_none (has varies (plain.exp (exp-of a))) (has varies (plain.exp (exp-of y))) (constant-still a q.0) (constant-still y q.1)
  constant-still (x.Choice at s a y) h =
      let q = and_parts (e.is_constant env s) (e.is_constant env a && e.is_constant env y) h in
      let r = and_parts (e.is_constant env a) (e.is_constant env y) q.1 in
      or_none (has varies (plain.exp (exp-of s))) _ (constant-still s q.0) (or_none (has varies (plain.exp (exp-of a))) (has varies (plain.exp (exp-of y))) (constant-still a r.0) (constant-still y r.1))
  constant-still a h = absurd (true≢false (sym h))

  -- ---- indices

  abbrev IsIndex : p.Exp → Type 0
  IsIndex a = is_constant (plain.exp a) ≡ true

  abbrev AreIndices : x.Selects → Type 0
  AreIndices ss = SelectsSo (plainly env) IsIndex ss

  abbrev pub HasIndices : x.Left → Type 0
  HasIndices l = LeftAll (λ n ss. AreIndices ss) l

  abbrev HaveIndices : x.Lefts → Type 0
  HaveIndices ls = LeftsAll (λ n ss. AreIndices ss) ls

  -- ---- in the design

  fold-constant : (at : Place) (base : p.Target) (ss : List e.Step) → HasConstants base → StepsSo (λ j. ⊤) IsIndex ss → HasConstants (fold (t.stepped at) base ss)
  fold-constant at base [] q h = q
  fold-constant at base (e.Chosen j a ∷ ss) q h = fold-constant at (p.WordAt at j a) ss tt h.1
  fold-constant at base (e.Picked i from w ∷ ss) q h = fold-constant at (p.PickAt at base i from w) ss (q, h.0) h.1
  fold-constant at base (e.Sliced r l o w ∷ ss) q h = fold-constant at (p.SliceAt at base (e.part_low r o) w) ss q h.1

  mutual
    pub left-constants : (l : x.Left) → HasIndices l → HasConstants (t.target (plainly env) l)
    left-constants (x.LeftName at n ss) h =
        fold-constant at (p.Whole at (number_of (env n))) (steps-of (plainly env) n ss) tt (name-steps (λ j. ⊤) IsIndex (plainly env) n ss tt h)
    left-constants (x.LeftList at ls) h = lefts-constants ls h

    lefts-constants : (ls : x.Lefts) → HaveIndices ls → HaveConstants (t.targets (plainly env) ls)
    lefts-constants x.NoLefts h = tt
    lefts-constants (x.MoreLefts l ls) h = (left-constants l h.0, lefts-constants ls h.1)

  -- ---- outputs: nets, their constant selects and concatenations of these

  tested-indices : (ss : x.Selects) → cn.are_constant env ss ≡ true → AreIndices ss
  tested-indices x.NoSelects h = tt
  tested-indices (x.Index q a others) h =
      let r = and_parts (e.is_constant env a) (cn.are_constant env others) h in (still-constant (exp-of a) (constant-still a r.0), tested-indices others r.1)
  tested-indices (x.Range q mark l o others) h =
      let r = and_parts (e.is_constant env l) (e.is_constant env o && cn.are_constant env others) h in
      (still-constant (exp-of l) (constant-still l r.0), tested-indices others (and_parts (e.is_constant env o) (cn.are_constant env others) r.1).1)

  pub output-indices : (l : x.Left) → LeftAll (IsOutput env) l → HasIndices l
  output-indices l h = left-weaker (IsOutput env) (λ n ss. AreIndices ss) (λ n ss u. tested-indices ss u.1) l h

  -- ---- constants by what their names are

  module _ (k : Classes) (agrees : Agrees k (plainly env)) where
    stands-still : (at : Place) (i : ℕ) (o : Option Binding) → StandsAs (c.Parameter i) o → IsStill (e.whole at o)
    stands-still at i (Some (b.Constant a)) h = refl
    stands-still at i o h = absurd h

    named-still : (at : Place) (n : List ℕ) (o : Option Class) → k.read n ≡ o → IsParameter o → IsStill (e.whole at (env n))
    named-still at n (Some (c.Parameter i)) is h = stands-still at i (env n) (agrees.read n (c.Parameter i) is)
    named-still at n o is h = absurd h

    mutual
      fixed-still : (a : x.Ex) → Has (IsFixed k) a → IsStill (exp-of a)
      fixed-still (x.Number at n) h = refl
      fixed-still (x.Text at text) h = refl
      fixed-still (x.Named at n x.NoSelects) h = named-still at n (k.read n) refl h.0
      fixed-still (x.Named at n (x.Index q a others)) h = absurd h.0
      fixed-still (x.Named at n (x.Range q mark l r others)) h = absurd h.0
      fixed-still (x.Paren at a) h = fixed-still a h
      fixed-still (x.Unary at op a) h = marked-still at (e.unary_of op) (exp-of a) (fixed-still a h)
      fixed-still (x.Binary at op a y) h = or_none (has varies (plain.exp (exp-of a))) (has varies (plain.exp (exp-of y))) (fixed-still a h.0) (fixed-still y h.1)
      fixed-still (x.Choice at s a y) h =
          or_none (has varies (plain.exp (exp-of s))) _ (fixed-still s h.0) (or_none (has varies (plain.exp (exp-of a))) (has varies (plain.exp (exp-of y))) (fixed-still a h.1) (fixed-still y h.2))
      fixed-still (x.Joined at es) h = all-fixed-still es h
      fixed-still (x.Repeated at n es) h = all-fixed-still es h
      fixed-still (x.Called at n es) h = absurd h.0
      fixed-still (x.System at name given) h = absurd h.0

      all-fixed-still : (es : x.Exs) → ExsHave (IsFixed k) es → AreStill (e.exps (plainly env) es)
      all-fixed-still x.NoExs h = refl
      all-fixed-still (x.MoreExs a es) h = or_none (has varies (plain.exp (exp-of a))) (some_have varies (plain.exps (e.exps (plainly env) es))) (fixed-still a h.0) (all-fixed-still es h.1)

    fixed-indices : (ss : x.Selects) → SelectsHave (IsFixed k) ss → AreIndices ss
    fixed-indices x.NoSelects h = tt
    fixed-indices (x.Index q a others) h = (still-constant (exp-of a) (fixed-still a h.0), fixed-indices others h.1)
    fixed-indices (x.Range q mark l r others) h = (still-constant (exp-of l) (fixed-still l h.0), fixed-indices others h.1)

    pub driven-indices : (timed : Bool) (l : x.Left) → IsDrivenLeft k timed l → HasIndices l
    driven-indices timed l h = left-weaker (IsDrivenName k timed) (λ n ss. AreIndices ss) (λ n ss u. fixed-indices ss u.1.0) l h
