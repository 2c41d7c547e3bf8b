-- A function of an instance is sound where it has no fault, and no input of it is a loop variable.
use Rattle.std.proofs.Common.{◌≡◌, ℕ, suc, ◌+◌, Bool, true, false, if◌then◌else◌, List, [], ◌∷◌, map, length, Option, Some, refl, sym, ap, ◌∙◌, subst, arith}
use Rattle.std.specs.Prelude.{ℤ, ◌&&◌, not, nat_lt, flat_map, slice_get, All, option_map}
use Rattle.std.proofs.lemmas.List.Elements.{All-nil, All-cons}
use Rattle.std.proofs.lemmas.Option.{slice_get-map}
use Rattle.vl_flat.specs.vl_base.specs.declared.place.Place.{Place}
use Rattle.vl_flat.specs.vl_design.specs.declared.design.SigKind.TheVariants.{Var, Loop}
use Rattle.vl_flat.specs.vl_design.specs.Syntax as d
use Rattle.vl_flat.specs.vl_design.specs.Rows.{row_of}
use Rattle.vl_flat.specs.vl_design.specs.Stops.{construct_if}
use Rattle.vl_flat.specs.vl_design.specs.Width as w
use Rattle.vl_flat.specs.vl_design.specs.Sound.{IsWidth, IsOf, HasValue, IsSignal, IsSoundFun}
use Rattle.vl_flat.specs.vl_design.specs.Plainly as plain
use Rattle.vl_flat.specs.Items as x
use Rattle.vl_flat.specs.Uses.{controls, strays}
use Rattle.vl_flat.specs.Scopes.{Env}
use Rattle.vl_flat.specs.Ranges as r
use Rattle.vl_flat.specs.Statements.{statement_faults}
use Rattle.vl_flat.specs.Functions.{local_shape, function_scope, signal, dotted, input_numbers, function, function_faults}
use Rattle.vl_sound.specs.Used as u
use Rattle.vl_sound.specs.Agreeing.{Agrees, StandsFor}
use Rattle.vl_sound.proofs.Lists.{right-part}
use Rattle.vl_sound.specs.Widths.{HaveWidths}
use Rattle.vl_sound.specs.Inputs.{IsNoLoop, HasNoLoopInputs}
use Rattle.vl_sound.proofs.Parts.{none-left, none-right, clear, narrow-is, one-clear}
use Rattle.vl_sound.proofs.Widths.{function-widths}
use Rattle.vl_sound.proofs.Statements.{statement-sound}

-- ---- types of 1 to 128 bits

type-wide : (c : Bool) (z : ℤ × ℤ) → nat_lt 128 (r.bits_in z) ≡ c → c ≡ false → IsWidth (r.bits_in (if c then r.too_wide z else z))
type-wide true z h e = let y : ⊥ = cc in absurd y
type-wide false z h e = narrow-is z h

local-wide : (env : Env) (type : x.DataType) (at : Place) → r.type_faults env type at ≡ [] → IsWidth (r.bits_in (r.type_range env type))
local-wide env type at h =
    type-wide (r.is_wide env type) (r.written env type) refl
    (clear (r.is_wide env type) at 10 (none-right (r.range_faults env (r.range_in type)) (construct_if (r.is_wide env type) at 10) h))

-- ---- numbers of inputs

numbers-of : (P : ℕ → Type 0) (n : ℕ) (ls : List x.Local) → ((i : ℕ) (l : x.Local) → slice_get ls i ≡ Some l → l.is_input ≡ true → P (n + i)) → All P (input_numbers n ls)
numbers-of P n [] h = All-nil P
numbers-of P n (l ∷ ls) h = by l.is_input refl (numbers-of P (n + 1) ls (λ i y e q. let is : n + suc i ≡ (n + 1) + i = omega arith in subst P is (h (suc i) y e q)))
  where
    by : (c : Bool) → l.is_input ≡ c → All P (input_numbers (n + 1) ls) → All P (if c then n ∷ input_numbers (n + 1) ls else input_numbers (n + 1) ls)
    by true q rest = let is : n + 0 ≡ n = omega arith in All-cons P n (input_numbers (n + 1) ls) (subst P is (h 0 l refl q)) rest
    by false q rest = rest

-- ---- kinds of locals

kind-value : (c : Bool) → HasValue (if c then Loop else Var)
kind-value true = tt
kind-value false = tt

kind-no-loop : (free rest : Bool) → free ≡ false → IsNoLoop (if free && rest then Loop else Var)
kind-no-loop true rest h = let z : ⊥ = cc in absurd z
kind-no-loop false rest h = tt

-- a function, prepared: its result is its first local, and no input of it is free
pub record IsPrepared (a : x.Function) : Type 0 where
  pub first : (l : x.Local) × (ls : List x.Local) × (a.locals ≡ l ∷ ls)
  pub inputs : (i : ℕ) (l : x.Local) → slice_get a.locals i ≡ Some l → l.is_input ≡ true → l.is_free ≡ false

-- the function is sound, and no input of it is a loop variable
pub record IsGood (design : w.Names) (a : d.Fun) : Type 0 where
  pub sound : IsSoundFun design a
  pub inputs : HasNoLoopInputs design a

module _ (k : u.Classes) (env : Env) (path : List ℕ) (a : x.Function) (design : w.Names) where
  abbrev behind : ℕ
  behind = length design.signals

  abbrev made : d.Fun
  made = plain.fun (function behind env path a)

  abbrev name : List ℕ
  name = dotted path a.name.name

  abbrev row : x.Local → d.Row
  row l = row_of (signal name l.name (local_shape env a l))

  row-at : (i : ℕ) (l : x.Local) → slice_get a.locals i ≡ Some l → slice_get (w.rows_in design made) (behind + i) ≡ Some (row l)
  row-at i l e =
      let signals = map (λ (l : x.Local). signal name l.name (local_shape env a l)) a.locals in
      right-part design.signals (map row_of signals) i (row l)
      (slice_get-map row_of signals i ∙ ap (option_map row_of) (slice_get-map (λ (l : x.Local). signal name l.name (local_shape env a l)) a.locals i ∙ ap (option_map (λ (l : x.Local). signal name l.name (local_shape env a l))) e))

  local-signal : function_faults behind env a ≡ [] → (i : ℕ) (l : x.Local) → slice_get a.locals i ≡ Some l → IsSignal (w.names_in design made) (behind + i)
  local-signal h i l e =
      let types = none-left (flat_map (λ (l : x.Local). r.type_faults env l.type l.name.place) a.locals) (statement_faults (function_scope behind env a) a.body) h in
      let own = one-clear (λ (l : x.Local). r.type_faults env l.type l.name.place) a.locals i l types e in
      subst (IsOf HasValue) (sym (row-at i l e)) (kind-value (l.is_free && (controls l.name.name a.body && not (strays l.name.name a.body))), local-wide env l.type l.name.place own)

  pub function-good : IsPrepared a → u.IsUsedFunction k a → HaveWidths env → Agrees (u.within k a) (function_scope behind env a)
      → StandsFor (u.within k a) (function_scope behind env a) (w.names_in design made) → function_faults behind env a ≡ [] → IsGood design made
  function-good prepared used widths agrees stands h =
      let (l, ls, is) = prepared.first in
      let here : behind + 0 ≡ behind = omega arith in
      record {
        sound = record {
          inputs = numbers-of (IsSignal (w.names_in design made)) behind a.locals (λ i l e q. local-signal h i l e);
          result = subst (IsSignal (w.names_in design made)) here (local-signal h 0 l (ap (λ (z : List x.Local). slice_get z 0) is));
          body = statement-sound (u.within k a) (function_scope behind env a) agrees (w.names_in design made) stands (function-widths behind env a widths) [] a.body used.body
              (none-right (flat_map (λ (l : x.Local). r.type_faults env l.type l.name.place) a.locals) (statement_faults (function_scope behind env a) a.body) h);
        };
        inputs = numbers-of (λ j. (y : d.Row) → slice_get (w.rows_in design made) j ≡ Some y → IsNoLoop y.kind) behind a.locals
            (λ i l e q y there. subst (λ (z : d.Row). IsNoLoop z.kind) (same (sym (row-at i l e) ∙ there))
            (kind-no-loop l.is_free (controls l.name.name a.body && not (strays l.name.name a.body)) (prepared.inputs i l e q)));
      }
    where
      same : {y z : d.Row} → ◌≡◌ {A = Option d.Row} (Some y) (Some z) → y ≡ z
      same q = cc
