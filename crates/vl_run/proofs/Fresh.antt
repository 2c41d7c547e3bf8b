-- What the body of a function begins with, and what it gives.
use Rattle.std.proofs.Common.{◌≡◌, ◌≢◌, ℕ, zero, suc, ◌^◌, ◌<◌, ◌≤◌, nat_lt, Bool, true, false, List, [], ◌∷◌, length, map, refl, sym, ap, ◌∙◌, subst, arith, get_or}
use Rattle.std.specs.Prelude.{All, Option, Some, None, slice_get, slice_set, nat_eq, replicate, option_map}
use Rattle.std.proofs.lemmas.Nat.{pow_pos}
use Rattle.std.proofs.lemmas.Bool.{ltb-true, ltb-false, eqb-true, eq-eqb}
use Rattle.std.proofs.lemmas.List.{length-set}
use Rattle.std.proofs.lemmas.Option.{slice_get-map}
use Rattle.vl_base.specs.declared.files.File.{File}
use Rattle.vl_design.specs.declared.design.Signal.{Signal}
use Rattle.vl_design.specs.declared.design.SigKind.{SigKind}
use Rattle.vl_design.specs.declared.design.SigKind.TheVariants.{Net, Var, Comb, Loop, Mem, Clock}
use Rattle.vl_design.specs.Syntax.{Row, Fun}
use Rattle.vl_design.specs.Functions.{zeros, fresh, with_inputs, inner, scope_with}
use Rattle.vl_design.specs.Exec.{exec}
use Rattle.vl_design.specs.Laws.{InRange, IsFine}
use Rattle.vl_design.specs.Sound.{IsOf, HasValue, IsSoundFun}
use Rattle.vl_design.specs.Trees.{row_of}
use Rattle.vl_design.specs.Value.{words_of, value_of}
use Rattle.vl_design.specs.Width.{Names, Scope, signal_form, rows_in, input_widths_of, result_form}
use Rattle.vl_design.proofs.Fine.{zeros_fine}
use Rattle.vl_design.proofs.Kept.{words_set, words_past, words_other}
use Rattle.vl_design.proofs.Ranging.{exec_in_range}
use Rattle.vl_design.proofs.Shaping.{set_shape, shape_on}
use Rattle.vl_eval.specs.Rooms.{Fit, GivesFitting}
use Rattle.vl_run.specs.Scopes.{flat_in, calls_in}
use Rattle.vl_run.proofs.Inputs.{all-at}

-- ---- one word of a signal is written

set-same : (values : List (List ℕ)) (w j v : ℕ) → v < 2 ^ w → All (λ x. x < 2 ^ w) (words_of (slice_set values j (v ∷ [])) j)
set-same values w j v h = at (nat_lt j (length values)) refl
  where
    at : (b : Bool) → nat_lt j (length values) ≡ b → All (λ x. x < 2 ^ w) (words_of (slice_set values j (v ∷ [])) j)
    at true e = rw (words_set values j (v ∷ []) (ltb-true j (length values) e)) (one v h)
      where
        one : (x : ℕ) → x < 2 ^ w → All (λ y. y < 2 ^ w) (x ∷ [])
        one x l zero d i = l
        one x l (suc k) d i = absurd (omega arith)
    at false e =
        let i : length values ≤ j = ltb-false j (length values) e in
        let n : length (slice_set values j (v ∷ [])) ≤ j = omega (arith, length-set values j (v ∷ [])) in
        rw (words_past (slice_set values j (v ∷ [])) j n) (λ i d l. absurd (omega arith))

set-range : (rows : List Row) (values : List (List ℕ)) (j v : ℕ) → v < 2 ^ (signal_form rows j).width → InRange rows values → InRange rows (slice_set values j (v ∷ []))
set-range rows values j v h r k = at (nat_eq k j) refl
  where
    at : (b : Bool) → nat_eq k j ≡ b → All (λ x. x < 2 ^ (signal_form rows k).width) (words_of (slice_set values j (v ∷ [])) k)
    at true e = let i : k ≡ j = eqb-true k j e in rw i (set-same values (signal_form rows j).width j v h)
    at false e =
        let n : k ≢ j = λ i. (let t = eq-eqb k j i in cc (t, e)) in
        rw (words_other values j k (v ∷ []) n) (r k)

-- each row of a signal that has a value has one word
pub record HasOneWord (rows : List Row) : Type 0 where
  pub one : (k : ℕ) (r : Row) → slice_get rows k ≡ Some r → HasValue r.kind → r.words ≡ 1

kind-one : (kind : SigKind) (x : Signal) → x.kind ≡ kind → HasValue kind → (row_of x).words ≡ 1
kind-one Net x e h = rw e refl
kind-one Var x e h = rw e refl
kind-one Comb x e h = rw e refl
kind-one Loop x e h = rw e refl
kind-one Mem x e h = absurd h
kind-one Clock x e h = rw e refl

pub one-word : (xs : List Signal) → HasOneWord (map row_of xs)
one-word xs = record { one = λ k r e h. go xs k r e h }
  where
    go : (ys : List Signal) (k : ℕ) (r : Row) → slice_get (map row_of ys) k ≡ Some r → HasValue r.kind → r.words ≡ 1
    go [] k r e h = let z : ⊥ = cc in absurd z
    go (y ∷ ys) zero r e h =
        let same : row_of y ≡ r = cc in
        subst (λ (q : Row). HasValue q.kind → q.words ≡ 1) same (λ g. kind-one y.kind y refl g) h
    go (y ∷ ys) (suc k) r e h = go ys k r e h

one-long : (rows : List Row) (values : List (List ℕ)) (k : ℕ) → HasOneWord rows → IsFine rows values → IsOf HasValue (slice_get rows k) → length (words_of values k) ≡ 1
one-long rows values k o f h = f.shape.words k ∙ go (slice_get rows k) refl h
  where
    go : (r : Option Row) → slice_get rows k ≡ r → IsOf HasValue r → length (words_of (zeros rows) k) ≡ 1
    go None e i = absurd i
    go (Some r) e i =
        let z : slice_get (zeros rows) k ≡ Some (replicate r.words 0) = slice_get-map (λ r. replicate r.words 0) rows k ∙ ap (option_map (λ r. replicate r.words 0)) e in
        let w : r.words ≡ 1 = o.one k r e i.0 in
        rw (z, w) refl

-- ---- inputs

pub inputs-fine : (rows : List Row) (ks args : List ℕ) (values : List (List ℕ)) → HasOneWord rows → All (λ k. IsOf HasValue (slice_get rows k)) ks
    → Fit args (map (λ k. (signal_form rows k).width) ks) → IsFine rows values → IsFine rows (with_inputs ks args values)
inputs-fine rows [] args values o s f h = h
inputs-fine rows (k ∷ ks) [] values o s f h = h
inputs-fine rows (k ∷ ks) (v ∷ vs) values o s f h =
    let here : IsOf HasValue (slice_get rows k) = s 0 k (omega arith) in
    let rest : All (λ j. IsOf HasValue (slice_get rows j)) ks = λ i d l. s (suc i) d (omega arith) in
    inputs-fine rows ks vs (slice_set values k (v ∷ [])) o rest f.1 (record {
      range = set-range rows values k v f.0 h.range;
      shape = shape_on (set_shape values k (v ∷ []) (sym (one-long rows values k o h here))) h.shape;
    })

-- ---- what calls give has the width of the result

first-small : (ws : List ℕ) (w : ℕ) → All (λ x. x < 2 ^ w) ws → get_or ws 0 0 < 2 ^ w
first-small [] w h = pow_pos w
first-small (v ∷ vs) w h = h 0 0 (omega arith)

abbrev pub AreOfOneWord : Names → Type 0
AreOfOneWord names = (f : ℕ) (g : Fun) → slice_get names.funs f ≡ Some g → HasOneWord (rows_in names g)

body-fits : (names : Names) (g : Fun) (scope : Scope) (args : List ℕ) → IsSoundFun names g → HasOneWord (rows_in names g) → Fit args (input_widths_of names (Some g)) → scope.names.rows ≡ rows_in names g
    → value_of (exec scope g.body (fresh (with_inputs g.inputs args (zeros (rows_in names g))))).values g.result < 2 ^ (signal_form (rows_in names g) g.result).width
body-fits names g scope args s o f e =
    let fine = inputs-fine (rows_in names g) g.inputs args (zeros (rows_in names g)) o s.inputs f (zeros_fine (rows_in names g)) in
    let start = subst (λ rows. InRange rows (with_inputs g.inputs args (zeros (rows_in names g)))) (sym e) fine.range in
    let end = exec_in_range scope g.body (fresh (with_inputs g.inputs args (zeros (rows_in names g)))) start in
    first-small _ (signal_form (rows_in names g) g.result).width (subst (λ rows. InRange rows (exec scope g.body (fresh (with_inputs g.inputs args (zeros (rows_in names g))))).values) e end g.result)

pub calls-fit : (names : Names) (files : List File) → All (IsSoundFun names) names.funs → AreOfOneWord names → (n : ℕ) → GivesFitting names (calls_in names files n)
calls-fit names files s o zero f args h = pow_pos (result_form names f).width
calls-fit names files s o (suc n) f args h = at (slice_get names.funs f) refl
  where
    scope : Scope
    scope = scope_with (flat_in names) files (calls_in names files n)

    at : (r : Option Fun) → slice_get names.funs f ≡ r → calls_in names files (suc n) f args < 2 ^ (result_form names f).width
    at None e = rw e (omega arith)
    at (Some g) e =
        let k = rw e at h in
        rw e (body-fits names g (inner scope g) args (all-at (IsSoundFun names) names.funs f g s e) (o f g e) k refl)
