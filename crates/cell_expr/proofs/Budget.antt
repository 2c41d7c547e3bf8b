-- Statements are compiled to at most the cells that they cost, and their slack.
use Rattle.std.proofs.Common.{◌≡◌, ◌≤◌, ◌+◌, ◌-◌, ◌*◌, ℕ, zero, suc, Bool, true, false, refl, arith}
use Rattle.std.specs.Prelude.{if◌then◌else◌, slice_get, Option, Some, None, All}
use Rattle.vl_design.specs.Cost.{exp_cells, target_cells, targets_cells, labels_cells, stm_cells, items_cells, body_of, body_within}
use Rattle.vl_design.specs.Syntax.{Exp, Num, Label, Sig, Word, Pick, Slice, Un, Bin, Cond, Cat, Rep, Cast, Call, Time, LastAnswer, Exps, NoExps, MoreExps, Target, Whole, WordAt, PickAt, SliceAt, Several, Targets, NoTargets, MoreTargets, Stm, Nop, Then, If, Case, For, Repeat, Set, Later, Sys, Items, NoItems, Labelled, Default, Fun}
use Rattle.vl_design.specs.Functions.{inner, zeros, fresh}
use Rattle.vl_design.specs.State.{State}
use Rattle.vl_design.specs.Width.{Names, Scope, names_in}
use Rattle.vl_design.specs.Sound.{IsSoundExp, AreSound, IsSoundBase, IsSoundTarget, AreSoundTargets, IsSoundStm, AreSoundItems, IsSoundFun}
use Rattle.cell_expr.specs.Counts.{unary_spans, is_word, part_count, parts_count, own_count, exp_count, wide_count, indices_count, all_indices_count, label_count, labels_count, subject_count, stm_count, items_count, default_count, fun_count, body_count}
use Rattle.cell_expr.specs.Slack.{is_answer, is_called, answer_count, whole_slack, parts_of, all_parts_of, exp_slack, exps_slack, indices_slack, all_indices_slack, written_slack, stm_slack, items_slack, fun_slack, body_slack}
use Rattle.cell_expr.proofs.Costing.{Within, fine}
use Rattle.vl_run.proofs.Inputs.{all-at}

module _ (names : Names) (body body' slack : ℕ → ℕ) (bodies : (f : ℕ) → body f ≤ body' f + slack f) where
  abbrev is-fine : (e : Exp) → IsSoundExp names e → Within (exp_cells body' e + exp_slack slack e) (own_count body e) (exp_count body e) (wide_count body e)
  is-fine e h = fine names body body' slack bodies e h

  pub own-within : (e : Exp) → IsSoundExp names e → own_count body e + 1 ≤ exp_cells body' e + exp_slack slack e
  own-within e h = (is-fine e h).own

  pub exp-within : (e : Exp) → IsSoundExp names e → exp_count body e ≤ exp_cells body' e + exp_slack slack e
  exp-within e h = (is-fine e h).any

  -- ---- answers

  -- of what is an answer, or an operator on one
  answered : (e : Exp) → is_answer e ≡ true → (own_count body e ≡ 0) × (exp_count body e ≡ 1)
  answered LastAnswer q = (refl, refl)
  answered (Num v w s) q = absurd (grind arith)
  answered (Label v care w s) q = absurd (grind arith)
  answered (Sig k) q = absurd (grind arith)
  answered (Word m a) q = absurd (grind arith)
  answered (Pick b i from w) q = absurd (grind arith)
  answered (Slice b low w) q = absurd (grind arith)
  answered (Un op a) q = absurd (grind arith)
  answered (Bin op a b) q = absurd (grind arith)
  answered (Cond t a b) q = absurd (grind arith)
  answered (Cat es) q = absurd (grind arith)
  answered (Rep n es) q = absurd (grind arith)
  answered (Cast s a) q = absurd (grind arith)
  answered (Call f es) q = absurd (grind arith)
  answered Time q = absurd (grind arith)

  operator-few : (q : Bool) (o u : ℕ) → o ≡ 0 → u ≡ 1 → (if q then u else o + 1) + 1 ≤ 2
  operator-few true o u h k = omega arith
  operator-few false o u h k = omega arith

  called : (e : Exp) → is_called e ≡ true → (own_count body e ≤ exp_cells body' e) × (exp_count body e ≤ exp_cells body' e + answer_count e)
  called LastAnswer q = (omega arith, omega arith)
  called (Un op a) q = (let z = answered a q in let o = z.0 in let u = operator-few (unary_spans op) (own_count body a) (exp_count body a) z.0 z.1 in (omega (arith, o), omega (arith, u)))
  called (Num v w s) q = absurd (grind arith)
  called (Label v care w s) q = absurd (grind arith)
  called (Sig k) q = absurd (grind arith)
  called (Word m a) q = absurd (grind arith)
  called (Pick b i from w) q = absurd (grind arith)
  called (Slice b low w) q = absurd (grind arith)
  called (Bin op a b) q = absurd (grind arith)
  called (Cond t a b) q = absurd (grind arith)
  called (Cat es) q = absurd (grind arith)
  called (Rep n es) q = absurd (grind arith)
  called (Cast s a) q = absurd (grind arith)
  called (Call f es) q = absurd (grind arith)
  called Time q = absurd (grind arith)

  pub condition-within : (e : Exp) → IsSoundExp names e → own_count body e ≤ exp_cells body' e + whole_slack slack e
  condition-within e h = go (is_called e) refl
    where
      go : (q : Bool) → is_called e ≡ q → own_count body e ≤ exp_cells body' e + (if q then 0 else exp_slack slack e)
      go true q = (let z = (called e q).0 in omega arith)
      go false q = (let z = own-within e h in omega arith)

  pub source-within : (e : Exp) → IsSoundExp names e → exp_count body e ≤ exp_cells body' e + whole_slack slack e + answer_count e
  source-within e h = go (is_called e) refl
    where
      go : (q : Bool) → is_called e ≡ q → exp_count body e ≤ exp_cells body' e + (if q then 0 else exp_slack slack e) + answer_count e
      go true q = (let z = (called e q).1 in omega arith)
      go false q = (let z = exp-within e h in omega arith)

  -- ---- targets: the index of what is no concatenation has one cell to spare

  base-within : (t : Target) → IsSoundBase names t → indices_count body t ≤ target_cells body' t + indices_slack slack t
  base-within (Whole k) h = omega arith
  base-within (WordAt m a) h = (let z = own-within a h.1 in omega arith)
  base-within (PickAt b i from w) h = absurd h
  base-within (SliceAt b low w) h = absurd h
  base-within (Several ts) h = absurd h

  mutual
    part-within : (t : Target) → IsSoundTarget names t → indices_count body t + 2 * parts_of t ≤ target_cells body' t + indices_slack slack t
    part-within (Whole k) h = omega arith
    part-within (WordAt m a) h = (let z = own-within a h.1 in omega arith)
    part-within (PickAt b i from w) h = (let x = base-within b h.1 in let y = own-within i h.2 in omega arith)
    part-within (SliceAt b low w) h = (let z = base-within b h.1 in omega arith)
    part-within (Several ts) h = parts-within ts h.1

    parts-within : (ts : Targets) → AreSoundTargets names ts → all_indices_count body ts + 2 * all_parts_of ts ≤ targets_cells body' ts + all_indices_slack slack ts
    parts-within NoTargets h = omega arith
    parts-within (MoreTargets t ts) h = (let x = part-within t h.0 in let y = parts-within ts h.1 in omega arith)

  -- what is written by an index from a constant bit on
  slice-few : (later word : Bool) (a y e : ℕ) → a ≤ 1 → y ≤ e → (word ≡ true → y + 1 ≤ e) → a + y + part_count later word false ≤ e + 6 + ((a + part_count later word false) - 7)
  slice-few true true a y e h k l = (let z = l refl in omega arith)
  slice-few true false a y e h k l = omega arith
  slice-few false word a y e h k l = omega arith

  pick-few : (later word : Bool) (a y e : ℕ) → a ≤ 1 → y + 1 ≤ e → a + y + part_count later word true ≤ e + 6 + ((a + part_count later word true) - 7)
  pick-few later word a y e h k = omega arith

  pub answer-few : (e : Exp) → answer_count e ≤ 1
  answer-few e = go (is_answer e)
    where
      go : (q : Bool) → (if q then 1 else 0) ≤ 1
      go true = omega arith
      go false = omega arith

  base-word : (t : Target) → IsSoundBase names t → is_word t ≡ true → indices_count body t + 1 ≤ target_cells body' t + indices_slack slack t
  base-word (Whole k) h q = absurd (grind arith)
  base-word (WordAt m a) h q = own-within a h.1
  base-word (PickAt b i from w) h q = absurd h
  base-word (SliceAt b low w) h q = absurd h
  base-word (Several ts) h q = absurd h

  whole-few : (later : Bool) (a : ℕ) → a ≤ 1 → a + part_count later false false ≤ 6
  whole-few true a h = omega arith
  whole-few false a h = omega arith

  written-within : (t : Target) (later : Bool) (e : Exp) → IsSoundTarget names t →
      answer_count e + indices_count body t + parts_count t later ≤ target_cells body' t + 6 + (indices_slack slack t + written_slack later t e)
  written-within (Whole k) later e h = (let z = whole-few later (answer_count e) (answer-few e) in omega arith)
  written-within (WordAt m a) later e h = (
      let y = own-within a h.1 in
      let z = slice-few later true (answer_count e) (own_count body a) (exp_cells body' a + exp_slack slack a) (answer-few e) (omega (arith, y)) (λ q. y) in omega (arith, z))
  written-within (PickAt b i from w) later e h = (
      let x = base-within b h.1 in
      let y = own-within i h.2 in
      let z = pick-few later (is_word b) (answer_count e) (indices_count body b + own_count body i) (target_cells body' b + exp_cells body' i + (indices_slack slack b + exp_slack slack i)) (answer-few e) (omega (arith, x, y)) in omega (arith, z))
  written-within (SliceAt b low w) later e h = (
      let z = slice-few later (is_word b) (answer_count e) (indices_count body b) (target_cells body' b + indices_slack slack b) (answer-few e) (base-within b h.1) (base-word b h.1) in omega (arith, z))
  written-within (Several ts) later e h = (let x = parts-within ts h.1 in omega arith)

  -- ---- statements

  label-within : (e : Exp) → IsSoundExp names e → exp_count body e + label_count e + 1 ≤ exp_cells body' e + 3 + exp_slack slack e
  label-within (Label v care w s) h = omega arith
  label-within (Num v w s) h = (let z = exp-within (Num v w s) h in omega arith)
  label-within (Sig k) h = (let z = exp-within (Sig k) h in omega arith)
  label-within (Word m a) h = (let z = exp-within (Word m a) h in omega arith)
  label-within (Pick b i from w) h = (let z = exp-within (Pick b i from w) h in omega arith)
  label-within (Slice b low w) h = (let z = exp-within (Slice b low w) h in omega arith)
  label-within (Un op a) h = (let z = exp-within (Un op a) h in omega arith)
  label-within (Bin op a b) h = (let z = exp-within (Bin op a b) h in omega arith)
  label-within (Cond t a b) h = (let z = exp-within (Cond t a b) h in omega arith)
  label-within (Cat es) h = (let z = exp-within (Cat es) h in omega arith)
  label-within (Rep n es) h = (let z = exp-within (Rep n es) h in omega arith)
  label-within (Cast s a) h = (let z = exp-within (Cast s a) h in omega arith)
  label-within (Call f es) h = (let z = exp-within (Call f es) h in omega arith)
  label-within Time h = (let z = exp-within Time h in omega arith)
  label-within LastAnswer h = (let z = exp-within LastAnswer h in omega arith)

  pub labels-within : (es : Exps) → AreSound names es → labels_count body es ≤ labels_cells body' es + exps_slack slack es
  labels-within NoExps h = omega arith
  labels-within (MoreExps e es) h = (let x = label-within e h.0 in let y = labels-within es h.1 in omega arith)

  module _ (scope : Scope) where
    mutual
      pub stm-within : (a : Stm) (s : State) → IsSoundStm names a → stm_count body a ≤ stm_cells scope body' a s + stm_slack slack a
      stm-within Nop s h = omega arith
      stm-within (Then a b) s h = (let x = stm-within a s h.0 in let y = stm-within b s h.1 in omega arith)
      stm-within (If t a b) s h = (let z = condition-within t h.0 in let x = stm-within a s h.1 in let y = stm-within b s h.2 in omega arith)
      stm-within (Case e items) s h = case-within e items s h
      stm-within (For k start test step a) s h = omega arith
      stm-within (Repeat n a) s h = omega arith
      stm-within (Set t e) s h = (let x = source-within e h.1 in let y = written-within t false e h.0 in omega arith)
      stm-within (Later t e) s h = (let x = source-within e h.1 in let y = written-within t true e h.0 in omega arith)
      stm-within (Sys task) s h = omega arith

      case-within : (e : Exp) (items : Items) (s : State) → IsSoundExp names e × AreSoundItems names items →
          subject_count body e items + (items_count body items + default_count body items) ≤ exp_cells body' e + items_cells scope body' items s + (exp_slack slack e + items_slack slack items)
      case-within e NoItems s h = (let z = own-within e h.0 in omega arith)
      case-within e (Labelled es a others) s h =
          let z = exp-within e h.0 in let x = labels-within es h.1.0 in let y = stm-within a s h.1.1 in let w = items-within others s h.1.2 in omega arith
      case-within e (Default a others) s h = (let z = exp-within e h.0 in let y = stm-within a s h.1.0 in let w = labelled-within others s h.1.1 in omega arith)

      -- with the default
      items-within : (items : Items) (s : State) → AreSoundItems names items → items_count body items + default_count body items ≤ items_cells scope body' items s + items_slack slack items
      items-within NoItems s h = omega arith
      items-within (Labelled es a others) s h = (let x = labels-within es h.0 in let y = stm-within a s h.1 in let w = items-within others s h.2 in omega arith)
      items-within (Default a others) s h = (let y = stm-within a s h.0 in let w = labelled-within others s h.1 in omega arith)

      -- without one
      labelled-within : (items : Items) (s : State) → AreSoundItems names items → items_count body items ≤ items_cells scope body' items s + items_slack slack items
      labelled-within NoItems s h = omega arith
      labelled-within (Labelled es a others) s h = (let x = labels-within es h.0 in let y = stm-within a s h.1 in let w = labelled-within others s h.2 in omega arith)
      labelled-within (Default a others) s h = (let w = labelled-within others s h.1 in omega arith)

-- ---- functions

pub bodies-within : (scope : Scope) → All (IsSoundFun scope.names) scope.names.funs → (n f : ℕ) →
    body_count scope.names.funs n f ≤ body_within scope n f + body_slack scope.names.funs n f
bodies-within scope sound zero f = omega arith
bodies-within scope sound (suc n) f = go (λ k. bodies-within scope sound n k) (slice_get scope.names.funs f) refl
  where
    go : ((k : ℕ) → body_count scope.names.funs n k ≤ body_within scope n k + body_slack scope.names.funs n k) → (o : Option Fun) → slice_get scope.names.funs f ≡ o → fun_count (body_count scope.names.funs n) o ≤
        body_of o (λ g. stm_cells (inner scope g) (body_within scope n) g.body (fresh (zeros (inner scope g).names.rows))) + fun_slack (body_slack scope.names.funs n) o
    go below None e = omega arith
    go below (Some g) e =
        let s : IsSoundFun scope.names g = all-at (IsSoundFun scope.names) scope.names.funs f g sound e in
        stm-within (names_in scope.names g) (body_count scope.names.funs n) (body_within scope n) (body_slack scope.names.funs n) below
        (inner scope g) g.body (fresh (zeros (inner scope g).names.rows)) s.body
