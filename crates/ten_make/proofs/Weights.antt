-- How many cells a statement may add to any one state.
use Rattle.std.proofs.Common.{◌≡◌, ◌≤◌, ◌+◌, ℕ, List, [], ◌∷◌, Bool, true, false, arith, refl}
use Rattle.std.specs.Prelude.{All}
use Rattle.std.specs.List.{sum_by}
use Rattle.std.proofs.lemmas.List.Elements.{All-head, All-tail}
use Rattle.std.proofs.lemmas.List.Sums.{sum_by-cons}
use Rattle.ten_core.specs.vl_design.specs.Cost.{exp_cells, pieces_cells, task_cells, stm_cells, items_cells}
use Rattle.ten_core.specs.vl_design.specs.State.{State}
use Rattle.ten_core.specs.vl_design.specs.Sound.{IsSoundExp, AreSound, IsSoundPiece, IsSoundTask, IsSoundStm, AreSoundItems}
use Rattle.ten_core.specs.vl_design.specs.Syntax.{Exp, Piece, Literal, Shown, Task, Print, Finish, Save, Fopen, Fread, Fgetc, Feof, Fclose, ReadHex, Stm, Nop, Then, If, Case, For, Repeat, Set, Later, Sys, Items, NoItems, Labelled, Default}
use Rattle.ten_core.specs.vl_design.specs.Width.{Names, Scope}
use Rattle.cell_states.specs.cell_expr.specs.Counts.{own_count, exp_count, labels_count, subject_count, stm_count, items_count, default_count}
use Rattle.cell_states.specs.cell_expr.specs.Slack.{exp_slack, pieces_slack, task_slack, stm_slack, items_slack}
use Rattle.cell_states.specs.cell_expr.proofs.Counting.{own-most}
use Rattle.cell_states.specs.cell_expr.proofs.Budget.{own-within, exp-within, source-within, answer-few, labels-within, stm-within}
use Rattle.cell_states.specs.cell_calls.specs.Counts.{asked_count}
use Rattle.ten_core.specs.ten_form.specs.Asked.{shown}

module _ (body : ℕ → ℕ) where
  abbrev pub subject_most : Exp → Items → ℕ
  subject_most e NoItems = own_count body e
  subject_most e items = exp_count body e + 1

  abbrev mutual
    pub stm_most : Stm → ℕ
    stm_most Nop = 0
    stm_most (Then a b) = stm_most a + stm_most b
    stm_most (If t a b) = exp_count body t + 3 + (stm_most a + stm_most b)
    stm_most (Case e items) = subject_most e items + items_most items
    stm_most (For k start test step a) = 0
    stm_most (Repeat n a) = 0
    stm_most (Set t e) = stm_count body (Set t e)
    stm_most (Later t e) = stm_count body (Later t e)
    stm_most (Sys task) = 1 + asked_count body task

    pub items_most : Items → ℕ
    items_most NoItems = 0
    items_most (Labelled es a others) = labels_count body es + 2 + (stm_most a + items_most others)
    items_most (Default a others) = stm_most a + items_most others

  -- as one statement of a stretch
  mutual
    pub count-most : (a : Stm) → stm_count body a ≤ stm_most a
    count-most Nop = omega arith
    count-most (Then a b) = (let x = count-most a in let y = count-most b in omega arith)
    count-most (If t a b) = (let z = own-most body t in let x = count-most a in let y = count-most b in omega arith)
    count-most (Case e items) = case-most e items
    count-most (For k start test step a) = omega arith
    count-most (Repeat n a) = omega arith
    count-most (Set t e) = omega arith
    count-most (Later t e) = omega arith
    count-most (Sys task) = omega arith

    case-most : (e : Exp) (items : Items) → subject_count body e items + (items_count body items + default_count body items) ≤ subject_most e items + items_most items
    case-most e NoItems = omega arith
    case-most e (Labelled es a others) = (let x = count-most a in let y = all-most others in omega arith)
    case-most e (Default a others) = (let x = count-most a in let y = labelled-most others in omega arith)

    all-most : (items : Items) → items_count body items + default_count body items ≤ items_most items
    all-most NoItems = omega arith
    all-most (Labelled es a others) = (let x = count-most a in let y = all-most others in omega arith)
    all-most (Default a others) = (let x = count-most a in let y = labelled-most others in omega arith)

    labelled-most : (items : Items) → items_count body items ≤ items_most items
    labelled-most NoItems = omega arith
    labelled-most (Labelled es a others) = (let x = count-most a in let y = labelled-most others in omega arith)
    labelled-most (Default a others) = (let y = labelled-most others in omega arith)

module _ (scope : Scope) (body body' slack : ℕ → ℕ) (bodies : (f : ℕ) → body f ≤ body' f + slack f) where
  abbrev names : Names
  names = scope.names

  pieces-within : (ps : List Piece) → All (IsSoundPiece names) ps → sum_by (exp_count body) (shown ps) ≤ pieces_cells body' ps + pieces_slack slack ps
  pieces-within [] h = omega arith
  pieces-within (Literal text ∷ ps) h = pieces-within ps (All-tail (IsSoundPiece names) (Literal text) ps h)
  pieces-within (Shown format e ∷ ps) h =
      let c = sum_by-cons (exp_count body) e (shown ps) in
      let x = exp-within names body body' slack bodies e (All-head (IsSoundPiece names) (Shown format e) ps h) in
      let y = pieces-within ps (All-tail (IsSoundPiece names) (Shown format e) ps h) in
      omega (arith, c, x, y)

  task-within : (task : Task) → IsSoundTask names task → 1 + asked_count body task ≤ task_cells body' task + task_slack slack task
  task-within (Print pieces newline) h = (let x = pieces-within pieces h in omega (arith, x))
  task-within (Finish es) h = omega arith
  task-within (Save name) h = omega arith
  task-within (Fopen name) h = omega arith
  task-within (Fread k fd) h = (let x = exp-within names body body' slack bodies fd h.1 in omega (arith, x))
  task-within (Fgetc fd) h = (let x = exp-within names body body' slack bodies fd h in omega (arith, x))
  task-within (Feof fd) h = (let x = exp-within names body body' slack bodies fd h in omega (arith, x))
  task-within (Fclose fd) h = (let x = exp-within names body body' slack bodies fd h in omega (arith, x))
  task-within (ReadHex name m) h = omega arith

  mutual
    pub most-within : (a : Stm) (s : State) → IsSoundStm names a → stm_most body a ≤ stm_cells scope body' a s + stm_slack slack a
    most-within Nop s h = omega arith
    most-within (Then a b) s h = (let x = most-within a s h.0 in let y = most-within b s h.1 in omega arith)
    most-within (If t a b) s h = (
        let z = source-within names body body' slack bodies t h.0 in
        let q = answer-few names body body' slack bodies t in
        let x = most-within a s h.1 in let y = most-within b s h.2 in omega (arith, z, q, x, y))
    most-within (Case e items) s h = case-within e items s h
    most-within (For k start test step a) s h = omega arith
    most-within (Repeat n a) s h = omega arith
    most-within (Set t e) s h = stm-within names body body' slack bodies scope (Set t e) s h
    most-within (Later t e) s h = stm-within names body body' slack bodies scope (Later t e) s h
    most-within (Sys task) s h = task-within task h

    case-within : (e : Exp) (items : Items) (s : State) → IsSoundExp names e × AreSoundItems names items →
        subject_most body e items + items_most body items ≤ exp_cells body' e + items_cells scope body' items s + (exp_slack slack e + items_slack slack items)
    case-within e NoItems s h = (let z = own-within names body body' slack bodies e h.0 in omega (arith, z))
    case-within e (Labelled es a others) s h = (
        let z = exp-within names body body' slack bodies e h.0 in
        let l = labels-within names body body' slack bodies es h.1.0 in
        let x = most-within a s h.1.1 in let y = all-within others s h.1.2 in omega (arith, z, l, x, y))
    case-within e (Default a others) s h = (
        let z = exp-within names body body' slack bodies e h.0 in
        let x = most-within a s h.1.0 in let y = all-within others s h.1.1 in omega (arith, z, x, y))

    all-within : (items : Items) (s : State) → AreSoundItems names items → items_most body items ≤ items_cells scope body' items s + items_slack slack items
    all-within NoItems s h = omega arith
    all-within (Labelled es a others) s h = (
        let l = labels-within names body body' slack bodies es h.0 in
        let x = most-within a s h.1 in let y = all-within others s h.2 in omega (arith, l, x, y))
    all-within (Default a others) s h = (let x = most-within a s h.0 in let y = all-within others s h.1 in omega (arith, x, y))
