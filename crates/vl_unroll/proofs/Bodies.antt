-- Bodies of functions and processes: read over the design, and over its signals alone.
use Rattle.std.proofs.Common.{◌≡◌, ◌∙◌, refl, sym, ap, subst, ℕ, zero, suc, true, List, [], ◌∷◌, map}
use Rattle.std.specs.Prelude.{All}
use Rattle.std.specs.List.{AllByRecursion}
use Rattle.std.proofs.lemmas.List.Elements.{All-from_recursion, recursion_from_All}
use Rattle.vl_design.specs.declared.design.Design.{Design}
use Rattle.vl_design.specs.declared.design.Signal.{Signal}
use Rattle.vl_design.specs.declared.design.Func.{Func}
use Rattle.vl_design.specs.declared.design.Process.{Process}
use Rattle.vl_design.specs.Syntax as d
use Rattle.vl_design.specs.Width.{Scope, names_in, names_of, signal_form}
use Rattle.vl_design.specs.Rows.{row_of, range_width}
use Rattle.vl_design.specs.Sound.{IsWidth, IsSoundFun, IsSoundProc}
use Rattle.vl_design.specs.Functions.{scope_of, inner, zeros, fresh}
use Rattle.vl_design.specs.Plain.{plain_scope}
use Rattle.vl_design.specs.Placed as p
use Rattle.vl_design.specs.Plainly as plain
use Rattle.vl_design.specs.Seen.{stm_of, func_of, process_of, placed}
use Rattle.vl_design.specs.Trees.{flat_of}
use Rattle.vl_loops.specs.Unroll.{is_loop, still}
use Rattle.vl_loops.specs.Fits.{CanUnroll, HasLoops, HasFunLoops}
use Rattle.vl_loops.specs.Placed.{stm_unrolled, func_unrolled, process_unrolled, unrolled_placed}
use Rattle.vl_loops.specs.Loops.{HasHeads}
use Rattle.vl_loops.specs.Rooms.{state_of}
use Rattle.vl_loops.proofs.Loops.{Meets, heads_of}
use Rattle.vl_loops.proofs.Zeros.{none, none-numbers, none-meets}
use Rattle.vl_unroll.specs.Heads.{AreReady}
use Rattle.vl_unroll.specs.Bodies.{IsBody, rows_with, func_at, process_at}
use Rattle.vl_unroll.proofs.Bridge.{stm_same}

pub body-ready : (xs ys : List Signal) (a : p.Stm) → IsBody (rows_with xs ys) a → AreReady (rows_with xs ys) (none xs ys)
body-ready xs ys a b = record { fit = none-numbers xs ys; widths = b.widths }

pub ruleset bodies = (body-ready)

-- ---- widths

rows-wide : (rows : List d.Row) → AllByRecursion (λ (r : d.Row). IsWidth r.width) rows → (j : ℕ) → is_loop rows j ≡ true → IsWidth (signal_form rows j).width
rows-wide [] w j h = let z : ⊥ = cc in absurd z
rows-wide (r ∷ rows) w zero h = w.0
rows-wide (r ∷ rows) w (suc j) h = rows-wide rows w.1 j h

rows-of : (xs ys : List Signal) → AllByRecursion (λ (x : Signal). IsWidth (range_width x.left x.right)) xs → AllByRecursion (λ (x : Signal). IsWidth (range_width x.left x.right)) ys → AllByRecursion (λ (r : d.Row). IsWidth r.width) (rows_with xs ys)
rows-of [] [] h k = k
rows-of [] (y ∷ ys) h k = (k.0, rows-of [] ys h k.1)
rows-of (x ∷ xs) ys h k = (h.0, rows-of xs ys h.1 k)

abbrev pub IsWide : Signal → Type 0
IsWide x = IsWidth (range_width x.left x.right)

signals-wide : (xs ys : List Signal) → All IsWide xs → All IsWide ys → (j : ℕ) → is_loop (rows_with xs ys) j ≡ true → IsWidth (signal_form (rows_with xs ys) j).width
signals-wide xs ys h k = rows-wide (rows_with xs ys) (rows-of xs ys (recursion_from_All IsWide xs h) (recursion_from_All IsWide ys k))

rows-alone : (xs : List Signal) → rows_with xs [] ≡ map row_of xs
rows-alone [] = refl
rows-alone (x ∷ xs) = ap (λ z. row_of x ∷ z) (rows-alone xs)

-- ---- a design's bodies

module _ (design : Design) (can : CanUnroll (flat_of design)) (wide : All IsWide design.signals) where
  abbrev xs : List Signal
  xs = design.signals

  abbrev flat : d.Flat
  flat = flat_of design

  abbrev scope : Scope
  scope = scope_of flat []

  func-heads : (f : Func) → HasFunLoops flat.rows (plain.fun (func_of f)) → IsSoundFun (names_of flat) (plain.fun (func_of f)) → HasHeads (rows_with xs f.locals) (stm_of f.body)
  func-heads f l h = heads_of (names_in (names_of flat) (plain.fun (func_of f))) [] (stm_of f.body) l.body h.body

  funcs-fit : (fs : List Func) → AllByRecursion (HasFunLoops flat.rows) (map plain.fun (map func_of fs)) → AllByRecursion (IsSoundFun (names_of flat)) (map plain.fun (map func_of fs)) → AllByRecursion (λ (f : Func). All IsWide f.locals) fs →
      AllByRecursion (λ (f : Func). IsBody (rows_with xs f.locals) (stm_of f.body)) fs
  funcs-fit [] l h w = l
  funcs-fit (f ∷ fs) l h w = (record { heads = func-heads f l.0 h.0; widths = signals-wide xs f.locals wide w.0 }, funcs-fit fs l.1 h.1 w.1)

  pub funcs-are : All (λ (f : Func). All IsWide f.locals) design.funcs → All (λ (f : Func). IsBody (rows_with xs f.locals) (stm_of f.body)) design.funcs
  funcs-are w =
      All-from_recursion (λ (f : Func). IsBody (rows_with xs f.locals) (stm_of f.body)) design.funcs
      (funcs-fit design.funcs (recursion_from_All (HasFunLoops flat.rows) flat.funs can.funs) (recursion_from_All (IsSoundFun (names_of flat)) flat.funs can.sound.funs) (recursion_from_All (λ (f : Func). All IsWide f.locals) design.funcs w))

  process-heads : (a : Process) → HasLoops flat.rows (plain.proc (process_of a)).body → IsSoundProc (names_of flat) (plain.proc (process_of a)) → HasHeads (rows_with xs []) (stm_of a.body)
  process-heads a l h = subst (λ z. HasHeads z (stm_of a.body)) (sym (rows-alone xs)) (heads_of (names_of flat) a.path (stm_of a.body) l h.body)

  processes-fit : (as' : List Process) → AllByRecursion (λ (a : d.Proc). HasLoops flat.rows a.body) (map plain.proc (map process_of as')) → AllByRecursion (IsSoundProc (names_of flat)) (map plain.proc (map process_of as')) →
      AllByRecursion (λ (a : Process). IsBody (rows_with xs []) (stm_of a.body)) as'
  processes-fit [] l h = l
  processes-fit (a ∷ as') l h = (record { heads = process-heads a l.0 h.0; widths = signals-wide xs [] wide (All-from_recursion IsWide [] tt) }, processes-fit as' l.1 h.1)

  pub processes-are : All (λ (a : Process). IsBody (rows_with xs []) (stm_of a.body)) design.processes
  processes-are =
      All-from_recursion (λ (a : Process). IsBody (rows_with xs []) (stm_of a.body)) design.processes
      (processes-fit design.processes (recursion_from_All (λ (a : d.Proc). HasLoops flat.rows a.body) flat.procs can.procs) (recursion_from_All (IsSoundProc (names_of flat)) flat.procs can.sound.procs))

  -- ---- the same over the design

  func-same : (f : Func) → IsBody (rows_with xs f.locals) (stm_of f.body) → func_at xs f ≡ func_unrolled scope (func_of f)
  func-same f b =
      let body = inner scope (plain.fun (func_of f)) in
      let with_body : p.Stm → p.Func = λ z. record (func_of f) { body = z } in
      ap with_body (sym (stm_same (rows_with xs f.locals) (map row_of xs) flat.funs [] scope.call (stm_of f.body) b.heads (still body) (state_of (none xs f.locals)) (none-meets xs f.locals)))

  funcs-same : (fs : List Func) → AllByRecursion (λ (f : Func). IsBody (rows_with xs f.locals) (stm_of f.body)) fs → map (func_at xs) fs ≡ map (func_unrolled scope) (map func_of fs)
  funcs-same [] h = refl
  funcs-same (f ∷ fs) h = rw (func-same f h.0, funcs-same fs h.1) refl

  process-same : (a : Process) → IsBody (rows_with xs []) (stm_of a.body) → process_at xs a ≡ process_unrolled scope (process_of a)
  process-same a b =
      let s = state_of (none xs []) in
      let meets = subst (λ z. Meets z (fresh (zeros z)) s) (rows-alone xs) (none-meets xs []) in
      let heads = subst (λ z. HasHeads z (stm_of a.body)) (rows-alone xs) b.heads in
      let with_body : p.Stm → p.Process = λ z. record (process_of a) { body = z } in
      ap with_body (ap (λ z. stm_unrolled (plain_scope z) (stm_of a.body) s) (rows-alone xs)
      ∙ sym (stm_same flat.rows flat.rows flat.funs [] scope.call (stm_of a.body) heads (still scope) s meets))

  processes-same : (as' : List Process) → AllByRecursion (λ (a : Process). IsBody (rows_with xs []) (stm_of a.body)) as' → map (process_at xs) as' ≡ map (process_unrolled scope) (map process_of as')
  processes-same [] h = refl
  processes-same (a ∷ as') h = rw (process-same a h.0, processes-same as' h.1) refl

  pub design-same : (fs : List p.Func) (as' : List p.Process) → fs ≡ map (func_at xs) design.funcs → as' ≡ map (process_at xs) design.processes → All (λ (f : Func). All IsWide f.locals) design.funcs →
      record (placed design) { funcs = fs; processes = as' } ≡ unrolled_placed (placed design)
  design-same fs as' f g w =
      let some : List p.Func → p.Design = λ z. record (placed design) { funcs = z; processes = as' } in
      let all : List p.Process → p.Design = λ z. record (placed design) { funcs = map (func_unrolled scope) (map func_of design.funcs); processes = z } in
      ap some (f ∙ funcs-same design.funcs (recursion_from_All (λ (f : Func). IsBody (rows_with xs f.locals) (stm_of f.body)) design.funcs (funcs-are w)))
      ∙ ap all (g ∙ processes-same design.processes (recursion_from_All (λ (a : Process). IsBody (rows_with xs []) (stm_of a.body)) design.processes processes-are))

-- the same of lists that are the design's
pub funcs-at : (design : Design) → CanUnroll (flat_of design) → All IsWide design.signals → All (λ (f : Func). All IsWide f.locals) design.funcs → (names : List Signal) (fs : List Func) → names ≡ design.signals → fs ≡ design.funcs →
    All (λ (f : Func). IsBody (rows_with names f.locals) (stm_of f.body)) fs
funcs-at design can wide w names fs e g =
    subst (λ (z : List Func). All (λ (f : Func). IsBody (rows_with names f.locals) (stm_of f.body)) z) (sym g)
    (subst (λ (z : List Signal). All (λ (f : Func). IsBody (rows_with z f.locals) (stm_of f.body)) design.funcs) (sym e) (funcs-are design can wide w))

pub processes-at : (design : Design) → CanUnroll (flat_of design) → All IsWide design.signals → (names : List Signal) (as' : List Process) → names ≡ design.signals → as' ≡ design.processes →
    All (λ (a : Process). IsBody (rows_with names []) (stm_of a.body)) as'
processes-at design can wide names as' e g =
    subst (λ (z : List Process). All (λ (a : Process). IsBody (rows_with names []) (stm_of a.body)) z) (sym g)
    (subst (λ (z : List Signal). All (λ (a : Process). IsBody (rows_with z []) (stm_of a.body)) design.processes) (sym e) (processes-are design can wide))
