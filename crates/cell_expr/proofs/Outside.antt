-- What is compiled outside of functions.
use Rattle.std.proofs.Common.{◌≡◌, ap, sym, ◌∙◌, subst, ℕ, List, All, length}
use Rattle.std.specs.Prelude.{Result, Ok, Err, OnOk}
use Rattle.std.proofs.lemmas.List.{length-map}
use Rattle.vl_base.specs.declared.files.File.{File}
use Rattle.vl_design.specs.declared.design.Form.{Form}
use Rattle.vl_design.specs.declared.design.Design.{Design}
use Rattle.vl_design.specs.Exec.{exec}
use Rattle.vl_design.specs.Functions.{scope_of}
use Rattle.vl_design.specs.Sound.{IsSound}
use Rattle.vl_design.specs.Trees.{flat_of, fun_of}
use Rattle.vl_design.specs.Width as w
use Rattle.vl_eval.specs.declared.room.Room.{Room}
use Rattle.vl_eval.specs.Rooms.{names_of, scope_at}
use Rattle.vl_run.specs.Scopes.{calls_in}
use Rattle.vl_run.proofs.Designs.{same-scope}
use Rattle.cell_expr.specs.Bodies.{IsCellFun}
use Rattle.cell_expr.specs.Passes.{AreCompiled}
use Rattle.vl_design.specs.Syntax.{Exp, Exps, Stm}
use Rattle.vl_design.specs.Width.{Names, Scope}
use Rattle.cell_emit.specs.cell_form.specs.Data.{ListData}
use Rattle.cell_emit.specs.Envs.{Env}
use Rattle.cell_emit.specs.Paths.{Does}
use Rattle.cell_emit.specs.Cases.{Compares}
use Rattle.cell_emit.specs.Pendings.{PendingSlots}
use Rattle.cell_emit.specs.Delays.{Leaves}
use Rattle.cell_expr.specs.Compiled.{Compiles}
use Rattle.cell_expr.specs.Counts.{exp_count, labels_count, stm_count, body_count, body_cells}

pub compiles-outside : (names m : Names) (scope s : Scope) (body b : ℕ → ℕ) (e : Exp) (c : Form) (at : Env) (old new : ListData) (r : ℕ) → names ≡ m → scope ≡ s → body ≡ b →
    Compiles names scope (exp_count body e) e c at old new r → Compiles m s (exp_count b e) e c at old new r
compiles-outside names m scope s body b e c at old new r i j k h =
    subst (λ (z : ℕ → ℕ). Compiles m s (exp_count z e) e c at old new r) k
    (subst (λ (z : Scope). Compiles m z (exp_count body e) e c at old new r) j
    (subst (λ (z : Names). Compiles z scope (exp_count body e) e c at old new r) i h))

pub does-outside : (names m : Names) (scope s : Scope) (body b : ℕ → ℕ) (a x : Stm) (off : ℕ) (at at' : Env) (old new : ListData) → names ≡ m → scope ≡ s → body ≡ b → a ≡ x →
    Does names (stm_count body a) (exec scope a) off at at' old new → Does m (stm_count b x) (exec s x) off at at' old new
does-outside names m scope s body b a x off at at' old new i j k l h =
    subst (λ (z : Stm). Does m (stm_count b z) (exec s z) off at at' old new) l
    (subst (λ (z : ℕ → ℕ). Does m (stm_count z a) (exec s a) off at at' old new) k
    (subst (λ (z : Scope). Does m (stm_count body a) (exec z a) off at at' old new) j
    (subst (λ (z : Names). Does z (stm_count body a) (exec scope a) off at at' old new) i h)))

pub statement-outside : {A E : Type 0} (r : Result A E) (names m : Names) (scope s : List File → Scope) (body b : ℕ → ℕ) (a : Stm) (x : List ℕ → Stm) (off : ℕ) (at at' : Env) (old new : ListData) → names ≡ m → ((files : List File) → scope files ≡ s files) → body ≡ b → ((path : List ℕ) → a ≡ x path) →
    OnOk r ((files : List File) → Does names (stm_count body a) (exec (scope files) a) off at at' old new) →
    OnOk r ((files : List File) (path : List ℕ) → Does m (stm_count b (x path)) (exec (s files) (x path)) off at at' old new)
statement-outside (Ok y) names m scope s body b a x off at at' old new i j k l h = λ files path. does-outside names m (scope files) (s files) body b a (x path) off at at' old new i (j files) k (l path) (h files)
statement-outside (Err y) names m scope s body b a x off at at' old new i j k l h = h

pub leaves-outside : (names m : Names) (scope s : Scope) (a x : Stm) (off : ℕ) (at : Env) (p p' : PendingSlots) (old new : ListData) → names ≡ m → scope ≡ s → a ≡ x →
    Leaves names (exec scope a) off at p p' old new → Leaves m (exec s x) off at p p' old new
leaves-outside names m scope s a x off at p p' old new i j l h =
    subst (λ (z : Stm). Leaves m (exec s z) off at p p' old new) l
    (subst (λ (z : Scope). Leaves m (exec z a) off at p p' old new) j
    (subst (λ (z : Names). Leaves z (exec scope a) off at p p' old new) i h))

pub pending-outside : {A E : Type 0} (r : Result A E) (names m : Names) (scope s : List File → Scope) (a : Stm) (x : List ℕ → Stm) (off : ℕ) (at : Env) (p p' : PendingSlots) (old new : ListData) → names ≡ m → ((files : List File) → scope files ≡ s files) → ((path : List ℕ) → a ≡ x path) →
    OnOk r ((files : List File) → Leaves names (exec (scope files) a) off at p p' old new) → OnOk r ((files : List File) (path : List ℕ) → Leaves m (exec (s files) (x path)) off at p p' old new)
pending-outside (Ok y) names m scope s a x off at p p' old new i j l h = λ files path. leaves-outside names m (scope files) (s files) a (x path) off at p p' old new i (j files) (l path) (h files)
pending-outside (Err y) names m scope s a x off at p p' old new i j l h = h

pub compares-outside : (names m : Names) (scope s : Scope) (body b : ℕ → ℕ) (es : Exps) (c : Form) (subject before behind : ℕ) (at : Env) (old new : ListData) → names ≡ m → scope ≡ s → body ≡ b →
    Compares names (labels_count body es) scope c subject es before behind at old new → Compares m (labels_count b es) s c subject es before behind at old new
compares-outside names m scope s body b es c subject before behind at old new i j k h =
    subst (λ (z : ℕ → ℕ). Compares m (labels_count z es) s c subject es before behind at old new) k
    (subst (λ (z : Scope). Compares m (labels_count body es) z c subject es before behind at old new) j
    (subst (λ (z : Names). Compares z (labels_count body es) scope c subject es before behind at old new) i h))

-- ---- a design's own names

pub outer-scope : (d : Design) (room : Room) (files : List File) → names_of room ≡ w.names_of (flat_of d) →
    scope_at (names_of room) files (calls_in (names_of room) files (length room.funcs.now)) ≡ scope_of (flat_of d) files
outer-scope d room files e = same-scope d files (names_of room) (length room.funcs.now) e (sym (length-map room.funcs.now fun_of))

pub outer-body : (d : Design) (room : Room) → names_of room ≡ w.names_of (flat_of d) → body_count (names_of room).funs (length room.funcs.now) ≡ body_cells (flat_of d)
outer-body d room e =
    let many : length room.funcs.now ≡ length (names_of room).funs = sym (length-map room.funcs.now fun_of) in
    ap (body_count (names_of room).funs) many ∙ ap (λ (n : Names). body_count n.funs (length n.funs)) e

pub outer-compiled : (d : Design) (room : Room) → names_of room ≡ w.names_of (flat_of d) → IsSound (flat_of d) → All (IsCellFun (w.names_of (flat_of d))) (flat_of d).funs → AreCompiled (names_of room)
outer-compiled d room e sound cells = subst AreCompiled (sym e) (record { sound = sound.funs; cells = cells })
