-- What a system call counts, by how it takes its arguments.
use Rattle.std.proofs.Common.{◌≡◌, refl, sym, ap, ◌∙◌, arith, ℕ, ◌+◌, ◌≤◌, true, List, [], ◌∷◌, map, length, get_or}
use Rattle.vl_design.specs.vl_base.specs.declared.bits.UnOp.{UnOp}
use Rattle.vl_design.specs.vl_base.specs.declared.bits.UnOp.TheVariants.{LogNot}
use Rattle.vl_design.specs.vl_base.specs.declared.place.Place.{Place}
use Rattle.vl_design.specs.declared.design.Expr.{Expr}
use Rattle.vl_design.specs.declared.design.ExprNode as d
use Rattle.vl_design.specs.declared.design.SysArg.{SysArg}
use Rattle.vl_design.specs.declared.design.SysCall.{SysCall}
use Rattle.vl_design.specs.Calls.{fread_of, file_of, task_of}
use Rattle.vl_design.specs.Cost.{task_cells}
use Rattle.vl_design.specs.Formats.{Arg, Null, Str, Value}
use Rattle.vl_design.specs.Placed as p
use Rattle.vl_design.specs.Plainly as plain
use Rattle.vl_design.specs.Seen as seen
use Rattle.vl_design.specs.Syntax.{Sig, Fgetc}
use Rattle.vl_design.specs.Trees.{arg_of}
use Rattle.vl_limits.specs.declared.tasks.Kind.{Kind}
use Rattle.vl_limits.specs.Tasks.{is_signal, is_value, kind_by, kind_task}
use Rattle.vl_limits.proofs.Tasking.{sys-of, taken-is}
use Rattle.vl_design.specs.Costs.{saturated}
use Rattle.vl_cost.specs.Walks.{called_cells}

module _ (body : ℕ → ℕ) where
  -- ---- calls

  pub task-is : (name n : List ℕ) (xs ys : List SysArg) (kind : Kind) → kind ≡ kind_by n → n ≡ name → ys ≡ xs → task_cells body (kind_task kind (map arg_of ys)) ≡ task_cells body (task_of [] name (plain.args (seen.args_of xs)))
  task-is name n xs ys kind h e f = taken-is (task_cells body) (record { newline = λ ps. refl; fopen = λ name. refl; feof = λ e. refl; fclose = λ e. refl }) name n xs ys kind h e f

  pub called-sys : (x : Expr) (call : SysCall) → x.node ≡ d.Sys call → called_cells body (seen.exp_of x) ≡ task_cells body (task_of [] call.name (plain.args (seen.args_of call.args.items)))
  called-sys x call h = ap (called_cells body) (sys-of x call h)

  pub not-sys : (at : Place) (op : UnOp) (x : Expr) (call : SysCall) → op ≡ LogNot → x.node ≡ d.Sys call → called_cells body (p.Un at op (seen.exp_of x)) ≡ task_cells body (task_of [] call.name (plain.args (seen.args_of call.args.items)))
  not-sys at op x call h k = ap (λ o. called_cells body (p.Un at o (seen.exp_of x))) h ∙ ap (λ e. called_cells body (p.Un at LogNot e)) (sys-of x call k)

  -- ---- the first arguments

  read-cells : (a b : Arg) (given : List Arg) → is_signal a ≡ true → is_value b ≡ true → task_cells body (fread_of (a ∷ b ∷ given)) ≡ 2 + task_cells body (file_of Fgetc (b ∷ given))
  read-cells (Value (Sig j)) (Value e) given h i = omega arith
  read-cells (Value (Sig j)) Null given h i = let z : ⊥ = cc in absurd z
  read-cells (Value (Sig j)) (Str text) given h i = let z : ⊥ = cc in absurd z
  read-cells Null b given h i = let z : ⊥ = cc in absurd z
  read-cells (Str text) b given h i = let z : ⊥ = cc in absurd z
  read-cells (Value e) b given h i = let z : ⊥ = cc in absurd z

  pub read-list : (m r : ℕ) (xs : List SysArg) (a b : SysArg) → 2 ≤ length xs → a ≡ get_or xs 0 a → b ≡ get_or xs 1 b → is_signal (arg_of a) ≡ true → is_value (arg_of b) ≡ true →
      ((others : List Arg) → saturated (8 + m) ≡ saturated (task_cells body (file_of Fgetc (arg_of b ∷ others)))) → r ≡ saturated (10 + m) → r ≡ saturated (task_cells body (fread_of (map arg_of xs)))
  read-list m r [] a b l e f h i g k = absurd (omega arith)
  read-list m r (x ∷ []) a b l e f h i g k = absurd (omega arith)
  read-list m r (x ∷ y ∷ xs) a b l e f h i g k =
      let n = read-cells (arg_of x) (arg_of y) (map arg_of xs) (ap (λ z. is_signal (arg_of z)) (sym e) ∙ h) (ap (λ z. is_value (arg_of z)) (sym f) ∙ i) in
      let o : saturated (8 + m) ≡ saturated (task_cells body (file_of Fgetc (arg_of y ∷ map arg_of xs))) = g (map arg_of xs) ∙ ap (λ z. saturated (task_cells body (file_of Fgetc (arg_of z ∷ map arg_of xs)))) f in
      omega (arith, n, o, k)
