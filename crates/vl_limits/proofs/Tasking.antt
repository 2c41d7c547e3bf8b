-- What a system call counts, by its kind.
use Rattle.std.proofs.Common.{◌≡◌, refl, sym, ap, ◌∙◌, arith, ℕ, ◌+◌, ◌≤◌, min, Bool, true, false, List, [], ◌∷◌, map, length, get_or}
use Rattle.std.specs.Prelude.{if◌then◌else◌, ◌||◌, codes}
use Rattle.std.specs.Str.{bytes_eq}
use Rattle.vl_design.specs.declared.design.Expr.{Expr}
use Rattle.vl_design.specs.declared.design.ExprNode as d
use Rattle.vl_design.specs.declared.design.ExprNode.TheBlock as blk
use Rattle.vl_design.specs.declared.design.SysArg.{SysArg}
use Rattle.vl_design.specs.declared.design.SysCall.{SysCall}
use Rattle.vl_design.specs.Calls.{finish_of, save_of, fopen_of, fread_of, read_hex_of, file_of, task_of}
use Rattle.vl_design.specs.Formats.{Arg, Null, Str, Value, pieces_from}
use Rattle.vl_base.specs.declared.bits.UnOp.{UnOp}
use Rattle.vl_base.specs.declared.bits.UnOp.TheVariants.{LogNot}
use Rattle.vl_base.specs.declared.place.Place.{Place}
use Rattle.vl_design.specs.Placed as p
use Rattle.vl_design.specs.Plainly as plain
use Rattle.vl_design.specs.Trees.{arg_of}
use Rattle.vl_design.proofs.TreeLemmas.{args-map}
use Rattle.vl_design.specs.Seen as seen
use Rattle.vl_design.specs.Syntax.{Exp, Sig, Task, Print, Finish, Fgetc, Feof, Fclose}
use Rattle.vl_loops.specs.Limits.{Counted, task_count, call_count}
use Rattle.vl_limits.specs.declared.tasks.Kind.{Kind}
use Rattle.vl_limits.specs.declared.tasks.Kind.TheVariants as k
use Rattle.vl_limits.specs.Tasks.{is_signal, is_value, kind_by, kind_task, CountsTaken}

-- ---- the tree of a call

row-items : {m : _} (r : d.Row_of-SysArg m) → seen.row_args r ≡ seen.args_of (d.items-the_row-SysArg m r)
row-items d.end_of-SysArg = refl
row-items (d.more_of-SysArg x rest) = ap (seen.arg x) (row-items rest)

pub sys-of : (x : Expr) (call : SysCall) → x.node ≡ d.Sys call → seen.exp_of x ≡ p.Sys x.place call.name (seen.args_of call.args.items)
sys-of x call h =
    ap (seen.node_exp x.place) h
    ∙ ap (p.Sys x.place call.name) (row-items (blk.hidden-the_row-SysArg-1 call.args) ∙ ap seen.args_of (d.items_hidden-the_row-SysArg-1 call.args))

-- ---- kinds

module _ (all : Task → ℕ) (c : CountsTaken all) where
  named-same : (given : List Arg) → all (fopen_of given) ≡ all (save_of given)
  named-same [] = refl
  named-same (Null ∷ given) = refl
  named-same (Str text ∷ given) = c.fopen text
  named-same (Value e ∷ given) = refl

  file-same : (make : Exp → Task) → ((e : Exp) → all (make e) ≡ all (Fgetc e)) → (given : List Arg) → all (file_of make given) ≡ all (file_of Fgetc given)
  file-same make h [] = refl
  file-same make h (Null ∷ given) = refl
  file-same make h (Str text ∷ given) = refl
  file-same make h (Value e ∷ given) = h e

  kind-is : (name : List ℕ) (given : List Arg) → all (task_of [] name given) ≡ all (kind_task (kind_by name) given)
  kind-is name given = at (bytes_eq name (codes "$display")) (bytes_eq name (codes "$write")) (bytes_eq name (codes "$finish")) (bytes_eq name (codes "$save")) (bytes_eq name (codes "$fopen"))
      (bytes_eq name (codes "$fread")) (bytes_eq name (codes "$fgetc")) (bytes_eq name (codes "$feof")) (bytes_eq name (codes "$fclose")) (bytes_eq name (codes "$readmemh"))
    where
      late : (f g h i j : Bool) →
          all (if f then fread_of given else if g then file_of Fgetc given else if h then file_of Feof given else if i then file_of Fclose given else if j then read_hex_of given else Print [] false)
          ≡ all (kind_task (if f then k.Reads else if g || (h || i) then k.Asks else if j then k.Loads else k.Unknown) given)
      late true g h i j = refl
      late false true h i j = refl
      late false false true i j = file-same Feof c.feof given
      late false false false true j = file-same Fclose c.fclose given
      late false false false false true = refl
      late false false false false false = refl

      at : (a b d e o f g h i j : Bool) →
          all (if a then Print (pieces_from [] 0 given) true else if b then Print (pieces_from [] 0 given) false else if d then Finish (finish_of given) else if e then save_of given else if o then fopen_of given
          else if f then fread_of given else if g then file_of Fgetc given else if h then file_of Feof given else if i then file_of Fclose given else if j then read_hex_of given else Print [] false)
          ≡ all (kind_task (if a || b then k.Shows else if d then k.Finishes else if e || o then k.Names else if f then k.Reads else if g || (h || i) then k.Asks else if j then k.Loads else k.Unknown) given)
      at true b d e o f g h i j = c.newline (pieces_from [] 0 given)
      at false true d e o f g h i j = refl
      at false false true e o f g h i j = refl
      at false false false true o f g h i j = refl
      at false false false false true f g h i j = named-same given
      at false false false false false f g h i j = late f g h i j

  pub taken-is : (name n : List ℕ) (xs ys : List SysArg) (kind : Kind) → kind ≡ kind_by n → n ≡ name → ys ≡ xs → all (kind_task kind (map arg_of ys)) ≡ all (task_of [] name (plain.args (seen.args_of xs)))
  taken-is name n xs ys kind h e f =
      ap (λ z. all (kind_task z (map arg_of ys))) (h ∙ ap kind_by e)
      ∙ (ap (λ z. all (kind_task (kind_by name) (map arg_of z))) f
      ∙ (ap (λ z. all (kind_task (kind_by name) z)) (sym (args-map xs))
      ∙ sym (kind-is name (plain.args (seen.args_of xs)))))

module _ (c : Counted) where
  -- ---- the first arguments

  pub read-count : (a b : Arg) (given : List Arg) → is_signal a ≡ true → is_value b ≡ true → task_count c (fread_of (a ∷ b ∷ given)) ≡ c.node + task_count c (file_of Fgetc (b ∷ given))
  read-count (Value (Sig j)) (Value e) given h i = refl
  read-count (Value (Sig j)) Null given h i = let z : ⊥ = cc in absurd z
  read-count (Value (Sig j)) (Str text) given h i = let z : ⊥ = cc in absurd z
  read-count Null b given h i = let z : ⊥ = cc in absurd z
  read-count (Str text) b given h i = let z : ⊥ = cc in absurd z
  read-count (Value e) b given h i = let z : ⊥ = cc in absurd z

-- ---- calls

module _ (c : Counted) where
  pub task-is : (name n : List ℕ) (xs ys : List SysArg) (kind : Kind) → kind ≡ kind_by n → n ≡ name → ys ≡ xs → task_count c (kind_task kind (map arg_of ys)) ≡ task_count c (task_of [] name (plain.args (seen.args_of xs)))
  task-is name n xs ys kind h e f = taken-is (task_count c) (record { newline = λ ps. refl; fopen = λ name. refl; feof = λ e. refl; fclose = λ e. refl }) name n xs ys kind h e f

  pub call-sys : (x : Expr) (call : SysCall) → x.node ≡ d.Sys call → call_count c (seen.exp_of x) ≡ task_count c (task_of [] call.name (plain.args (seen.args_of call.args.items)))
  call-sys x call h = ap (call_count c) (sys-of x call h)

  pub not-sys : (at : Place) (op : UnOp) (x : Expr) (call : SysCall) → op ≡ LogNot → x.node ≡ d.Sys call → call_count c (p.Un at op (seen.exp_of x)) ≡ task_count c (task_of [] call.name (plain.args (seen.args_of call.args.items)))
  not-sys at op x call h k = ap (λ o. call_count c (p.Un at o (seen.exp_of x))) h ∙ ap (λ e. call_count c (p.Un at LogNot e)) (sys-of x call k)

  pub place-free : (at q : Place) (op : UnOp) (e : p.Exp) → call_count c (p.Un at op e) ≡ call_count c (p.Un q op e)
  place-free at q LogNot (p.Sys r name given) = refl
  place-free at q LogNot e = refl
  place-free at q op e = refl

  pub read-list : (cap s m r : ℕ) (xs : List SysArg) (a b : SysArg) → 2 ≤ length xs → a ≡ get_or xs 0 a → b ≡ get_or xs 1 b → is_signal (arg_of a) ≡ true → is_value (arg_of b) ≡ true → m ≡ min cap (s + c.node) →
      ((others : List Arg) → r ≡ min cap (m + task_count c (file_of Fgetc (arg_of b ∷ others)))) → r ≡ min cap (s + task_count c (fread_of (map arg_of xs)))
  read-list cap s m r [] a b l e f h i k g = absurd (omega arith)
  read-list cap s m r (x ∷ []) a b l e f h i k g = absurd (omega arith)
  read-list cap s m r (x ∷ y ∷ xs) a b l e f h i k g =
      let n = read-count c (arg_of x) (arg_of y) (map arg_of xs) (ap (λ z. is_signal (arg_of z)) (sym e) ∙ h) (ap (λ z. is_value (arg_of z)) (sym f) ∙ i) in
      let o : r ≡ min cap (m + task_count c (file_of Fgetc (arg_of y ∷ map arg_of xs))) = g (map arg_of xs) ∙ ap (λ z. min cap (m + task_count c (file_of Fgetc (arg_of z ∷ map arg_of xs)))) f in
      omega (arith, n, o, k)
