-- Lists of expressions, one by one.
use Rattle.std.proofs.Common.{◌≡◌, ◌<◌, ◌≤◌, ◌+◌, ◌*◌, ◌^◌, ℕ, zero, suc, List, length, drop, get_or, refl, sym, ap, ◌∙◌, arith}
use Rattle.std.proofs.Math.Pow.{pow-add}
use Rattle.std.proofs.Math.Nat.{mul-le-mul_right}
use Rattle.std.proofs.lemmas.List.{at_drop_more}
use Rattle.std.specs.declared.alloc.Global.{Global}
use Rattle.std.specs.declared.vec.Vec.{Vec}
use Rattle.vl_base.specs.declared.place.Place.{Place}
use Rattle.vl_base.specs.Selects.{appended}
use Rattle.vl_design.specs.declared.design.Expr.{Expr}
use Rattle.vl_design.specs.declared.design.ExprNode as n
use Rattle.vl_design.specs.declared.design.ExprNode.TheBlock as block
use Rattle.vl_design.specs.Placed as p
use Rattle.vl_design.specs.Plainly as plain
use Rattle.vl_design.specs.Seen as seen
use Rattle.vl_design.specs.Syntax.{Cat, Rep, Call, MoreExps}
use Rattle.vl_design.specs.Trees.{exp_of, exps_of}
use Rattle.std.specs.Prelude.{false}
use Rattle.std.proofs.lemmas.Grind.{common_steps}
use Rattle.vl_design.specs.Nodes.{has}
use Rattle.vl_design.specs.Width.{Names}
use Rattle.vl_design.specs.Value.{repeated}
use Rattle.vl_design.specs.Sound.{IsSoundExp}
use Rattle.vl_paths.specs.Bits.{varies}
use Rattle.vl_bits.specs.Constants.{AreParts}
use Rattle.vl_bits.proofs.WidthsOfIndex.{widths}
pub use Rattle.vl_design.proofs.Shared.{exps-more}
pub use Rattle.vl_base.proofs.Numbers.{product_left as some-parts, product_right as part-wide}
pub use Rattle.vl_base.proofs.Shared.{appended-more as appended-twice}

row-items : {m : _} (k : n.Row_of-Expr m) → seen.row_exps k ≡ seen.exps_of (n.items-the_row-Expr m k)
row-items n.end_of-Expr = refl
row-items (n.more_of-Expr q x rest) = ap (p.MoreExps (seen.node_exp q x)) (row-items rest)

row-hidden : (v : Vec Expr Global) → seen.row_exps (block.hidden-the_row-Expr-0 v) ≡ seen.exps_of v.items
row-hidden v = row-items (block.hidden-the_row-Expr-0 v) ∙ ap seen.exps_of (n.items_hidden-the_row-Expr-0 v)

pub cat-is : (e : Expr) (v : Vec Expr Global) (xs : List Expr) → e.node ≡ n.Cat v → xs ≡ v.items → exp_of e ≡ Cat (exps_of xs)
cat-is e v xs h g = ap (λ x. plain.exp (seen.node_exp e.place x)) h ∙ ap (λ es. Cat (plain.exps es)) (row-hidden v) ∙ ap (λ ys. Cat (exps_of ys)) (sym g)

pub rep-is : (e : Expr) (count : ℕ) (v : Vec Expr Global) (xs : List Expr) → e.node ≡ n.Rep count v → xs ≡ v.items → exp_of e ≡ Rep count (exps_of xs)
rep-is e count v xs h g = ap (λ x. plain.exp (seen.node_exp e.place x)) h ∙ ap (λ es. Rep count (plain.exps es)) (row-hidden v) ∙ ap (λ ys. Rep count (exps_of ys)) (sym g)

pub call-is : (e : Expr) (f : ℕ) (v : Vec Expr Global) (xs : List Expr) → e.node ≡ n.Call f v → xs ≡ v.items → exp_of e ≡ Call f (exps_of xs)
call-is e f v xs h g = ap (λ x. plain.exp (seen.node_exp e.place x)) h ∙ ap (λ es. Call f (plain.exps es)) (row-hidden v) ∙ ap (λ ys. Call f (exps_of ys)) (sym g)

-- one of several parts
pub part-width : (n t : ℕ) → 1 ≤ n * t → n * t ≤ 128 → t ≤ 128
part-width zero t h k = absurd (omega (arith, h))
part-width (suc n) t h k = let e : suc n * t ≡ n * t + t = omega arith in omega (arith, e, k)

pub cat_parts : (names : Names) (e : Expr) (v : Vec Expr Global) (xs : List Expr) → e.node ≡ n.Cat v → xs ≡ v.items → has varies (exp_of e) ≡ false → IsSoundExp names (exp_of e) → AreParts names (exps_of xs)
cat_parts names e v xs h g k s =
    let i = cat-is e v xs h g in
    let z : IsSoundExp names (Cat (exps_of xs)) = rw i at s in
    record { constant = rw i at k; sound = z.1; width = z.0 }

pub rep_parts : (names : Names) (e : Expr) (count : ℕ) (v : Vec Expr Global) (xs : List Expr) → e.node ≡ n.Rep count v → xs ≡ v.items → has varies (exp_of e) ≡ false → IsSoundExp names (exp_of e) → AreParts names (exps_of xs)
rep_parts names e count v xs h g k s =
    let i = rep-is e count v xs h g in
    let z : IsSoundExp names (Rep count (exps_of xs)) = rw i at s in
    record { constant = rw i at k; sound = z.1; width = record { wide = part-wide count _ z.0.wide; narrow = part-width count _ z.0.wide z.0.narrow } }

-- ---- repeated values

pub turn_fits : (i n w : ℕ) → i < n → n * w ≤ 128 → i * w + w ≤ 128
turn_fits i n w h k = let e : suc i * w ≤ n * w = mul-le-mul_right {m = suc i} {n = n} w (omega arith) in omega (arith, e, k)

pub repeated_one : (w v : ℕ) → v ≡ repeated 1 w v
repeated_one w v = omega arith

pub repeated_more : (i w v : ℕ) → repeated (i + 1) w v ≡ appended (repeated i w v) w v
repeated_more i w v = let e : i + 1 ≡ suc i = omega arith in rw e refl

pub ruleset repeats = (common_steps, turn_fits, repeated_one, repeated_more)

pub ruleset parts = (widths, cat_parts, rep_parts)
