-- Lists inside expressions.
use Rattle.std.proofs.Common.{◌≡◌, ◌<◌, ◌≤◌, ◌+◌, refl, ap, sym, ◌∙◌, ℕ, List, length, get_or, drop, arith}
use Rattle.std.proofs.lemmas.List.{at_drop_more}
use Rattle.std.specs.declared.alloc.Global.{Global}
use Rattle.std.specs.declared.vec.Vec.{Vec}
use Rattle.vl_design.specs.declared.design.Expr.{Expr}
use Rattle.vl_design.specs.declared.design.ExprNode as d
use Rattle.vl_design.specs.declared.design.ExprNode.TheBlock as blk
use Rattle.std.specs.Prelude.{◌⊎◌}
use Rattle.std.proofs.Common.{inl, inr}
use Rattle.vl_design.specs.Syntax.{Exp, Cat, Rep, Call, Exps, MoreExps}
use Rattle.vl_eval.specs.Answers.{parts_of}
use Rattle.vl_design.specs.Placed as p
use Rattle.vl_design.specs.Plainly as plain
use Rattle.vl_design.specs.Seen as seen
use Rattle.vl_design.specs.Trees.{exp_of, exps_of}
use Rattle.vl_design.specs.Width.{Names, total_width}
use Rattle.vl_design.specs.Sound.{IsSoundExp, AreSound}
use Rattle.vl_eval.proofs.Names.{named-width, signal-named, memory-named, named-there}
use Rattle.vl_eval.proofs.Widths.{form-width, repeated-narrow, called-there}
pub use Rattle.vl_design.proofs.Shared.{exps-more}

row-items : {m : _} (k : d.Row_of-Expr m) → seen.row_exps k ≡ seen.exps_of (d.items-the_row-Expr m k)
row-items d.end_of-Expr = refl
row-items (d.more_of-Expr q v rest) = ap (p.MoreExps (seen.node_exp q v)) (row-items rest)

row-hidden : (v : Vec Expr Global) → seen.row_exps (blk.hidden-the_row-Expr-0 v) ≡ seen.exps_of v.items
row-hidden v = row-items (blk.hidden-the_row-Expr-0 v) ∙ ap seen.exps_of (d.items_hidden-the_row-Expr-0 v)

-- an expression whose node has a list has the tree of the list
pub cat-of : (x : Expr) (v : Vec Expr Global) → x.node ≡ d.Cat v → exp_of x ≡ Cat (exps_of v.items)
cat-of x v h = ap (λ n. plain.exp (seen.node_exp x.place n)) h ∙ ap (λ es. Cat (plain.exps es)) (row-hidden v)

pub rep-of : (x : Expr) (n : ℕ) (v : Vec Expr Global) → x.node ≡ d.Rep n v → exp_of x ≡ Rep n (exps_of v.items)
rep-of x n v h = ap (λ k. plain.exp (seen.node_exp x.place k)) h ∙ ap (λ es. Rep n (plain.exps es)) (row-hidden v)

pub call-of : (x : Expr) (f : ℕ) (v : Vec Expr Global) → x.node ≡ d.Call f v → exp_of x ≡ Call f (exps_of v.items)
call-of x f v h = ap (λ k. plain.exp (seen.node_exp x.place k)) h ∙ ap (λ es. Call f (plain.exps es)) (row-hidden v)

-- ---- the parts of a sound concatenation

pub record HasParts (names : Names) (e : Exp) (es : Exps) : Type 0 where
  pub are : parts_of e ≡ es
  pub sound : AreSound names es
  pub narrow : total_width names es ≤ 128

cat-parts : (names : Names) (x : Expr) (v : Vec Expr Global) → x.node ≡ d.Cat v → IsSoundExp names (exp_of x) → HasParts names (exp_of x) (exps_of v.items)
cat-parts names x v h s =
    let k = rw (cat-of x v h) at s in
    record { are = ap parts_of (cat-of x v h); sound = k.1; narrow = k.0.narrow }

rep-parts : (names : Names) (x : Expr) (n : ℕ) (v : Vec Expr Global) → x.node ≡ d.Rep n v → IsSoundExp names (exp_of x) → HasParts names (exp_of x) (exps_of v.items)
rep-parts names x n v h s =
    let k = rw (rep-of x n v h) at s in
    record { are = ap parts_of (rep-of x n v h); sound = k.1; narrow = repeated-narrow n _ k.0 }

pub has-parts : (names : Names) (x : Expr) (v : Vec Expr Global) → (x.node ≡ d.Cat v) ⊎ ((n : ℕ) × (x.node ≡ d.Rep n v)) → IsSoundExp names (exp_of x) → HasParts names (exp_of x) (exps_of v.items)
has-parts names x v (inl h) s = cat-parts names x v h s
has-parts names x v (inr (n, h)) s = rep-parts names x n v h s

pub first-sound : (names : Names) (xs : List Expr) (i : ℕ) (x : Expr) → i < length xs → x ≡ get_or xs i x → AreSound names (exps_of (drop i xs)) → IsSoundExp names (exp_of x)
first-sound names xs i x h e s = let k = rw (exps-more xs i x h e) at s in k.0

-- a part has no more bits than the parts together
pub narrow-part : (names : Names) (e : Exp) → IsSoundExp names e → total_width names (parts_of e) ≤ 128
narrow-part names (Cat es) h = h.0.narrow
narrow-part names (Rep n es) h = repeated-narrow n _ h.0
narrow-part names e h = omega arith

pub ruleset list_rules = (exps-more, first-sound, narrow-part, form-width, named-width, signal-named, memory-named, named-there, called-there)
