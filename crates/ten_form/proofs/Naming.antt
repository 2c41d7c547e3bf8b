-- The memories that statements make pending, tree by tree.
use Rattle.std.proofs.Common.{◌≡◌, ℕ, List, [], ◌++◌, refl, sym, ap, ◌∙◌, append_assoc, Bool}
use Rattle.vl_design.specs.vl_base.specs.declared.bits.UnOp.TheVariants.{LogNot}
use Rattle.std.specs.declared.alloc.Global.{Global}
use Rattle.std.specs.declared.vec.Vec.{Vec}
use Rattle.vl_design.specs.declared.design.CaseItem.{CaseItem}
use Rattle.vl_design.specs.declared.design.Expr.{Expr}
use Rattle.vl_design.specs.declared.design.Stmt.{Stmt}
use Rattle.vl_design.specs.declared.design.StmtNode as s
use Rattle.vl_design.specs.Placed as p
use Rattle.vl_design.specs.Plainly as plain
use Rattle.vl_design.specs.Plainly.{called_first}
use Rattle.vl_design.specs.Seen as seen
use Rattle.vl_design.specs.Syntax.{Stm, Items}
use Rattle.vl_design.specs.Trees.{stm_of}
use Rattle.vl_design.proofs.TreeLemmas.{placed-Seq}
use Rattle.cell_emit.specs.vl_sites.proofs.Rows.{list-of, case-of}
use Rattle.sub_split.specs.Items.{items_of}
use Rattle.sub_split.proofs.Trees as trees
use Rattle.cell_emit.specs.vl_sites.specs.Stored.{stored_words, items_stored, default_stored}

joined : {a b x y : List ℕ} → a ≡ b → x ≡ y → a ++ x ≡ b ++ y
joined {a} {b} {x} {y} e f = ap (λ u. u ++ x) e ∙ ap (λ v. b ++ v) f

-- a call that comes first stores nothing
pub first-stored : (path : List ℕ) (e : p.Exp) (a : Stm) → stored_words (called_first path e a) ≡ stored_words a
first-stored path (p.Sys at name given) a = refl
first-stored path (p.Un at LogNot (p.Sys q name given)) a = refl
first-stored path e a = refl

-- the body of an item
item-stored : (es : p.Exps) (a b : Stm) (x y : Items) → stored_words a ≡ stored_words b → items_stored x ≡ items_stored y → items_stored (plain.item es a x) ≡ items_stored (plain.item es b y)
item-stored p.NoExps a b x y e f = f
item-stored (p.MoreExps l ls) a b x y e f = joined e f

item-default : (es : p.Exps) (a b : Stm) (x y : Items) → stored_words a ≡ stored_words b → default_stored x ≡ default_stored y → default_stored (plain.item es a x) ≡ default_stored (plain.item es b y)
item-default p.NoExps a b x y e f = e
item-default (p.MoreExps l ls) a b x y e f = f

-- the path of an instance is nothing to them
module _ (path : List ℕ) where
  mutual
    pathless : (x : p.Stm) → stored_words (plain.stm path x) ≡ stored_words (plain.stm [] x)
    pathless (p.Nop at) = refl
    pathless (p.Seq at as') = list-pathless as'
    pathless (p.If at t a b) = first-stored path t _ ∙ (joined (pathless a) (pathless b) ∙ sym (first-stored [] t _))
    pathless (p.Case at e is wild) = joined (items-pathless is) (default-pathless is)
    pathless (p.For at k start test step a) = refl
    pathless (p.Repeat at n a) = refl
    pathless (p.Set at t e) = first-stored path e _ ∙ sym (first-stored [] e _)
    pathless (p.Later at t e) = first-stored path e _ ∙ sym (first-stored [] e _)
    pathless (p.Task at name given) = refl

    list-pathless : (x : p.Stms) → stored_words (plain.stms path x) ≡ stored_words (plain.stms [] x)
    list-pathless p.NoStms = refl
    list-pathless (p.MoreStms a as') = joined (pathless a) (list-pathless as')

    items-pathless : (x : p.Items) → items_stored (plain.items path x) ≡ items_stored (plain.items [] x)
    items-pathless p.NoItems = refl
    items-pathless (p.MoreItems es a others) = item-stored es (plain.stm path a) (plain.stm [] a) _ _ (pathless a) (items-pathless others)

    default-pathless : (x : p.Items) → default_stored (plain.items path x) ≡ default_stored (plain.items [] x)
    default-pathless p.NoItems = refl
    default-pathless (p.MoreItems es a others) = item-default es (plain.stm path a) (plain.stm [] a) _ _ (pathless a) (default-pathless others)

pub any-path : (path : List ℕ) (a : Stmt) → stored_words (stm_of path a) ≡ stored_words (stm_of [] a)
any-path path a = pathless path (seen.stm_of a)

-- what a case adds
pub case-adds : (x : Stmt) (e : Expr) (v : Vec CaseItem Global) (wild : Bool) (list other : List CaseItem) (old mid : List ℕ) → x.node ≡ s.Case e v wild → list ≡ v.items
    → other ≡ v.items → mid ≡ old ++ items_stored (items_of [] list) → mid ++ default_stored (items_of [] other) ≡ old ++ stored_words (stm_of [] x)
case-adds x e v wild list other old mid h k l a =
    ap (λ m. m ++ default_stored (items_of [] other)) a
    ∙ (append_assoc old (items_stored (items_of [] list)) (default_stored (items_of [] other))
    ∙ (ap (λ z. old ++ (items_stored (items_of [] list) ++ default_stored (items_of [] z))) (l ∙ sym k)
    ∙ ap (λ z. old ++ stored_words z) (sym (trees.case-of [] x e v wild list h k))))

pub ruleset targets = (list-of)

pub ruleset statements = (case-of, placed-Seq, first-stored)
