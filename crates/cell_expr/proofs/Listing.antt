-- Statements one after another, and what parts of them write.
use Rattle.std.proofs.Common.{◌≡◌, ℕ, ◌+◌, ◌<◌, Bool, true, false, List, [], ◌++◌, length, drop, get_or, refl, sym, ap, ◌∙◌, subst, nat_lt, append_assoc, append-nil}
use Rattle.std.specs.Prelude.{◌||◌}
use Rattle.vl_design.specs.declared.design.Stmt.{Stmt}
use Rattle.vl_design.specs.Plainly as plain
use Rattle.vl_design.specs.Reads.{stm_writes}
use Rattle.vl_design.specs.Syntax.{Stm, Then, Items}
use Rattle.vl_design.specs.Trees.{stm_of, then_of}
use Rattle.vl_design.specs.Width.{Names}
use Rattle.vl_run.proofs.Statements.{stms-more}
use Rattle.cell_expr.specs.Bodies.{IsSegment, AreSegmentItems, CanWait}
pub use Rattle.vl_base.proofs.Booleans.{or_left_false as none-left, or_right_false as none-right}

pub then-more : (xs : List Stmt) (i : ℕ) (x : Stmt) → i < length xs → x ≡ get_or xs i x → then_of [] (drop i xs) ≡ Then (stm_of [] x) (then_of [] (drop (i + 1) xs))
then-more xs i x h e = ap (plain.stms []) (stms-more xs i x h e)

-- below a number that is the same
pub apart-at : (n m : ℕ) (a : Stm) → m ≡ n → stm_writes (λ k. nat_lt k n) a ≡ false → stm_writes (λ k. nat_lt k m) a ≡ false
apart-at n m a e h = subst (λ z. stm_writes (λ k. nat_lt k z) a ≡ false) (sym e) h

-- what comes behind, and what behind that
pub list-then : (ms ns xs ys all : List ℕ) → ns ≡ ms ++ xs → ms ++ (xs ++ ys) ≡ all → ns ++ ys ≡ all
list-then ms ns xs ys all e is = ap (λ z. z ++ ys) e ∙ append_assoc ms xs ys ∙ is

pub list-both : (ms ns ks xs ys : List ℕ) → ns ≡ ms ++ xs → ks ≡ ns ++ ys → ks ≡ ms ++ (xs ++ ys)
list-both ms ns ks xs ys e is = is ∙ ap (λ z. z ++ ys) e ∙ append_assoc ms xs ys

pub list-none : (ms all : List ℕ) → ms ++ [] ≡ all → ms ≡ all
list-none ms all e = sym (append-nil ms) ∙ e

-- as many signals may have updates that are pending
pub waits-at : (names : Names) (n m : ℕ) (a : Stm) → m ≡ n → IsSegment (CanWait names n) a → IsSegment (CanWait names m) a
waits-at names n m a e h = subst (λ z. IsSegment (CanWait names z) a) (sym e) h

pub items-wait-at : (names : Names) (n m : ℕ) (items : Items) → m ≡ n → AreSegmentItems (CanWait names n) items → AreSegmentItems (CanWait names m) items
items-wait-at names n m items e h = subst (λ z. AreSegmentItems (CanWait names z) items) (sym e) h
