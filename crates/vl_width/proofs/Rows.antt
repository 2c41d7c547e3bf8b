-- Lists of sized expressions.
use Rattle.std.proofs.Common.{◌≡◌, ◌<◌, ℕ, zero, suc, List, [], ◌∷◌, map, length, get_or, refl, sym, ap, ◌∙◌, arith}
use Rattle.std.specs.declared.alloc.Global.{Global}
use Rattle.std.specs.declared.vec.Vec.{Vec}
use Rattle.vl_design.specs.declared.sized.SizedExpr.{SizedExpr}
use Rattle.vl_design.specs.declared.sized.SizedNode as s
use Rattle.vl_design.specs.declared.sized.SizedNode.TheBlock as block
use Rattle.vl_design.specs.Sized.{Sized, Several, NoneSized, MoreSized, sized_of, several_of, At, node_of}
use Rattle.vl_width.specs.Sizing.{several_at}
use Rattle.vl_width.specs.Read.{each_at}

abbrev pub listed : List Sized → Several
listed [] = NoneSized
listed (x ∷ xs) = MoreSized x (listed xs)

several-items : {m : _} (k : s.Row_of-SizedExpr m) → several_of k ≡ listed (map sized_of (s.items-the_row-SizedExpr m k))
several-items s.end_of-SizedExpr = refl
several-items (s.more_of-SizedExpr w g x rest) = ap (MoreSized (At w g (node_of x))) (several-items rest)

-- a row is the list of its items
pub several-hidden : (v : Vec SizedExpr Global) → several_of (block.hidden-the_row-SizedExpr-0 v) ≡ listed (map sized_of v.items)
several-hidden v = several-items (block.hidden-the_row-SizedExpr-0 v) ∙ ap (λ xs. listed (map sized_of xs)) (s.items_hidden-the_row-SizedExpr-0 v)

each-listed : (xs : List Sized) → listed (map each_at xs) ≡ several_at (listed xs)
each-listed [] = refl
each-listed (x ∷ xs) = ap (MoreSized (each_at x)) (each-listed xs)

-- where each of the list is read for itself, so is the row
pub row-each : (v w : Vec SizedExpr Global) → map sized_of w.items ≡ map each_at (map sized_of v.items)
    → several_of (block.hidden-the_row-SizedExpr-0 w) ≡ several_at (several_of (block.hidden-the_row-SizedExpr-0 v))
row-each v w h = several-hidden w ∙ (ap listed h ∙ (each-listed (map sized_of v.items) ∙ ap several_at (sym (several-hidden v))))

-- two lists that are alike index by index
pub alike : {A B : Type 0} (f : A → B) (g : B → B) (xs ys : List A) → length xs ≡ length ys
    → ((k : ℕ) (d : A) → k < length xs → f (get_or xs k d) ≡ g (f (get_or ys k d))) → map f xs ≡ map g (map f ys)
alike f g [] [] e h = refl
alike f g [] (y ∷ ys) e h = absurd (omega arith)
alike f g (x ∷ xs) [] e h = absurd (omega arith)
alike f g (x ∷ xs) (y ∷ ys) e h =
    let first : f x ≡ g (f y) = h zero x (omega arith) in
    let rest = alike f g xs ys (omega arith) (λ k d l. h (suc k) d (omega arith)) in
    cc (first, rest)
