-- Lists of targets, one by one.
use Rattle.std.proofs.Common.{◌≡◌, ◌<◌, ◌+◌, ℕ, List, [], ◌∷◌, length, drop, get_or, refl, sym, ap, ◌∙◌}
use Rattle.std.proofs.lemmas.List.{at_drop_more}
use Rattle.std.specs.declared.alloc.Global.{Global}
use Rattle.std.specs.declared.vec.Vec.{Vec}
use Rattle.vl_design.specs.declared.design.Target.{Target}
use Rattle.vl_design.specs.declared.design.TargetNode as n
use Rattle.vl_design.specs.declared.design.TargetNode.TheBlock as block
use Rattle.vl_design.specs.Plainly as plain
use Rattle.vl_design.specs.Seen as seen
use Rattle.vl_design.specs.Syntax.{Several, Targets, NoTargets, MoreTargets}
use Rattle.vl_design.specs.Trees.{target_of}

abbrev pub listed : List Target → Targets
listed [] = NoTargets
listed (x ∷ xs) = MoreTargets (target_of x) (listed xs)

row-items : {m : _} (k : n.Row_of-Target m) → plain.targets (seen.row_targets k) ≡ listed (n.items-the_row-Target m k)
row-items n.end_of-Target = refl
row-items (n.more_of-Target q x rest) = ap (MoreTargets (plain.target (seen.node_target q x))) (row-items rest)

pub several-is : (t : Target) (v : Vec Target Global) (xs : List Target) → t.node ≡ n.List v → xs ≡ v.items → target_of t ≡ Several (listed xs)
several-is t v xs h g =
    ap (λ x. plain.target (seen.node_target t.place x)) h
    ∙ ap Several (row-items (block.hidden-the_row-Target-0 v) ∙ ap listed (n.items_hidden-the_row-Target-0 v))
    ∙ ap (λ ys. Several (listed ys)) (sym g)

-- the rest of a list begins with the next one
pub targets-more : (xs : List Target) (i : ℕ) (x : Target) → i < length xs → x ≡ get_or xs i x → listed (drop i xs) ≡ MoreTargets (target_of x) (listed (drop (i + 1) xs))
targets-more xs i x h e = at_drop_more listed xs i x h ∙ ap (λ y. MoreTargets (target_of y) (listed (drop (i + 1) xs))) (sym e)
