-- Places near a value, and values that stay as the signals have them.
use Rattle.std.proofs.Common.{◌≡◌, ◌≤◌, ◌<◌, ℕ, suc, min, List, [], ◌∷◌, length, map, refl, ap, sym, ◌∙◌, ◌+◌, drop, get_or, arith, ℤ}
use Rattle.std.specs.Prelude.{pos, negsuc, replicate}
use Rattle.std.proofs.lemmas.List.{length-map, at_drop_more}
use Rattle.vl_base.specs.Selects.{placed}
use Rattle.vl_design.specs.Syntax.{Row}
use Rattle.vl_design.specs.Width.{Names}
use Rattle.vl_design.specs.State.{Update, with_update, all_updated}
use Rattle.vl_design.specs.Sound.{IsNamed}
use Rattle.vl_design.specs.Laws.{IsFine}
use Rattle.vl_design.proofs.Ranging.{updates_in_range}
use Rattle.vl_design.proofs.Shaping.{all_shape, shape_on}
use Rattle.vl_eval.specs.Wholes.{near}
use Rattle.vl_eval.specs.declared.update.Update.{Update as Written}
use Rattle.vl_eval.specs.Updates.{update_of}
use Rattle.vl_eval.proofs.Names.{named-there}
use Rattle.vl_eval.proofs.Readable.{word-small}
pub use Rattle.vl_design.proofs.Shared.{updated-fine as fine-updated}

near-placed : (w v : ℕ) (z : ℤ) (width part : ℕ) → w ≤ 128 → width ≤ 128 → placed w v (near z) width part ≡ placed w v z width part
near-placed w v (pos n) width part h k = let m : min (min n 128) w ≡ min n w = omega arith in rw m refl
near-placed w v (negsuc n) width part h k = let m : min (suc (min n 128)) width ≡ min (suc n) width = omega arith in rw m refl

pub placed-near : (w v : ℕ) (y z : ℤ) (width part : ℕ) → w ≤ 128 → width ≤ 128 → near y ≡ near z → placed w v y width part ≡ placed w v z width part
placed-near w v y z width part h k e = sym (near-placed w v y width part h k) ∙ (ap (λ x. placed w v x width part) e ∙ near-placed w v z width part h k)

pub fine-there : (names : Names) (values : List (List ℕ)) (k : ℕ) → IsFine names.rows values → IsNamed names k → k < length values
fine-there names values k f h =
    let there = named-there names k h in
    omega (arith, f.shape.many, length-map names.rows (λ (r : Row). replicate {A = ℕ} r.words 0))

-- the rest of the updates begins with the next one
pub updates-more : (rows : List Row) (xs : List Written) (i : ℕ) (x : Written) (values : List (List ℕ)) → i < length xs → x ≡ get_or xs i x → all_updated rows values (map update_of (drop i xs)) ≡ all_updated rows (with_update rows values (update_of x)) (map update_of (drop (i + 1) xs))
updates-more rows xs i x values h e =
    ap (all_updated rows values) (at_drop_more (map update_of) xs i x h)
    ∙ ap (λ y. all_updated rows (with_update rows values (update_of y)) (map update_of (drop (i + 1) xs))) (sym e)

pub ruleset rows = (word-small, fine-there)
