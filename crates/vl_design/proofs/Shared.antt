-- Laws that several crates use.
use Rattle.std.proofs.Common.{Bool, List, None, Option, Some, [], ap, arith, drop, false, get_or, inl, length, map, refl, subst, suc, suc-mul, sym, true, zero, ℕ, ◌*◌, ◌+◌, ◌-◌, ◌<◌, ◌^◌, ◌∙◌, ◌∷◌, ◌≡◌, ◌≤◌}
use Rattle.std.proofs.lemmas.Bool.Decides.{nat_tests}
use Rattle.std.proofs.lemmas.List.{at_drop_more, length-map}
use Rattle.std.proofs.lemmas.Option.{slice_get-map, slice_get_within}
use Rattle.std.specs.Prelude.{None, Option, Some, is_some, nat_le, option_map, replicate, slice_get, ⊤}
use Rattle.vl_base.proofs.Parts.{joined-below}
use Rattle.vl_base.specs.Display.{Format}
use Rattle.vl_base.specs.declared.bits.UnOp.TheVariants.{LogNot}
use Rattle.vl_base.specs.declared.place.Place.{Place}
use Rattle.vl_design.proofs.Ranging.{updates_in_range}
use Rattle.vl_design.proofs.Shaping.{all_shape, shape_on}
use Rattle.vl_design.specs.Alone.{FreeSave, Keeps, Origin, at_first, at_next, blocks, first_tick}
use Rattle.vl_design.specs.Costs.{saturated}
use Rattle.vl_design.specs.Exec.{turns}
use Rattle.vl_design.specs.First.{In}
use Rattle.vl_design.specs.Formats.{Arg, behind_item, pieces_from, taken, with_item}
use Rattle.vl_design.specs.Functions.{zeros}
use Rattle.vl_design.specs.Laws.{AreUnrolledItems, IsFine, IsUnrolledStm}
use Rattle.vl_design.specs.Queue.{is_comb, is_fall, is_init, is_rise}
use Rattle.vl_design.specs.Snapshots.{Saved}
use Rattle.vl_design.specs.Sound.{AreSound, AreSoundItems, IsOf, IsSoundStm, IsWidth, Takes, count_of}
use Rattle.vl_design.specs.State.{State, Update, with_update}
use Rattle.vl_design.specs.Stops.{construct_if}
use Rattle.vl_design.specs.Syntax.{Exp, Exps, Items, MoreExps, NoExps, Proc, Row, Stm}
use Rattle.vl_design.specs.Trees.{exp_of, exps_of, fun_of}
use Rattle.vl_design.specs.Value.{repeated}
use Rattle.vl_design.specs.Width.{Names}
use Rattle.vl_design.specs.declared.capacity.Cost.{Cost}
use Rattle.vl_design.specs.declared.design.End.{End}
use Rattle.vl_design.specs.declared.design.Expr.{Expr}
use Rattle.vl_design.specs.declared.design.Func.{Func}
use Rattle.vl_design.specs.declared.design.ProcKind.{ProcKind}
use Rattle.vl_design.specs.declared.design.ProcKind.TheVariants.{Assign, Comb, Fall, Init, Rise}
use Rattle.vl_design.specs.declared.design.SigKind.{SigKind}
use Rattle.vl_design.specs.declared.stop.Stop.{Stop}
use Rattle.vl_design.specs.Placed as p
use Rattle.vl_design.specs.Plainly as plain
use Rattle.vl_design.specs.Sized as z
use Rattle.vl_design.specs.Value as v

pub no-more : (fs : List Stop) → ((f : Stop) → In f fs → ⊥) → fs ≡ []
no-more [] h = refl
no-more (x ∷ xs) h = absurd (h x (inl refl))

pub repeated-below : (n w v : ℕ) → v < 2 ^ w → repeated n w v < 2 ^ (n * w)
repeated-below zero w v h = let z : zero * w ≡ 0 = omega arith in rw z (omega arith)
repeated-below (suc n) w v h = rw (suc-mul n w) (joined-below (repeated n w v) v (n * w) w (repeated-below n w v h) h)

pub clear : (c : Bool) (at : Place) (n : ℕ) → construct_if c at n ≡ [] → c ≡ false
clear false at n e = refl
clear true at n e = absurd cc

pub item-sound : (names : Names) (es : p.Exps) (a : Stm) (others : Items) → AreSoundItems names (plain.item es a others) → AreSound names (plain.exps es) × IsSoundStm names a × AreSoundItems names others
item-sound names p.NoExps a others h = (tt, h.0, h.1)
item-sound names (p.MoreExps e es) a others h = h

pub no_fall : (k : ProcKind) → is_fall k ≡ true → is_comb k ≡ false
no_fall Init h = refl
no_fall Rise h = refl
no_fall Fall h = refl
no_fall Comb h = cc
no_fall Assign h = cc

pub no_init : (k : ProcKind) → is_init k ≡ true → is_comb k ≡ false
no_init Init h = refl
no_init Rise h = refl
no_init Fall h = refl
no_init Comb h = cc
no_init Assign h = cc

pub no_rise : (k : ProcKind) → is_rise k ≡ true → is_comb k ≡ false
no_rise Init h = refl
no_rise Rise h = refl
no_rise Fall h = refl
no_rise Comb h = cc
no_rise Assign h = cc

-- what is named is there
pub of-there : (P : SigKind → Type 0) (rows : List Row) (k : ℕ) → IsOf P (slice_get rows k) → k < length rows
of-there P [] k h = absurd h
of-there P (r ∷ rows) zero h = omega arith
of-there P (r ∷ rows) (suc k) h = omega (arith, of-there P rows k h)

pub of-named : (P : SigKind → Type 0) (r : Option Row) → IsOf P r → IsOf (λ kind. ⊤) r
of-named P None h = h
of-named P (Some r) h = (tt, h.1)

pub cost_by : (a b : Cost) → a.regs ≡ b.regs → a.cells ≡ b.cells → a.mem ≡ b.mem → a ≡ b
cost_by a b p q r =
    let x : a ≡ record { regs = b.regs; cells = a.cells; mem = a.mem } = ap (λ (n : ℕ). record a { regs = n }) p in
    let y : ◌≡◌ {A = Cost} (record { regs = b.regs; cells = a.cells; mem = a.mem }) (record { regs = b.regs; cells = b.cells; mem = a.mem }) = ap (λ (n : ℕ). record b { cells = n; mem = a.mem }) q in
    let z : ◌≡◌ {A = Cost} (record { regs = b.regs; cells = b.cells; mem = a.mem }) b = ap (λ (n : ℕ). record b { mem = n }) r in
    x ∙ y ∙ z

pub one : IsWidth 1
one = record { wide = omega arith; narrow = omega arith }

pub updated-fine : (rows : List Row) (values : List (List ℕ)) (u : Update) → IsFine rows values → IsFine rows (with_update rows values u)
updated-fine rows values u f = record { range = updates_in_range rows (u ∷ []) values f.range; shape = shape_on (all_shape rows (u ∷ []) values) f.shape }

-- values as a design's signals have them are as many
pub fine-many : (rows : List Row) (values : List (List ℕ)) → IsFine rows values → length values ≡ length rows
fine-many rows values h = h.shape.many ∙ length-map rows (λ (r : Row). replicate {A = ℕ} r.words 0)

pub long-as : (rows : List Row) → length (zeros rows) ≡ length rows
long-as [] = refl
long-as (r ∷ rows) = ap suc (long-as rows)

-- the rest of a list begins with the next one
pub exps-more : (xs : List Expr) (i : ℕ) (x : Expr) → i < length xs → x ≡ get_or xs i x → exps_of (drop i xs) ≡ MoreExps (exp_of x) (exps_of (drop (i + 1) xs))
exps-more xs i x h e = at_drop_more exps_of xs i x h ∙ ap (λ y. MoreExps (exp_of y) (exps_of (drop (i + 1) xs))) (sym e)

pub many-count : (es : List Expr) → count_of (exps_of es) ≡ length es
many-count [] = refl
many-count (e ∷ es) = let h = many-count es in omega arith

pub function-there : (fs : List Func) (k n : ℕ) → Takes (slice_get (map fun_of fs) k) n → k < length fs
function-there fs k n h = at (slice_get fs k) refl
  where
    at : (o : Option Func) → slice_get fs k ≡ o → k < length fs
    at None e =
        let z : slice_get (map fun_of fs) k ≡ None = slice_get-map fun_of fs k ∙ ap (option_map fun_of) e in
        absurd (subst (λ o. Takes o n) z h)
    at (Some f) e = slice_get_within fs k f e

pub first-bare : (path : List ℕ) (e : p.Exp) (a : Stm) → IsUnrolledStm (plain.called_first path e a) → IsUnrolledStm a
first-bare path (p.Sys at name given) a h = h.1
first-bare path (p.Un at LogNot (p.Sys q name given)) a h = h.1
first-bare path e a h = h

pub skip-some : (path : List ℕ) (n : ℕ) (a : Arg) (args : List Arg) → ¬ (n ≡ 0) → pieces_from path n (a ∷ args) ≡ pieces_from path (n - 1) args
skip-some path zero a args h = absurd (h refl)
skip-some path (suc n) a args h = let e : suc n - 1 ≡ n = omega arith in rw e refl

pub none_of : (e : Option End) → is_some e ≡ false → e ≡ None
none_of None n = refl
none_of (Some e) n = let z : ⊥ = cc in absurd z

pub behind-item-is : (o : Option Format) (e : Exp) (args : List Arg) → behind_item o args ≡ drop (taken (with_item o e [])) args
behind-item-is None e args = refl
behind-item-is (Some format) e [] = refl
behind-item-is (Some format) e (a ∷ args) = refl

pub item-bare : (es : p.Exps) (a : Stm) (others : Items) → AreUnrolledItems (plain.item es a others) → IsUnrolledStm a × AreUnrolledItems others
item-bare p.NoExps a others h = h
item-bare (p.MoreExps e es) a others h = h

pub blocks-passed : (p : ProcKind → Bool) (x : Proc) (xs : List Proc) → p x.kind ≡ false → blocks p (x ∷ xs) ≡ blocks p xs
blocks-passed p x xs h = rw h refl

pub blocks-taken : (p : ProcKind → Bool) (x : Proc) (xs : List Proc) → p x.kind ≡ true → blocks p (x ∷ xs) ≡ x ∷ blocks p xs
blocks-taken p x xs h = rw h refl

-- once finished, a loop makes no turn
pub stays : (n : ℕ) (test : State → Bool) (turn : State → State) (s : State) → test s ≡ false → turns n test turn s ≡ s
stays zero test turn s h = refl
stays (suc n) test turn s h = at (test s) h
  where
    at : (b : Bool) → b ≡ false → (elim b [ true ↦ turns n test turn (turn s) | false ↦ s ]) ≡ s
    at true h = let z : ⊥ = cc in absurd z
    at false h = refl

-- a number that is at most another is so where it is cut off
pub saturated_le : (n m : ℕ) → nat_le n m ≡ true → nat_le (saturated n) m ≡ true
saturated_le n m h = let l : n ≤ m = grind (arith, nat_tests, h) in let k : saturated n ≤ m = omega (arith, l) in grind (arith, nat_tests, k)

-- the parts of a repetition have no more bits than it has
pub repeated-narrow : (n w : ℕ) → IsWidth (n * w) → w ≤ 128
repeated-narrow zero w h = absurd (let l = h.wide in omega arith)
repeated-narrow (suc n) w h = let l = h.narrow in omega arith

pub w32 : IsWidth 32
w32 = record { wide = omega arith; narrow = omega arith }

pub w8 : IsWidth 8
w8 = record { wide = omega arith; narrow = omega arith }

pub from_first : {o : Origin} {free : List FreeSave} {k : ℕ} {saved : List Saved} → Keeps o free k saved → first_tick o.resume ≤ k
from_first (at_first e b) = omega (arith, e)
from_first (at_next x b) = omega (arith, from_first x)
