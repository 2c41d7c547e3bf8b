-- What statements count, part by part.
use Rattle.std.proofs.Common.{◌≡◌, refl, sym, ap, ◌∙◌, arith, ℕ, zero, suc, ◌+◌, ◌*◌, ◌≤◌, ◌<◌, ◌⊎◌, inl, inr, min, Bool, true, false, List, [], ◌∷◌, map, slice_set}
use Rattle.std.specs.Prelude.{if◌then◌else◌, sum_by}
use Rattle.std.proofs.lemmas.Bool.{cases_lt}
use Rattle.std.proofs.lemmas.List.Sums.{sum_by-cons}
use Rattle.std.proofs.Math.Nat.{mul-le-mul_left}
use Rattle.std.specs.declared.alloc.Global.{Global}
use Rattle.std.specs.declared.vec.Vec.{Vec}
use Rattle.vl_base.specs.declared.place.Place.{Place}
use Rattle.vl_design.specs.declared.design.Stmt.{Stmt}
use Rattle.vl_design.specs.declared.design.StmtNode as s
use Rattle.vl_design.specs.declared.design.StmtNode.TheBlock as sb
use Rattle.vl_design.specs.declared.design.CaseItem.{CaseItem}
use Rattle.vl_design.specs.declared.design.Expr.{Expr}
use Rattle.vl_design.specs.Placed as p
use Rattle.vl_design.specs.Plainly as plain
use Rattle.vl_design.specs.Seen as seen
use Rattle.vl_design.specs.Syntax.{Exp, Stm}
use Rattle.vl_design.specs.Width.{Scope}
use Rattle.vl_design.specs.State.{State}
use Rattle.vl_design.specs.Exec.{exec, goes_on, turns, most_turns}
use Rattle.vl_design.specs.Cost.{over_turns}
use Rattle.vl_design.proofs.TreeLemmas.{placed-Seq}
use Rattle.vl_loops.specs.Limits.{Counted, else_count, stm_count}
use Rattle.vl_loops.specs.Heads.{turn_states, AreTurns}
use Rattle.vl_loops.specs.Rooms.{state_of}
use Rattle.vl_loops.proofs.SteppingOfHeader.{loop-there, others-set}
use Rattle.vl_limits.specs.Walks.{is_missing, items_of}
use Rattle.vl_base.proofs.Lists.{sum_map as sum-map}

-- ---- products

-- a product stops at the cap if its factor does
pub product-capped : (cap n x : ℕ) → min cap (n * min cap x) ≡ min cap (n * x)
product-capped cap zero x = omega arith
product-capped cap (suc n) x = by (cases_lt x cap)
  where
    by : (x < cap) ⊎ (cap ≤ x) → min cap (suc n * min cap x) ≡ min cap (suc n * x)
    by (inl h) = let e : min cap x ≡ x = omega arith in rw e refl
    by (inr h) =
        let e : min cap x ≡ cap = omega arith in
        let k : n * cap ≤ n * x = mul-le-mul_left n h in
        rw e (omega (arith, k))

pub ruleset products = (product-capped)

-- ---- the trees of lists

row_items-items : {n : _} (k : s.Row_of-CaseItem n) → seen.row_items k ≡ items_of (s.items-the_row-CaseItem n k)
row_items-items s.end_of-CaseItem = refl
row_items-items (s.more_of-CaseItem labels q x rest) = ap (p.MoreItems (seen.exps_of labels.items) (seen.node_stm q x)) (row_items-items rest)

pub case-of : (x : Stmt) (e : Expr) (v : Vec CaseItem Global) (wild : Bool) → x.node ≡ s.Case e v wild → seen.stm_of x ≡ p.Case x.place (seen.exp_of e) (items_of v.items) wild
case-of x e v wild h =
    ap (seen.node_stm x.place) h
    ∙ ap (λ z. p.Case x.place (seen.exp_of e) z wild) (row_items-items (sb.hidden-the_row-CaseItem-1 v) ∙ ap items_of (s.items_hidden-the_row-CaseItem-1 v))

-- ---- an `else`

pub else-missing : (c : Counted) (at : Place) (a : p.Stm) (n : ℕ) → is_missing at a ≡ true → else_count c at a n ≡ 0
else-missing c at (p.Nop q) n h = rw h refl
else-missing c at (p.Seq q as') n h = let z : ⊥ = cc in absurd z
else-missing c at (p.If q t a b) n h = let z : ⊥ = cc in absurd z
else-missing c at (p.Case q x is wild) n h = let z : ⊥ = cc in absurd z
else-missing c at (p.For q j start test step a) n h = let z : ⊥ = cc in absurd z
else-missing c at (p.Repeat q m a) n h = let z : ⊥ = cc in absurd z
else-missing c at (p.Set q t x) n h = let z : ⊥ = cc in absurd z
else-missing c at (p.Later q t x) n h = let z : ⊥ = cc in absurd z
else-missing c at (p.Task q name given) n h = let z : ⊥ = cc in absurd z

pub else-there : (c : Counted) (at : Place) (a : p.Stm) (n : ℕ) → is_missing at a ≡ false → else_count c at a n ≡ n
else-there c at (p.Nop q) n h = rw h refl
else-there c at (p.Seq q as') n h = refl
else-there c at (p.If q t a b) n h = refl
else-there c at (p.Case q x is wild) n h = refl
else-there c at (p.For q j start test step a) n h = refl
else-there c at (p.Repeat q m a) n h = refl
else-there c at (p.Set q t x) n h = refl
else-there c at (p.Later q t x) n h = refl
else-there c at (p.Task q name given) n h = refl

-- ---- turns

turns-sum : {S : Type 0} (n : ℕ) (test : S → Bool) (step : S → S) (f : S → ℕ) (x : S) → over_turns n test step f x ≡ sum_by f (turn_states n test step x)
unfolding turn_states
turns-sum zero test step f x = refl
turns-sum {S} (suc n) test step f x = at (test x) (turns-sum n test step f (step x))
  where
    at : (b : Bool) → over_turns n test step f (step x) ≡ sum_by f (turn_states n test step (step x)) →
        (elim b [ true ↦ f x + over_turns n test step f (step x) | false ↦ 0 ]) ≡ sum_by f (elim b [ true ↦ x ∷ turn_states n test step (step x) | false ↦ [] ])
    at true h = ap (λ m. f x + m) h ∙ sym (sum_by-cons f x (turn_states n test step (step x)))
    at false h = refl

-- what the turns of a loop count, from the numbers of its variable in them
pub loop-count : (c : Counted) (scope : Scope) (test : Exp) (step : Stm) (f : State → ℕ) (x : State) (g : ℕ → State) (numbers : List ℕ) (endless : Bool) → AreTurns scope test step most_turns x (map g numbers) endless →
    (if goes_on scope test (turns most_turns (goes_on scope test) (exec scope step) x) then c.endless else 0) + over_turns most_turns (goes_on scope test) (exec scope step) f x
    ≡ (if endless then c.endless else 0) + sum_by (λ v. f (g v)) numbers
unfolding AreTurns
loop-count c scope test step f x g numbers endless h =
    ap (λ b. (if b then c.endless else 0) + over_turns most_turns (goes_on scope test) (exec scope step) f x) (sym h.1)
    ∙ ap (λ m. (if endless then c.endless else 0) + m) (turns-sum most_turns (goes_on scope test) (exec scope step) f x ∙ (ap (sum_by f) h.0 ∙ sum-map f g numbers))

pub ruleset counts = (placed-Seq, case-of, else-missing, else-there, loop-there, others-set)

-- ---- sums of statements

pub loop-arith : (cap sum st own ended x e t : ℕ) → own ≡ min cap (sum + st) → ended ≡ min cap (own + e) → x ≡ e + t → min cap (ended + t) ≡ min cap (sum + (st + x))
loop-arith cap sum st own ended x e t h k i = omega arith

pub loop-sum : (c : Counted) (scope : Scope) (q : Place) (j : ℕ) (start : p.Stm) (test : p.Exp) (step body body' a : p.Stm) (ns ms numbers numbers' : List ℕ) (endless : Bool) (cap sum own ended : ℕ) → a ≡ p.For q j start test step body →
    own ≡ min cap (sum + c.statement) → ended ≡ min cap (own + (if endless then c.endless else 0)) →
    AreTurns scope (plain.exp test) (plain.stm [] step) most_turns (exec scope (plain.stm [] start) (state_of ns)) (map (λ v. state_of (slice_set ns j v)) numbers) endless → ms ≡ ns → numbers' ≡ numbers → body' ≡ body →
    min cap (ended + sum_by (λ v. stm_count c scope body' (state_of (slice_set ms j v))) numbers') ≡ min cap (sum + stm_count c scope a (state_of ns))
loop-sum c scope q j start test step body body' a ns ms numbers numbers' endless cap sum own ended e h k t m n b =
    let f = λ (x : State). stm_count c scope body x in
    ap (λ z. min cap (ended + sum_by (λ v. stm_count c scope z (state_of (slice_set ms j v))) numbers')) b
    ∙ (ap (λ z. min cap (ended + sum_by (λ v. stm_count c scope body (state_of (slice_set z j v))) numbers')) m
    ∙ (ap (λ z. min cap (ended + sum_by (λ v. stm_count c scope body (state_of (slice_set ns j v))) z)) n
    ∙ (loop-arith cap sum c.statement own ended _ (if endless then c.endless else 0) (sum_by (λ v. stm_count c scope body (state_of (slice_set ns j v))) numbers) h k
    (loop-count c scope (plain.exp test) (plain.stm [] step) f (exec scope (plain.stm [] start) (state_of ns)) (λ v. state_of (slice_set ns j v)) numbers endless t)
    ∙ sym (ap (λ z. min cap (sum + stm_count c scope z (state_of ns))) e))))

pub repeat-arith : (cap sum st own once x e n r : ℕ) → own ≡ min cap (sum + st) → once ≡ min cap (0 + x) → r ≡ min cap (own + (e + n * once)) → r ≡ min cap (sum + (st + (e + n * x)))
repeat-arith cap sum st own once x e n r h k i =
    let z : once ≡ min cap x = omega arith in
    let p : min cap (n * once) ≡ min cap (n * x) = ap (λ y. min cap (n * y)) z ∙ product-capped cap n x in
    omega (arith, p)
