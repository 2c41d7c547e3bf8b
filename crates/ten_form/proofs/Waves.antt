-- In a design's table the nodes of waves lead down.
use Rattle.std.proofs.Common.{◌≡◌, ℕ, zero, suc, ◌+◌, ◌<◌, true, false, List, [], ◌∷◌, ◌++◌, map, length, Some, sym, ◌∙◌, ap, subst, arith, inl, inr}
use Rattle.std.specs.Prelude.{◌==◌, slice_get}
use Rattle.std.specs.List.{list_any}
use Rattle.std.proofs.lemmas.Bool.{eqb-true, or_cases, true≢false}
use Rattle.std.proofs.lemmas.List.Elements.{All-head, All-tail}
use Rattle.vl_design.proofs.Running.{some_is}
use Rattle.vl_design.specs.Syntax.{Task, Proc, Flat}
use Rattle.vl_design.specs.Queue.{is_init, is_rise, is_fall}
use Rattle.vl_design.specs.Alone.{blocks}
use Rattle.sub_split.specs.sub_nodes.specs.Nodes.{Segment, still, rising, Way, WayOn, Go, Branch, Switch, Commit, Node, Run, Trap}
use Rattle.sub_split.specs.sub_nodes.specs.Implements.{bodies}
use Rattle.sub_split.specs.sub_nodes.specs.Code.{wave_nodes, fall_nodes, updates, table_of}
use Rattle.sub_split.specs.sub_nodes.specs.Cycles.{is_trap}
use Rattle.sub_split.specs.sub_nodes.specs.Shape.{leads_to}
use Rattle.sub_split.specs.sub_nodes.proofs.Coded.{updates_many}
use Rattle.sub_split.specs.sub_nodes.proofs.Pairing.{table_pair}
use Rattle.sub_split.specs.sub_nodes.proofs.Falling.{AllBelow, NodeFalls, AllFall, fall_both, wave_falls}
use Rattle.sub_split.specs.sub_nodes.proofs.Shared.{falls-fall}

fall-at : (n : ℕ) (xs : List Node) (k : ℕ) (x : Node) → AllFall n xs → slice_get xs k ≡ Some x → NodeFalls (n + k) x
fall-at n [] k x f h = let z : ⊥ = cc in absurd z
fall-at n (y ∷ xs) zero x f h =
    let e : n ≡ n + zero = omega arith in
    subst (λ j. NodeFalls j x) e (subst (NodeFalls n) (some_is h) f.0)
fall-at n (y ∷ xs) (suc k) x f h =
    let e : n + 1 + k ≡ n + suc k = omega arith in
    subst (λ j. NodeFalls j x) e (fall-at (n + 1) xs k x f.1 h)

updates-fall : (ps : List Proc) (rise fall : ℕ) → AllFall 0 (updates ps rise fall)
updates-fall [] rise fall = (tt, (tt, tt))
updates-fall (p ∷ ps) rise fall = (tt, (tt, (tt, tt)))

table-falls : (d : Flat) → AllFall 0 (table_of d).nodes
table-falls d =
    let T = table_of d in
    let ups = bodies (blocks is_rise d.procs) in
    let falls = blocks is_fall d.procs in
    let inits = bodies (blocks is_init d.procs) in
    let from = length (updates falls 0 0) in
    let up = wave_nodes from 1 ups rising in
    let down = fall_nodes (from + length up) falls in
    let first = wave_nodes (from + length up + length down) 0 inits still in
    let over = updates falls T.rise.first T.fall.first in
    let e : from ≡ 0 + length over = (let f = updates_many falls T.rise.first T.fall.first in omega (arith, f)) in
    let rest : AllFall from (up ++ (down ++ first)) =
    fall_both from up (down ++ first) (wave_falls from 1 ups rising)
    (fall_both (from + length up) down first (falls-fall (from + length up) falls) (wave_falls (from + length up + length down) 0 inits still)) in
    fall_both 0 over (up ++ (down ++ first)) (updates-fall falls T.rise.first T.fall.first) (subst (λ j. AllFall j (up ++ (down ++ first))) e rest)

node-falls : (d : Flat) (n : ℕ) (x : Node) → slice_get (table_of d).nodes n ≡ Some x → NodeFalls n x
node-falls d n x h =
    let e : 0 + n ≡ n = omega arith in
    subst (λ j. NodeFalls j x) e (fall-at 0 (table_of d).nodes n x (table-falls d) h)

any-below : (n m : ℕ) (xs : List ℕ) → AllBelow n xs → list_any (λ k. k == m) xs ≡ true → m < n
any-below n m [] f h = absurd (true≢false (sym h))
any-below n m (x ∷ xs) f h =
    elim (or_cases (x == m) (list_any (λ k. k == m) xs) h) [
      | inl e ↦ (let same : x ≡ m = eqb-true x m e in subst (λ k. k < n) same (All-head (λ k. k < n) x xs f))
      | inr e ↦ any-below n m xs (All-tail (λ k. k < n) x xs f) e
    ]

only-one : (to m : ℕ) → list_any (λ k. k == m) (to ∷ []) ≡ true → to ≡ m
only-one to m h = elim (or_cases (to == m) false h) [ inl e ↦ eqb-true to m e | inr e ↦ absurd (true≢false (sym e)) ]

pub down-but-to-traps : (d : Flat) (n m : ℕ) (g : Segment) (on : WayOn) → slice_get (table_of d).nodes n ≡ Some (Run g on) → leads_to (Run g on) m ≡ true
    → is_trap (slice_get (table_of d).nodes m) ≡ false → m < n
down-but-to-traps d n m g (Go to) h l t =
    let p = table_pair d n to g h in
    let same : to ≡ m = only-one to m l in
    let trap : is_trap (slice_get (table_of d).nodes m) ≡ true = ap (λ k. is_trap (slice_get (table_of d).nodes k)) (sym same) ∙ ap is_trap p.trap in
    absurd (true≢false (sym trap ∙ t))
down-but-to-traps d n m g (Branch c a b) h l t = any-below n m (a ∷ b ∷ []) (node-falls d n (Run g (Branch c a b)) h) l
down-but-to-traps d n m g (Switch e ways o) h l t = any-below n m (o ∷ map (λ (w : Way). w.to) ways) (node-falls d n (Run g (Switch e ways o)) h) l
down-but-to-traps d n m g (Commit to) h l t = absurd (true≢false (sym l))

pub traps-down : (d : Flat) (n m to : ℕ) (g : Segment) (task : Task) → slice_get (table_of d).nodes n ≡ Some (Run g (Go m)) → slice_get (table_of d).nodes m ≡ Some (Trap task to)
    → to < n
traps-down d n m to g task h k =
    let next = (table_pair d n m g h).next in
    let falls = node-falls d m (Trap task to) k in
    omega arith
