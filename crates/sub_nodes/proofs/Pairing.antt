-- In a design's table calls stand in pairs.
use Rattle.std.proofs.Common.{◌≡◌, ℕ, zero, suc, ◌+◌, List, [], ◌∷◌, ◌++◌, length, Some, refl, subst, arith}
use Rattle.std.specs.Prelude.{⊤, slice_get}
use Rattle.vl_design.specs.Syntax.{Task, Stm, Items, NoItems, Labelled, Default, Proc, Flat}
use Rattle.vl_design.specs.Queue.{is_init, is_rise, is_fall}
use Rattle.vl_design.specs.Alone.{blocks}
use Rattle.sub_nodes.specs.Nodes.{Segment, still, rising, WayOn, Go, Branch, Switch, Commit, Node, Run, Trap, Apply}
use Rattle.sub_nodes.specs.Implements.{bodies}
use Rattle.sub_nodes.specs.Code.{Next, Calls, Leads, and_all, next_nodes, head_nodes, number, wave_nodes, fall_nodes, updates, table_of}
use Rattle.sub_nodes.proofs.Coded.{updates_many}
use Rattle.sub_nodes.specs.Pairs.{ArePaired}
use Rattle.sub_nodes.specs.Passing.{ItemsPass, Passes}
use Rattle.sub_nodes.proofs.Making.{MeetsNext, Keeps, wave_meets}

paired_both : (n : ℕ) (a b : List Node) → ArePaired n a → ArePaired (n + length a) b → ArePaired n (a ++ b)
paired_both n [] b f g = let e : n + 0 ≡ n = omega arith in subst (λ m. ArePaired m b) e g
paired_both n (Run s (Go m) ∷ []) b f g = absurd f
paired_both n (Run s (Go m) ∷ Run s' on ∷ a) b f g = absurd f
paired_both n (Run s (Go m) ∷ Apply to ∷ a) b f g = absurd f
paired_both n (Run s (Go m) ∷ Trap task to ∷ a) b f g =
    let e : n + length (Run s (Go m) ∷ Trap task to ∷ a) ≡ n + 2 + length a = omega arith in
    (f.0, paired_both (n + 2) a b f.1 (subst (λ m. ArePaired m b) e g))
paired_both n (Run s (Branch t x y) ∷ a) b f g =
    let e : n + length (Run s (Branch t x y) ∷ a) ≡ n + 1 + length a = omega arith in
    paired_both (n + 1) a b f (subst (λ m. ArePaired m b) e g)
paired_both n (Run s (Switch t ws o) ∷ a) b f g =
    let e : n + length (Run s (Switch t ws o) ∷ a) ≡ n + 1 + length a = omega arith in
    paired_both (n + 1) a b f (subst (λ m. ArePaired m b) e g)
paired_both n (Run s (Commit to) ∷ a) b f g =
    let e : n + length (Run s (Commit to) ∷ a) ≡ n + 1 + length a = omega arith in
    paired_both (n + 1) a b f (subst (λ m. ArePaired m b) e g)
paired_both n (Trap task to ∷ a) b f g = absurd f
paired_both n (Apply to ∷ a) b f g =
    let e : n + length (Apply to ∷ a) ≡ n + 1 + length a = omega arith in
    paired_both (n + 1) a b f (subst (λ m. ArePaired m b) e g)

-- of statements, labels and calls nothing is asked
all_pass : (items : Items) → ItemsPass (λ a. ⊤) (λ e. ⊤) (λ es. ⊤) (λ t. ⊤) items
all_pass NoItems = tt
all_pass (Labelled es a others) = (tt, tt, all_pass others)
all_pass (Default a others) = (tt, all_pass others)

any_passes : Passes (λ a. ⊤) (λ e. ⊤) (λ es. ⊤) (λ t. ⊤)
any_passes = record { parts = λ a b h. (tt, tt); branches = λ t a b h. (tt, tt, tt); items = λ e items h. (tt, all_pass items); calls = λ task h. tt }

next_paired : (next : Next) (g : Segment) (n : ℕ) → MeetsNext (λ a. ⊤) (λ e. ⊤) (λ es. ⊤) (λ t. ⊤) (λ a. ⊤) next → ArePaired n (next_nodes next g n)
next_paired (Calls task to) g n f = (refl, tt)
next_paired (Leads (Go to)) g n f = absurd f
next_paired (Leads (Branch t x y)) g n f = tt
next_paired (Leads (Switch t ws o)) g n f = tt
next_paired (Leads (Commit to)) g n f = tt

pairs_keep : (from : ℕ) → Keeps (λ a. ⊤) (λ e. ⊤) (λ es. ⊤) (λ t. ⊤) (λ a. ⊤) from (ArePaired from)
pairs_keep from = record {
  passes = any_passes;
  whole = λ a p w. tt;
  none = tt;
  place = λ g xs h e f k. paired_both from xs (head_nodes h g (number from xs)) f (next_paired h.next (and_all g h.statements) (number from xs) k.next);
}

wave_paired : (from u : ℕ) (xs : List Stm) (g : Segment) → g.statements ≡ [] → ArePaired from (wave_nodes from u xs g)
wave_paired from u xs g e = wave_meets _ _ _ _ _ from (ArePaired from) (pairs_keep from) u xs g e (λ k d h. tt)

falls_paired : (from : ℕ) (ps : List Proc) → ArePaired from (fall_nodes from ps)
falls_paired from [] = tt
falls_paired from (p ∷ ps) = wave_paired from 2 (bodies (p ∷ ps)) still refl

updates_paired : (ps : List Proc) (rise fall : ℕ) → ArePaired 0 (updates ps rise fall)
updates_paired [] rise fall = tt
updates_paired (p ∷ ps) rise fall = tt

pub table_paired : (d : Flat) → ArePaired 0 (table_of d).nodes
table_paired d =
    let T = table_of d in
    let ups = bodies (blocks is_rise d.procs) in
    let falls = blocks is_fall d.procs in
    let inits = bodies (blocks is_init d.procs) in
    let from = length (updates falls 0 0) in
    let up = wave_nodes from 1 ups rising in
    let down = fall_nodes (from + length up) falls in
    let first = wave_nodes (from + length up + length down) 0 inits still in
    let over = updates falls T.rise.first T.fall.first in
    let e : from ≡ 0 + length over = (let f = updates_many falls T.rise.first T.fall.first in omega (arith, f)) in
    let rest : ArePaired from (up ++ (down ++ first)) =
    paired_both from up (down ++ first) (wave_paired from 1 ups rising refl) (paired_both (from + length up) down first (falls_paired (from + length up) falls) (wave_paired (from + length up + length down) 0 inits still refl)) in
    paired_both 0 over (up ++ (down ++ first)) (updates_paired falls T.rise.first T.fall.first) (subst (λ j. ArePaired j (up ++ (down ++ first))) e rest)

-- ---- by its number

pub record Pair (nodes : List Node) (n m k : ℕ) : Type 0 where
  pub next : m ≡ n
  pub task : Task
  pub to : ℕ
  pub trap : slice_get nodes k ≡ Some (Trap task to)

deeper : (x : Node) (xs : List Node) (n m k : ℕ) → Pair xs n m k → Pair (x ∷ xs) n m (suc k)
deeper x xs n m k f = record { next = f.next; task = f.task; to = f.to; trap = f.trap }

moved : (xs : List Node) (n n' m k : ℕ) → n ≡ n' → Pair xs n m k → Pair xs n' m k
moved xs n n' m k e f = subst (λ j. Pair xs j m k) e f

go_is : {g g' : Segment} {m m' : ℕ} → Some (Run g (Go m)) ≡ Some (Run g' (Go m')) → m ≡ m'
go_is h = cc

pub pair_at : (n : ℕ) (xs : List Node) (k m : ℕ) (g : Segment) → ArePaired n xs → slice_get xs k ≡ Some (Run g (Go m)) → Pair xs (n + k + 1) m (suc k)
pair_at n [] k m g f h = let z : ⊥ = cc in absurd z
pair_at n (Run s (Go i) ∷ []) k m g f h = absurd f
pair_at n (Run s (Go i) ∷ Run s' on ∷ a) k m g f h = absurd f
pair_at n (Run s (Go i) ∷ Apply to ∷ a) k m g f h = absurd f
pair_at n (Run s (Go i) ∷ Trap task to ∷ a) zero m g f h =
    let e : i ≡ m = go_is h in
    let here = f.0 in
    record { next = omega arith; task = task; to = to; trap = refl }
pair_at n (Run s (Go i) ∷ Trap task to ∷ a) (suc zero) m g f h = let z : ⊥ = cc in absurd z
pair_at n (Run s (Go i) ∷ Trap task to ∷ a) (suc (suc k)) m g f h =
    deeper (Run s (Go i)) (Trap task to ∷ a) _ m (suc (suc k)) (deeper (Trap task to) a _ m (suc k) (moved a (n + 2 + k + 1) (n + suc (suc k) + 1) m (suc k) (omega arith) (pair_at (n + 2) a k m g f.1 h)))
pair_at n (Run s (Branch t x y) ∷ a) zero m g f h = let z : ⊥ = cc in absurd z
pair_at n (Run s (Branch t x y) ∷ a) (suc k) m g f h = deeper (Run s (Branch t x y)) a _ m (suc k) (moved a (n + 1 + k + 1) (n + suc k + 1) m (suc k) (omega arith) (pair_at (n + 1) a k m g f h))
pair_at n (Run s (Switch t ws o) ∷ a) zero m g f h = let z : ⊥ = cc in absurd z
pair_at n (Run s (Switch t ws o) ∷ a) (suc k) m g f h = deeper (Run s (Switch t ws o)) a _ m (suc k) (moved a (n + 1 + k + 1) (n + suc k + 1) m (suc k) (omega arith) (pair_at (n + 1) a k m g f h))
pair_at n (Run s (Commit to) ∷ a) zero m g f h = let z : ⊥ = cc in absurd z
pair_at n (Run s (Commit to) ∷ a) (suc k) m g f h = deeper (Run s (Commit to)) a _ m (suc k) (moved a (n + 1 + k + 1) (n + suc k + 1) m (suc k) (omega arith) (pair_at (n + 1) a k m g f h))
pair_at n (Trap task to ∷ a) k m g f h = absurd f
pair_at n (Apply to ∷ a) zero m g f h = let z : ⊥ = cc in absurd z
pair_at n (Apply to ∷ a) (suc k) m g f h = deeper (Apply to) a _ m (suc k) (moved a (n + 1 + k + 1) (n + suc k + 1) m (suc k) (omega arith) (pair_at (n + 1) a k m g f h))

pub table_pair : (d : Flat) (n m : ℕ) (g : Segment) → slice_get (table_of d).nodes n ≡ Some (Run g (Go m)) → Pair (table_of d).nodes (n + 1) m m
table_pair d n m g h =
    let p = pair_at 0 (table_of d).nodes n m g (table_paired d) h in
    let e : 0 + n + 1 ≡ n + 1 = omega arith in
    let q = moved (table_of d).nodes (0 + n + 1) (n + 1) m (suc n) e p in
    let same : suc n ≡ m = (let next = q.next in omega arith) in
    subst (λ k. Pair (table_of d).nodes (n + 1) m k) same q
