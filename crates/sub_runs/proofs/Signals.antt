-- A statement writes some signal that passes a test just where it writes one that does.
use Rattle.std.proofs.Common.{◌≡◌, ℕ, Bool, true, false, refl}
use Rattle.std.specs.Prelude.{◌||◌, ◌==◌}
use Rattle.std.proofs.lemmas.Bool.{eqb-true}
use Rattle.vl_sites.specs.vl_design.specs.Syntax.{Target, Whole, WordAt, PickAt, SliceAt, Several, Targets, NoTargets, MoreTargets, Task, Print, Finish, Save, Fopen, Fread, Fgetc, Feof, Fclose, ReadHex, Stm, Nop, Then, If, Case, For, Repeat, Set, Later, Sys, Items, NoItems, Labelled, Default, Flat}
use Rattle.vl_sites.specs.vl_design.specs.Reads.{target_writes, targets_write, task_writes, stm_writes, items_write}
use Rattle.vl_sites.specs.vl_design.specs.Queue.{proc_at}
use Rattle.vl_sites.specs.vl_design.proofs.Unread.{or_false}
use Rattle.vl_runs.specs.NetsOfSettle.{comb_at}
use Rattle.vl_runs.proofs.Checks.{itself}
use Rattle.sub_runs.specs.Nets.{computed_at, WritesNoNets}
use Rattle.vl_sites.specs.vl_base.proofs.Booleans.{or_both_false as neither}

-- q passes only what p passes
module _ (p q : ℕ → Bool) (within : (j : ℕ) → p j ≡ false → q j ≡ false) where
  mutual
    target_less : (t : Target) → target_writes p t ≡ false → target_writes q t ≡ false
    target_less (Whole k) h = within k h
    target_less (WordAt m a) h = within m h
    target_less (PickAt b i from w) h = target_less b h
    target_less (SliceAt b low w) h = target_less b h
    target_less (Several ts) h = targets_less ts h

    targets_less : (ts : Targets) → targets_write p ts ≡ false → targets_write q ts ≡ false
    targets_less NoTargets h = refl
    targets_less (MoreTargets t ts) h = let g = or_false (target_writes p t) (targets_write p ts) h in neither (target_writes q t) _ (target_less t g.0) (targets_less ts g.1)

  task_less : (task : Task) → task_writes p task ≡ false → task_writes q task ≡ false
  task_less (Fread k fd) h = within k h
  task_less (ReadHex name m) h = within m h
  task_less (Print pieces newline) h = refl
  task_less (Finish es) h = refl
  task_less (Save name) h = refl
  task_less (Fopen name) h = refl
  task_less (Fgetc fd) h = refl
  task_less (Feof fd) h = refl
  task_less (Fclose fd) h = refl

  mutual
    stm_less : (a : Stm) → stm_writes p a ≡ false → stm_writes q a ≡ false
    stm_less Nop h = refl
    stm_less (Then a b) h = let g = or_false (stm_writes p a) (stm_writes p b) h in neither (stm_writes q a) _ (stm_less a g.0) (stm_less b g.1)
    stm_less (If t a b) h = let g = or_false (stm_writes p a) (stm_writes p b) h in neither (stm_writes q a) _ (stm_less a g.0) (stm_less b g.1)
    stm_less (Case e items) h = items_less items h
    stm_less (For k start test step a) h =
        let g = or_false (p k) (stm_writes p start || (stm_writes p step || stm_writes p a)) h in
        let f = or_false (stm_writes p start) (stm_writes p step || stm_writes p a) g.1 in
        let e = or_false (stm_writes p step) (stm_writes p a) f.1 in
        neither (q k) _ (within k g.0) (neither (stm_writes q start) _ (stm_less start f.0) (neither (stm_writes q step) _ (stm_less step e.0) (stm_less a e.1)))
    stm_less (Repeat n a) h = stm_less a h
    stm_less (Set t e) h = target_less t h
    stm_less (Later t e) h = target_less t h
    stm_less (Sys task) h = task_less task h

    items_less : (items : Items) → items_write p items ≡ false → items_write q items ≡ false
    items_less NoItems h = refl
    items_less (Labelled es a others) h = let g = or_false (stm_writes p a) (items_write p others) h in neither (stm_writes q a) _ (stm_less a g.0) (items_less others g.1)
    items_less (Default a others) h = let g = or_false (stm_writes p a) (items_write p others) h in neither (stm_writes q a) _ (stm_less a g.0) (items_less others g.1)

-- what passes the test is written nowhere
module _ (p : ℕ → Bool) where
  abbrev Each : ((ℕ → Bool) → Bool) → Type 0
  Each writes = (k : ℕ) → p k ≡ true → writes (λ x. x == k) ≡ false

  unmarked : (j : ℕ) → ((k : ℕ) → p k ≡ true → (j == k) ≡ false) → p j ≡ false
  unmarked j h = at (p j) refl
    where
      at : (b : Bool) → p j ≡ b → b ≡ false
      at true e = let i = itself j in let n = h j e in let z : ⊥ = cc in absurd z
      at false e = refl

  -- where neither of two writes such a signal
  two_all : (f g : (ℕ → Bool) → Bool) → (Each f → f p ≡ false) → (Each g → g p ≡ false) → Each (λ q. f q || g q) → (f p || g p) ≡ false
  two_all f g x y h =
      neither (f p) (g p) (x (λ k m. (or_false (f (λ x. x == k)) (g (λ x. x == k)) (h k m)).0)) (y (λ k m. (or_false (f (λ x. x == k)) (g (λ x. x == k)) (h k m)).1))

  mutual
    target_all : (t : Target) → Each (λ q. target_writes q t) → target_writes p t ≡ false
    target_all (Whole j) h = unmarked j h
    target_all (WordAt m a) h = unmarked m h
    target_all (PickAt b i from w) h = target_all b h
    target_all (SliceAt b low w) h = target_all b h
    target_all (Several ts) h = targets_all ts h

    targets_all : (ts : Targets) → Each (λ q. targets_write q ts) → targets_write p ts ≡ false
    targets_all NoTargets h = refl
    targets_all (MoreTargets t ts) h = two_all (λ q. target_writes q t) (λ q. targets_write q ts) (target_all t) (targets_all ts) h

  task_all : (task : Task) → Each (λ q. task_writes q task) → task_writes p task ≡ false
  task_all (Fread j fd) h = unmarked j h
  task_all (ReadHex name m) h = unmarked m h
  task_all (Print pieces newline) h = refl
  task_all (Finish es) h = refl
  task_all (Save name) h = refl
  task_all (Fopen name) h = refl
  task_all (Fgetc fd) h = refl
  task_all (Feof fd) h = refl
  task_all (Fclose fd) h = refl

  mutual
    stm_all : (a : Stm) → Each (λ q. stm_writes q a) → stm_writes p a ≡ false
    stm_all Nop h = refl
    stm_all (Then a b) h = two_all (λ q. stm_writes q a) (λ q. stm_writes q b) (stm_all a) (stm_all b) h
    stm_all (If t a b) h = two_all (λ q. stm_writes q a) (λ q. stm_writes q b) (stm_all a) (stm_all b) h
    stm_all (Case e items) h = items_all items h
    stm_all (For j start test step a) h =
        two_all (λ q. q j) (λ q. stm_writes q start || (stm_writes q step || stm_writes q a)) (unmarked j)
        (two_all (λ q. stm_writes q start) (λ q. stm_writes q step || stm_writes q a) (stm_all start)
        (two_all (λ q. stm_writes q step) (λ q. stm_writes q a) (stm_all step) (stm_all a))) h
    stm_all (Repeat n a) h = stm_all a h
    stm_all (Set t e) h = target_all t h
    stm_all (Later t e) h = target_all t h
    stm_all (Sys task) h = task_all task h

    items_all : (items : Items) → Each (λ q. items_write q items) → items_write p items ≡ false
    items_all NoItems h = refl
    items_all (Labelled es a others) h = two_all (λ q. stm_writes q a) (λ q. items_write q others) (stm_all a) (items_all others) h
    items_all (Default a others) h = two_all (λ q. stm_writes q a) (λ q. items_write q others) (stm_all a) (items_all others) h

pub by_signal : (d : Flat) → WritesNoNets d → (i k : ℕ) → comb_at d i ≡ false → computed_at d.rows k ≡ true → stm_writes (λ x. x == k) (proc_at d i).body ≡ false
by_signal d w i k c m = stm_less (computed_at d.rows) (λ x. x == k) other (proc_at d i).body (w.others i c)
  where
    other : (j : ℕ) → computed_at d.rows j ≡ false → (j == k) ≡ false
    other j h = at (j == k) refl
      where
        at : (b : Bool) → (j == k) ≡ b → b ≡ false
        at true e = let same : j ≡ k = eqb-true j k e in let z : ⊥ = cc in absurd z
        at false e = refl

pub of_signals : (d : Flat) → ((i k : ℕ) → comb_at d i ≡ false → computed_at d.rows k ≡ true → stm_writes (λ x. x == k) (proc_at d i).body ≡ false) → WritesNoNets d
of_signals d h = record { others = λ i c. stm_all (computed_at d.rows) (proc_at d i).body (λ k m. h i k c m) }
