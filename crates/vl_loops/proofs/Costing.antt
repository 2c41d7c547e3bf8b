-- A design with its loops unrolled costs what the design costs.
use Rattle.std.proofs.Common.{◌≡◌, ℕ, zero, suc, ◌+◌, ◌*◌, Bool, true, false, List, [], ◌∷◌, map, length, Option, Some, None, refl, sym, ap, ◌∙◌, arith}
use Rattle.std.specs.Prelude.{slice_get, option_map, sum_by, if◌then◌else◌}
use Rattle.std.proofs.lemmas.Option.{slice_get-map}
use Rattle.std.proofs.lemmas.List.{length-map}
use Rattle.std.proofs.lemmas.List.Sums.{sum_by-cons}
use Rattle.vl_design.specs.Syntax.{Exp, Num, Label, Sig, Word, Pick, Slice, Un, Bin, Cond, Cat, Rep, Cast, Call, Time, LastAnswer, Exps, NoExps, MoreExps, Target, Whole, WordAt, PickAt, SliceAt, Several, Targets, NoTargets, MoreTargets, Piece, Literal, Shown, Task, Print, Finish, Save, Fopen, Fread, Fgetc, Feof, Fclose, ReadHex, Stm, Nop, Then, If, Case, For, Repeat, Set, Later, Sys, Items, NoItems, Labelled, Default, Row, Fun, Proc, Flat}
use Rattle.vl_design.specs.Width.{Scope}
use Rattle.vl_design.specs.State.{State}
use Rattle.vl_design.specs.Exec.{exec, goes_on, most_turns}
use Rattle.vl_design.specs.Functions.{scope_of, inner, zeros, fresh}
use Rattle.vl_design.specs.Queue.{is_init}
use Rattle.vl_design.specs.Cost.{exp_cells, exps_cells, arguments_cells, target_cells, targets_cells, pieces_cells, task_cells, over_turns, labels_cells, stm_cells, items_cells, word_regs, words_regs, stm_regs, items_regs, body_of, body_within, body_cells, proc_cells, proc_regs, cost}
use Rattle.vl_loops.proofs.Funs.{with_funs}
use Rattle.vl_loops.specs.Unroll.{is_loop, signal_put, put, puts, put_target, put_targets, put_pieces, put_task, unrolled, unrolled_items, in_turns, so_many, unrolled_fun, unrolled_proc, unrolled_flat, still}

many : (n c : ℕ) → c + n * c ≡ suc n * c
many n c = grind arith

module _ (rows : List Row) (at : List (List ℕ)) (body body' : ℕ → ℕ) (h : (f : ℕ) → body' f ≡ body f) where
  signal_cells : (b : Bool) (j : ℕ) → exp_cells body' (signal_put rows at b j) ≡ 2
  signal_cells true j = refl
  signal_cells false j = refl

  mutual
    exp_put : (e : Exp) → exp_cells body' (put rows at e) ≡ exp_cells body e
    exp_put (Num v w s) = refl
    exp_put (Label v care w s) = refl
    exp_put (Sig j) = signal_cells (is_loop rows j) j
    exp_put (Word m a) = rw (exp_put a) refl
    exp_put (Pick b i from w) = rw (exp_put b, exp_put i) refl
    exp_put (Slice b low w) = rw (exp_put b) refl
    exp_put (Un op a) = rw (exp_put a) refl
    exp_put (Bin op a b) = rw (exp_put a, exp_put b) refl
    exp_put (Cond t a b) = rw (exp_put t, exp_put a, exp_put b) refl
    exp_put (Cat es) = rw (exps_put es) refl
    exp_put (Rep n es) = rw (exps_put es) refl
    exp_put (Cast s a) = exp_put a
    exp_put (Call f es) = rw (arguments_put es, h f) refl
    exp_put Time = refl
    exp_put LastAnswer = refl

    exps_put : (es : Exps) → exps_cells body' (puts rows at es) ≡ exps_cells body es
    exps_put NoExps = refl
    exps_put (MoreExps e es) = rw (exp_put e, exps_put es) refl

    arguments_put : (es : Exps) → arguments_cells body' (puts rows at es) ≡ arguments_cells body es
    arguments_put NoExps = refl
    arguments_put (MoreExps e es) = rw (exp_put e, arguments_put es) refl

  labels_put : (es : Exps) → labels_cells body' (puts rows at es) ≡ labels_cells body es
  labels_put NoExps = refl
  labels_put (MoreExps e es) = rw (exp_put e, labels_put es) refl

  mutual
    target_put : (t : Target) → target_cells body' (put_target rows at t) ≡ target_cells body t
    target_put (Whole j) = refl
    target_put (WordAt m a) = exp_put a
    target_put (PickAt b i from w) = rw (target_put b, exp_put i) refl
    target_put (SliceAt b low w) = target_put b
    target_put (Several ts) = targets_put ts

    targets_put : (ts : Targets) → targets_cells body' (put_targets rows at ts) ≡ targets_cells body ts
    targets_put NoTargets = refl
    targets_put (MoreTargets t ts) = rw (target_put t, targets_put ts) refl

  pieces_put : (ps : List Piece) → pieces_cells body' (put_pieces rows at ps) ≡ pieces_cells body ps
  pieces_put [] = refl
  pieces_put (Literal text ∷ ps) = pieces_put ps
  pieces_put (Shown format e ∷ ps) = rw (exp_put e, pieces_put ps) refl

  task_put : (task : Task) → task_cells body' (put_task rows at task) ≡ task_cells body task
  task_put (Print pieces newline) = rw (pieces_put pieces) refl
  task_put (Finish es) = rw (exps_put es) refl
  task_put (Save name) = refl
  task_put (Fopen name) = refl
  task_put (Fread j fd) = rw (exp_put fd) refl
  task_put (Fgetc fd) = rw (exp_put fd) refl
  task_put (Feof fd) = rw (exp_put fd) refl
  task_put (Fclose fd) = rw (exp_put fd) refl
  task_put (ReadHex name m) = refl

-- what is counted in a statement is counted of its turns
turns_count : {S : Type 0} (g : Stm → ℕ) (zero_g : g Nop ≡ 0) (sum_g : (a b : Stm) → g (Then a b) ≡ g a + g b) (n : ℕ) (test : S → Bool) (step : S → S) (f : S → Stm) (w : S → ℕ) → ((x : S) → g (f x) ≡ w x) →
    (x : S) → g (in_turns n test step f x) ≡ over_turns n test step w x
turns_count g zg sg zero test step f w h x = zg
turns_count g zg sg (suc n) test step f w h x = at (test x) (turns_count g zg sg n test step f w h (step x))
  where
    at : (b : Bool) → g (in_turns n test step f (step x)) ≡ over_turns n test step w (step x) →
        g (elim b [ true ↦ Then (f x) (in_turns n test step f (step x)) | false ↦ Nop ]) ≡ (elim b [ true ↦ w x + over_turns n test step w (step x) | false ↦ 0 ])
    at true k = sg (f x) _ ∙ rw (h x, k) refl
    at false k = zg

many_count : (g : Stm → ℕ) (zero_g : g Nop ≡ 0) (sum_g : (a b : Stm) → g (Then a b) ≡ g a + g b) (n : ℕ) (a : Stm) → g (so_many n a) ≡ n * g a
many_count g zg sg zero a = zg ∙ grind arith
many_count g zg sg (suc n) a = sg a (so_many n a) ∙ (ap (λ z. g a + z) (many_count g zg sg n a) ∙ many n (g a))

module _ (scope : Scope) (funs : List Fun) (call : ℕ → List ℕ → ℕ) (body body' : ℕ → ℕ) (h : (f : ℕ) → body' f ≡ body f) where
  abbrev next : Scope
  next = with_funs scope funs call

  mutual
    pub stm_count : (a : Stm) (e t : State) → stm_cells next body' (unrolled scope a e) t ≡ stm_cells scope body a e
    stm_count Nop e t = refl
    stm_count (Then a b) e t = rw (stm_count a e t, stm_count b e t) refl
    stm_count (If u a b) e t = rw (exp_put scope.names.rows e.values body body' h u, stm_count a e t, stm_count b e t) refl
    stm_count (Case u items) e t = rw (exp_put scope.names.rows e.values body body' h u, items_count items e t) refl
    stm_count (For j start test step a) e t =
        turns_count (λ b. stm_cells next body' b t) refl (λ a b. refl) most_turns (goes_on scope test) (exec scope step) (unrolled scope a) (stm_cells scope body a) (λ x. stm_count a x t) (exec scope start e)
    stm_count (Repeat n a) e t = many_count (λ b. stm_cells next body' b t) refl (λ a b. refl) n (unrolled scope a e) ∙ ap (λ z. n * z) (stm_count a e t)
    stm_count (Set u x) e t = rw (exp_put scope.names.rows e.values body body' h x, target_put scope.names.rows e.values body body' h u) refl
    stm_count (Later u x) e t = rw (exp_put scope.names.rows e.values body body' h x, target_put scope.names.rows e.values body body' h u) refl
    stm_count (Sys task) e t = task_put scope.names.rows e.values body body' h task

    items_count : (items : Items) (e t : State) → items_cells next body' (unrolled_items scope items e) t ≡ items_cells scope body items e
    items_count NoItems e t = refl
    items_count (Labelled es a others) e t = rw (labels_put scope.names.rows e.values body body' h es, stm_count a e t, items_count others e t) refl
    items_count (Default a others) e t = rw (stm_count a e t, items_count others e t) refl

  module _ (at : List (List ℕ)) where
    mutual
      word_put : (t : Target) → word_regs next body' (put_target scope.names.rows at t) ≡ word_regs scope body t
      word_put (Whole j) = refl
      word_put (WordAt m a) = refl
      word_put (PickAt b i from w) = word_put b
      word_put (SliceAt b low w) = word_put b
      word_put (Several ts) = words_put ts

      words_put : (ts : Targets) → words_regs next body' (put_targets scope.names.rows at ts) ≡ words_regs scope body ts
      words_put NoTargets = refl
      words_put (MoreTargets t ts) = rw (word_put t, words_put ts) refl

  mutual
    pub reg_count : (a : Stm) (e t : State) → stm_regs next body' (unrolled scope a e) t ≡ stm_regs scope body a e
    reg_count Nop e t = refl
    reg_count (Then a b) e t = rw (reg_count a e t, reg_count b e t) refl
    reg_count (If u a b) e t = rw (reg_count a e t, reg_count b e t) refl
    reg_count (Case u items) e t = regs_count items e t
    reg_count (For j start test step a) e t =
        turns_count (λ b. stm_regs next body' b t) refl (λ a b. refl) most_turns (goes_on scope test) (exec scope step) (unrolled scope a) (stm_regs scope body a) (λ x. reg_count a x t) (exec scope start e)
    reg_count (Repeat n a) e t = many_count (λ b. stm_regs next body' b t) refl (λ a b. refl) n (unrolled scope a e) ∙ ap (λ z. n * z) (reg_count a e t)
    reg_count (Set u x) e t = refl
    reg_count (Later u x) e t = word_put e.values u
    reg_count (Sys task) e t = refl

    regs_count : (items : Items) (e t : State) → items_regs next body' (unrolled_items scope items e) t ≡ items_regs scope body items e
    regs_count NoItems e t = refl
    regs_count (Labelled es a others) e t = rw (reg_count a e t, regs_count others e t) refl
    regs_count (Default a others) e t = rw (reg_count a e t, regs_count others e t) refl

-- ---- designs

sums_same : {X Y : Type 0} (f : X → ℕ) (g : Y → ℕ) (u : Y → X) → ((y : Y) → f (u y) ≡ g y) → (ys : List Y) → sum_by f (map u ys) ≡ sum_by g ys
sums_same f g u h [] = refl
sums_same f g u h (y ∷ ys) = sum_by-cons f (u y) (map u ys) ∙ (rw (h y, sums_same f g u h ys) refl ∙ sym (sum_by-cons g y ys))

module _ (d : Flat) where
  abbrev e : Flat
  e = unrolled_flat d

  bodies_of : (n : ℕ) → ((f : ℕ) → body_within (scope_of e []) n f ≡ body_within (scope_of d []) n f) → (g : Option Fun) →
      body_of (option_map (unrolled_fun (scope_of d [])) g) (λ f. stm_cells (inner (scope_of e []) f) (body_within (scope_of e []) n) f.body (fresh (zeros (inner (scope_of e []) f).names.rows)))
      ≡ body_of g (λ f. stm_cells (inner (scope_of d []) f) (body_within (scope_of d []) n) f.body (fresh (zeros (inner (scope_of d []) f).names.rows)))
  bodies_of n h None = refl
  bodies_of n h (Some f) = stm_count (inner (scope_of d []) f) e.funs (scope_of e []).call (body_within (scope_of d []) n) (body_within (scope_of e []) n) h f.body (still (inner (scope_of d []) f)) _

  bodies_same : (n f : ℕ) → body_within (scope_of e []) n f ≡ body_within (scope_of d []) n f
  bodies_same zero f = refl
  bodies_same (suc n) f =
      ap (λ g. body_of g (λ f. stm_cells (inner (scope_of e []) f) (body_within (scope_of e []) n) f.body (fresh (zeros (inner (scope_of e []) f).names.rows)))) (slice_get-map (unrolled_fun (scope_of d [])) d.funs f)
      ∙ bodies_of n (bodies_same n) (slice_get d.funs f)

  cells_same : (f : ℕ) → body_cells (scope_of e []) f ≡ body_cells (scope_of d []) f
  cells_same f = ap (λ n. body_within (scope_of e []) n f) (length-map d.funs (unrolled_fun (scope_of d []))) ∙ bodies_same (length d.funs) f

  unless_same : (b : Bool) (m n : ℕ) → m ≡ n → (if b then 0 else m) ≡ (if b then 0 else n)
  unless_same true m n h = refl
  unless_same false m n h = h

  procs_cells : (p : Proc) → proc_cells (scope_of e []) (fresh (zeros d.rows)) (unrolled_proc (scope_of d []) p) ≡ proc_cells (scope_of d []) (fresh (zeros d.rows)) p
  procs_cells p = unless_same (is_init p.kind) _ _ (ap (λ z. 4 + z) (stm_count (scope_of d []) e.funs (scope_of e []).call (body_cells (scope_of d [])) (body_cells (scope_of e [])) cells_same p.body (still (scope_of d [])) _))

  procs_regs : (p : Proc) → proc_regs (scope_of e []) (fresh (zeros d.rows)) (unrolled_proc (scope_of d []) p) ≡ proc_regs (scope_of d []) (fresh (zeros d.rows)) p
  procs_regs p = unless_same (is_init p.kind) _ _ (reg_count (scope_of d []) e.funs (scope_of e []).call (body_cells (scope_of d [])) (body_cells (scope_of e [])) cells_same p.body (still (scope_of d [])) _)

  pub cost_same : cost e ≡ cost d
  cost_same =
      let cells = sums_same (proc_cells (scope_of e []) (fresh (zeros d.rows))) (proc_cells (scope_of d []) (fresh (zeros d.rows))) (unrolled_proc (scope_of d [])) procs_cells d.procs in
      let regs = sums_same (proc_regs (scope_of e []) (fresh (zeros d.rows))) (proc_regs (scope_of d []) (fresh (zeros d.rows))) (unrolled_proc (scope_of d [])) procs_regs d.procs in
      rw (cells, regs) refl
