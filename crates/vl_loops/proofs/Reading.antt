-- A statement with its loops unrolled reads what the statement reads in its turns.
use Rattle.std.proofs.Common.{◌≡◌, ℕ, zero, suc, Bool, true, false, List, [], ◌∷◌, refl, sym, ap, ◌∙◌}
use Rattle.std.specs.Prelude.{◌||◌, ◌&&◌, ◌==◌, not}
use Rattle.vl_design.specs.Syntax.{Exp, Num, Label, Sig, Word, Pick, Slice, Un, Bin, Cond, Cat, Rep, Cast, Call, Time, LastAnswer, Exps, NoExps, MoreExps, Target, Whole, WordAt, PickAt, SliceAt, Several, Targets, NoTargets, MoreTargets, Piece, Literal, Shown, Task, Print, Finish, Save, Fopen, Fread, Fgetc, Feof, Fclose, ReadHex, Stm, Nop, Then, If, Case, For, Repeat, Set, Later, Sys, Items, NoItems, Labelled, Default, Row}
use Rattle.vl_design.specs.Width.{Scope}
use Rattle.vl_design.specs.State.{State}
use Rattle.vl_design.specs.Exec.{exec, goes_on, some_turn, most_turns}
use Rattle.vl_design.specs.Reads.{reads, some_reads, target_reads, targets_read, pieces_read, task_reads, stm_reads, items_read}
use Rattle.vl_loops.specs.Unroll.{is_loop, signal_put, put, puts, put_target, put_targets, put_pieces, put_task, unrolled, unrolled_items, in_turns, so_many}
use Rattle.vl_design.specs.Turns.{turns_read, items_turns_read}
use Rattle.vl_loops.proofs.Holding.{twice, some_turns}

module _ (rows : List Row) (p : ℕ → Bool) (none : (j : ℕ) → is_loop rows j ≡ true → p j ≡ false) (at : List (List ℕ)) where
  signal_reads : (b : Bool) (j : ℕ) → is_loop rows j ≡ b → reads p (signal_put rows at b j) ≡ p j
  signal_reads true j m = sym (none j m)
  signal_reads false j m = refl

  mutual
    reads_put : (e : Exp) → reads p (put rows at e) ≡ reads p e
    reads_put (Num v w s) = refl
    reads_put (Label v care w s) = refl
    reads_put (Sig j) = signal_reads (is_loop rows j) j refl
    reads_put (Word m a) = rw (reads_put a) refl
    reads_put (Pick b i from w) = rw (reads_put b, reads_put i) refl
    reads_put (Slice b low w) = reads_put b
    reads_put (Un op a) = reads_put a
    reads_put (Bin op a b) = rw (reads_put a, reads_put b) refl
    reads_put (Cond t a b) = rw (reads_put t, reads_put a, reads_put b) refl
    reads_put (Cat es) = some_put es
    reads_put (Rep n es) = some_put es
    reads_put (Cast s a) = reads_put a
    reads_put (Call f es) = some_put es
    reads_put Time = refl
    reads_put LastAnswer = refl

    some_put : (es : Exps) → some_reads p (puts rows at es) ≡ some_reads p es
    some_put NoExps = refl
    some_put (MoreExps e es) = rw (reads_put e, some_put es) refl

  mutual
    target_put : (t : Target) → target_reads p (put_target rows at t) ≡ target_reads p t
    target_put (Whole j) = refl
    target_put (WordAt m a) = reads_put a
    target_put (PickAt b i from w) = rw (target_put b, reads_put i) refl
    target_put (SliceAt b low w) = target_put b
    target_put (Several ts) = targets_put ts

    targets_put : (ts : Targets) → targets_read p (put_targets rows at ts) ≡ targets_read p ts
    targets_put NoTargets = refl
    targets_put (MoreTargets t ts) = rw (target_put t, targets_put ts) refl

  pieces_put : (ps : List Piece) → pieces_read p (put_pieces rows at ps) ≡ pieces_read p ps
  pieces_put [] = refl
  pieces_put (Literal text ∷ ps) = pieces_put ps
  pieces_put (Shown format e ∷ ps) = rw (reads_put e, pieces_put ps) refl

  task_put : (task : Task) → task_reads p (put_task rows at task) ≡ task_reads p task
  task_put (Print pieces newline) = pieces_put pieces
  task_put (Finish es) = some_put es
  task_put (Save name) = refl
  task_put (Fopen name) = refl
  task_put (Fread j fd) = rw (reads_put fd) refl
  task_put (Fgetc fd) = reads_put fd
  task_put (Feof fd) = reads_put fd
  task_put (Fclose fd) = reads_put fd
  task_put (ReadHex name m) = refl

module _ (scope : Scope) (p : ℕ → Bool) (none : (j : ℕ) → is_loop scope.names.rows j ≡ true → p j ≡ false) where
  in_turns_read : (n : ℕ) (test : State → Bool) (step : State → State) (f : State → Stm) (w : State → Bool) → ((x : State) → stm_reads p (f x) ≡ w x) → (x : State) → stm_reads p (in_turns n test step f x) ≡ some_turn n test step w x
  in_turns_read zero test step f w h x = refl
  in_turns_read (suc n) test step f w h x = at (test x) (in_turns_read n test step f w h (step x))
    where
      at : (b : Bool) → stm_reads p (in_turns n test step f (step x)) ≡ some_turn n test step w (step x) →
          stm_reads p (elim b [ true ↦ Then (f x) (in_turns n test step f (step x)) | false ↦ Nop ]) ≡ (elim b [ true ↦ (w x || some_turn n test step w (step x)) | false ↦ false ])
      at true k = rw (h x, k) refl
      at false k = refl

  many_read : (n : ℕ) (b : Stm) → stm_reads p (so_many n b) ≡ (not (n == 0) && stm_reads p b)
  many_read zero b = refl
  many_read (suc n) b = ap (λ z. stm_reads p b || z) (many_read n b) ∙ (twice (stm_reads p b) (not (n == 0)) ∙ sym (some_turns n (stm_reads p b)))

  mutual
    pub reads_same : (a : Stm) (e : State) → stm_reads p (unrolled scope a e) ≡ turns_read scope p a e
    reads_same Nop e = refl
    reads_same (Then a b) e = rw (reads_same a e, reads_same b e) refl
    reads_same (If u a b) e = rw (reads_put scope.names.rows p none e.values u, reads_same a e, reads_same b e) refl
    reads_same (Case u items) e = rw (reads_put scope.names.rows p none e.values u, items_reads_same items e) refl
    reads_same (For j start test step a) e = in_turns_read most_turns (goes_on scope test) (exec scope step) (unrolled scope a) (turns_read scope p a) (reads_same a) (exec scope start e)
    reads_same (Repeat n a) e = many_read n (unrolled scope a e) ∙ ap (λ z. not (n == 0) && z) (reads_same a e)
    reads_same (Set u x) e = rw (target_put scope.names.rows p none e.values u, reads_put scope.names.rows p none e.values x) refl
    reads_same (Later u x) e = rw (target_put scope.names.rows p none e.values u, reads_put scope.names.rows p none e.values x) refl
    reads_same (Sys task) e = task_put scope.names.rows p none e.values task

    items_reads_same : (items : Items) (e : State) → items_read p (unrolled_items scope items e) ≡ items_turns_read scope p items e
    items_reads_same NoItems e = refl
    items_reads_same (Labelled es a others) e = rw (some_put scope.names.rows p none e.values es, reads_same a e, items_reads_same others e) refl
    items_reads_same (Default a others) e = rw (reads_same a e, items_reads_same others e) refl
