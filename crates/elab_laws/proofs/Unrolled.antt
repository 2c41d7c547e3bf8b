-- Statements with their loops unrolled: they read no answer but that of the call right before them, and their calls of `$save` are
-- named, where both was so before.
use Rattle.std.proofs.Common.{◌≡◌, ℕ, zero, suc, Bool, true, false, true≢false, List, [], ◌∷◌, refl, sym, ◌∙◌}
use Rattle.std.specs.Prelude.{◌||◌, ◌&&◌, not}
use Rattle.std.proofs.lemmas.List.Elements.{All-map, All-weaker}
use Rattle.std.proofs.lemmas.Bool.{and_right}
use Rattle.ten_plan.specs.vl_design.specs.Syntax.{Exp, Num, Label, Sig, Word, Pick, Slice, Un, Bin, Cond, Cat, Rep, Cast, Call, Time, LastAnswer, Exps, NoExps, MoreExps, Target, Whole, WordAt, PickAt, SliceAt, Several, Targets, NoTargets, MoreTargets, Piece, Literal, Shown, Task, Print, Finish, Fread, Fgetc, Feof, Fclose, Stm, Nop, Then, If, Case, For, Repeat, Set, Later, Sys, Items, NoItems, Labelled, Default, Row, Proc, Flat}
use Rattle.ten_plan.specs.vl_design.specs.Exec.{exec, goes_on, most_turns}
use Rattle.ten_plan.specs.vl_design.specs.Functions.{scope_of}
use Rattle.ten_plan.specs.vl_design.specs.Nodes.{has, some_have, target_has, targets_have, pieces_have, arguments_have}
use Rattle.ten_plan.specs.vl_design.specs.State.{State}
use Rattle.ten_plan.specs.vl_design.specs.Width.{Scope}
use Rattle.ten_plan.specs.vl_design.proofs.Resting.{or_none}
use Rattle.ten_plan.specs.vl_design.proofs.Unread.{or_false}
use Rattle.vl_accept.specs.vl_loops.specs.Unroll.{is_loop, signal_put, put, puts, put_target, put_targets, put_pieces, put_task, in_turns, so_many, unrolled, unrolled_items, still, unrolled_proc, unrolled_flat}
use Rattle.elab_laws.specs.Names.{is_misnamed, NamesSaves}
use Rattle.elab_laws.proofs.Nodes.{Named, ItemsNamed, Names, names-of, named-of}
use Rattle.vl_accept.specs.vl_sites.specs.Answers.{is_answer, gives_answer, answers, asks_before, items_ask_before, AsksBehindCalls}

-- ---- numbers in place of loop variables

module _ (rows : List Row) (at : List (List ℕ)) where
  loop-same : (b : Bool) (j : ℕ) → has is_answer (signal_put rows at b j) ≡ false
  loop-same true j = refl
  loop-same false j = refl

  mutual
    put-same : (e : Exp) → has is_answer (put rows at e) ≡ has is_answer e
    put-same (Num v w s) = refl
    put-same (Label v care w s) = refl
    put-same (Sig j) = loop-same (is_loop rows j) j
    put-same (Word m a) = put-same a
    put-same (Pick b i from w) = rw (put-same b, put-same i) refl
    put-same (Slice b low w) = put-same b
    put-same (Un op a) = put-same a
    put-same (Bin op a b) = rw (put-same a, put-same b) refl
    put-same (Cond t a b) = rw (put-same t, put-same a, put-same b) refl
    put-same (Cat es) = puts-same es
    put-same (Rep n es) = puts-same es
    put-same (Cast s a) = put-same a
    put-same (Call f es) = puts-same es
    put-same Time = refl
    put-same LastAnswer = refl

    puts-same : (es : Exps) → some_have is_answer (puts rows at es) ≡ some_have is_answer es
    puts-same NoExps = refl
    puts-same (MoreExps e es) = rw (put-same e, puts-same es) refl

  mutual
    target-same : (t : Target) → target_has is_answer (put_target rows at t) ≡ target_has is_answer t
    target-same (Whole j) = refl
    target-same (WordAt m a) = put-same a
    target-same (PickAt b i from w) = rw (target-same b, put-same i) refl
    target-same (SliceAt b low w) = target-same b
    target-same (Several ts) = targets-same ts

    targets-same : (ts : Targets) → targets_have is_answer (put_targets rows at ts) ≡ targets_have is_answer ts
    targets-same NoTargets = refl
    targets-same (MoreTargets t ts) = rw (target-same t, targets-same ts) refl

  pieces-same : (ps : List Piece) → pieces_have is_answer (put_pieces rows at ps) ≡ pieces_have is_answer ps
  pieces-same [] = refl
  pieces-same (Literal text ∷ ps) = pieces-same ps
  pieces-same (Shown format e ∷ ps) = rw (put-same e, pieces-same ps) refl

  task-same : (task : Task) → arguments_have is_answer (put_task rows at task) ≡ arguments_have is_answer task
  task-same (Print pieces newline) = pieces-same pieces
  task-same (Finish es) = puts-same es
  task-same (Fread j fd) = put-same fd
  task-same (Fgetc fd) = put-same fd
  task-same (Feof fd) = put-same fd
  task-same (Fclose fd) = put-same fd
  task-same task = refl

  gives-same : (task : Task) → gives_answer (put_task rows at task) ≡ gives_answer task
  gives-same (Print pieces newline) = refl
  gives-same task = refl

-- ---- one statement behind another

pub behind-none : (a b : Stm) → asks_before a ≡ false → asks_before b ≡ false → asks_before (Then a b) ≡ false
behind-none a b h g = or_none (asks_before a) _ h (and_right (not (answers a)) (asks_before b) g)

-- what holds of no statement, and of two where it holds of both
module _ (P : Stm → Type 0) (none : P Nop) (both : (a b : Stm) → P a → P b → P (Then a b)) where
  turns-so : {S : Type 0} (n : ℕ) (test : S → Bool) (step : S → S) (f : S → Stm) → ((x : S) → P (f x)) → (x : S) → P (in_turns n test step f x)
  turns-so zero test step f h x = none
  turns-so (suc n) test step f h x = at (test x) (turns-so n test step f h (step x))
    where
      at : (b : Bool) → P (in_turns n test step f (step x)) → P (elim b [ true ↦ Then (f x) (in_turns n test step f (step x)) | false ↦ Nop ])
      at true k = both (f x) (in_turns n test step f (step x)) (h x) k
      at false k = none

  many-so : (n : ℕ) (a : Stm) → P a → P (so_many n a)
  many-so zero a h = none
  many-so (suc n) a h = both a (so_many n a) h (many-so n a h)

-- ---- statements

module _ (scope : Scope) where
  -- a call that gives an answer does so with the loops unrolled
  answers-stay : (a : Stm) (e : State) → answers a ≡ true → answers (unrolled scope a e) ≡ true
  answers-stay (Sys task) e h = gives-same scope.names.rows e.values task ∙ h
  answers-stay a e h = absurd (true≢false (sym h))

  then-asks : (a b : Stm) (e : State) → asks_before (Then a b) ≡ false → (asks_before a ≡ false → asks_before (unrolled scope a e) ≡ false) → (asks_before b ≡ false → asks_before (unrolled scope b e) ≡ false)
      → asks_before (unrolled scope (Then a b) e) ≡ false
  then-asks a b e h f g =
      let q = or_false (asks_before a) (not (answers a) && asks_before b) h in
      or_none (asks_before (unrolled scope a e)) _ (f q.0) (by (answers a) refl q.1)
    where
      by : (t : Bool) → answers a ≡ t → (not t && asks_before b) ≡ false → (not (answers (unrolled scope a e)) && asks_before (unrolled scope b e)) ≡ false
      by true is k = rw (answers-stay a e is) refl
      by false is k = and_right (not (answers (unrolled scope a e))) (asks_before (unrolled scope b e)) (g k)

  mutual
    unrolled-asks : (a : Stm) (e : State) → asks_before a ≡ false → asks_before (unrolled scope a e) ≡ false
    unrolled-asks Nop e h = refl
    unrolled-asks (Then a b) e h = then-asks a b e h (unrolled-asks a e) (unrolled-asks b e)
    unrolled-asks (If t a b) e h =
        let p = or_false (has is_answer t) (asks_before a || asks_before b) h in
        let q = or_false (asks_before a) (asks_before b) p.1 in
        or_none _ _ (put-same scope.names.rows e.values t ∙ p.0) (or_none _ _ (unrolled-asks a e q.0) (unrolled-asks b e q.1))
    unrolled-asks (Case x items) e h =
        let p = or_false (has is_answer x) (items_ask_before items) h in
        or_none _ _ (put-same scope.names.rows e.values x ∙ p.0) (unrolled-items-ask items e p.1)
    unrolled-asks (For j start test step a) e h =
        let p = or_false (asks_before start) (has is_answer test || (asks_before step || asks_before a)) h in
        let q = or_false (has is_answer test) (asks_before step || asks_before a) p.1 in
        let r = or_false (asks_before step) (asks_before a) q.1 in
        turns-so (λ a. asks_before a ≡ false) refl behind-none most_turns (goes_on scope test) (exec scope step) (unrolled scope a) (λ x. unrolled-asks a x r.1) (exec scope start e)
    unrolled-asks (Repeat n a) e h = many-so (λ a. asks_before a ≡ false) refl behind-none n (unrolled scope a e) (unrolled-asks a e h)
    unrolled-asks (Set t x) e h =
        let p = or_false (target_has is_answer t) (has is_answer x) h in
        or_none _ _ (target-same scope.names.rows e.values t ∙ p.0) (put-same scope.names.rows e.values x ∙ p.1)
    unrolled-asks (Later t x) e h =
        let p = or_false (target_has is_answer t) (has is_answer x) h in
        or_none _ _ (target-same scope.names.rows e.values t ∙ p.0) (put-same scope.names.rows e.values x ∙ p.1)
    unrolled-asks (Sys task) e h = task-same scope.names.rows e.values task ∙ h

    unrolled-items-ask : (items : Items) (e : State) → items_ask_before items ≡ false → items_ask_before (unrolled_items scope items e) ≡ false
    unrolled-items-ask NoItems e h = refl
    unrolled-items-ask (Labelled es a others) e h =
        let p = or_false (some_have is_answer es) (asks_before a || items_ask_before others) h in
        let q = or_false (asks_before a) (items_ask_before others) p.1 in
        or_none _ _ (puts-same scope.names.rows e.values es ∙ p.0) (or_none _ _ (unrolled-asks a e q.0) (unrolled-items-ask others e q.1))
    unrolled-items-ask (Default a others) e h =
        let q = or_false (asks_before a) (items_ask_before others) h in
        or_none _ _ (unrolled-asks a e q.0) (unrolled-items-ask others e q.1)

-- ---- calls of `$save`

misnamed-same : (rows : List Row) (at : List (List ℕ)) (task : Task) → is_misnamed (put_task rows at task) ≡ is_misnamed task
misnamed-same rows at (Print pieces newline) = refl
misnamed-same rows at task = refl

module _ (scope : Scope) where
  mutual
    unrolled-named : (a : Stm) (e : State) → Named a → Named (unrolled scope a e)
    unrolled-named Nop e h = tt
    unrolled-named (Then a b) e h = (unrolled-named a e h.0, unrolled-named b e h.1)
    unrolled-named (If t a b) e h = (unrolled-named a e h.0, unrolled-named b e h.1)
    unrolled-named (Case x items) e h = unrolled-items-named items e h
    unrolled-named (For j start test step a) e h = turns-so Named tt (λ a b p q. (p, q)) most_turns (goes_on scope test) (exec scope step) (unrolled scope a) (λ x. unrolled-named a x h.3) (exec scope start e)
    unrolled-named (Repeat n a) e h = many-so Named tt (λ a b p q. (p, q)) n (unrolled scope a e) (unrolled-named a e h)
    unrolled-named (Set t x) e h = tt
    unrolled-named (Later t x) e h = tt
    unrolled-named (Sys task) e h = misnamed-same scope.names.rows e.values task ∙ h

    unrolled-items-named : (items : Items) (e : State) → ItemsNamed items → ItemsNamed (unrolled_items scope items e)
    unrolled-items-named NoItems e h = tt
    unrolled-items-named (Labelled es a others) e h = (unrolled-named a e h.0, unrolled-items-named others e h.1)
    unrolled-items-named (Default a others) e h = (unrolled-named a e h.0, unrolled-items-named others e h.1)

-- ---- designs

-- the process reads no answer but that of the call right before
abbrev Asks : Proc → Type 0
Asks a = asks_before a.body ≡ false

pub flat-asks : (d : Flat) → AsksBehindCalls d → AsksBehindCalls (unrolled_flat d)
flat-asks d h =
    let scope = scope_of d [] in
    record { procs = All-map Asks (unrolled_proc scope) d.procs (All-weaker Asks (λ a. Asks (unrolled_proc scope a)) (λ a k. unrolled-asks scope a.body (still scope) k) d.procs h.procs) }

abbrev ProcNames : Proc → Type 0
ProcNames a = Names a.body

pub flat-names : (d : Flat) → NamesSaves d → NamesSaves (unrolled_flat d)
flat-names d h =
    let scope = scope_of d [] in
    record {
      procs = All-map ProcNames (unrolled_proc scope) d.procs
          (All-weaker ProcNames (λ a. ProcNames (unrolled_proc scope a)) (λ a k. names-of (unrolled scope a.body (still scope)) (unrolled-named scope a.body (still scope) (named-of a.body k))) d.procs h.procs);
    }
