-- A sound statement with its loops unrolled is sound.
use Rattle.std.proofs.Common.{◌≡◌, ℕ, zero, suc, ◌+◌, ◌^◌, ◌<◌, Bool, true, false, List, [], ◌∷◌, Option, Some, None, refl, ap, ◌∙◌, map}
use Rattle.std.specs.Prelude.{slice_get, slice_index, option_map, All, ◌++◌}
use Rattle.std.specs.List.{AllByRecursion}
use Rattle.std.proofs.lemmas.List.Elements.{recursion_from_All, All-from_recursion}
use Rattle.std.proofs.lemmas.Nat.{pow_pos}
use Rattle.vl_design.specs.Syntax.{Exp, Num, Label, Sig, Word, Pick, Slice, Un, Bin, Cond, Cat, Rep, Cast, Call, Time, LastAnswer, Exps, NoExps, MoreExps, Target, Whole, WordAt, PickAt, SliceAt, Several, Targets, NoTargets, MoreTargets, Piece, Literal, Shown, Task, Print, Finish, Save, Fopen, Fread, Fgetc, Feof, Fclose, ReadHex, Stm, Nop, Then, If, Case, For, Repeat, Set, Later, Sys, Items, NoItems, Labelled, Default, Row, Fun, Proc, Flat}
use Rattle.vl_design.specs.Width.{Scope, row_form, names_of, result_form_of, input_widths_of}
use Rattle.vl_design.specs.Functions.{scope_of, zeros, fresh}
use Rattle.std.proofs.lemmas.Option.{slice_get-map}
use Rattle.vl_design.specs.Value.{words_of}
use Rattle.vl_design.specs.State.{State}
use Rattle.vl_design.specs.Exec.{exec, goes_on, most_turns}
use Rattle.vl_design.specs.Sound.{IsWidth, IsOf, HasValue, IsSignal, count_of, Takes, IsSoundExp, AreSound, IsSoundBase, IsSoundTarget, AreSoundTargets, IsSoundPiece, IsSoundTask, IsSoundStm, AreSoundItems, IsSoundFun, IsSoundProc, IsSound}
use Rattle.vl_design.specs.Laws.{InRange}
use Rattle.vl_design.proofs.Ranging.{exec_in_range, zeros_in_range}
use Rattle.vl_loops.specs.Unroll.{is_loop, signal_put, put, puts, put_target, put_targets, put_piece, put_pieces, put_task, unrolled, unrolled_items, in_turns, so_many, unrolled_fun, unrolled_proc, unrolled_flat}
use Rattle.vl_loops.proofs.Funs.{Alike, with_funs}
use Rattle.vl_loops.proofs.Putting.{width_put}
use Rattle.vl_loops.proofs.Stepping.{targets_width_put}
use Rattle.vl_base.proofs.Lists.{first_below as in_range}

width_of_row : (r : Option Row) → IsOf HasValue r → IsWidth (row_form r).width
width_of_row None h = absurd h
width_of_row (Some r) h = h.1

count_put : (rows : List Row) (at : List (List ℕ)) (es : Exps) → count_of (puts rows at es) ≡ count_of es
count_put rows at NoExps = refl
count_put rows at (MoreExps e es) = ap (λ n. 1 + n) (count_put rows at es)

module _ (scope : Scope) (funs : List Fun) (call : ℕ → List ℕ → ℕ) (al : Alike scope funs call) (takes : (f n : ℕ) → Takes (slice_get scope.names.funs f) n → Takes (slice_get funs f) n) where
  abbrev next : Scope
  next = with_funs scope funs call

  module _ (at : List (List ℕ)) (range : InRange scope.names.rows at) where
    signal_sound : (b : Bool) (j : ℕ) → IsSignal scope.names j → IsSoundExp next.names (signal_put scope.names.rows at b j)
    signal_sound true j h = (width_of_row (slice_get scope.names.rows j) h, in_range _ (words_of at j) (range j))
    signal_sound false j h = h

    mutual
      put_sound : (e : Exp) → IsSoundExp scope.names e → IsSoundExp next.names (put scope.names.rows at e)
      put_sound (Num v w s) h = h
      put_sound (Label v care w s) h = h
      put_sound (Sig j) h = signal_sound (is_loop scope.names.rows j) j h
      put_sound (Word m a) h = (h.0, put_sound a h.1)
      put_sound (Pick b i from w) h = (h.0, put_sound b h.1, put_sound i h.2)
      put_sound (Slice b low w) h = (h.0, put_sound b h.1)
      put_sound (Un op a) h = put_sound a h
      put_sound (Bin op a b) h = (put_sound a h.0, put_sound b h.1)
      put_sound (Cond t a b) h = (put_sound t h.0, put_sound a h.1, put_sound b h.2)
      put_sound (Cat es) h = (rw (width_put scope funs call al at es) h.0, puts_sound es h.1)
      put_sound (Rep n es) h = (rw (width_put scope funs call al at es) h.0, puts_sound es h.1)
      put_sound (Cast s a) h = put_sound a h
      put_sound (Call f es) h = (takes f _ (rw (count_put scope.names.rows at es) h.0), rw (al.results f) h.1, puts_sound es h.2)
      put_sound Time h = h
      put_sound LastAnswer h = h

      puts_sound : (es : Exps) → AreSound scope.names es → AreSound next.names (puts scope.names.rows at es)
      puts_sound NoExps h = h
      puts_sound (MoreExps e es) h = (put_sound e h.0, puts_sound es h.1)

    base_sound : (t : Target) → IsSoundBase scope.names t → IsSoundBase next.names (put_target scope.names.rows at t)
    base_sound (Whole j) h = h
    base_sound (WordAt m a) h = (h.0, put_sound a h.1)
    base_sound (PickAt b i from w) h = h
    base_sound (SliceAt b low w) h = h
    base_sound (Several ts) h = h

    mutual
      target_sound : (t : Target) → IsSoundTarget scope.names t → IsSoundTarget next.names (put_target scope.names.rows at t)
      target_sound (Whole j) h = h
      target_sound (WordAt m a) h = (h.0, put_sound a h.1)
      target_sound (PickAt b i from w) h = (h.0, base_sound b h.1, put_sound i h.2)
      target_sound (SliceAt b low w) h = (h.0, base_sound b h.1)
      target_sound (Several ts) h = (rw (targets_width_put scope funs call al at ts) h.0, targets_sound ts h.1)

      targets_sound : (ts : Targets) → AreSoundTargets scope.names ts → AreSoundTargets next.names (put_targets scope.names.rows at ts)
      targets_sound NoTargets h = h
      targets_sound (MoreTargets t ts) h = (target_sound t h.0, targets_sound ts h.1)

    piece_sound : (p : Piece) → IsSoundPiece scope.names p → IsSoundPiece next.names (put_piece scope.names.rows at p)
    piece_sound (Literal text) h = h
    piece_sound (Shown format e) h = put_sound e h

    pieces_sound : (ps : List Piece) → AllByRecursion (IsSoundPiece scope.names) ps → AllByRecursion (IsSoundPiece next.names) (put_pieces scope.names.rows at ps)
    pieces_sound [] h = h
    pieces_sound (p ∷ ps) h = (piece_sound p h.0, pieces_sound ps h.1)

    task_sound : (task : Task) → IsSoundTask scope.names task → IsSoundTask next.names (put_task scope.names.rows at task)
    task_sound (Print pieces newline) h = All-from_recursion (IsSoundPiece next.names) _ (pieces_sound pieces (recursion_from_All (IsSoundPiece scope.names) pieces h))
    task_sound (Finish es) h = puts_sound es h
    task_sound (Save name) h = h
    task_sound (Fopen name) h = h
    task_sound (Fread j fd) h = (h.0, put_sound fd h.1)
    task_sound (Fgetc fd) h = put_sound fd h
    task_sound (Feof fd) h = put_sound fd h
    task_sound (Fclose fd) h = put_sound fd h
    task_sound (ReadHex name m) h = h

  turns_sound : (n : ℕ) (test : State → Bool) (step : State → State) (f : State → Stm) → ((x : State) → InRange scope.names.rows x.values → InRange scope.names.rows (step x).values) → ((x : State) → InRange scope.names.rows x.values → IsSoundStm next.names (f x)) →
      (x : State) → InRange scope.names.rows x.values → IsSoundStm next.names (in_turns n test step f x)
  turns_sound zero test step f g h x r = tt
  turns_sound (suc n) test step f g h x r = at (test x) (turns_sound n test step f g h (step x) (g x r))
    where
      at : (b : Bool) → IsSoundStm next.names (in_turns n test step f (step x)) → IsSoundStm next.names (elim b [ true ↦ Then (f x) (in_turns n test step f (step x)) | false ↦ Nop ])
      at true k = (h x r, k)
      at false k = tt

  many_sound : (n : ℕ) (a : Stm) → IsSoundStm next.names a → IsSoundStm next.names (so_many n a)
  many_sound zero a h = tt
  many_sound (suc n) a h = (h, many_sound n a h)

  mutual
    pub unrolled_sound : (a : Stm) → IsSoundStm scope.names a → (e : State) → InRange scope.names.rows e.values → IsSoundStm next.names (unrolled scope a e)
    unrolled_sound Nop h e r = tt
    unrolled_sound (Then a b) h e r = (unrolled_sound a h.0 e r, unrolled_sound b h.1 e r)
    unrolled_sound (If t a b) h e r = (put_sound e.values r t h.0, unrolled_sound a h.1 e r, unrolled_sound b h.2 e r)
    unrolled_sound (Case x items) h e r = (put_sound e.values r x h.0, items_sound items h.1 e r)
    unrolled_sound (For j start test step a) h e r =
        turns_sound most_turns (goes_on scope test) (exec scope step) (unrolled scope a) (λ x g. exec_in_range scope step x g) (λ x g. unrolled_sound a h.4 x g) (exec scope start e) (exec_in_range scope start e r)
    unrolled_sound (Repeat n a) h e r = many_sound n (unrolled scope a e) (unrolled_sound a h e r)
    unrolled_sound (Set t x) h e r = (target_sound e.values r t h.0, put_sound e.values r x h.1)
    unrolled_sound (Later t x) h e r = (target_sound e.values r t h.0, put_sound e.values r x h.1)
    unrolled_sound (Sys task) h e r = task_sound e.values r task h

    items_sound : (items : Items) → AreSoundItems scope.names items → (e : State) → InRange scope.names.rows e.values → AreSoundItems next.names (unrolled_items scope items e)
    items_sound NoItems h e r = tt
    items_sound (Labelled es a others) h e r = (puts_sound e.values r es h.0, unrolled_sound a h.1 e r, items_sound others h.2 e r)
    items_sound (Default a others) h e r = (unrolled_sound a h.0 e r, items_sound others h.1 e r)

-- ---- designs

module _ (d : Flat) where
  abbrev e : Flat
  e = unrolled_flat d

  abbrev up : Fun → Fun
  up = unrolled_fun (scope_of d [])

  same_results : (f : Option Fun) (rows : List Row) → result_form_of (record (names_of e) { rows = rows }) (option_map up f) ≡ result_form_of (record (names_of d) { rows = rows }) f
  same_results None rows = refl
  same_results (Some f) rows = refl

  same_inputs : (f : Option Fun) (rows : List Row) → input_widths_of (record (names_of e) { rows = rows }) (option_map up f) ≡ input_widths_of (record (names_of d) { rows = rows }) f
  same_inputs None rows = refl
  same_inputs (Some f) rows = refl

  abbrev scope_at : List Row → Scope
  scope_at rows = record (scope_of d []) { names = record (names_of d) { rows = rows } }

  alike : (rows : List Row) → Alike (scope_at rows) e.funs (scope_of d []).call
  alike rows = record {
    results = λ f. ap (result_form_of (record (names_of e) { rows = rows })) (slice_get-map up d.funs f) ∙ same_results (slice_get d.funs f) rows;
    inputs = λ f. ap (input_widths_of (record (names_of e) { rows = rows })) (slice_get-map up d.funs f) ∙ same_inputs (slice_get d.funs f) rows;
    calls = λ f args. refl;
  }

  take_up : (g : Option Fun) (n : ℕ) → Takes g n → Takes (option_map up g) n
  take_up None n h = h
  take_up (Some f) n h = h

  takes : (f n : ℕ) → Takes (slice_get d.funs f) n → Takes (slice_get e.funs f) n
  takes f n h = rw (slice_get-map up d.funs f) (take_up (slice_get d.funs f) n h)

  fun_sound : (f : Fun) → IsSoundFun (names_of d) f → IsSoundFun (names_of e) (up f)
  fun_sound f h =
      let rows = d.rows ++ f.locals in
      record {
        inputs = h.inputs;
        result = h.result;
        body = unrolled_sound (scope_at rows) e.funs (scope_of d []).call (alike rows) takes f.body h.body (fresh (zeros rows)) (zeros_in_range rows);
      }

  proc_sound : (p : Proc) → IsSoundProc (names_of d) p → IsSoundProc (names_of e) (unrolled_proc (scope_of d []) p)
  proc_sound p h = record {
    events = h.events;
    body = unrolled_sound (scope_of d []) e.funs (scope_of d []).call (alike d.rows) takes p.body h.body (fresh (zeros d.rows)) (zeros_in_range d.rows);
  }

  funs_sound : (fs : List Fun) → AllByRecursion (IsSoundFun (names_of d)) fs → AllByRecursion (IsSoundFun (names_of e)) (map up fs)
  funs_sound [] h = h
  funs_sound (f ∷ fs) h = (fun_sound f h.0, funs_sound fs h.1)

  procs_sound : (ps : List Proc) → AllByRecursion (IsSoundProc (names_of d)) ps → AllByRecursion (IsSoundProc (names_of e)) (map (unrolled_proc (scope_of d [])) ps)
  procs_sound [] h = h
  procs_sound (p ∷ ps) h = (proc_sound p h.0, procs_sound ps h.1)

  pub flat_sound : IsSound d → IsSound e
  flat_sound h = record {
    funs = All-from_recursion (IsSoundFun (names_of e)) _ (funs_sound d.funs (recursion_from_All (IsSoundFun (names_of d)) d.funs h.funs));
    procs = All-from_recursion (IsSoundProc (names_of e)) _ (procs_sound d.procs (recursion_from_All (IsSoundProc (names_of d)) d.procs h.procs));
  }
