-- What unrolling takes for granted of loops (construct 21 refuses all else; IEEE 1364-2005, clause 9.6), and how the states
-- of both runs belong together.
use Rattle.std.specs.Prelude.{◌≡◌, ℕ, Bool, true, false, not, ◌||◌, ◌&&◌, ◌==◌, List, [], ◌∷◌, ◌++◌, length, map, All, ⊤}
use Rattle.vl_design.specs.Syntax.{Exp, Num, Label, Sig, Word, Pick, Slice, Un, Bin, Cond, Cat, Rep, Cast, Call, Time, LastAnswer, Whole, Stm, Nop, Then, If, Case, For, Repeat, Set, Later, Sys, Items, NoItems, Labelled, Default, Row, Fun, Proc, Flat}
use Rattle.vl_design.specs.Width.{names_of}
use Rattle.vl_design.specs.Value.{words_of}
use Rattle.vl_design.specs.State.{State}
use Rattle.vl_design.specs.Reads.{target_writes, task_writes, reads, some_reads, target_reads, task_reads, stm_reads}
use Rattle.vl_design.specs.Functions.{scope_of, zeros, fresh}
use Rattle.vl_design.specs.Sound.{IsSoundStm, IsSound}
use Rattle.vl_design.specs.Queue.{Queue, Phase, Wave, Ended, Updated}
use Rattle.vl_design.specs.Alone.{Origin}
use Rattle.vl_loops.specs.Unroll.{is_loop, unrolled, unrolled_proc, unrolled_flat, still}

-- expressions of loop variables and constants alone
abbrev pub IsHeader : List Row → Exp → Type 0
IsHeader rows (Num v w s) = ⊤
IsHeader rows (Label v care w s) = ⊤
IsHeader rows (Sig j) = is_loop rows j ≡ true
IsHeader rows (Word m a) = ⊥
IsHeader rows (Pick b i from w) = IsHeader rows b × IsHeader rows i
IsHeader rows (Slice b low w) = IsHeader rows b
IsHeader rows (Un op a) = IsHeader rows a
IsHeader rows (Bin op a b) = IsHeader rows a × IsHeader rows b
IsHeader rows (Cond t a b) = IsHeader rows t × IsHeader rows a × IsHeader rows b
-- a concatenation in a header is refused, as a call of a function and a system call are
IsHeader rows (Cat es) = ⊥
IsHeader rows (Rep n es) = ⊥
IsHeader rows (Cast s a) = IsHeader rows a
IsHeader rows (Call f es) = ⊥
IsHeader rows Time = ⊥
IsHeader rows LastAnswer = ⊥

-- an assignment of such an expression to the loop variable j
pub record Assigns (rows : List Row) (j : ℕ) (a : Stm) : Type 0 where
  pub source : Exp
  pub whole : a ≡ Set (Whole j) source
  pub header : IsHeader rows source

abbrev mutual
  -- loop variables are assigned in the headers of their loops alone
  pub HasLoops : List Row → Stm → Type 0
  HasLoops rows Nop = ⊤
  HasLoops rows (Then a b) = HasLoops rows a × HasLoops rows b
  HasLoops rows (If t a b) = HasLoops rows a × HasLoops rows b
  HasLoops rows (Case x items) = HaveLoops rows items
  HasLoops rows (For j start test step a) = (is_loop rows j ≡ true) × Assigns rows j start × IsHeader rows test × Assigns rows j step × HasLoops rows a
  HasLoops rows (Repeat n a) = HasLoops rows a
  HasLoops rows (Set t x) = target_writes (is_loop rows) t ≡ false
  HasLoops rows (Later t x) = target_writes (is_loop rows) t ≡ false
  HasLoops rows (Sys task) = task_writes (is_loop rows) task ≡ false

  pub HaveLoops : List Row → Items → Type 0
  HaveLoops rows NoItems = ⊤
  HaveLoops rows (Labelled es a others) = HasLoops rows a × HaveLoops rows others
  HaveLoops rows (Default a others) = HasLoops rows a × HaveLoops rows others

-- t is s in all but the values of loop variables
pub record Same (rows : List Row) (s t : State) : Type 0 where
  pub others : (j : ℕ) → is_loop rows j ≡ false → words_of s.values j ≡ words_of t.values j
  pub size : length s.values ≡ length t.values
  pub all_else : record s { values = [] } ≡ record t { values = [] }

-- the loop variables have in s the values that they have in e, where no run has finished
pub record Holds (rows : List Row) (e s : State) : Type 0 where
  pub loops : (j : ℕ) → is_loop rows j ≡ true → words_of s.values j ≡ words_of e.values j
  pub size : length s.values ≡ length e.values
  pub alive : e.finished ≡ false

-- ---- which loop variables a statement reads

-- a loop variable outside these
abbrev pub stray : List Row → (ℕ → Bool) → ℕ → Bool
stray rows bound j = is_loop rows j && not (bound j)

abbrev pub and_also : (ℕ → Bool) → ℕ → ℕ → Bool
and_also bound j i = bound i || (i == j)

abbrev mutual
  -- loop variables are read in their loops alone; those that are bound here stand for loops around the statement
  pub IsClosed : List Row → (ℕ → Bool) → Stm → Type 0
  IsClosed rows bound Nop = ⊤
  IsClosed rows bound (Then a b) = IsClosed rows bound a × IsClosed rows bound b
  IsClosed rows bound (If t a b) = (reads (stray rows bound) t ≡ false) × IsClosed rows bound a × IsClosed rows bound b
  IsClosed rows bound (Case x items) = (reads (stray rows bound) x ≡ false) × AreClosed rows bound items
  IsClosed rows bound (For j start test step a) =
      (stm_reads (stray rows bound) start ≡ false) × (reads (stray rows (and_also bound j)) test ≡ false) × (stm_reads (stray rows (and_also bound j)) step ≡ false) × IsClosed rows (and_also bound j) a
  IsClosed rows bound (Repeat n a) = IsClosed rows bound a
  IsClosed rows bound (Set t x) = (target_reads (stray rows bound) t ≡ false) × (reads (stray rows bound) x ≡ false)
  IsClosed rows bound (Later t x) = (target_reads (stray rows bound) t ≡ false) × (reads (stray rows bound) x ≡ false)
  IsClosed rows bound (Sys task) = task_reads (stray rows bound) task ≡ false

  pub AreClosed : List Row → (ℕ → Bool) → Items → Type 0
  AreClosed rows bound NoItems = ⊤
  AreClosed rows bound (Labelled es a others) = (some_reads (stray rows bound) es ≡ false) × IsClosed rows bound a × AreClosed rows bound others
  AreClosed rows bound (Default a others) = IsClosed rows bound a × AreClosed rows bound others

-- two lists of words have the same at the bound loop variables
abbrev pub AreBound : List Row → (ℕ → Bool) → List (List ℕ) → List (List ℕ) → Type 0
AreBound rows bound xs ys = (j : ℕ) → is_loop rows j ≡ true → bound j ≡ true → words_of xs j ≡ words_of ys j

-- ---- designs

-- no input of a function is a loop variable
abbrev pub AreNoLoops : List Row → List ℕ → Type 0
AreNoLoops rows [] = ⊤
AreNoLoops rows (j ∷ js) = (is_loop rows j ≡ false) × AreNoLoops rows js

-- a function's loops are as construct 21 has them, and no input is a loop variable
pub record HasFunLoops (rows : List Row) (f : Fun) : Type 0 where
  pub body : HasLoops (rows ++ f.locals) f.body
  pub inputs : AreNoLoops (rows ++ f.locals) f.inputs

-- the design is sound, and its loops are as construct 21 has them
pub record CanUnroll (d : Flat) : Type 0 where
  pub sound : IsSound d
  pub funs : All (HasFunLoops d.rows) d.funs
  pub procs : All (λ p. HasLoops d.rows p.body) d.procs

-- each loop variable is 0, as it is in every run between its loops
abbrev pub IsStill : List Row → State → Type 0
IsStill rows s = Holds rows (fresh (zeros rows)) s

-- a statement of a process: sound, with its loops as construct 21 has them
pub record IsBlock (d : Flat) (a : Stm) : Type 0 where
  pub sound : IsSoundStm (names_of d) a
  pub loops : HasLoops d.rows a

-- a statement of a process with its loops unrolled
abbrev pub block_put : Flat → Stm → Stm
block_put d a = unrolled (scope_of d []) a (still (scope_of d []))

abbrev pub proc_put : Flat → Proc → Proc
proc_put d p = unrolled_proc (scope_of d []) p

-- the same queue, with the loops of the processes that are left unrolled
abbrev pub phase_put : Flat → Phase → Phase
phase_put d (Wave ps) = Wave (map (proc_put d) ps)
phase_put d Ended = Ended
phase_put d Updated = Updated

abbrev pub queue_put : Flat → Queue → Queue
queue_put d q = record q { phase = phase_put d q.phase; ahead = map (map (proc_put d)) q.ahead }

abbrev pub origin_put : Origin → Origin
origin_put o = record o { flat = unrolled_flat o.flat }

-- each loop variable is one word
abbrev pub IsOneWord : List Row → List (List ℕ) → Type 0
IsOneWord rows values = (j : ℕ) → is_loop rows j ≡ true → (x : ℕ) × (words_of values j ≡ x ∷ [])

-- a state of these signals: it has each, and its loop variables hold some number
pub record IsOf (rows : List Row) (s : State) : Type 0 where
  pub size : length s.values ≡ length rows
  pub words : IsOneWord rows s.values
  pub loops : IsOneWord rows (zeros rows)
