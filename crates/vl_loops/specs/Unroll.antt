-- Statements with their loops unrolled: each loop turn by turn, with the numbers that its variable has in each turn
-- (IEEE 1364-2005, clause 9.6). Calls of functions stay; the loops in the functions' bodies are unrolled too.
use Rattle.std.specs.Prelude.{ℕ, zero, suc, Bool, true, false, List, [], ◌∷◌, map, slice_get, Option, Some, None}
use Rattle.vl_design.specs.declared.design.SigKind.{SigKind}
use Rattle.vl_design.specs.declared.design.SigKind.TheVariants as k
use Rattle.vl_design.specs.Syntax.{Exp, Num, Label, Sig, Word, Pick, Slice, Un, Bin, Cond, Cat, Rep, Cast, Call, Time, LastAnswer, Exps, NoExps, MoreExps, Target, Whole, WordAt, PickAt, SliceAt, Several, Targets, NoTargets, MoreTargets, Piece, Literal, Shown, Task, Print, Finish, Save, Fopen, Fread, Fgetc, Feof, Fclose, ReadHex, Stm, Nop, Then, If, Case, For, Repeat, Set, Later, Sys, Items, NoItems, Labelled, Default, Row, Fun, Proc, Flat}
use Rattle.vl_design.specs.Width.{Scope, signal_form}
use Rattle.vl_design.specs.Value.{value_of}
use Rattle.vl_design.specs.State.{State}
use Rattle.vl_design.specs.Exec.{exec, goes_on, most_turns}
use Rattle.vl_design.specs.Functions.{scope_of, inner, zeros, fresh}

abbrev pub is_loop_kind : SigKind → Bool
is_loop_kind k.Loop = true
is_loop_kind kind = false

abbrev pub is_loop_row : Option Row → Bool
is_loop_row None = false
is_loop_row (Some r) = is_loop_kind r.kind

-- a loop variable
abbrev pub is_loop : List Row → ℕ → Bool
is_loop rows j = is_loop_row (slice_get rows j)

module _ (rows : List Row) (at : List (List ℕ)) where
  -- loop variables have these numbers
  abbrev pub signal_put : Bool → ℕ → Exp
  signal_put true j = Num (value_of at j) (signal_form rows j).width (signal_form rows j).signed
  signal_put false j = Sig j

  abbrev mutual
    pub put : Exp → Exp
    put (Num v w s) = Num v w s
    put (Label v care w s) = Label v care w s
    put (Sig j) = signal_put (is_loop rows j) j
    put (Word m a) = Word m (put a)
    put (Pick b i from w) = Pick (put b) (put i) from w
    put (Slice b low w) = Slice (put b) low w
    put (Un op a) = Un op (put a)
    put (Bin op a b) = Bin op (put a) (put b)
    put (Cond t a b) = Cond (put t) (put a) (put b)
    put (Cat es) = Cat (puts es)
    put (Rep n es) = Rep n (puts es)
    put (Cast s a) = Cast s (put a)
    put (Call f es) = Call f (puts es)
    put Time = Time
    put LastAnswer = LastAnswer

    pub puts : Exps → Exps
    puts NoExps = NoExps
    puts (MoreExps e es) = MoreExps (put e) (puts es)

  abbrev mutual
    pub put_target : Target → Target
    put_target (Whole j) = Whole j
    put_target (WordAt m a) = WordAt m (put a)
    put_target (PickAt b i from w) = PickAt (put_target b) (put i) from w
    put_target (SliceAt b low w) = SliceAt (put_target b) low w
    put_target (Several ts) = Several (put_targets ts)

    pub put_targets : Targets → Targets
    put_targets NoTargets = NoTargets
    put_targets (MoreTargets t ts) = MoreTargets (put_target t) (put_targets ts)

  abbrev pub put_piece : Piece → Piece
  put_piece (Literal text) = Literal text
  put_piece (Shown format e) = Shown format (put e)

  abbrev pub put_pieces : List Piece → List Piece
  put_pieces [] = []
  put_pieces (p ∷ ps) = put_piece p ∷ put_pieces ps

  abbrev pub put_task : Task → Task
  put_task (Print pieces newline) = Print (put_pieces pieces) newline
  put_task (Finish es) = Finish (puts es)
  put_task (Save name) = Save name
  put_task (Fopen name) = Fopen name
  put_task (Fread j fd) = Fread j (put fd)
  put_task (Fgetc fd) = Fgetc (put fd)
  put_task (Feof fd) = Feof (put fd)
  put_task (Fclose fd) = Fclose (put fd)
  put_task (ReadHex name m) = ReadHex name m

-- ---- statements

-- the turns of a loop one after another
abbrev pub in_turns : {S : Type 0} → ℕ → (S → Bool) → (S → S) → (S → Stm) → S → Stm
in_turns zero test step f s = Nop
in_turns (suc n) test step f s = elim (test s) [ true ↦ Then (f s) (in_turns n test step f (step s)) | false ↦ Nop ]

abbrev pub so_many : ℕ → Stm → Stm
so_many zero a = Nop
so_many (suc n) a = Then a (so_many n a)

module _ (scope : Scope) where
  abbrev mutual
    -- e has the values of the loop variables
    pub unrolled : Stm → State → Stm
    unrolled Nop e = Nop
    unrolled (Then a b) e = Then (unrolled a e) (unrolled b e)
    unrolled (If t a b) e = If (put scope.names.rows e.values t) (unrolled a e) (unrolled b e)
    unrolled (Case x items) e = Case (put scope.names.rows e.values x) (unrolled_items items e)
    unrolled (For j start test step a) e = in_turns most_turns (goes_on scope test) (exec scope step) (unrolled a) (exec scope start e)
    unrolled (Repeat n a) e = so_many n (unrolled a e)
    unrolled (Set t x) e = Set (put_target scope.names.rows e.values t) (put scope.names.rows e.values x)
    unrolled (Later t x) e = Later (put_target scope.names.rows e.values t) (put scope.names.rows e.values x)
    unrolled (Sys task) e = Sys (put_task scope.names.rows e.values task)

    pub unrolled_items : Items → State → Items
    unrolled_items NoItems e = NoItems
    unrolled_items (Labelled es a others) e = Labelled (puts scope.names.rows e.values es) (unrolled a e) (unrolled_items others e)
    unrolled_items (Default a others) e = Default (unrolled a e) (unrolled_items others e)

-- ---- designs

-- the state before a loop: each loop variable 0
abbrev pub still : Scope → State
still scope = fresh (zeros scope.names.rows)

abbrev pub unrolled_fun : Scope → Fun → Fun
unrolled_fun scope f = record f { body = unrolled (inner scope f) f.body (still (inner scope f)) }

abbrev pub unrolled_proc : Scope → Proc → Proc
unrolled_proc scope p = record p { body = unrolled scope p.body (still scope) }

-- the design with its loops unrolled
abbrev pub unrolled_flat : Flat → Flat
unrolled_flat d = record d { funs = map (unrolled_fun (scope_of d [])) d.funs; procs = map (unrolled_proc (scope_of d [])) d.procs }
