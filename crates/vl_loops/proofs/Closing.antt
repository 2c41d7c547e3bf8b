-- The text of a statement with its loops unrolled depends only on the loop variables bound around it: not on others, nor on
-- what calls give.
use Rattle.std.proofs.Common.{◌≡◌, ℕ, Bool, true, false, List, [], ◌∷◌, refl, ap}
use Rattle.std.specs.Prelude.{◌&&◌, not}
use Rattle.vl_base.specs.declared.files.File.{File}
use Rattle.vl_design.specs.declared.design.Form.{Form}
use Rattle.vl_design.specs.Syntax.{Exp, Num, Label, Sig, Word, Pick, Slice, Un, Bin, Cond, Cat, Rep, Cast, Call, Time, LastAnswer, Exps, NoExps, MoreExps, Target, Whole, WordAt, PickAt, SliceAt, Several, Targets, NoTargets, MoreTargets, Piece, Literal, Shown, Task, Print, Finish, Save, Fopen, Fread, Fgetc, Feof, Fclose, ReadHex, Row, Fun}
use Rattle.vl_design.specs.Width.{Scope, form}
use Rattle.vl_design.specs.Value.{Sample, value}
use Rattle.vl_design.specs.Reads.{reads, some_reads, target_reads, targets_read, pieces_read, task_reads}
use Rattle.vl_design.proofs.Unread.{or_false}
use Rattle.vl_loops.specs.Unroll.{is_loop, signal_put, put, puts, put_target, put_targets, put_pieces, put_task}
use Rattle.vl_loops.specs.Fits.{IsHeader, stray, AreBound}

not_stray : (a b : Bool) → a ≡ true → (a && not b) ≡ false → b ≡ true
not_stray true true h k = refl
not_stray true false h k = let z : ⊥ = cc in absurd z
not_stray false b h k = let z : ⊥ = cc in absurd z

-- ---- numbers put in

module _ (rows : List Row) (bound : ℕ → Bool) (xs ys : List (List ℕ)) (same : AreBound rows bound xs ys) where
  signal_closed : (b : Bool) (j : ℕ) → is_loop rows j ≡ b → stray rows bound j ≡ false → signal_put rows xs b j ≡ signal_put rows ys b j
  signal_closed true j m h = rw (same j m (not_stray (is_loop rows j) (bound j) m h)) refl
  signal_closed false j m h = refl

  mutual
    pub put_closed : (e : Exp) → reads (stray rows bound) e ≡ false → put rows xs e ≡ put rows ys e
    put_closed (Num v w s) h = refl
    put_closed (Label v care w s) h = refl
    put_closed (Sig j) h = signal_closed (is_loop rows j) j refl h
    put_closed (Word m a) h = ap (Word m) (put_closed a (or_false (stray rows bound m) _ h).1)
    put_closed (Pick b i from w) h = let g = or_false (reads (stray rows bound) b) _ h in rw (put_closed b g.0, put_closed i g.1) refl
    put_closed (Slice b low w) h = rw (put_closed b h) refl
    put_closed (Un op a) h = rw (put_closed a h) refl
    put_closed (Bin op a b) h = let g = or_false (reads (stray rows bound) a) _ h in rw (put_closed a g.0, put_closed b g.1) refl
    put_closed (Cond u a b) h =
        let g = or_false (reads (stray rows bound) u) _ h in
        let f = or_false (reads (stray rows bound) a) _ g.1 in
        rw (put_closed u g.0, put_closed a f.0, put_closed b f.1) refl
    put_closed (Cat es) h = rw (puts_closed es h) refl
    put_closed (Rep n es) h = rw (puts_closed es h) refl
    put_closed (Cast s a) h = rw (put_closed a h) refl
    put_closed (Call f es) h = rw (puts_closed es h) refl
    put_closed Time h = refl
    put_closed LastAnswer h = refl

    pub puts_closed : (es : Exps) → some_reads (stray rows bound) es ≡ false → puts rows xs es ≡ puts rows ys es
    puts_closed NoExps h = refl
    puts_closed (MoreExps e es) h = let g = or_false (reads (stray rows bound) e) _ h in rw (put_closed e g.0, puts_closed es g.1) refl

  mutual
    pub target_closed : (t : Target) → target_reads (stray rows bound) t ≡ false → put_target rows xs t ≡ put_target rows ys t
    target_closed (Whole j) h = refl
    target_closed (WordAt m a) h = rw (put_closed a h) refl
    target_closed (PickAt b i from w) h = let g = or_false (target_reads (stray rows bound) b) _ h in rw (target_closed b g.0, put_closed i g.1) refl
    target_closed (SliceAt b low w) h = rw (target_closed b h) refl
    target_closed (Several ts) h = rw (targets_closed ts h) refl

    targets_closed : (ts : Targets) → targets_read (stray rows bound) ts ≡ false → put_targets rows xs ts ≡ put_targets rows ys ts
    targets_closed NoTargets h = refl
    targets_closed (MoreTargets t ts) h = let g = or_false (target_reads (stray rows bound) t) _ h in rw (target_closed t g.0, targets_closed ts g.1) refl

  pieces_closed : (ps : List Piece) → pieces_read (stray rows bound) ps ≡ false → put_pieces rows xs ps ≡ put_pieces rows ys ps
  pieces_closed [] h = refl
  pieces_closed (Literal text ∷ ps) h = ap (λ z. Literal text ∷ z) (pieces_closed ps h)
  pieces_closed (Shown format e ∷ ps) h = let g = or_false (reads (stray rows bound) e) _ h in rw (put_closed e g.0, pieces_closed ps g.1) refl

  pub task_closed : (task : Task) → task_reads (stray rows bound) task ≡ false → put_task rows xs task ≡ put_task rows ys task
  task_closed (Print pieces newline) h = rw (pieces_closed pieces h) refl
  task_closed (Finish es) h = rw (puts_closed es h) refl
  task_closed (Save name) h = refl
  task_closed (Fopen name) h = refl
  task_closed (Fread j fd) h = rw (put_closed fd (or_false (stray rows bound j) _ h).1) refl
  task_closed (Fgetc fd) h = rw (put_closed fd h) refl
  task_closed (Feof fd) h = rw (put_closed fd h) refl
  task_closed (Fclose fd) h = rw (put_closed fd h) refl
  task_closed (ReadHex name m) h = refl

-- ---- headers

-- the scope with other functions and files, also seen from other functions
module _ (scope : Scope) (signals : List Row) (funs : List Fun) (files : List File) (call : ℕ → List ℕ → ℕ) where
  abbrev pub next : Scope
  next = record scope { names = record (scope.names) { signals = signals; funs = funs }; files = files; call = call }

  pub header_form : (e : Exp) → IsHeader scope.names.rows e → form next.names e ≡ form scope.names e
  header_form (Num v w s) k = refl
  header_form (Label v care w s) k = refl
  header_form (Sig j) k = refl
  header_form (Word m a) k = absurd k
  header_form (Pick b i from w) k = refl
  header_form (Slice b low w) k = refl
  header_form (Un op a) k = rw (header_form a k) refl
  header_form (Bin op a b) k = rw (header_form a k.0, header_form b k.1) refl
  header_form (Cond u a b) k = rw (header_form a k.1, header_form b k.2) refl
  header_form (Cat es) k = absurd k
  header_form (Rep n es) k = absurd k
  header_form (Cast s a) k = rw (header_form a k) refl
  header_form (Call f es) k = absurd k
  header_form Time k = absurd k
  header_form LastAnswer k = absurd k

  module _ (bound : ℕ → Bool) (s t : Sample) (same : AreBound scope.names.rows bound s.values t.values) where
    pub header_closed : (e : Exp) → IsHeader scope.names.rows e → reads (stray scope.names.rows bound) e ≡ false → (c : Form) → value next t e c ≡ value scope s e c
    header_closed (Num v w s) k h c = refl
    header_closed (Label v care w s) k h c = refl
    header_closed (Sig j) k h c = rw (same j k (not_stray (is_loop scope.names.rows j) (bound j) k h)) refl
    header_closed (Word m a) k h c = absurd k
    header_closed (Pick b i from w) k h c = let g = or_false (reads (stray scope.names.rows bound) b) _ h in
        rw (header_form b k.0, header_form i k.1, header_closed b k.0 g.0 (form scope.names b), header_closed i k.1 g.1 (form scope.names i)) refl
    header_closed (Slice b low w) k h c = rw (header_form b k, header_closed b k h (form scope.names b)) refl
    header_closed (Un op a) k h c = rw (header_form a k, header_closed a k h _) refl
    header_closed (Bin op a b) k h c = let g = or_false (reads (stray scope.names.rows bound) a) _ h in
        rw (header_form a k.0, header_form b k.1, header_closed a k.0 g.0 _, header_closed b k.1 g.1 _) refl
    header_closed (Cond u a b) k h c =
        let g = or_false (reads (stray scope.names.rows bound) u) _ h in
        let f = or_false (reads (stray scope.names.rows bound) a) _ g.1 in
        rw (header_form u k.0, header_closed u k.0 g.0 (form scope.names u), header_closed a k.1 f.0 c, header_closed b k.2 f.1 c) refl
    header_closed (Cat es) k h c = absurd k
    header_closed (Rep n es) k h c = absurd k
    header_closed (Cast signed a) k h c = rw (header_form a k, header_closed a k h (form scope.names a)) refl
    header_closed (Call f es) k h c = absurd k
    header_closed Time k h c = absurd k
    header_closed LastAnswer k h c = absurd k
