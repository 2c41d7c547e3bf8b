-- System calls: numbers put into the arguments, and then the call, is the call with numbers put in.
use Rattle.std.proofs.Common.{◌≡◌, ℕ, zero, suc, Bool, true, false, List, [], ◌∷◌, ◌++◌, map, Option, Some, None, refl, sym, ap, ◌∙◌}
use Rattle.std.specs.Prelude.{if◌then◌else◌, ◌==◌, codes}
use Rattle.std.specs.Str.{bytes_eq}
use Rattle.vl_base.specs.Display.{Format, format_of, lower_case}
use Rattle.vl_design.specs.Syntax.{Exp, Sig, Piece, Literal, Shown, Task, Print, Finish, Fgetc, Feof, Fclose, Row}
use Rattle.vl_design.specs.Formats.{Arg, Null, Str, Value, operand, behind, with_text, FormatPosition, InText, Percent, PercentZero, behind_item, with_item, format_pieces, taken, pieces_from}
use Rattle.vl_design.specs.Calls.{finish_of, save_of, fopen_of, fread_of, file_of, read_hex_of, task_of}
use Rattle.vl_design.specs.Reads.{task_writes}
use Rattle.vl_design.specs.Placed as p
use Rattle.vl_design.specs.Plainly as plain
use Rattle.vl_loops.specs.Unroll.{is_loop, signal_put, put, puts, put_target, put_targets, put_piece, put_pieces, put_task}
use Rattle.vl_loops.specs.Placed.{number_at, exp_put, exps_put, args_put, target_put, targets_put}

chosen : {A : Type 0} (b : Bool) {x y u v : A} → x ≡ u → y ≡ v → (if b then x else y) ≡ (if b then u else v)
chosen true e f = e
chosen false e f = f

module _ (rows : List Row) (at : List (List ℕ)) where
  -- ---- plain trees

  number_plain : (b : Bool) (q : _) (j : ℕ) → plain.exp (number_at rows at b q j) ≡ signal_put rows at b j
  number_plain true q j = refl
  number_plain false q j = refl

  mutual
    pub exp_plain : (x : p.Exp) → plain.exp (exp_put rows at x) ≡ put rows at (plain.exp x)
    exp_plain (p.Num q v w s) = refl
    exp_plain (p.Label q v care w s) = refl
    exp_plain (p.Sig q j) = number_plain (is_loop rows j) q j
    exp_plain (p.Word q m a) = rw (exp_plain a) refl
    exp_plain (p.Pick q b i from w) = rw (exp_plain b, exp_plain i) refl
    exp_plain (p.Slice q b low w) = rw (exp_plain b) refl
    exp_plain (p.Un q op a) = rw (exp_plain a) refl
    exp_plain (p.Bin q op a b) = rw (exp_plain a, exp_plain b) refl
    exp_plain (p.Cond q t a b) = rw (exp_plain t, exp_plain a, exp_plain b) refl
    exp_plain (p.Cat q es) = rw (exps_plain es) refl
    exp_plain (p.Rep q n es) = rw (exps_plain es) refl
    exp_plain (p.Cast q s a) = rw (exp_plain a) refl
    exp_plain (p.Call q f es) = rw (exps_plain es) refl
    exp_plain (p.Time q) = refl
    exp_plain (p.Sys q name given) = refl

    pub exps_plain : (xs : p.Exps) → plain.exps (exps_put rows at xs) ≡ puts rows at (plain.exps xs)
    exps_plain p.NoExps = refl
    exps_plain (p.MoreExps e es) = rw (exp_plain e, exps_plain es) refl

  put_arg : Arg → Arg
  put_arg Null = Null
  put_arg (Str text) = Str text
  put_arg (Value e) = Value (put rows at e)

  args_plain : (xs : p.Args) → plain.args (args_put rows at xs) ≡ map put_arg (plain.args xs)
  unfolding put_arg
  args_plain p.NoArgs = refl
  args_plain (p.NullArg others) = ap (λ z. Null ∷ z) (args_plain others)
  args_plain (p.TextArg text others) = ap (λ z. Str text ∷ z) (args_plain others)
  args_plain (p.ValueArg e others) = rw (exp_plain e, args_plain others) refl

  -- ---- formats

  operand_put : (xs : List Arg) → operand (map put_arg xs) ≡ put rows at (operand xs)
  unfolding put_arg
  operand_put [] = refl
  operand_put (Null ∷ xs) = refl
  operand_put (Str text ∷ xs) = refl
  operand_put (Value e ∷ xs) = refl

  behind_put : (xs : List Arg) → behind (map put_arg xs) ≡ map put_arg (behind xs)
  behind_put [] = refl
  behind_put (x ∷ xs) = refl

  behind_item_put : (o : Option Format) (xs : List Arg) → behind_item o (map put_arg xs) ≡ map put_arg (behind_item o xs)
  behind_item_put None xs = refl
  behind_item_put (Some f) xs = behind_put xs

  text_put : (text : List ℕ) (ps : List Piece) → with_text text (put_pieces rows at ps) ≡ put_pieces rows at (with_text text ps)
  text_put text [] = refl
  text_put text (Literal t ∷ ps) = refl
  text_put text (Shown f e ∷ ps) = refl

  item_put : (o : Option Format) (e : Exp) (ps : List Piece) → with_item o (put rows at e) (put_pieces rows at ps) ≡ put_pieces rows at (with_item o e ps)
  item_put None e ps = refl
  item_put (Some f) e ps = refl

  if_put : (b : Bool) (x y : List Piece) → put_pieces rows at (if b then x else y) ≡ (if b then put_pieces rows at x else put_pieces rows at y)
  if_put true x y = refl
  if_put false x y = refl

  format_put : (path : List ℕ) (r : FormatPosition) (cs : List ℕ) (xs : List Arg) → format_pieces path r cs (map put_arg xs) ≡ put_pieces rows at (format_pieces path r cs xs)
  format_put path r [] xs = refl
  format_put path InText (c ∷ cs) xs =
      chosen (c == 37) (format_put path Percent cs xs) (ap (with_text (c ∷ [])) (format_put path InText cs xs) ∙ text_put (c ∷ []) (format_pieces path InText cs xs))
      ∙ sym (if_put (c == 37) _ _)
  format_put path Percent (c ∷ cs) xs =
      let here : (text : List ℕ) → with_text text (format_pieces path InText cs (map put_arg xs)) ≡ put_pieces rows at (with_text text (format_pieces path InText cs xs))
      = λ text. ap (with_text text) (format_put path InText cs xs) ∙ text_put text (format_pieces path InText cs xs) in
      let there : with_item (format_of c false) (operand (map put_arg xs)) (format_pieces path InText cs (behind_item (format_of c false) (map put_arg xs))) ≡ put_pieces rows at (with_item (format_of c false) (operand xs) (format_pieces path InText cs (behind_item (format_of c false) xs)))
      = rw (operand_put xs, behind_item_put (format_of c false) xs, format_put path InText cs (behind_item (format_of c false) xs)) (item_put (format_of c false) (operand xs) _) in
      chosen (c == 48) (format_put path PercentZero cs xs)
      (chosen (c == 37) (here (37 ∷ [])) (chosen (lower_case c == 109) (here path) there ∙ sym (if_put (lower_case c == 109) _ _)) ∙ sym (if_put (c == 37) _ _))
      ∙ sym (if_put (c == 48) _ _)
  format_put path PercentZero (c ∷ cs) xs = rw (operand_put xs, behind_item_put (format_of c true) xs, format_put path InText cs (behind_item (format_of c true) xs)) (item_put (format_of c true) (operand xs) _)

  taken_put : (ps : List Piece) → taken (put_pieces rows at ps) ≡ taken ps
  taken_put [] = refl
  taken_put (Literal t ∷ ps) = taken_put ps
  taken_put (Shown f e ∷ ps) = rw (taken_put ps) refl

  both_put : (ps qs : List Piece) → put_pieces rows at (ps ++ qs) ≡ put_pieces rows at ps ++ put_pieces rows at qs
  both_put [] qs = refl
  both_put (x ∷ ps) qs = ap (λ z. put_piece rows at x ∷ z) (both_put ps qs)

  pieces_put : (path : List ℕ) (n : ℕ) (xs : List Arg) → pieces_from path n (map put_arg xs) ≡ put_pieces rows at (pieces_from path n xs)
  unfolding put_arg
  pieces_put path n [] = refl
  pieces_put path (suc n) (x ∷ xs) = pieces_put path n xs
  pieces_put path zero (Null ∷ xs) = ap (λ z. Literal (codes " ") ∷ z) (pieces_put path zero xs)
  pieces_put path zero (Str text ∷ xs) =
      let f = format_put path InText text xs in
      let ps = format_pieces path InText text xs in
      rw (f, taken_put ps, pieces_put path (taken ps) xs) (sym (both_put ps (pieces_from path (taken ps) xs)))
  pieces_put path zero (Value e ∷ xs) = rw (pieces_put path zero xs) refl

  -- ---- calls

  abbrev Writes : Task → Type 0
  Writes task = task_writes (is_loop rows) task ≡ false

  finish_put : (xs : List Arg) → finish_of (map put_arg xs) ≡ puts rows at (finish_of xs)
  unfolding put_arg
  finish_put [] = refl
  finish_put (Null ∷ xs) = finish_put xs
  finish_put (Str text ∷ xs) = finish_put xs
  finish_put (Value e ∷ xs) = rw (finish_put xs) refl

  save_put : (xs : List Arg) → save_of (map put_arg xs) ≡ put_task rows at (save_of xs)
  unfolding put_arg
  save_put [] = refl
  save_put (Null ∷ xs) = refl
  save_put (Str text ∷ xs) = refl
  save_put (Value e ∷ xs) = refl

  fopen_put : (xs : List Arg) → fopen_of (map put_arg xs) ≡ put_task rows at (fopen_of xs)
  unfolding put_arg
  fopen_put [] = refl
  fopen_put (Null ∷ xs) = refl
  fopen_put (Str text ∷ xs) = refl
  fopen_put (Value e ∷ xs) = refl

  file_put : (make : Exp → Task) → ((e : Exp) → make (put rows at e) ≡ put_task rows at (make e)) → (xs : List Arg) → file_of make (map put_arg xs) ≡ put_task rows at (file_of make xs)
  unfolding put_arg
  file_put make h [] = refl
  file_put make h (Null ∷ xs) = refl
  file_put make h (Str text ∷ xs) = refl
  file_put make h (Value e ∷ xs) = h e

  fread_put : (xs : List Arg) → Writes (fread_of xs) → fread_of (map put_arg xs) ≡ put_task rows at (fread_of xs)
  unfolding put_arg
  fread_put [] h = refl
  fread_put (Null ∷ xs) h = refl
  fread_put (Str text ∷ xs) h = refl
  fread_put (Value (Sig k) ∷ Value fd ∷ xs) h = rw h refl
  fread_put (Value (Sig k) ∷ []) h = by (is_loop rows k)
    where
      by : (b : Bool) → fread_of (Value (signal_put rows at b k) ∷ []) ≡ Print [] false
      by true = refl
      by false = refl
  fread_put (Value (Sig k) ∷ Null ∷ xs) h = by (is_loop rows k)
    where
      by : (b : Bool) → fread_of (Value (signal_put rows at b k) ∷ Null ∷ map put_arg xs) ≡ Print [] false
      by true = refl
      by false = refl
  fread_put (Value (Sig k) ∷ Str text ∷ xs) h = by (is_loop rows k)
    where
      by : (b : Bool) → fread_of (Value (signal_put rows at b k) ∷ Str text ∷ map put_arg xs) ≡ Print [] false
      by true = refl
      by false = refl
  fread_put (Value e ∷ xs) h = refl

  read_hex_put : (xs : List Arg) → Writes (read_hex_of xs) → read_hex_of (map put_arg xs) ≡ put_task rows at (read_hex_of xs)
  unfolding put_arg
  read_hex_put [] h = refl
  read_hex_put (Null ∷ xs) h = refl
  read_hex_put (Value e ∷ xs) h = refl
  read_hex_put (Str name ∷ []) h = refl
  read_hex_put (Str name ∷ Null ∷ xs) h = refl
  read_hex_put (Str name ∷ Str text ∷ xs) h = refl
  read_hex_put (Str name ∷ Value (Sig k) ∷ xs) h = rw h refl
  read_hex_put (Str name ∷ Value e ∷ xs) h = refl

  of_chosen : (b : Bool) (x y u v : Task) → (Writes u → x ≡ put_task rows at u) → (Writes v → y ≡ put_task rows at v) → Writes (if b then u else v) →
      (if b then x else y) ≡ put_task rows at (if b then u else v)
  of_chosen true x y u v f g h = f h
  of_chosen false x y u v f g h = g h

  calls_put : (path name : List ℕ) (xs : List Arg) → Writes (task_of path name xs) → task_of path name (map put_arg xs) ≡ put_task rows at (task_of path name xs)
  calls_put path name xs =
      of_chosen (bytes_eq name (codes "$display")) _ _ _ _ (λ h. ap (λ z. Print z true) (pieces_put path 0 xs))
      (of_chosen (bytes_eq name (codes "$write")) _ _ _ _ (λ h. ap (λ z. Print z false) (pieces_put path 0 xs))
      (of_chosen (bytes_eq name (codes "$finish")) _ _ _ _ (λ h. ap Finish (finish_put xs))
      (of_chosen (bytes_eq name (codes "$save")) _ _ _ _ (λ h. save_put xs)
      (of_chosen (bytes_eq name (codes "$fopen")) _ _ _ _ (λ h. fopen_put xs)
      (of_chosen (bytes_eq name (codes "$fread")) _ _ _ _ (λ h. fread_put xs h)
      (of_chosen (bytes_eq name (codes "$fgetc")) _ _ _ _ (λ h. file_put Fgetc (λ e. refl) xs)
      (of_chosen (bytes_eq name (codes "$feof")) _ _ _ _ (λ h. file_put Feof (λ e. refl) xs)
      (of_chosen (bytes_eq name (codes "$fclose")) _ _ _ _ (λ h. file_put Fclose (λ e. refl) xs)
      (of_chosen (bytes_eq name (codes "$readmemh")) _ _ _ _ (λ h. read_hex_put xs h) (λ h. refl))))))))))

  -- the call with numbers put into its arguments
  pub task_plain : (path name : List ℕ) (given : p.Args) → Writes (task_of path name (plain.args given)) →
      task_of path name (plain.args (args_put rows at given)) ≡ put_task rows at (task_of path name (plain.args given))
  task_plain path name given h = ap (task_of path name) (args_plain given) ∙ calls_put path name (plain.args given) h

  -- ---- targets

  mutual
    pub target_plain : (t : p.Target) → plain.target (target_put rows at t) ≡ put_target rows at (plain.target t)
    target_plain (p.Whole q j) = refl
    target_plain (p.WordAt q m a) = rw (exp_plain a) refl
    target_plain (p.PickAt q b i from w) = rw (target_plain b, exp_plain i) refl
    target_plain (p.SliceAt q b low w) = rw (target_plain b) refl
    target_plain (p.Several q ts) = rw (targets_plain ts) refl

    targets_plain : (ts : p.Targets) → plain.targets (targets_put rows at ts) ≡ put_targets rows at (plain.targets ts)
    targets_plain p.NoTargets = refl
    targets_plain (p.MoreTargets t ts) = rw (target_plain t, targets_plain ts) refl
