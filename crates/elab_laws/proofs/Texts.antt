-- System calls of arguments that ask neither for the time nor for an answer.
use Rattle.std.proofs.Common.{◌≡◌, ℕ, zero, suc, Bool, true, false, true≢false, if◌then◌else◌, List, [], ◌∷◌, ◌++◌, Option, Some, None, refl}
use Rattle.std.specs.Prelude.{⊤, ◌==◌, ◌||◌, codes}
use Rattle.std.specs.Str.{bytes_eq}
use Rattle.vl_sound.specs.vl_base.specs.Display.{Format, format_of, lower_case}
use Rattle.ten_plan.specs.vl_design.specs.Syntax as d
use Rattle.ten_plan.specs.vl_design.specs.Formats as f
use Rattle.ten_plan.specs.vl_design.specs.Calls.{finish_of, save_of, fopen_of, fread_of, file_of, read_hex_of, task_of}
use Rattle.ten_plan.specs.vl_design.specs.Nodes.{has, some_have, pieces_have, arguments_have}
use Rattle.ten_plan.specs.vl_design.specs.Reads.{is_timed}
use Rattle.ten_plan.specs.vl_design.proofs.Resting.{or_none}
use Rattle.vl_accept.specs.vl_sites.specs.Answers.{is_answer}

chosen : {A : Type 0} (P : A → Type 0) (b : Bool) (x y : A) → P x → P y → P (if b then x else y)
chosen P true x y h k = h
chosen P false x y h k = k

-- a test that no node of an expression passes
module _ (test : d.Exp → Bool) where
  abbrev pub Lacks : d.Exp → Type 0
  Lacks e = has test e ≡ false

  -- nor does one of a value among the arguments
  abbrev pub AllLack : List f.Arg → Type 0
  AllLack [] = ⊤
  AllLack (f.Null ∷ xs) = AllLack xs
  AllLack (f.Str text ∷ xs) = AllLack xs
  AllLack (f.Value e ∷ xs) = Lacks e × AllLack xs

-- strings are numbers, which do not pass it
module _ (test : d.Exp → Bool) (number : (v w : ℕ) → test (d.Num v w false) ≡ false) where
  abbrev Pieces : List d.Piece → Type 0
  Pieces ps = pieces_have test ps ≡ false

  abbrev Task : d.Task → Type 0
  Task task = arguments_have test task ≡ false

  -- ---- formats

  operand-lacks : (xs : List f.Arg) → AllLack test xs → Lacks test (f.operand xs)
  operand-lacks [] h = number 0 1
  operand-lacks (f.Null ∷ xs) h = number 0 1
  operand-lacks (f.Str text ∷ xs) h = number (f.text_number text) (f.text_width text)
  operand-lacks (f.Value e ∷ xs) h = h.0

  behind-lacks : (xs : List f.Arg) → AllLack test xs → AllLack test (f.behind xs)
  behind-lacks [] h = tt
  behind-lacks (f.Null ∷ xs) h = h
  behind-lacks (f.Str text ∷ xs) h = h
  behind-lacks (f.Value e ∷ xs) h = h.1

  behind-item-lacks : (o : Option Format) (xs : List f.Arg) → AllLack test xs → AllLack test (f.behind_item o xs)
  behind-item-lacks None xs h = h
  behind-item-lacks (Some format) xs h = behind-lacks xs h

  text-lacks : (text : List ℕ) (ps : List d.Piece) → Pieces ps → Pieces (f.with_text text ps)
  text-lacks text [] h = refl
  text-lacks text (d.Literal t ∷ ps) h = h
  text-lacks text (d.Shown format e ∷ ps) h = h

  item-lacks : (o : Option Format) (e : d.Exp) (ps : List d.Piece) → Lacks test e → Pieces ps → Pieces (f.with_item o e ps)
  item-lacks None e ps h k = k
  item-lacks (Some format) e ps h k = or_none (has test e) (pieces_have test ps) h k

  format-lacks : (path : List ℕ) (r : f.FormatPosition) (text : List ℕ) (xs : List f.Arg) → AllLack test xs → Pieces (f.format_pieces path r text xs)
  format-lacks path r [] xs h = refl
  format-lacks path f.InText (c ∷ cs) xs h =
      chosen Pieces (c == 37) (f.format_pieces path f.Percent cs xs) _ (format-lacks path f.Percent cs xs h) (text-lacks (c ∷ []) (f.format_pieces path f.InText cs xs) (format-lacks path f.InText cs xs h))
  format-lacks path f.Percent (c ∷ cs) xs h =
      let rest = format-lacks path f.InText cs xs h in
      let behind = f.behind_item (format_of c false) xs in
      chosen Pieces (c == 48) (f.format_pieces path f.PercentZero cs xs) _ (format-lacks path f.PercentZero cs xs h)
      (chosen Pieces (c == 37) (f.with_text (37 ∷ []) (f.format_pieces path f.InText cs xs)) _ (text-lacks (37 ∷ []) (f.format_pieces path f.InText cs xs) rest)
      (chosen Pieces (lower_case c == 109) (f.with_text path (f.format_pieces path f.InText cs xs)) _ (text-lacks path (f.format_pieces path f.InText cs xs) rest)
      (item-lacks (format_of c false) (f.operand xs) (f.format_pieces path f.InText cs behind) (operand-lacks xs h) (format-lacks path f.InText cs behind (behind-item-lacks (format_of c false) xs h)))))
  format-lacks path f.PercentZero (c ∷ cs) xs h =
      let behind = f.behind_item (format_of c true) xs in
      item-lacks (format_of c true) (f.operand xs) (f.format_pieces path f.InText cs behind) (operand-lacks xs h) (format-lacks path f.InText cs behind (behind-item-lacks (format_of c true) xs h))

  both-lacks : (ps qs : List d.Piece) → Pieces ps → Pieces qs → Pieces (ps ++ qs)
  both-lacks [] qs h k = k
  both-lacks (d.Literal t ∷ ps) qs h k = both-lacks ps qs h k
  both-lacks (d.Shown format e ∷ ps) qs h k = by (has test e) h (λ z. both-lacks ps qs z k)
    where
      by : (b : Bool) → (b || pieces_have test ps) ≡ false → (pieces_have test ps ≡ false → pieces_have test (ps ++ qs) ≡ false) → (b || pieces_have test (ps ++ qs)) ≡ false
      by true h rest = absurd (true≢false h)
      by false h rest = rest h

  pieces-lacks : (path : List ℕ) (n : ℕ) (xs : List f.Arg) → AllLack test xs → Pieces (f.pieces_from path n xs)
  pieces-lacks path n [] h = refl
  pieces-lacks path (suc n) (f.Null ∷ xs) h = pieces-lacks path n xs h
  pieces-lacks path (suc n) (f.Str text ∷ xs) h = pieces-lacks path n xs h
  pieces-lacks path (suc n) (f.Value e ∷ xs) h = pieces-lacks path n xs h.1
  pieces-lacks path zero (f.Null ∷ xs) h = pieces-lacks path zero xs h
  pieces-lacks path zero (f.Str text ∷ xs) h =
      let ps = f.format_pieces path f.InText text xs in
      both-lacks ps (f.pieces_from path (f.taken ps) xs) (format-lacks path f.InText text xs h) (pieces-lacks path (f.taken ps) xs h)
  pieces-lacks path zero (f.Value e ∷ xs) h = or_none (has test e) (pieces_have test (f.pieces_from path zero xs)) h.0 (pieces-lacks path zero xs h.1)

  -- ---- calls

  finish-lacks : (xs : List f.Arg) → AllLack test xs → some_have test (finish_of xs) ≡ false
  finish-lacks [] h = refl
  finish-lacks (f.Value e ∷ xs) h = or_none (has test e) (some_have test (finish_of xs)) h.0 (finish-lacks xs h.1)
  finish-lacks (f.Null ∷ xs) h = finish-lacks xs h
  finish-lacks (f.Str text ∷ xs) h = finish-lacks xs h

  save-lacks : (xs : List f.Arg) → Task (save_of xs)
  save-lacks (f.Str name ∷ xs) = refl
  save-lacks xs = refl

  fopen-lacks : (xs : List f.Arg) → Task (fopen_of xs)
  fopen-lacks (f.Str name ∷ xs) = refl
  fopen-lacks xs = refl

  fread-lacks : (xs : List f.Arg) → AllLack test xs → Task (fread_of xs)
  fread-lacks (f.Value (d.Sig j) ∷ f.Value fd ∷ xs) h = h.1.0
  fread-lacks xs h = refl

  hex-lacks : (xs : List f.Arg) → Task (read_hex_of xs)
  hex-lacks (f.Str name ∷ f.Value (d.Sig j) ∷ xs) = refl
  hex-lacks xs = refl

  file-lacks : (make : d.Exp → d.Task) → ((e : d.Exp) → Lacks test e → Task (make e)) → (xs : List f.Arg) → AllLack test xs → Task (file_of make xs)
  file-lacks make m (f.Value fd ∷ xs) h = m fd h.0
  file-lacks make m xs h = refl

  task-lacks : (path name : List ℕ) (xs : List f.Arg) → AllLack test xs → Task (task_of path name xs)
  task-lacks path name xs h =
      chosen Task (bytes_eq name (codes "$display")) (d.Print (f.pieces_from path 0 xs) true) _ (pieces-lacks path 0 xs h)
      (chosen Task (bytes_eq name (codes "$write")) (d.Print (f.pieces_from path 0 xs) false) _ (pieces-lacks path 0 xs h)
      (chosen Task (bytes_eq name (codes "$finish")) (d.Finish (finish_of xs)) _ (finish-lacks xs h)
      (chosen Task (bytes_eq name (codes "$save")) (save_of xs) _ (save-lacks xs)
      (chosen Task (bytes_eq name (codes "$fopen")) (fopen_of xs) _ (fopen-lacks xs)
      (chosen Task (bytes_eq name (codes "$fread")) (fread_of xs) _ (fread-lacks xs h)
      (chosen Task (bytes_eq name (codes "$fgetc")) (file_of d.Fgetc xs) _ (file-lacks d.Fgetc (λ e k. k) xs h)
      (chosen Task (bytes_eq name (codes "$feof")) (file_of d.Feof xs) _ (file-lacks d.Feof (λ e k. k) xs h)
      (chosen Task (bytes_eq name (codes "$fclose")) (file_of d.Fclose xs) _ (file-lacks d.Fclose (λ e k. k) xs h)
      (chosen Task (bytes_eq name (codes "$readmemh")) (read_hex_of xs) (d.Print [] false) (hex-lacks xs) refl)))))))))

-- ---- the time, and answers

-- the expression asks for no time
abbrev pub IsTimeless : d.Exp → Type 0
IsTimeless e = Lacks is_timed e

abbrev pub AreTimeless : List f.Arg → Type 0
AreTimeless xs = AllLack is_timed xs

pub task-timeless : (path name : List ℕ) (xs : List f.Arg) → AreTimeless xs → arguments_have is_timed (task_of path name xs) ≡ false
task-timeless path name xs h = task-lacks is_timed (λ v w. refl) path name xs h

-- the expression reads no answer
abbrev pub HasNoAnswer : d.Exp → Type 0
HasNoAnswer e = Lacks is_answer e

abbrev pub HaveNoAnswer : List f.Arg → Type 0
HaveNoAnswer xs = AllLack is_answer xs

pub task-none : (path name : List ℕ) (xs : List f.Arg) → HaveNoAnswer xs → arguments_have is_answer (task_of path name xs) ≡ false
task-none path name xs h = task-lacks is_answer (λ v w. refl) path name xs h
