-- A system call whose arguments are used as what they are is sound where they have no fault.
use Rattle.std.proofs.Common.{◌≡◌, ℕ, zero, suc, ◌+◌, Bool, true, false, if◌then◌else◌, true≢false, List, [], ◌∷◌, ◌++◌, Option, Some, None, refl, sym, ap, ◌∙◌, subst, arith}
use Rattle.std.specs.Prelude.{⊤, codes, ◌||◌, ◌==◌, All}
use Rattle.std.specs.Str.{bytes_eq}
use Rattle.std.proofs.lemmas.List.Elements.{All-nil, All-cons, All-append, All-tail}
use Rattle.std.proofs.lemmas.Slice.Eq.{bytes_eq-Decides}
use Rattle.vl_flat.specs.vl_base.specs.Display.{Format, Decimal, format_of, lower_case}
use Rattle.vl_flat.specs.vl_base.specs.declared.place.Place.{Place}
use Rattle.vl_names.specs.vl_uses.specs.Nodes.{is_load}
use Rattle.vl_names.specs.vl_scope.specs.declared.kind.Class.TheVariants as c
use Rattle.vl_flat.specs.vl_design.specs.Syntax as d
use Rattle.vl_flat.specs.vl_design.specs.Formats as f
use Rattle.vl_flat.specs.vl_design.specs.Calls.{finish_of, save_of, fopen_of, fread_of, file_of, read_hex_of, task_of}
use Rattle.vl_flat.specs.vl_design.specs.Width as w
use Rattle.vl_flat.specs.vl_design.specs.Sound.{IsMem, IsSoundExp, AreSound, IsSoundPiece, IsSoundTask}
use Rattle.vl_flat.specs.vl_design.specs.Placed as p
use Rattle.vl_flat.specs.vl_design.specs.Plainly as plain
use Rattle.vl_flat.specs.declared.binding.Binding.{Binding}
use Rattle.vl_flat.specs.declared.binding.Binding.TheVariants as b
use Rattle.vl_flat.specs.Surface as x
use Rattle.vl_flat.specs.Scopes.{Scope}
use Rattle.vl_flat.specs.Expressions as e
use Rattle.vl_flat.specs.ExpressionFaults as ef
use Rattle.vl_sound.specs.Used as u
use Rattle.vl_sound.specs.Agreeing.{StandsAs, Agrees, StandsFor}
use Rattle.vl_sound.specs.Widths.{HaveWidths}
use Rattle.vl_sound.proofs.Parts.{none-left, none-right, clear, zero-is, text-is}
use Rattle.vl_sound.proofs.Expressions.{signal-is, sound}
use Rattle.vl_flat.specs.vl_design.proofs.Pieces.{taken-text}

-- ---- names of calls

-- what a call is made of, by tests of its name
picked : {A : Type 0} (P : A → Type 0) (c : Bool) (x y : A) → P x → P y → P (if c then x else y)
picked P true x y h k = h
picked P false x y h k = k

-- the calls that display
abbrev pub is_display : List ℕ → Bool
is_display name = bytes_eq name (codes "$display") || bytes_eq name (codes "$write")

-- their texts are formats
displays-keep : (name : List ℕ) → is_display name ≡ true → e.keeps_texts name ≡ true
displays-keep name h = by (bytes_eq name (codes "$display")) (bytes_eq name (codes "$write")) _ h
  where
    by : (a b c : Bool) → (a || b) ≡ true → (if a then true else if b then true else c) ≡ true
    by true b c h = refl
    by false true c h = refl
    by false false c h = let z : ⊥ = cc in absurd z

-- ---- how many arguments a format takes, whatever they are and whatever the path is

same-text : (text other : List ℕ) (ps qs : List d.Piece) → f.taken ps ≡ f.taken qs → f.taken (f.with_text text ps) ≡ f.taken (f.with_text other qs)
same-text text other ps qs h = taken-text text ps ∙ (h ∙ sym (taken-text other qs))

same-item : (format : Option Format) (a c : d.Exp) (ps qs : List d.Piece) → f.taken ps ≡ f.taken qs → f.taken (f.with_item format a ps) ≡ f.taken (f.with_item format c qs)
same-item None a c ps qs h = h
same-item (Some format) a c ps qs h = ap (λ z. 1 + z) h

same-of : (c : Bool) (ps qs ps' qs' : List d.Piece) → f.taken ps ≡ f.taken ps' → f.taken qs ≡ f.taken qs' → f.taken (if c then ps else qs) ≡ f.taken (if c then ps' else qs')
same-of true ps qs ps' qs' h k = h
same-of false ps qs ps' qs' h k = k

taken-same : (path other : List ℕ) (r : f.FormatPosition) (text : List ℕ) (xs ys : List f.Arg) → f.taken (f.format_pieces path r text xs) ≡ f.taken (f.format_pieces other r text ys)
taken-same path other r [] xs ys = refl
taken-same path other f.InText (c ∷ cs) xs ys =
    let ps = f.format_pieces path f.InText cs xs in
    let qs = f.format_pieces other f.InText cs ys in
    same-of (c == 37) (f.format_pieces path f.Percent cs xs) (f.with_text (c ∷ []) ps) (f.format_pieces other f.Percent cs ys) (f.with_text (c ∷ []) qs) (taken-same path other f.Percent cs xs ys)
    (same-text (c ∷ []) (c ∷ []) ps qs (taken-same path other f.InText cs xs ys))
taken-same path other f.Percent (c ∷ cs) xs ys =
    let format = format_of c false in
    let ps = f.format_pieces path f.InText cs xs in
    let qs = f.format_pieces other f.InText cs ys in
    let one = f.format_pieces path f.InText cs (f.behind_item format xs) in
    let two = f.format_pieces other f.InText cs (f.behind_item format ys) in
    let rest = taken-same path other f.InText cs xs ys in
    let item = same-item format (f.operand xs) (f.operand ys) one two (taken-same path other f.InText cs (f.behind_item format xs) (f.behind_item format ys)) in
    let names = same-of (lower_case c == 109) (f.with_text path ps) (f.with_item format (f.operand xs) one) (f.with_text other qs) (f.with_item format (f.operand ys) two) (same-text path other ps qs rest) item in
    same-of (c == 48) (f.format_pieces path f.PercentZero cs xs) _ (f.format_pieces other f.PercentZero cs ys) _ (taken-same path other f.PercentZero cs xs ys)
    (same-of (c == 37) (f.with_text (37 ∷ []) ps) _ (f.with_text (37 ∷ []) qs) _ (same-text (37 ∷ []) (37 ∷ []) ps qs rest) names)
taken-same path other f.PercentZero (c ∷ cs) xs ys =
    let format = format_of c true in
    same-item format (f.operand xs) (f.operand ys) (f.format_pieces path f.InText cs (f.behind_item format xs)) (f.format_pieces other f.InText cs (f.behind_item format ys))
    (taken-same path other f.InText cs (f.behind_item format xs) (f.behind_item format ys))

module _ (k : u.Classes) (scope : Scope) (agrees : Agrees k scope) (design : w.Names) (stands : StandsFor k scope design) (widths : HaveWidths scope.names) where
  -- each value among the arguments is sound
  abbrev pub AreGood : List f.Arg → Type 0
  AreGood [] = ⊤
  AreGood (f.Value a ∷ as') = IsSoundExp design a × AreGood as'
  AreGood (f.Null ∷ as') = AreGood as'
  AreGood (f.Str text ∷ as') = AreGood as'

  -- and so is each string that an item of a format takes, where items take so many first arguments
  abbrev pub AreShown : ℕ → List f.Arg → Type 0
  AreShown n [] = ⊤
  AreShown zero (f.Null ∷ as') = AreShown zero as'
  AreShown zero (f.Str text ∷ as') = AreShown (ef.items_in text) as'
  AreShown zero (f.Value a ∷ as') = IsSoundExp design a × AreShown zero as'
  AreShown (suc n) (f.Null ∷ as') = AreShown n as'
  AreShown (suc n) (f.Str text ∷ as') = IsSoundExp design (f.string_exp text) × AreShown n as'
  AreShown (suc n) (f.Value a ∷ as') = IsSoundExp design a × AreShown n as'

  shown-good : (n : ℕ) (args : List f.Arg) → AreShown n args → AreGood args
  shown-good n [] g = tt
  shown-good zero (f.Null ∷ args) g = shown-good zero args g
  shown-good zero (f.Str text ∷ args) g = shown-good (ef.items_in text) args g
  shown-good zero (f.Value a ∷ args) g = (g.0, shown-good zero args g.1)
  shown-good (suc n) (f.Null ∷ args) g = shown-good n args g
  shown-good (suc n) (f.Str text ∷ args) g = shown-good n args g.1
  shown-good (suc n) (f.Value a ∷ args) g = (g.0, shown-good n args g.1)

  -- ---- arguments

  argument-good : (keeps : Bool) (a : x.Ex) (others : p.Args) → u.IsUsed k a → ef.argument_faults scope keeps a (ef.faults scope a) ≡ []
      → AreGood (plain.args others) → AreGood (plain.args (e.argument keeps a (e.exp scope a) others))
  argument-good true (x.Text at text) others v h g = g
  argument-good true a others v h g = (sound k scope agrees design stands widths a v h, g)
  argument-good false a others v h g = (sound k scope agrees design stands widths a v h, g)

  pub args-good : (keeps : Bool) (given : x.Args) → u.AreUsedArgs k given → ef.args_faults scope keeps given ≡ [] → AreGood (plain.args (e.args scope keeps given))
  args-good keeps x.NoArgs v h = tt
  args-good keeps (x.NullArg others) v h = args-good keeps others v h
  args-good keeps (x.MoreArgs a others) v h =
      let here = ef.argument_faults scope keeps a (ef.faults scope a) in
      argument-good keeps a (e.args scope keeps others) v.0 (none-left here (ef.args_faults scope keeps others) h) (args-good keeps others v.1 (none-right here (ef.args_faults scope keeps others) h))

  -- an argument that an item of a format takes
  taken-shown : (n : ℕ) (a : x.Ex) (others : p.Args) → u.IsUsed k a → ef.faults scope a ≡ [] → AreShown n (plain.args others) → AreShown (suc n) (plain.args (e.argument true a (e.exp scope a) others))
  taken-shown n (x.Text at text) others v h g = (text-is text (clear (e.is_long text) at 24 h), g)
  taken-shown n a others v h g = (sound k scope agrees design stands widths a v h, g)

  -- the arguments of a display
  args-shown : (n : ℕ) (given : x.Args) → u.AreUsedArgs k given → ef.display_faults scope n given ≡ [] → AreShown n (plain.args (e.args scope true given))
  args-shown n x.NoArgs v h = tt
  args-shown zero (x.NullArg others) v h = args-shown zero others v h
  args-shown (suc n) (x.NullArg others) v h = args-shown n others v h
  args-shown zero (x.MoreArgs (x.Text at text) others) v h = args-shown (ef.items_in text) others v.1 h
  args-shown zero (x.MoreArgs a others) v h =
      (sound k scope agrees design stands widths a v.0 (none-left (ef.faults scope a) (ef.display_faults scope zero others) h), args-shown zero others v.1 (none-right (ef.faults scope a) (ef.display_faults scope zero others) h))
  args-shown (suc n) (x.MoreArgs a others) v h =
      taken-shown n a (e.args scope true others) v.0 (none-left (ef.faults scope a) (ef.display_faults scope n others) h)
      (args-shown n others v.1 (none-right (ef.faults scope a) (ef.display_faults scope n others) h))

  -- ---- pieces of a text to display

  abbrev Pieces : List d.Piece → Type 0
  Pieces ps = All (IsSoundPiece design) ps

  -- what the arguments are shown as, where the pieces take so many of them
  abbrev Shows : List f.Arg → List d.Piece → Type 0
  Shows args ps = AreShown (f.taken ps) args → Pieces ps

  operand-good : (n : ℕ) (args : List f.Arg) → AreShown (suc n) args → IsSoundExp design (f.operand args)
  operand-good n [] g = zero-is
  operand-good n (f.Null ∷ args) g = zero-is
  operand-good n (f.Str text ∷ args) g = g.0
  operand-good n (f.Value a ∷ args) g = g.0

  behind-shown : (n : ℕ) (args : List f.Arg) → AreShown (suc n) args → AreShown n (f.behind args)
  behind-shown n [] g = tt
  behind-shown n (f.Null ∷ args) g = g
  behind-shown n (f.Str text ∷ args) g = g.1
  behind-shown n (f.Value a ∷ args) g = g.1

  text-shows : (text : List ℕ) (args : List f.Arg) (ps : List d.Piece) → Shows args ps → Shows args (f.with_text text ps)
  text-shows text args [] g h = All-cons (IsSoundPiece design) (d.Literal text) [] tt (All-nil (IsSoundPiece design))
  text-shows text args (d.Literal t ∷ ps) g h = All-cons (IsSoundPiece design) (d.Literal (text ++ t)) ps tt (All-tail (IsSoundPiece design) (d.Literal t) ps (g h))
  text-shows text args (d.Shown format a ∷ ps) g h = All-cons (IsSoundPiece design) (d.Literal text) (d.Shown format a ∷ ps) tt (g h)

  item-shows : (format : Option Format) (args : List f.Arg) (ps : List d.Piece) → Shows (f.behind_item format args) ps → Shows args (f.with_item format (f.operand args) ps)
  item-shows None args ps g h = g h
  item-shows (Some format) args ps g h =
      let is : 1 + f.taken ps ≡ suc (f.taken ps) = omega arith in
      let shown = subst (λ z. AreShown z args) is h in
      All-cons (IsSoundPiece design) (d.Shown format (f.operand args)) ps (operand-good (f.taken ps) args shown) (g (behind-shown (f.taken ps) args shown))

  format-shows : (path : List ℕ) (r : f.FormatPosition) (text : List ℕ) (args : List f.Arg) → Shows args (f.format_pieces path r text args)
  format-shows path r [] args = λ h. All-nil (IsSoundPiece design)
  format-shows path f.InText (c ∷ cs) args =
      picked (Shows args) (c == 37) (f.format_pieces path f.Percent cs args) (f.with_text (c ∷ []) (f.format_pieces path f.InText cs args)) (format-shows path f.Percent cs args)
      (text-shows (c ∷ []) args (f.format_pieces path f.InText cs args) (format-shows path f.InText cs args))
  format-shows path f.Percent (c ∷ cs) args =
      let rest = format-shows path f.InText cs args in
      let behind = f.behind_item (format_of c false) args in
      picked (Shows args) (c == 48) (f.format_pieces path f.PercentZero cs args) _ (format-shows path f.PercentZero cs args)
      (picked (Shows args) (c == 37) (f.with_text (37 ∷ []) (f.format_pieces path f.InText cs args)) _ (text-shows (37 ∷ []) args (f.format_pieces path f.InText cs args) rest)
      (picked (Shows args) (lower_case c == 109) (f.with_text path (f.format_pieces path f.InText cs args)) _ (text-shows path args (f.format_pieces path f.InText cs args) rest)
      (item-shows (format_of c false) args (f.format_pieces path f.InText cs behind) (format-shows path f.InText cs behind))))
  format-shows path f.PercentZero (c ∷ cs) args =
      let behind = f.behind_item (format_of c true) args in
      item-shows (format_of c true) args (f.format_pieces path f.InText cs behind) (format-shows path f.InText cs behind)

  pieces-sound : (path : List ℕ) (n : ℕ) (args : List f.Arg) → AreShown n args → Pieces (f.pieces_from path n args)
  pieces-sound path n [] g = All-nil (IsSoundPiece design)
  pieces-sound path (suc n) (f.Null ∷ args) g = pieces-sound path n args g
  pieces-sound path (suc n) (f.Str text ∷ args) g = pieces-sound path n args g.1
  pieces-sound path (suc n) (f.Value a ∷ args) g = pieces-sound path n args g.1
  pieces-sound path zero (f.Null ∷ args) g = All-cons (IsSoundPiece design) (d.Literal (codes " ")) (f.pieces_from path zero args) tt (pieces-sound path zero args g)
  pieces-sound path zero (f.Str text ∷ args) g =
      let ps = f.format_pieces path f.InText text args in
      let shown : AreShown (f.taken ps) args = subst (λ z. AreShown z args) (sym (taken-same path [] f.InText text args [])) g in
      All-append (IsSoundPiece design) ps (f.pieces_from path (f.taken ps) args) (format-shows path f.InText text args shown) (pieces-sound path (f.taken ps) args shown)
  pieces-sound path zero (f.Value a ∷ args) g = All-cons (IsSoundPiece design) (d.Shown Decimal a) (f.pieces_from path zero args) g.0 (pieces-sound path zero args g.1)

  -- ---- calls

  abbrev Task : d.Task → Type 0
  Task task = IsSoundTask design task

  nothing-sound : Task (d.Print [] false)
  nothing-sound = All-nil (IsSoundPiece design)

  finish-sound : (args : List f.Arg) → AreGood args → AreSound design (finish_of args)
  finish-sound [] g = tt
  finish-sound (f.Value a ∷ args) g = (g.0, finish-sound args g.1)
  finish-sound (f.Null ∷ args) g = finish-sound args g
  finish-sound (f.Str text ∷ args) g = finish-sound args g

  save-sound : (args : List f.Arg) → Task (save_of args)
  save-sound (f.Str name ∷ args) = tt
  save-sound args = nothing-sound

  fopen-sound : (args : List f.Arg) → Task (fopen_of args)
  fopen-sound (f.Str name ∷ args) = tt
  fopen-sound args = nothing-sound

  fread-sound : (args : List f.Arg) → AreGood args → Task (fread_of args)
  fread-sound (f.Value (d.Sig j) ∷ f.Value fd ∷ args) g = (g.0, g.1.0)
  fread-sound args g = nothing-sound

  file-sound : (make : d.Exp → d.Task) → ((a : d.Exp) → IsSoundExp design a → Task (make a)) → (args : List f.Arg) → AreGood args → Task (file_of make args)
  file-sound make m (f.Value fd ∷ args) g = m fd g.0
  file-sound make m args g = nothing-sound

  -- a call of another name than the one that loads a memory
  pub task-sound : (path name : List ℕ) (args : List f.Arg) → is_load name ≡ false → (is_display name ≡ true → AreShown zero args) → AreGood args → Task (task_of path name args)
  task-sound path name args other shown g =
      by _ (bytes_eq name (codes "$display")) (bytes_eq name (codes "$write")) shown
      (picked Task (bytes_eq name (codes "$finish")) (d.Finish (finish_of args)) _ (finish-sound args g)
      (picked Task (bytes_eq name (codes "$save")) (save_of args) _ (save-sound args)
      (picked Task (bytes_eq name (codes "$fopen")) (fopen_of args) _ (fopen-sound args)
      (picked Task (bytes_eq name (codes "$fread")) (fread_of args) _ (fread-sound args g)
      (picked Task (bytes_eq name (codes "$fgetc")) (file_of d.Fgetc args) _ (file-sound d.Fgetc (λ a s. s) args g)
      (picked Task (bytes_eq name (codes "$feof")) (file_of d.Feof args) _ (file-sound d.Feof (λ a s. s) args g)
      (picked Task (bytes_eq name (codes "$fclose")) (file_of d.Fclose args) _ (file-sound d.Fclose (λ a s. s) args g)
      (subst (λ z. Task (if z then read_hex_of args else d.Print [] false)) (sym other) nothing-sound))))))))
    where
      by : (rest : d.Task) (a b : Bool) → ((a || b) ≡ true → AreShown zero args) → Task rest
          → Task (if a then d.Print (f.pieces_from path 0 args) true else if b then d.Print (f.pieces_from path 0 args) false else rest)
      by rest true b s t = pieces-sound path zero args (s refl)
      by rest false true s t = pieces-sound path zero args (s refl)
      by rest false false s t = t

  -- a call that loads a memory
  memory-named : (t : List ℕ) (o : Option Binding) → scope.names t ≡ o → StandsAs c.Memory o → (at : Place) (text : List ℕ)
      → Task (read_hex_of (f.Str text ∷ f.Value (plain.exp (e.whole at o)) ∷ []))
  memory-named t (Some (b.Signal j s)) is h at text = signal-is k scope agrees design stands IsMem t j s is h
  memory-named t (Some (b.Constant a)) is h at text = absurd h
  memory-named t (Some (b.Function j f)) is h at text = absurd h
  memory-named t None is h at text = absurd h

  argument-loads : (text : List ℕ) (a : x.Ex) → u.IsMemoryName k a → Task (read_hex_of (f.Str text ∷ plain.args (e.argument true a (e.exp scope a) p.NoArgs)))
  argument-loads text (x.Named at t x.NoSelects) v = memory-named t (scope.names t) refl (agrees.read t c.Memory v) at text
  argument-loads text a v = absurd v

  load-sound : (path : List ℕ) (given : x.Args) → u.IsLoad k given → Task (task_of path (codes "$readmemh") (plain.args (e.args scope true given)))
  load-sound path (x.MoreArgs (x.Text at text) (x.MoreArgs a x.NoArgs)) v = argument-loads text a v
  load-sound path given v = absurd v

  -- the arguments of a call of this name
  abbrev kept : List ℕ → x.Args → List f.Arg
  kept name given = plain.args (e.args scope (e.keeps_texts name) given)

  pub used-task-sound : (path name : List ℕ) (given : x.Args) → u.IsUsedTask k name given → ef.task_faults scope name given ≡ [] → Task (task_of path name (kept name given))
  used-task-sound path name given v h = by (is_load name) refl v
    where
      judged : (c : Bool) → is_display name ≡ c → u.AreUsedArgs k given → (if c then ef.display_faults scope zero given else ef.args_faults scope (e.keeps_texts name) given) ≡ []
          → (is_display name ≡ true → AreShown zero (kept name given)) × AreGood (kept name given)
      judged true q v h =
          let shown : AreShown zero (kept name given) = subst (λ z. AreShown zero (plain.args (e.args scope z given))) (sym (displays-keep name q)) (args-shown zero given v h) in
          ((λ r. shown), shown-good zero (kept name given) shown)
      judged false q v h = ((λ r. absurd (true≢false (sym r ∙ q))), args-good (e.keeps_texts name) given v h)

      by : (c : Bool) → is_load name ≡ c → u.ByTest c (u.IsLoad k given) (u.AreUsedArgs k given) → Task (task_of path name (kept name given))
      by true q v = subst (λ z. Task (task_of path z (kept z given))) (sym ((bytes_eq-Decides name (codes "$readmemh")).0 q)) (load-sound path given v)
      by false q v = let (shown, good) = judged (is_display name) refl v h in task-sound path name (kept name given) q shown good
