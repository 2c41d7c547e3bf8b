-- Which trap stands for a system call of a design (IEEE 1364-2005, clause 17; own).
use Rattle.std.specs.Prelude.{◌≡◌, ℕ, ◌<◌, ℤ, List, [], ◌∷◌, ◌++◌, drop, slice_index, slice_get, All, Some}
use Rattle.vl_design.specs.vl_base.specs.Display.{item_text}
use Rattle.vl_design.specs.Rows.{lower_of, range_width}
use Rattle.vl_design.specs.Syntax.{Piece, Literal, Shown, Task, Print, Finish, Save, Fopen, Fread, Fgetc, Feof, Fclose, ReadHex, Row, Flat}
use Rattle.vl_design.specs.Width.{Names, form, names_of, signal_form}
use Rattle.cell_emit.specs.cell_form.specs.declared.table.FormatPart.{FormatPart}
use Rattle.cell_emit.specs.cell_form.specs.declared.table.FormatPart.TheVariants as part
use Rattle.cell_emit.specs.cell_form.specs.declared.table.Trap.{Trap}
use Rattle.cell_emit.specs.cell_form.specs.declared.table.TrapCall.TheVariants as call
use Rattle.trap_runtime.specs.Served.{parts_text}
use Rattle.ten_form.specs.Registers.{answer_register, work_register}
use Rattle.ten_form.specs.Asked.{shown, own_widths}

-- ---- what is printed

-- the text of pieces whose expressions have these values in order (clause 17.1.1)
abbrev pub shown_text : Names → List Piece → List ℕ → List ℕ
shown_text names [] vs = []
shown_text names (Literal text ∷ ps) vs = text ++ shown_text names ps vs
shown_text names (Shown format e ∷ ps) vs =
    let f = form names e in
    item_text format f.signed f.width (slice_index vs 0) ++ shown_text names ps (drop 1 vs)

-- the widths of what items show
abbrev pub item_widths : List FormatPart → List ℕ
item_widths [] = []
item_widths (part.Lit text ∷ ps) = item_widths ps
item_widths (part.Item letter least w signed ∷ ps) = w ∷ item_widths ps

-- whatever the values, parts print what pieces print; and an item is as wide as the expression that it shows
pub record Prints (names : Names) (pieces : List Piece) (parts : List FormatPart) : Type 0 where
  pub text : (vs : List ℕ) → parts_text parts vs ≡ shown_text names pieces vs
  pub widths : item_widths parts ≡ own_widths names (shown pieces)

-- ---- traps

-- a row whose words have so many bits, and these first and last addresses (clause 4.9)
pub record HasRange (r : Row) (w : ℕ) (first last : ℤ) : Type 0 where
  pub width : w ≡ r.width
  pub lowest : lower_of first last ≡ r.lowest
  pub words : range_width first last ≡ r.words

-- the trap's call and its target: of `$fread` the register of the variable's value now, of `$readmemh` the memory
abbrev pub IsCallOf : Flat → Task → Trap → Type 0
IsCallOf d (Print pieces newline) t = (parts : List FormatPart) × (t.call ≡ call.Print parts newline) × Prints (names_of d) pieces parts
IsCallOf d (Finish es) t = t.call ≡ call.Finish
IsCallOf d (Save name) t = t.call ≡ call.Save name
IsCallOf d (Fopen name) t = t.call ≡ call.Fopen name
IsCallOf d (Fread k fd) t = (t.call ≡ call.Fread (signal_form d.rows k).width) × (t.target ≡ Some (work_register k))
IsCallOf d (Fgetc fd) t = t.call ≡ call.Fgetc
IsCallOf d (Feof fd) t = t.call ≡ call.Feof
IsCallOf d (Fclose fd) t = t.call ≡ call.Fclose
IsCallOf d (ReadHex name m) t = (width : ℕ) × (first : ℤ) × (last : ℤ) × (r : Row) × (t.call ≡ call.ReadHex name width first last) × (t.target ≡ Some m)
    × (slice_get d.rows m ≡ Some r) × HasRange r width first last

-- the trap is this call of the design, with arguments among so many first slots; its answer goes to the register of answers
pub record IsTrapOf (d : Flat) (task : Task) (slots : ℕ) (t : Trap) : Type 0 where
  pub call : IsCallOf d task t
  pub answer : t.answer ≡ answer_register
  pub args : All (λ s. s < slots) t.args
