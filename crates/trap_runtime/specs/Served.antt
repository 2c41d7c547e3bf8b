-- What serving a system call does to a bank, to the table of open files and to what is printed (IEEE 1364-2005, clause 17).
use Rattle.std.specs.Prelude.{ℕ, ◌-ℤ◌, ◌+◌, ℤ, Bool, true, false, List, [], ◌∷◌, ◌++◌, map, drop, codes, slice_index, slice_index_or, slice_set, if◌then◌else◌, Option, Some, None}
use Rattle.cell_form.specs.vl_base.specs.declared.files.File.{File}
use Rattle.cell_form.specs.vl_base.specs.declared.files.OpenFile.{OpenFile}
use Rattle.cell_form.specs.vl_base.specs.Display.{letter_text}
use Rattle.cell_form.specs.vl_base.specs.Files as file
use Rattle.fmt_text.specs.vl_design.specs.ReadHex.{words_read}
use Rattle.fmt_text.specs.vl_design.specs.Rows.{lower_of, range_width}
use Rattle.cell_form.specs.Data.{BankData}
use Rattle.cell_form.specs.declared.table.FormatPart.{FormatPart}
use Rattle.cell_form.specs.declared.table.FormatPart.TheVariants as part
use Rattle.cell_form.specs.declared.table.Trap.{Trap}
use Rattle.cell_form.specs.declared.table.TrapCall.{TrapCall}
use Rattle.cell_form.specs.declared.table.TrapCall.TheVariants as call
use Rattle.trap_runtime.specs.declared.served.Served.{Served}
use Rattle.trap_runtime.specs.declared.served.Served.TheVariants as s

-- what a call works on: the bank, the open files, the bytes printed
pub record Works : Type 0 where
  pub bank : BankData
  pub table : List OpenFile
  pub printed : List ℕ

-- ---- what is printed

-- the values of slots
abbrev pub held : BankData → List ℕ → List ℕ
held b slots = map (slice_index b.slots) slots

-- the text of parts, whose items show these values in order (clause 17.1.1)
abbrev pub parts_text : List FormatPart → List ℕ → List ℕ
parts_text [] vs = []
parts_text (part.Lit text ∷ ps) vs = text ++ parts_text ps vs
parts_text (part.Item letter least width signed ∷ ps) vs = letter_text letter least signed width (slice_index vs 0) ++ parts_text ps (drop 1 vs)

abbrev pub display_text : List FormatPart → Bool → List ℕ → List ℕ
display_text ps newline vs = parts_text ps vs ++ (if newline then codes "\n" else [])

-- ---- what is read and written

-- the value of the first argument, a descriptor
abbrev pub descriptor : BankData → Trap → ℕ
descriptor b t = slice_index b.slots (slice_index t.args 0)

abbrev pub variable_at : BankData → Option ℕ → ℕ
variable_at b None = 0
variable_at b (Some r) = slice_index b.regs r

abbrev pub with_variable : Option ℕ → ℕ → BankData → BankData
with_variable None v b = b
with_variable (Some r) v b = record b { regs = slice_set b.regs r v }

abbrev pub memory_at : BankData → Option ℕ → List ℕ
memory_at b None = []
memory_at b (Some m) = slice_index_or b.mems m []

abbrev pub with_memory : Option ℕ → List ℕ → BankData → BankData
with_memory None ws b = b
with_memory (Some m) ws b = record b { mems = slice_set b.mems m ws }

-- the answer in its register
abbrev pub with_answer : Trap → ℕ → BankData → BankData
with_answer t v b = record b { regs = slice_set b.regs t.answer v }

-- a memory after `$readmemh` of a file, where there is one (clause 17.2.9)
abbrev pub loaded : Option (List ℕ) → ℕ → (first last : ℤ) → Trap → BankData → BankData
loaded None w first last t b = b
loaded (Some text) w first last t b = with_memory t.target (words_read w (lower_of first last) (range_width first last) text (memory_at b t.target)) b

-- ---- the calls

abbrev pub answered : Trap → Works → file.Answer → Works
answered t x a = record { bank = with_answer t a.answer x.bank; table = a.table; printed = x.printed }

-- `$fread` into a variable, and how many bytes were read as its answer
abbrev pub read_to : Trap → Works → file.Reading → Works
read_to t x r = record { bank = with_answer t r.count (with_variable t.target r.value x.bank); table = r.table; printed = x.printed }

abbrev pub served_call : List File → Trap → TrapCall → Works → Works
served_call files t (call.Print parts newline) x = record x { printed = x.printed ++ display_text parts newline (held x.bank t.args) }
served_call files t call.Finish x = x
served_call files t (call.Save name) x = x
served_call files t (call.Fopen name) x = answered t x (file.opened files x.table name)
served_call files t (call.Fread w) x = read_to t x (file.read files x.table (descriptor x.bank t) w (variable_at x.bank t.target))
served_call files t call.Fgetc x = answered t x (file.next_character files x.table (descriptor x.bank t))
served_call files t call.Feof x = record x { bank = with_answer t (file.at_end x.table (descriptor x.bank t)) x.bank }
served_call files t call.Fclose x = record x { table = file.closed x.table (descriptor x.bank t) }
served_call files t (call.ReadHex name w first last) x = record x { bank = loaded (file.contents files name) w first last t x.bank }

-- the effect of a trap's call
abbrev pub served : List File → Trap → Works → Works
served files t x = served_call files t t.call x

-- how it was served: the run goes on, ends, or wants a snapshot
abbrev pub way_of : TrapCall → Served
way_of call.Finish = s.Finish
way_of (call.Save name) = s.Save name
way_of c = s.Went

-- serving such a call takes memory: what is printed, a snapshot's name, a memory's words
abbrev pub takes_memory : TrapCall → Bool
takes_memory (call.Print parts newline) = true
takes_memory (call.Save name) = true
takes_memory (call.ReadHex name w first last) = true
takes_memory c = false
