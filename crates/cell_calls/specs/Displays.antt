-- A display as far as it is compiled (IEEE 1364-2005, clause 17.1.1).
use Rattle.std.specs.Prelude.{◌≡◌, ℕ, List, [], ◌∷◌, ◌++◌, map, drop, length, All}
use Rattle.vl_base.specs.declared.files.File.{File}
use Rattle.vl_design.specs.Functions.{scope_of}
use Rattle.vl_design.specs.Sound.{IsSound}
use Rattle.vl_design.specs.Syntax.{Exp, Piece, Flat}
use Rattle.vl_design.specs.Value.{Sample, own_value}
use Rattle.vl_design.specs.Width.{Names, form, names_of}
use Rattle.cell_emit.specs.cell_form.specs.Data.{ListData, BankData}
use Rattle.cell_emit.specs.cell_form.specs.Sound.{Shape}
use Rattle.cell_emit.specs.cell_form.specs.declared.table.FormatPart.{FormatPart}
use Rattle.cell_emit.specs.cell_form.specs.declared.table.FormatPart.TheVariants as part
use Rattle.cell_emit.specs.Slots.{held, AreSound, Longer}
use Rattle.cell_emit.specs.Envs.{Env, IsSlot, HasMemories, Stands, Fits}
use Rattle.cell_expr.specs.Bodies.{IsCellFun}
use Rattle.cell_expr.specs.Counts.{exp_count, body_cells}
use Rattle.ten_form.specs.trap_runtime.specs.Served.{parts_text}
use Rattle.cell_calls.specs.declared.display.Display.{Display}
use Rattle.cell_calls.specs.declared.own.Own.{Own}
use Rattle.cell_calls.specs.Counts.{own_count}
use Rattle.ten_form.specs.Asked.{shown, own_widths}
use Rattle.cell_calls.specs.Calls.{AreSlots}
use Rattle.ten_form.specs.Traps.{shown_text, item_widths}

-- expressions of the design can be compiled
pub record IsReady (d : Flat) (at : Env) (l : ListData) : Type 0 where
  pub sound : IsSound d
  pub functions : All (IsCellFun (names_of d)) d.funs
  pub fits : Fits (names_of d) l at
  pub first : at.first ≡ 0

-- with more cells, a slot holds the value of an expression read for itself
pub record IsOwn (d : Flat) (e : Exp) (at : Env) (old new : ListData) (r : Own) : Type 0 where
  pub longer : Longer (HasMemories (names_of d) at) (exp_count (body_cells d) e) old new
  pub slot : IsSlot new r.slot (form (names_of d) e).width
  pub value : (files : List File) (s : Shape) (b : BankData) (x : Sample) → AreSound s old → Stands (names_of d) b old at x →
      held b new r.slot ≡ own_value (scope_of d files) x e
  pub width : r.width ≡ (form (names_of d) e).width
  pub signed : r.signed ≡ (form (names_of d) e).signed

-- with more cells, slots hold the values of expressions
pub record AreOwn (d : Flat) (es : List Exp) (at : Env) (old new : ListData) (rs : List ℕ) : Type 0 where
  pub longer : Longer (HasMemories (names_of d) at) (own_count (body_cells d) es) old new
  pub slots : AreSlots new rs (own_widths (names_of d) es)
  pub values : (files : List File) (s : Shape) (b : BankData) (x : Sample) → AreSound s old → Stands (names_of d) b old at x →
      map (held b new) rs ≡ map (own_value (scope_of d files) x) es

-- its parts, with the text that is none yet
abbrev pub parts_in : Display → List FormatPart
parts_in a = a.parts.items ++ part.Lit a.text.items ∷ []

-- parts print these pieces behind what they printed
pub record Extends (names : Names) (ps : List Piece) (old new : List FormatPart) : Type 0 where
  pub text : (vs : List ℕ) → parts_text new vs ≡ parts_text old vs ++ shown_text names ps (drop (length (item_widths old)) vs)
  pub widths : item_widths new ≡ item_widths old ++ own_widths names (shown ps)

-- with more cells, a display has these pieces behind those that it had
pub record Adds (d : Flat) (ps : List Piece) (at : Env) (a b : Display) (old new : ListData) : Type 0 where
  pub parts : Extends (names_of d) ps (parts_in a) (parts_in b)
  pub more : List ℕ
  pub slots : b.slots.items ≡ a.slots.items ++ more
  pub own : AreOwn d (shown ps) at old new more

-- pieces print the same, of the same expressions
pub record Alike (names : Names) (ps qs : List Piece) : Type 0 where
  pub text : (vs : List ℕ) → shown_text names ps vs ≡ shown_text names qs vs
  pub shown : shown ps ≡ shown qs

-- with more cells, a display has all pieces but a rest of them
pub record Walked (d : Flat) (all rest : List Piece) (at : Env) (a b : Display) (old new : ListData) : Type 0 where
  pub done : List Piece
  pub alike : Alike (names_of d) all (done ++ rest)
  pub adds : Adds d done at a b old new
