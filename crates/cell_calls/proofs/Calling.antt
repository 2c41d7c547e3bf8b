-- Traps of calls.
use Rattle.std.proofs.Common.{◌≡◌, ◌<◌, refl, sym, ap, ◌∙◌, subst, arith, ℕ, Bool, false, List, [], ◌∷◌, ◌++◌, append-nil, drop, Option, Some, None}
use Rattle.std.specs.Prelude.{ℤ, All, slice_get}
use Rattle.vl_base.specs.declared.files.File.{File}
use Rattle.vl_design.specs.Calls.{save_of, fopen_of, fread_of, file_of, read_hex_of}
use Rattle.vl_design.specs.Formats.{Arg, Null, Str, Value}
use Rattle.vl_design.specs.Functions.{scope_of}
use Rattle.vl_design.specs.declared.design.SigKind.{SigKind}
use Rattle.vl_design.specs.declared.design.SigKind.TheVariants.{Net, Var, Comb, Loop, Mem, Clock}
use Rattle.vl_design.specs.Rows.{lower_of, range_width, word_count}
use Rattle.vl_design.specs.Sound.{IsSoundExp, IsSoundTask, IsMemory, IsMem, IsOf}
use Rattle.vl_design.specs.Syntax.{Exp, Exps, Sig, Piece, Row, Task, Print, Finish, Save, Fopen, Fread, Fgetc, Feof, Fclose, ReadHex, Flat}
use Rattle.vl_design.specs.Value.{Sample}
use Rattle.vl_design.specs.Width.{Names, names_of, signal_form, row_form}
use Rattle.vl_run.specs.Arguments.{text_in, value_in, signal_in}
use Rattle.cell_emit.specs.cell_form.specs.Data.{ListData}
use Rattle.cell_emit.specs.cell_form.specs.declared.table.FormatPart.{FormatPart}
use Rattle.cell_emit.specs.cell_form.specs.declared.table.FormatPart.TheVariants as part
use Rattle.cell_emit.specs.cell_form.specs.declared.table.Trap.{Trap}
use Rattle.cell_emit.specs.cell_form.specs.declared.table.TrapCall.{TrapCall}
use Rattle.cell_emit.specs.cell_form.specs.declared.table.TrapCall.TheVariants as call
use Rattle.cell_emit.proofs.Frames.{longer-same}
use Rattle.cell_emit.specs.Envs.{Env, HasMemories}
use Rattle.cell_expr.specs.Counts.{body_cells}
use Rattle.ten_form.specs.Registers.{answer_register, work_register}
use Rattle.ten_form.specs.Asked.{shown, asked, asked_widths, own_widths}
use Rattle.ten_form.specs.Traps.{IsCallOf}
use Rattle.cell_calls.specs.Calls.{AsksFile, Traps, slots_in}
use Rattle.cell_calls.specs.Counts.{asked_count}
use Rattle.cell_calls.specs.declared.display.Display.{Display}
use Rattle.cell_calls.specs.declared.file.Query.{Query}
use Rattle.cell_calls.specs.declared.file.Query.TheVariants as q
use Rattle.cell_calls.specs.Displays.{parts_in, Extends, Adds}
use Rattle.cell_calls.specs.FileCalls.{query_task, query_call}
use Rattle.cell_calls.proofs.Extending.{extends-then}
use Rattle.cell_calls.proofs.Owning.{slots-are-below}

-- ---- calls without what they need print nothing

save-none : (args : List Arg) → None ≡ text_in args → save_of args ≡ Print [] false
save-none [] h = refl
save-none (Null ∷ args) h = refl
save-none (Str text ∷ args) h = cc
save-none (Value e ∷ args) h = refl

open-none : (args : List Arg) → None ≡ text_in args → fopen_of args ≡ Print [] false
open-none [] h = refl
open-none (Null ∷ args) h = refl
open-none (Str text ∷ args) h = cc
open-none (Value e ∷ args) h = refl

file-none : (make : Exp → Task) (args : List Arg) → None ≡ value_in args → file_of make args ≡ Print [] false
file-none make [] h = refl
file-none make (Null ∷ args) h = refl
file-none make (Str text ∷ args) h = refl
file-none make (Value e ∷ args) h = cc

read-no-signal : (args : List Arg) → None ≡ signal_in args → fread_of args ≡ Print [] false
read-no-signal [] h = refl
read-no-signal (Null ∷ args) h = refl
read-no-signal (Str text ∷ args) h = refl
read-no-signal (Value (Sig k) ∷ args) h = cc
read-no-signal (Value e ∷ args) h = refl

read-no-file : (args : List Arg) → None ≡ value_in (drop 1 args) → fread_of args ≡ Print [] false
read-no-file [] h = refl
read-no-file (Null ∷ args) h = refl
read-no-file (Str text ∷ args) h = refl
read-no-file (Value (Sig k) ∷ []) h = refl
read-no-file (Value (Sig k) ∷ Null ∷ args) h = refl
read-no-file (Value (Sig k) ∷ Str text ∷ args) h = refl
read-no-file (Value (Sig k) ∷ Value e ∷ args) h = cc
read-no-file (Value e ∷ args) h = refl

load-no-name : (args : List Arg) → None ≡ text_in args → read_hex_of args ≡ Print [] false
load-no-name [] h = refl
load-no-name (Null ∷ args) h = refl
load-no-name (Str text ∷ args) h = cc
load-no-name (Value e ∷ args) h = refl

load-no-memory : (args : List Arg) → None ≡ signal_in (drop 1 args) → read_hex_of args ≡ Print [] false
load-no-memory [] h = refl
load-no-memory (Null ∷ args) h = refl
load-no-memory (Str text ∷ []) h = refl
load-no-memory (Str text ∷ Null ∷ args) h = refl
load-no-memory (Str text ∷ Str other ∷ args) h = refl
load-no-memory (Str text ∷ Value (Sig k) ∷ args) h = cc
load-no-memory (Str text ∷ Value e ∷ args) h = refl
load-no-memory (Value e ∷ args) h = refl

-- ---- traps that are given nothing

none-below : (n : ℕ) → All (λ s. s < n) []
none-below n = λ i e l. absurd (omega arith)

module _ (d : Flat) (at : Env) (l : ListData) where
  -- the trap of a call that is given nothing
  nothing : TrapCall → Option ℕ → Trap
  nothing c target = record { call = c; args = []; answer = answer_register; target = target }

  given-none : (task : Task) (c : TrapCall) (target : Option ℕ) → asked_count (body_cells d) task ≡ 0 → asked_widths (names_of d) task ≡ [] → ((files : List File) (x : Sample) → asked (scope_of d files) x task ≡ []) →
      IsCallOf d task (record { call = c; args = []; answer = answer_register; target = target }) → Traps d task at l l (record { call = c; args = []; answer = answer_register; target = target })
  given-none task c target none widths values is = record {
    is = record { call = is; answer = refl; args = none-below (slots_in l) };
    asks = record {
      longer = rw none (longer-same (HasMemories (names_of d) at) l);
      slots = rw widths tt;
      values = λ files s b x sound st. sym (values files x);
    };
  }

  pub traps-silent : (t : Trap) → t ≡ record { call = call.Print [] false; args = []; answer = answer_register; target = None } → Traps d (Print [] false) at l l t
  traps-silent t e = subst (Traps d (Print [] false) at l l) (sym e)
      (given-none (Print [] false) (call.Print [] false) None refl refl (λ files x. refl) ([], refl, record { text = λ vs. refl; widths = refl }))

  pub traps-finish : (es : Exps) (t : Trap) → t ≡ record { call = call.Finish; args = []; answer = answer_register; target = None } → Traps d (Finish es) at l l t
  traps-finish es t e = subst (Traps d (Finish es) at l l) (sym e) (given-none (Finish es) call.Finish None refl refl (λ files x. refl) refl)

  pub traps-no-save : (args : List Arg) (t : Trap) → None ≡ text_in args → t ≡ record { call = call.Print [] false; args = []; answer = answer_register; target = None } → Traps d (save_of args) at l l t
  traps-no-save args t h e = rw (save-none args h) (traps-silent t e)

  pub traps-no-open : (args : List Arg) (t : Trap) → None ≡ text_in args → t ≡ record { call = call.Print [] false; args = []; answer = answer_register; target = None } → Traps d (fopen_of args) at l l t
  traps-no-open args t h e = rw (open-none args h) (traps-silent t e)

  pub traps-no-file : (make : Exp → Task) (args : List Arg) (t : Trap) → None ≡ value_in args → t ≡ record { call = call.Print [] false; args = []; answer = answer_register; target = None } → Traps d (file_of make args) at l l t
  traps-no-file make args t h e = rw (file-none make args h) (traps-silent t e)

  pub traps-no-signal : (args : List Arg) (t : Trap) → None ≡ signal_in args → t ≡ record { call = call.Print [] false; args = []; answer = answer_register; target = None } → Traps d (fread_of args) at l l t
  traps-no-signal args t h e = rw (read-no-signal args h) (traps-silent t e)

  pub traps-no-descriptor : (args : List Arg) (t : Trap) → None ≡ value_in (drop 1 args) → t ≡ record { call = call.Print [] false; args = []; answer = answer_register; target = None } → Traps d (fread_of args) at l l t
  traps-no-descriptor args t h e = rw (read-no-file args h) (traps-silent t e)

  pub traps-no-name : (args : List Arg) (t : Trap) → None ≡ text_in args → t ≡ record { call = call.Print [] false; args = []; answer = answer_register; target = None } → Traps d (read_hex_of args) at l l t
  traps-no-name args t h e = rw (load-no-name args h) (traps-silent t e)

  pub traps-no-memory : (args : List Arg) (t : Trap) → None ≡ signal_in (drop 1 args) → t ≡ record { call = call.Print [] false; args = []; answer = answer_register; target = None } → Traps d (read_hex_of args) at l l t
  traps-no-memory args t h e = rw (load-no-memory args h) (traps-silent t e)

  pub traps-save : (name copy : List ℕ) (t : Trap) → copy ≡ name → t ≡ record { call = call.Save copy; args = []; answer = answer_register; target = None } → Traps d (Save name) at l l t
  traps-save name copy t h e = subst (Traps d (Save name) at l l) (sym e) (given-none (Save name) (call.Save copy) None refl refl (λ files x. refl) (ap call.Save h))

  pub traps-open : (name copy : List ℕ) (t : Trap) → copy ≡ name → t ≡ record { call = call.Fopen copy; args = []; answer = answer_register; target = None } → Traps d (Fopen name) at l l t
  traps-open name copy t h e = subst (Traps d (Fopen name) at l l) (sym e) (given-none (Fopen name) (call.Fopen copy) None refl refl (λ files x. refl) (ap call.Fopen h))

  pub traps-load : (name copy : List ℕ) (m w : ℕ) (first last : ℤ) (r : Row) (t : Trap) → copy ≡ name → slice_get d.rows m ≡ Some r → w ≡ (signal_form d.rows m).width → lower_of first last ≡ r.lowest → range_width first last ≡ r.words →
      t ≡ record { call = call.ReadHex copy w first last; args = []; answer = answer_register; target = Some m } → Traps d (ReadHex name m) at l l t
  traps-load name copy m w first last r t h there wide lowest words e =
      subst (Traps d (ReadHex name m) at l l) (sym e)
      (given-none (ReadHex name m) (call.ReadHex copy w first last) (Some m) refl refl (λ files x. refl)
      (w, first, last, r, ap (λ z. call.ReadHex z w first last) h, refl, there, record { width = wide ∙ ap (λ (z : Option Row). (row_form z).width) there; lowest = lowest; words = words }))

-- ---- traps that are given a descriptor

module _ (d : Flat) (at : Env) (old new : ListData) where
  given-file : (task : Task) (fd : Exp) (c : TrapCall) (target : Option ℕ) (slot : ℕ) → asked_count (body_cells d) task ≡ asked_count (body_cells d) (Fgetc fd) → asked_widths (names_of d) task ≡ 32 ∷ [] →
      ((files : List File) (x : Sample) → asked (scope_of d files) x task ≡ asked (scope_of d files) x (Fgetc fd)) → AsksFile d fd at old new slot →
      IsCallOf d task (record { call = c; args = slot ∷ []; answer = answer_register; target = target }) → Traps d task at old new (record { call = c; args = slot ∷ []; answer = answer_register; target = target })
  given-file task fd c target slot many widths values h is = record {
    is = record { call = is; answer = refl; args = slots-are-below new (slot ∷ []) (32 ∷ []) (h.slot, tt) };
    asks = record {
      longer = rw many h.longer;
      slots = rw widths (h.slot, tt);
      values = λ files s b x sound st. ap (λ z. z ∷ []) (h.value files s b x sound st) ∙ sym (values files x);
    };
  }

  pub traps-query : (query : Query) (fd : Exp) (slot : ℕ) (c : TrapCall) (t : Trap) → AsksFile d fd at old new slot → c ≡ query_call query → t ≡ record { call = c; args = slot ∷ []; answer = answer_register; target = None } → Traps d (query_task query fd) at old new t
  traps-query q.Character fd slot c t h k e = subst (Traps d (Fgetc fd) at old new) (sym e) (given-file (Fgetc fd) fd c None slot refl refl (λ files x. refl) h k)
  traps-query q.Ended fd slot c t h k e = subst (Traps d (Feof fd) at old new) (sym e) (given-file (Feof fd) fd c None slot refl refl (λ files x. refl) h k)
  traps-query q.Close fd slot c t h k e = subst (Traps d (Fclose fd) at old new) (sym e) (given-file (Fclose fd) fd c None slot refl refl (λ files x. refl) h k)

  pub traps-read : (k w r slot : ℕ) (fd : Exp) (t : Trap) → AsksFile d fd at old new slot → w ≡ (signal_form d.rows k).width → r ≡ work_register k → t ≡ record { call = call.Fread w; args = slot ∷ []; answer = answer_register; target = Some r } → Traps d (Fread k fd) at old new t
  traps-read k w r slot fd t h wide there e = subst (Traps d (Fread k fd) at old new) (sym e) (given-file (Fread k fd) fd (call.Fread w) (Some r) slot refl refl (λ files x. refl) h (ap call.Fread wide, ap Some there))

  -- ---- displays

  pub traps-print : (pieces : List Piece) (newline : Bool) (a b : Display) (parts : List FormatPart) (slots : List ℕ) → a.parts.items ≡ [] → a.text.items ≡ [] → a.slots.items ≡ [] → Adds d pieces at a b old new →
      Extends (names_of d) [] (parts_in b) parts → slots ≡ b.slots.items →
      Traps d (Print pieces newline) at old new (record { call = call.Print parts newline; args = slots; answer = answer_register; target = None })
  traps-print pieces newline a b parts slots p q r adds ended e =
      let empty : parts_in a ≡ part.Lit [] ∷ [] = rw (p, q) refl in
      let all = extends-then (names_of d) pieces [] (parts_in a) (parts_in b) parts adds.parts ended in
      let whole : Extends (names_of d) pieces (part.Lit [] ∷ []) parts = rw (empty, append-nil pieces) at all in
      let same : slots ≡ adds.more = e ∙ (adds.slots ∙ ap (λ z. z ++ adds.more) r) in
      record {
        is = record {
          call = (parts, refl, record { text = whole.text; widths = whole.widths });
          answer = refl;
          args = rw same (slots-are-below new adds.more (own_widths (names_of d) (shown pieces)) adds.own.slots);
        };
        asks = record {
          longer = adds.own.longer;
          slots = rw same adds.own.slots;
          values = λ files s b x sound st. rw same (adds.own.values files s b x sound st);
        };
      }

-- ---- what a call needs is sound

pub query-sound : (names : Names) (query : Query) (fd : Exp) → IsSoundTask names (query_task query fd) → IsSoundExp names fd
query-sound names q.Character fd h = h
query-sound names q.Ended fd h = h
query-sound names q.Close fd h = h

-- a memory has the words of its range
pub memory-words : (kind : SigKind) (first last : ℤ) → IsMem kind → range_width first last ≡ word_count kind first last
memory-words Mem first last h = refl
memory-words Net first last h = absurd h
memory-words Var first last h = absurd h
memory-words Comb first last h = absurd h
memory-words Loop first last h = absurd h
memory-words Clock first last h = absurd h

pub is-memory : (names : Names) (m : ℕ) (r : Row) → slice_get names.rows m ≡ Some r → IsMemory names m → IsMem r.kind
is-memory names m r e h = (subst (IsOf IsMem) e h).0
