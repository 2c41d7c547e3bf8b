-- System tasks on files by their arguments, and what they do to machines.
use Rattle.std.proofs.Common.{◌≡◌, refl, sym, ap, ◌∙◌, subst, ℕ, List, [], ◌∷◌, ◌++◌, ◌+◌, drop, false}
use Rattle.std.specs.Prelude.{ℤ, Option, Some, None, slice_get, slice_set}
use Rattle.std.specs.declared.alloc.Global.{Global}
use Rattle.std.specs.declared.vec.Vec.{Vec}
use Rattle.vl_base.specs.declared.files.OpenFile.{OpenFile}
use Rattle.vl_base.specs.Files as file
use Rattle.vl_design.specs.Calls.{save_of, fopen_of, fread_of, file_of, read_hex_of}
use Rattle.vl_design.specs.Formats.{Arg, Null, Str, Value}
use Rattle.vl_design.specs.ReadHex.{words_read}
use Rattle.vl_design.specs.Exec.{exec}
use Rattle.vl_design.specs.Sound.{IsSoundTask}
use Rattle.vl_design.specs.State.{State, counted}
use Rattle.vl_design.specs.Syntax.{Exp, Sig, Task, Print, Save, Fopen, Fread, Fgetc, Feof, Fclose, ReadHex, Sys, Row}
use Rattle.vl_design.specs.Tasks.{descriptor_of, memory_read}
use Rattle.vl_design.specs.Value.{value_of, words_of}
use Rattle.vl_design.specs.Width.{Names, Scope, row_form, signal_form}
use Rattle.vl_run.specs.declared.machine.Machine.{Machine}
use Rattle.vl_run.specs.Arguments.{text_in, value_in, signal_of, signal_in}
use Rattle.vl_run.specs.Machines.{IsMachine, sample_in, state_of, Leads, Does}
use Rattle.vl_run.proofs.Doing.{does-fine}
use Rattle.vl_run.proofs.Tasking.{print-none}

-- ---- tasks by their arguments

save-none : (args : List Arg) → None ≡ text_in args → save_of args ≡ Print [] false
save-none [] h = refl
save-none (Null ∷ args) h = refl
save-none (Str text ∷ args) h = cc
save-none (Value e ∷ args) h = refl

pub save-some : (args : List Arg) (name : List ℕ) → Some name ≡ text_in args → save_of args ≡ Save name
save-some [] name h = cc
save-some (Null ∷ args) name h = cc
save-some (Str text ∷ args) name h = let e : name ≡ text = cc in ap Save (sym e)
save-some (Value e ∷ args) name h = cc

open-none : (args : List Arg) → None ≡ text_in args → fopen_of args ≡ Print [] false
open-none [] h = refl
open-none (Null ∷ args) h = refl
open-none (Str text ∷ args) h = cc
open-none (Value e ∷ args) h = refl

pub open-some : (args : List Arg) (name : List ℕ) → Some name ≡ text_in args → fopen_of args ≡ Fopen name
open-some [] name h = cc
open-some (Null ∷ args) name h = cc
open-some (Str text ∷ args) name h = let e : name ≡ text = cc in ap Fopen (sym e)
open-some (Value e ∷ args) name h = cc

file-none : (make : Exp → Task) (args : List Arg) → None ≡ value_in args → file_of make args ≡ Print [] false
file-none make [] h = refl
file-none make (Null ∷ args) h = refl
file-none make (Str text ∷ args) h = refl
file-none make (Value e ∷ args) h = cc

pub file-some : (make : Exp → Task) (args : List Arg) (fd : Exp) → Some fd ≡ value_in args → file_of make args ≡ make fd
file-some make [] fd h = cc
file-some make (Null ∷ args) fd h = cc
file-some make (Str text ∷ args) fd h = cc
file-some make (Value e ∷ args) fd h = let k : fd ≡ e = cc in ap make (sym k)

read-no-signal : (args : List Arg) → None ≡ signal_in args → fread_of args ≡ Print [] false
read-no-signal [] h = refl
read-no-signal (Null ∷ args) h = refl
read-no-signal (Str text ∷ args) h = refl
read-no-signal (Value (Sig k) ∷ args) h = cc
read-no-signal (Value e ∷ args) h = refl

read-no-file : (args : List Arg) → None ≡ value_in (drop 1 args) → fread_of args ≡ Print [] false
read-no-file [] h = refl
read-no-file (Null ∷ args) h = refl
read-no-file (Str text ∷ args) h = refl
read-no-file (Value (Sig k) ∷ []) h = refl
read-no-file (Value (Sig k) ∷ Null ∷ args) h = refl
read-no-file (Value (Sig k) ∷ Str text ∷ args) h = refl
read-no-file (Value (Sig k) ∷ Value e ∷ args) h = cc
read-no-file (Value e ∷ args) h = refl

pub read-some : (args : List Arg) (k : ℕ) (fd : Exp) → Some k ≡ signal_in args → Some fd ≡ value_in (drop 1 args) → fread_of args ≡ Fread k fd
read-some [] k fd h i = cc
read-some (Null ∷ args) k fd h i = cc
read-some (Str text ∷ args) k fd h i = cc
read-some (Value (Sig j) ∷ []) k fd h i = cc
read-some (Value (Sig j) ∷ Null ∷ args) k fd h i = cc
read-some (Value (Sig j) ∷ Str text ∷ args) k fd h i = cc
read-some (Value (Sig j) ∷ Value e ∷ args) k fd h i =
    let a : k ≡ j = cc in
    let b : fd ≡ e = cc in
    ap (λ z. Fread z e) (sym a) ∙ ap (Fread k) (sym b)
read-some (Value e ∷ args) k fd h i = let z : ⊥ = cc in absurd z

load-no-name : (args : List Arg) → None ≡ text_in args → read_hex_of args ≡ Print [] false
load-no-name [] h = refl
load-no-name (Null ∷ args) h = refl
load-no-name (Str text ∷ args) h = cc
load-no-name (Value e ∷ args) h = refl

load-no-memory : (args : List Arg) → None ≡ signal_in (drop 1 args) → read_hex_of args ≡ Print [] false
load-no-memory [] h = refl
load-no-memory (Null ∷ args) h = refl
load-no-memory (Str text ∷ []) h = refl
load-no-memory (Str text ∷ Null ∷ args) h = refl
load-no-memory (Str text ∷ Str other ∷ args) h = refl
load-no-memory (Str text ∷ Value (Sig k) ∷ args) h = cc
load-no-memory (Str text ∷ Value e ∷ args) h = refl
load-no-memory (Value e ∷ args) h = refl

pub load-some : (args : List Arg) (name : List ℕ) (k : ℕ) → Some name ≡ text_in args → Some k ≡ signal_in (drop 1 args) → read_hex_of args ≡ ReadHex name k
load-some [] name k h i = cc
load-some (Null ∷ args) name k h i = cc
load-some (Value e ∷ args) name k h i = cc
load-some (Str text ∷ []) name k h i = cc
load-some (Str text ∷ Null ∷ args) name k h i = cc
load-some (Str text ∷ Str other ∷ args) name k h i = cc
load-some (Str text ∷ Value (Sig j) ∷ args) name k h i =
    let a : name ≡ text = cc in
    let b : k ≡ j = cc in
    ap (λ z. ReadHex z j) (sym a) ∙ ap (ReadHex name) (sym b)
load-some (Str text ∷ Value e ∷ args) name k h i = let z : ⊥ = cc in absurd z

-- ---- arguments that are sound

module _ (names : Names) where
  pub file-sound : (make : Exp → Task) (args : List Arg) (fd : Exp) → Some fd ≡ value_in args → IsSoundTask names (file_of make args) → IsSoundTask names (make fd)
  file-sound make args fd h s = subst (IsSoundTask names) (file-some make args fd h) s

  pub read-sound : (args : List Arg) (k : ℕ) (fd : Exp) → Some k ≡ signal_in args → Some fd ≡ value_in (drop 1 args) → IsSoundTask names (fread_of args) → IsSoundTask names (Fread k fd)
  read-sound args k fd h i s = subst (IsSoundTask names) (read-some args k fd h i) s

  pub load-sound : (args : List Arg) (name : List ℕ) (k : ℕ) → Some name ≡ text_in args → Some k ≡ signal_in (drop 1 args) → IsSoundTask names (read_hex_of args) → IsSoundTask names (ReadHex name k)
  load-sound args name k h i s = subst (IsSoundTask names) (load-some args name k h i) s

-- ---- what they do

module _ (scope : Scope) (args : List Arg) (m : Machine) (f : m.finished ≡ false) where
  pub no-save : None ≡ text_in args → Does scope (Sys (save_of args)) m m
  no-save h = rw (save-none args h) (print-none scope m f)

  pub no-open : None ≡ text_in args → Does scope (Sys (fopen_of args)) m m
  no-open h = rw (open-none args h) (print-none scope m f)

  pub no-file : (make : Exp → Task) → None ≡ value_in args → Does scope (Sys (file_of make args)) m m
  no-file make h = rw (file-none make args h) (print-none scope m f)

  pub no-signal : None ≡ signal_in args → Does scope (Sys (fread_of args)) m m
  no-signal h = rw (read-no-signal args h) (print-none scope m f)

  pub no-descriptor : None ≡ value_in (drop 1 args) → Does scope (Sys (fread_of args)) m m
  no-descriptor h = rw (read-no-file args h) (print-none scope m f)

  pub no-name : None ≡ text_in args → Does scope (Sys (read_hex_of args)) m m
  no-name h = rw (load-no-name args h) (print-none scope m f)

  pub no-memory : None ≡ signal_in (drop 1 args) → Does scope (Sys (read_hex_of args)) m m
  no-memory h = rw (load-no-memory args h) (print-none scope m f)

  pub saves : (name : List ℕ) (asked : Vec (List ℕ) Global) → Some name ≡ text_in args → asked.items ≡ m.saves.items ++ name ∷ []
      → Does scope (Sys (save_of args)) m (record m { saves = asked })
  saves name asked h i = rw (save-some args name h) (record { leads = λ c. (c + 1, rw (f, i) refl) })

  pub opens : (name : List ℕ) (table : Vec OpenFile Global) (answer : ℕ) → Some name ≡ text_in args
      → table.items ≡ (file.opened scope.files m.table.items name).table → answer ≡ (file.opened scope.files m.table.items name).answer
      → Does scope (Sys (fopen_of args)) m (record m { table = table; answer = answer })
  opens name table answer h i j = rw (open-some args name h) (record { leads = λ c. (c + 1, rw (f, i, j) refl) })

  module _ (fd : Exp) (d : ℕ) (h : Some fd ≡ value_in args) (e : d ≡ descriptor_of scope (sample_in m) fd) where
    pub characters : (table : Vec OpenFile Global) (answer : ℕ)
        → table.items ≡ (file.next_character scope.files m.table.items d).table → answer ≡ (file.next_character scope.files m.table.items d).answer
        → Does scope (Sys (file_of Fgetc args)) m (record m { table = table; answer = answer })
    characters table answer i j = rw (file-some Fgetc args fd h) (record { leads = λ c. (c + 1, rw (f, i, j, e) refl) })

    pub ends : (answer : ℕ) → answer ≡ file.at_end m.table.items d → Does scope (Sys (file_of Feof args)) m (record m { answer = answer })
    ends answer i = rw (file-some Feof args fd h) (record { leads = λ c. (c + 1, rw (f, i, e) refl) })

    pub closes : (table : Vec OpenFile Global) → table.items ≡ file.closed m.table.items d → Does scope (Sys (file_of Fclose args)) m (record m { table = table })
    closes table i = rw (file-some Fclose args fd h) (record { leads = λ c. (c + 1, rw (f, i, e) refl) })

-- ---- reads and loads

pub reads : (scope : Scope) (k : ℕ) (fd : Exp) (m : Machine) (table : Vec OpenFile Global) (values : Vec (List ℕ) Global) (d width before count value : ℕ) (words : List ℕ)
    → m.finished ≡ false → d ≡ descriptor_of scope (sample_in m) fd → width ≡ (signal_form scope.names.rows k).width → before ≡ value_of m.values.items k
    → table.items ≡ (file.read scope.files m.table.items d width before).table → value ≡ (file.read scope.files m.table.items d width before).value
    → count ≡ (file.read scope.files m.table.items d width before).count
    → words ≡ slice_set (words_of m.values.items k) 0 value → values.items ≡ slice_set m.values.items k words
    → Does scope (Sys (Fread k fd)) m (record m { table = table; values = values; answer = count })
reads scope k fd m table values d width before count value words f e w b t v n o p =
    record { leads = λ c. (c + 1, rw (f, t, n, p, o, v, e, w, b) refl) }

memory-none : (k : ℕ) (row : Option Row) (s : State) → memory_read k row None s ≡ s
memory-none k None s = refl
memory-none k (Some row) s = refl

module _ (scope : Scope) (name : List ℕ) (k : ℕ) (m : Machine) (f : m.finished ≡ false) where
  load-is : (c : ℕ) → exec scope (Sys (ReadHex name k)) (state_of m c) ≡ counted (memory_read k (slice_get scope.names.rows k) (file.contents scope.files name) (state_of m c))
  load-is c = rw f refl

  pub loads-none : None ≡ file.contents scope.files name → Does scope (Sys (ReadHex name k)) m m
  loads-none h = record {
    leads = λ c. (c + 1, load-is c ∙ (ap (λ z. counted (memory_read k (slice_get scope.names.rows k) z (state_of m c))) (sym h) ∙ ap counted (memory-none k (slice_get scope.names.rows k) (state_of m c))));
  }

  pub loads : (values : Vec (List ℕ) Global) (width many : ℕ) (lowest : ℤ) (text old words : List ℕ) (row : Row) → Some text ≡ file.contents scope.files name → slice_get scope.names.rows k ≡ Some row
      → width ≡ (signal_form scope.names.rows k).width → lowest ≡ row.lowest → many ≡ row.words → old ≡ words_of m.values.items k
      → words ≡ words_read width lowest many text old → values.items ≡ slice_set m.values.items k words
      → Does scope (Sys (ReadHex name k)) m (record m { values = values })
  loads values width many lowest text old words row h r w l n o q p =
      let wide : width ≡ row.width = w ∙ ap (λ z. (row_form z).width) r in
      let all : values.items ≡ slice_set m.values.items k (words_read row.width row.lowest row.words text (words_of m.values.items k)) =
      p ∙ ap (slice_set m.values.items k) (q ∙ rw (wide, l, n, o) refl) in
      record {
        leads = λ c. (
          c + 1,
          load-is c
              ∙ (ap (λ z. counted (memory_read k (slice_get scope.names.rows k) z (state_of m c))) (sym h)
              ∙ (ap (λ z. counted (memory_read k z (Some text) (state_of m c))) r ∙ rw all refl)),
        );
      }

-- ---- machines

pub filed-machine : (scope : Scope) (task : Task) (m n : Machine) → Does scope (Sys task) m n → IsMachine scope.names m → n.later ≡ m.later → IsMachine scope.names n
filed-machine scope task m n d h e = record {
  fine = does-fine scope (Sys task) m n d h.fine;
  later = rw e h.later;
}
