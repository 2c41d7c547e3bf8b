-- What a call leaves as it was.
use Rattle.std.proofs.Common.{◌≡◌, ◌≢◌, ℕ, Bool, true, false, List, Option, Some, None, refl, sym, ap}
use Rattle.std.specs.Prelude.{slice_get}
use Rattle.vl_sites.specs.vl_base.specs.declared.files.File.{File}
use Rattle.vl_sites.specs.vl_base.specs.Files as file
use Rattle.vl_sites.specs.vl_design.specs.Syntax.{Task, Print, Finish, Save, Fopen, Fread, Fgetc, Feof, Fclose, ReadHex, Row, Flat}
use Rattle.vl_sites.specs.vl_design.specs.Width.{Scope}
use Rattle.vl_sites.specs.vl_design.specs.Value.{words_of}
use Rattle.vl_sites.specs.vl_design.specs.State.{State}
use Rattle.vl_sites.specs.vl_design.specs.Tasks.{called, memory_read}
use Rattle.vl_sites.specs.vl_design.specs.Functions.{scope_of}
use Rattle.vl_sites.specs.vl_design.specs.Reads.{task_writes}
use Rattle.vl_sites.specs.vl_design.specs.Laws.{IsFine}
use Rattle.vl_sites.specs.vl_design.proofs.Kept.{words_other}
use Rattle.vl_sites.specs.vl_design.proofs.Ranging.{call_in_range}
use Rattle.vl_sites.specs.vl_design.proofs.Shaping.{shape_on, call_shape}

-- the pending updates; and a run that goes on went on before
memory_later : (m : ℕ) (r : Option Row) (text : Option (List ℕ)) (s : State) → (memory_read m r text s).later ≡ s.later
memory_later m None text s = refl
memory_later m (Some r) None s = refl
memory_later m (Some r) (Some text) s = refl

memory_finished : (m : ℕ) (r : Option Row) (text : Option (List ℕ)) (s : State) → (memory_read m r text s).finished ≡ s.finished
memory_finished m None text s = refl
memory_finished m (Some r) None s = refl
memory_finished m (Some r) (Some text) s = refl

pub call_later : (scope : Scope) (task : Task) (s : State) → (called scope task s).later ≡ s.later
call_later scope (Print pieces newline) s = refl
call_later scope (Finish es) s = refl
call_later scope (Save name) s = refl
call_later scope (Fopen name) s = refl
call_later scope (Fread j fd) s = refl
call_later scope (Fgetc fd) s = refl
call_later scope (Feof fd) s = refl
call_later scope (Fclose fd) s = refl
call_later scope (ReadHex name m) s = memory_later m (slice_get scope.names.rows m) (file.contents scope.files name) s

pub call_alive : (scope : Scope) (task : Task) (s : State) → (called scope task s).finished ≡ false → s.finished ≡ false
call_alive scope (Print pieces newline) s h = h
call_alive scope (Finish es) s h = let z : ⊥ = cc in absurd z
call_alive scope (Save name) s h = h
call_alive scope (Fopen name) s h = h
call_alive scope (Fread j fd) s h = h
call_alive scope (Fgetc fd) s h = h
call_alive scope (Feof fd) s h = h
call_alive scope (Fclose fd) s h = h
call_alive scope (ReadHex name m) s h = rw (← memory_finished m (slice_get scope.names.rows m) (file.contents scope.files name) s) h

module _ (p : ℕ → Bool) (k : ℕ) (marked : p k ≡ true) where
  pub apart : (j : ℕ) → p j ≡ false → k ≢ j
  apart j h e = let z : p k ≡ p j = ap p e in cc (marked, h, z)

  memory_keeps : (m : ℕ) → p m ≡ false → (r : Option Row) (text : Option (List ℕ)) (s : State) → words_of s.values k ≡ words_of (memory_read m r text s).values k
  memory_keeps m h None text s = refl
  memory_keeps m h (Some r) None s = refl
  memory_keeps m h (Some r) (Some text) s = sym (words_other s.values m k _ (apart m h))

  pub call_keeps : (scope : Scope) (task : Task) (s : State) → task_writes p task ≡ false → words_of s.values k ≡ words_of (called scope task s).values k
  call_keeps scope (Print pieces newline) s h = refl
  call_keeps scope (Finish es) s h = refl
  call_keeps scope (Save name) s h = refl
  call_keeps scope (Fopen name) s h = refl
  call_keeps scope (Fread j fd) s h = sym (words_other s.values j k _ (apart j h))
  call_keeps scope (Fgetc fd) s h = refl
  call_keeps scope (Feof fd) s h = refl
  call_keeps scope (Fclose fd) s h = refl
  call_keeps scope (ReadHex name m) s h = memory_keeps m h (slice_get scope.names.rows m) (file.contents scope.files name) s

pub call_fine : (d : Flat) (files : List File) (task : Task) (s : State) → IsFine d.rows s.values → IsFine d.rows (called (scope_of d files) task s).values
call_fine d files task s f = record { range = call_in_range (scope_of d files) task s f.range; shape = shape_on (call_shape (scope_of d files) task s) f.shape }
